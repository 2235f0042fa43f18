-- Down into a field with the bytes of its content, along its parts with the bytes behind each.
use Rattle.std.proofs.Common.{rules}
use Rattle.fields.proofs.Reading.{content-falls}
use Rattle.equality.proofs.Comparing.{tags-differ, left-whole, parts-decide, texts-decide, comparing-all, comparing-done, part-within, comparing-fewer, comparing-differ, comparing-on}
use Rattle.equality.proofs.+expr_eq_parts_eq.Goals as goal

pub expr_eq-returns-then-not-same_tag : goal.expr_eq-returns-then-not-same_tag
expr_eq-returns-then-not-same_tag t c = search tags-differ

pub expr_eq-parts_eq-requires : goal.expr_eq-parts_eq-requires
expr_eq-parts_eq-requires t c = search (content-falls, left-whole)

pub expr_eq-returns-then-is_composite : goal.expr_eq-returns-then-is_composite
expr_eq-returns-then-is_composite t c = search parts-decide

pub expr_eq-returns : goal.expr_eq-returns
expr_eq-returns t c = search texts-decide

pub parts_eq-loop-part-init : goal.parts_eq-loop-part-init
parts_eq-loop-part-init t c = comparing-all _ _ _ _ (cc) (cc)

pub parts_eq-returns-in_default : goal.parts_eq-returns-in_default
parts_eq-returns-in_default t c = comparing-fewer _ _ _ _ c.loop-part.invariant _ _ c.in-Some.ensures.steps c.in_default.ensures.steps

pub parts_eq-expr_eq-requires : goal.parts_eq-expr_eq-requires
parts_eq-expr_eq-requires t c = let w = part-within _ _ _ _ c.loop-part.invariant _ _ c.in-Some.ensures.steps in search rules

pub parts_eq-returns-then-not-expr_eq : goal.parts_eq-returns-then-not-expr_eq
parts_eq-returns-then-not-expr_eq t c =
    comparing-differ _ _ _ _ c.loop-part.invariant _ _ c.in-Some.ensures.steps _ _ c.in-Some-next.ensures.steps _ c.expr_eq.ensures c.if-not-expr_eq.true

pub parts_eq-loop-part-preserved : goal.parts_eq-loop-part-preserved
parts_eq-loop-part-preserved t c =
    comparing-on _ _ _ _ c.loop-part.invariant _ _ c.in-Some.ensures.steps _ _ c.in-Some-next.ensures.steps _ c.expr_eq.ensures c.if-not-expr_eq.false

pub parts_eq-returns : goal.parts_eq-returns
parts_eq-returns t c =
    comparing-done _ _ _ _ c.loop-part.invariant c.in-None.ensures.steps _ _ c.next-2.ensures.steps _ c.is_none.ensures
