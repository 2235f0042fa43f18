-- The first two differ, or are the same and what is behind them decides: that is one byte or none.
use Rattle.std.proofs.Common.{refl, sym, ◌∙◌, arith, eq-eqb, length, length-drop, drop, get_or-drop}
use Rattle.std.specs.Int.{w16}
use Rattle.std.proofs.lemmas.Nat.{le_bytes_2}
use Rattle.fields.proofs.Words.{front-differs, front-same, same-none, same-single}
use Rattle.fields.proofs.bytes.same_three.Goals as goal

pub returns-then-front_pair : goal.returns-then-front_pair
returns-then-front_pair c = front-differs w16 2 c.args.a.now c.args.b.now _ _ c.front_pair.ensures c.front_pair-then-a-ge2.ensures c.if-front_pair.true

pub returns-then-a-eq2 : goal.returns-then-a-eq2
returns-then-a-eq2 c =
    let a = c.args.a.now in
    let b = c.args.b.now in
    let e = front-same w16 2 le_bytes_2 a b (λ i. (c.type_inv.a i).fits) (λ i. (c.type_inv.b i).fits) c.if-a-ge2.true c.requires.0 _ _
    c.front_pair.ensures c.front_pair-then-a-ge2.ensures c.if-front_pair.false in
    let f = same-none (drop 2 a) (drop 2 b) (rw (length-drop 2 a, length-drop 2 b, c.requires.0) refl) (omega (arith, length-drop 2 a, c.if-a-eq2.true)) in
    rw (eq-eqb (length a) 2 c.if-a-eq2.true) (f ∙ sym e)

pub returns-else-a-eq2 : goal.returns-else-a-eq2
returns-else-a-eq2 c =
    let a = c.args.a.now in
    let b = c.args.b.now in
    let e = front-same w16 2 le_bytes_2 a b (λ i. (c.type_inv.a i).fits) (λ i. (c.type_inv.b i).fits) c.if-a-ge2.true c.requires.0 _ _
    c.front_pair.ensures c.front_pair-then-a-ge2.ensures c.if-front_pair.false in
    let f = same-single (drop 2 a) (drop 2 b) (rw (length-drop 2 a, length-drop 2 b, c.requires.0) refl) (omega (arith, length-drop 2 a, c.requires.1)) in
    (rw (get_or-drop 2 a 0 0, get_or-drop 2 b 0 0) at f) ∙ sym e

pub returns-then-a-eq0 : goal.returns-then-a-eq0
returns-then-a-eq0 c =
    rw (eq-eqb (length c.args.a.now) 0 c.if-a-eq0.true) (same-none c.args.a.now c.args.b.now c.requires.0 (omega (arith, c.if-a-eq0.true)))

pub returns-else-a-eq0 : goal.returns-else-a-eq0
returns-else-a-eq0 c = same-single c.args.a.now c.args.b.now c.requires.0 (omega (arith, c.if-a-ge2.false))
