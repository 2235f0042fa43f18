-- Eight bytes differ, or are the same and what is behind them decides; texts of different lengths differ somewhere.
use Rattle.std.proofs.Common.{sym, ◌∙◌, arith}
use Rattle.std.specs.Int.{w32}
use Rattle.laws.proofs.Slices.{drop-rest}
use Rattle.laws.proofs.Texts.{lengths_differ}
use Rattle.fields.proofs.Words.{front-differs}
use Rattle.fields.proofs.bytes.same_in_steps.Invariants.{agree-four, differ, agree-eight}
use Rattle.fields.proofs.bytes.same_in_steps.Goals as goal

pub returns-then-a-b : goal.returns-then-a-b
returns-then-a-b c = search lengths_differ

pub returns-then-a-le3 : goal.returns-then-a-le3
returns-then-a-le3 c = c.same_three.ensures

pub returns-then-front_quad : goal.returns-then-front_quad
returns-then-front_quad c = front-differs w32 4 c.args.a.now c.args.b.now _ _ c.front_quad.ensures c.front_quad-2.ensures c.if-front_quad.true

pub loop-i-init : goal.loop-i-init
loop-i-init c =
    agree-four c.args.a.now c.args.b.now (λ k. (c.type_inv.a k).fits) (λ k. (c.type_inv.b k).fits) c.if-a-le3.false c.if-a-b.false _ _
    c.front_quad.ensures c.front_quad-2.ensures c.if-front_quad.false

pub overflow_sub-a : goal.overflow_sub-a
overflow_sub-a c = c.loop-i.invariant.within

pub returns-then-front_word : goal.returns-then-front_word
returns-then-front_word c =
    differ c.args.a.now c.args.b.now c.loop-i.i c.loop-i.invariant _ _ (rw (drop-rest c.args.a.now c.loop-i.i) at c.front_word.ensures)
    (rw (drop-rest c.args.b.now c.loop-i.i) at c.front_word-in-loop-i.ensures) c.if-front_word.true

pub loop-i-smaller : goal.loop-i-smaller
loop-i-smaller c = omega (arith, c.loop-i-test.true)

pub loop-i-preserved : goal.loop-i-preserved
loop-i-preserved c =
    agree-eight c.args.a.now c.args.b.now c.loop-i.i c.loop-i.invariant _ _ (rw (drop-rest c.args.a.now c.loop-i.i) at c.front_word.ensures)
    (rw (drop-rest c.args.b.now c.loop-i.i) at c.front_word-in-loop-i.ensures) (λ k. (c.type_inv.a k).fits) (λ k. (c.type_inv.b k).fits)
    c.loop-i-test.true c.if-front_word.false

pub returns : goal.returns
returns c =
    (rw (drop-rest c.args.a.now c.loop-i.i, drop-rest c.args.b.now c.loop-i.i) at c.same_seven.ensures) ∙ sym c.loop-i.invariant.left
