-- The first four differ, or are the same and what is behind them decides.
use Rattle.std.proofs.Common.{sym, ◌∙◌}
use Rattle.std.specs.Int.{w32}
use Rattle.std.proofs.lemmas.Nat.{le_bytes_4}
use Rattle.laws.proofs.Slices.{drop-rest}
use Rattle.fields.proofs.Words.{front-differs, front-same}
use Rattle.fields.proofs.bytes.same_seven.Goals as goal

pub returns-then-front_quad : goal.returns-then-front_quad
returns-then-front_quad c = front-differs w32 4 c.args.a.now c.args.b.now _ _ c.front_quad.ensures c.front_quad-then-a-ge4.ensures c.if-front_quad.true

pub returns-then-a-ge4 : goal.returns-then-a-ge4
returns-then-a-ge4 c =
    let e = front-same w32 4 le_bytes_4 c.args.a.now c.args.b.now (λ i. (c.type_inv.a i).fits) (λ i. (c.type_inv.b i).fits) c.if-a-ge4.true c.requires.0 _ _
    c.front_quad.ensures c.front_quad-then-a-ge4.ensures c.if-front_quad.false in
    (rw (drop-rest c.args.a.now 4, drop-rest c.args.b.now 4) at c.same_three.ensures) ∙ sym e
