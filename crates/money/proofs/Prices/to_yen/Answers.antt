use Rattle.std.proofs.Common.{ℤ, sym, ap, ◌∙◌, w64}
use Rattle.std.proofs.lemmas.Int.{to_z-of_z}
use Rattle.money.specs.Products.{floored, exact_cross, of_product}
use Rattle.money.proofs.Tables.{cross_converts}
use Rattle.money.proofs.Prices.to_yen.Goals as goal

pub returns-in-Cross : goal.returns-in-Cross
returns-in-Cross c =
    let k = c.in-Cross.kind in
    let prices = c.args.self.now.table in
    c.in_yen-in-Cross.ensures
    ∙ (ap (λ (z : ℤ). floored (exact_cross (of_product prices k.by) z)) (to_z-of_z w64 c.args.amount c.ranges.amount)
    ∙ sym (cross_converts c.args.product k c.in-Cross.ensures.kind prices c.args.amount))
