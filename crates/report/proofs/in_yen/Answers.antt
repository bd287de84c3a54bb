use Rattle.std.proofs.Common.{◌≡◌, ℕ, ◌-◌, ◌≤◌, ℤ, unsigned_abs, sym, ap, ◌∙◌, arith, w64, to_z, of_z}
use Rattle.std.proofs.lemmas.Int.{ints}
use Rattle.money.specs.Sums.{sum_to}
use Rattle.money.specs.Products.{converted}
use Rattle.money.proofs.Tables.{converted_most}
use Rattle.report.specs.Amounts.{sum_next}
use Rattle.report.proofs.in_yen.Given as given
use Rattle.report.proofs.in_yen.Goals as goal
use Rattle.report.proofs.in_yen.Goals.{After-to_yen-sum}

-- a conversion makes at most ten times the worth
few : (g : given.Over) (c : After-to_yen-sum g) → unsigned_abs c.to_yen-sum.result.0 ≤ 100000000000000000
few g c =
    let most = converted_most c.args.prices.now.table c.args.prices.now.priced c.loop-product.product (to_z w64 (of_z w64 c.worth_of-worth.result)) in
    omega (arith, ints, most, c.worth_of-worth.ensures.few, g.T.Valued.counted c.args.records.now, c.to_yen-sum.ensures)

pub overflow_add-sum : goal.overflow_add-sum
overflow_add-sum g c = let added = few g (goal.at.overflow_add-sum g c).After-to_yen-sum in omega (arith, ints, c.loop-product.invariant.most)

pub loop-product-preserved : goal.loop-product-preserved
loop-product-preserved g c =
    let prices = c.args.prices.now.table in
    let f : ℕ → ℤ = λ p. converted prices p (g.T.Valued.worth c.args.records.now prices c.args.account p) in
    let p = c.loop-product.product in
    let was : c.loop-product.sum ≡ sum_to f (p - 1) = sym c.loop-product.sum-is ∙ c.loop-product.invariant.sum_is in
    let more = sum_next f p c.loop-product.auto.product in
    let worth : to_z w64 (of_z w64 c.worth_of-worth.result) ≡ c.worth_of-worth.result = omega (arith, ints) in
    let yen : c.to_yen-sum.result.0 ≡ f p = c.to_yen-sum.ensures ∙ ap (converted prices p) (worth ∙ c.worth_of-worth.ensures.worth) in
    let added = few g (goal.at.loop-product-preserved g c).After-to_yen-sum in
    record { sum_is = omega (arith, ints, was, more, yen); most = omega (arith, ints, c.loop-product.invariant.most) }
