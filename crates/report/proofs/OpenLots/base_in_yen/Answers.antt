use Rattle.std.proofs.Common.{◌≡◌, ℕ, ◌-◌, ◌*◌, ℤ, sym, ◌∙◌, length, mul-le-mul_left, arith}
use Rattle.std.proofs.lemmas.Int.{ints}
use Rattle.money.specs.Sums.{sum_to}
use Rattle.report.specs.Report.{base_in_product}
use Rattle.report.specs.Amounts.{sum_next}
use Rattle.report.proofs.OpenLots.base_in_yen.Goals as goal

pub loop-product-preserved : goal.loop-product-preserved
loop-product-preserved g c =
    let lots = c.args.self.now.lots.now in
    let f : ℕ → ℤ = base_in_product (g.S.Schedule.base c.args.schedule.now) c.args.account lots in
    let p = c.loop-product.product in
    let was : c.loop-product.sum ≡ sum_to f (p - 1) = sym c.loop-product.sum-is ∙ c.loop-product.invariant.sum_is in
    let next = sum_next f p c.loop-product.auto.product in
    let yen : c.base_in_product-sum.result ≡ f p = c.base_in_product-sum.ensures.yen in
    let few = c.args.self.now.few in
    let most = c.loop-product.invariant.most in
    let added = c.base_in_product-sum.ensures.most in
    let all = mul-le-mul_left (500000000000 * length lots) c.loop-product-test.true in
    record { sum_is = omega (arith, ints); most = omega (arith, ints) }

pub returns-clause-most : goal.returns-clause-most
returns-clause-most g c = omega (arith, ints, c.loop-product.invariant.most, mul-le-mul_left (500000000000 * length c.args.self.now.lots.now) (c.loop-product.auto.product-end (omega arith)))
