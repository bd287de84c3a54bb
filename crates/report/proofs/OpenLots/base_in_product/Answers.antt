use Rattle.std.proofs.Common.{◌≡◌, ◌*◌, ◌≤◌, length, pos, ◌∙◌, mul-le-mul, arith, w64, to_z}
use Rattle.std.proofs.lemmas.Int.{ints}
use Rattle.report.specs.Report.{base_in_product}
use Rattle.report.proofs.OpenLots.base_in_product.Given as given
use Rattle.report.proofs.OpenLots.base_in_product.Goals as goal
use Rattle.report.proofs.OpenLots.base_in_product.Goals.{After-max}

-- the amount is 1,000,000,000 at most, and the contracts 500 a lot
few : (g : given.Over) (c : After-max g) → c.amount.result * c.max.result ≤ 1000000000 * (500 * length c.args.self.now.lots.now)
few g c =
    let amount : c.amount.result ≤ 1000000000 = omega (arith, c.amount.ensures, (g.met.S.Schedule.scheduled c.args.schedule.now).most c.args.product) in
    let most : c.max.result ≤ 500 * length c.args.self.now.lots.now = omega arith in
    mul-le-mul amount most

pub returns-clause-yen : goal.returns-clause-yen
returns-clause-yen g c =
    let h = few g c in
    let fits : to_z w64 (c.amount.result * c.max.result) ≡ pos (c.amount.result * c.max.result) = omega (arith, ints, c.args.self.now.few) in
    let same : pos (c.amount.result * c.max.result) ≡ base_in_product (g.S.Schedule.base c.args.schedule.now) c.args.account c.args.self.now.lots.now c.args.product = cc in
    fits ∙ same

pub returns-clause-most : goal.returns-clause-most
returns-clause-most g c = let h = few g c in omega (arith, ints, c.args.self.now.few)
