use Rattle.std.proofs.Common.{◌≡◌, ◌≤◌, pos, ◌+ℤ◌, unsigned_abs, mul-le-mul, arith, w64, to_z, of_z}
use Rattle.std.proofs.lemmas.Int.{ints}
use Rattle.money.proofs.Sizes.{sum_back}
use Rattle.report.proofs.worth_at.Goals as goal

pub returns-clause-worth : goal.returns-clause-worth
returns-clause-worth c =
    let remaining : to_z w64 (of_z w64 c.from.result) ≡ pos c.args.lot.now.remaining = omega (arith, ints) in
    let each = sum_back c.gain_at.result c.args.lot.now.points (omega arith) (omega arith) in
    let worth : to_z w64 (of_z w64 c.times.result) ≡ c.times.result = omega (arith, ints) in
    cc (remaining, each, worth, c.times.ensures.product, c.gain_at.ensures.gain)

pub returns-clause-few : goal.returns-clause-few
returns-clause-few c =
    let lots : unsigned_abs (to_z w64 (of_z w64 c.from.result)) ≤ 500 = omega (arith, ints) in
    let each : unsigned_abs (to_z w64 (of_z w64 (to_z w64 (of_z w64 c.gain_at.result) +ℤ to_z w64 (of_z w64 c.args.lot.now.points)))) ≤ 1200000000 = omega (arith, ints) in
    let both = mul-le-mul lots each in
    omega (arith, ints)
