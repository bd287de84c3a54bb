use Rattle.std.proofs.Common.{◌≡◌, ℤ, ◌-ℤ◌, arith, w64, to_z, of_z}
use Rattle.std.proofs.lemmas.Int.{ints}
use Rattle.report.specs.Report.{required_of}
use Rattle.report.specs.Amounts.{not_below_is}
use Rattle.report.proofs.Standing.shortfall.Goals as goal

pub returns : goal.returns
returns c =
    let s = c.args.self.now in
    let lacking : ℤ = required_of s.settled.0 s.unsettled.0 s.base.0 -ℤ s.deposit.0 in
    let less : to_z w64 (of_z w64 (to_z w64 (of_z w64 c.required.result) -ℤ to_z w64 (of_z w64 s.deposit.0))) ≡ lacking = omega (arith, ints) in
    let result : to_z w64 (of_z w64 c.max.result) ≡ c.max.result = omega (arith, ints) in
    cc (less, result, c.max.ensures.value, not_below_is lacking)
