use Rattle.std.proofs.Common.{◌≡◌, ℤ, pos, ◌+ℤ◌, ◌-ℤ◌, arith, w64, to_z, of_z}
use Rattle.std.proofs.lemmas.Int.{ints}
use Rattle.report.specs.Report.{open_loss, smaller}
use Rattle.report.specs.Amounts.{not_below_is, smaller_is}
use Rattle.report.proofs.Standing.withdrawable.Goals as goal

pub returns : goal.returns
returns c =
    let s = c.args.self.now in
    let d = s.deposit.0 in
    let free : ℤ = d +ℤ s.settled.0 -ℤ s.base.0 -ℤ pos (open_loss s.unsettled.0) in
    let deposit : to_z w64 (of_z w64 d) ≡ d = omega (arith, ints) in
    let left : to_z w64 (of_z w64 c.free-free.result) ≡ free = omega (arith, ints) in
    let least : c.min.result ≡ smaller d free = (cc (deposit, left, c.min.ensures.value, smaller_is d free)) in
    let kept : to_z w64 (of_z w64 c.min.result) ≡ smaller d free = omega (arith, ints) in
    let result : to_z w64 (of_z w64 c.max.result) ≡ c.max.result = omega (arith, ints) in
    cc (kept, result, c.max.ensures.value, not_below_is (smaller d free))
