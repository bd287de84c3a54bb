use Rattle.std.proofs.Common.{◌≤◌, ◌-ℤ◌, nat_abs, le_trans, mul-le-mul, arith, lit≤, w64, to_z, of_z}
use Rattle.std.proofs.lemmas.Int.{ints}
use Rattle.money.proofs.moved.Goals as goal

pub times-requires : goal.times-requires
times-requires g c =
    let step : nat_abs (to_z w64 (of_z w64 c.from.result)) ≤ 4294967295 = omega (arith, ints, c.from.ensures) in
    let moved : nat_abs (to_z w64 (of_z w64 (to_z w64 c.args.to -ℤ to_z w64 c.args.from))) ≤ 999999 = omega (arith, ints) in
    le_trans (mul-le-mul step moved) (lit≤ tt)
