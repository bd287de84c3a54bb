use Rattle.std.proofs.Common.{arith}
use Rattle.std.proofs.lemmas.Int.{ints}
use Rattle.money.proofs.Sizes.{sum_back}
use Rattle.report.proofs.Standing.free.Goals as goal

pub returns : goal.returns
returns c =
    let has = sum_back c.args.self.now.deposit.0 c.args.self.now.settled.0 (omega arith) (omega arith) in
    let taken = sum_back c.args.self.now.base.0 c.open_loss.result (omega arith) (omega arith) in
    record { free = omega (arith, ints); most = omega (arith, ints) }
