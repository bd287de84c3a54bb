use Rattle.std.proofs.Common.{ℕ, ◌≤◌, List, ap, ◌∙◌, arith}
use Rattle.records.specs.declared.lots.Slip.{Slip}
use Rattle.report.specs.Report.{slips_converted}
use Rattle.rolling.specs.declared.balances.Balance.{Balance}
use Rattle.rolling.specs.Sheets.{rolled_at}
use Rattle.rolling.specs.Balances.{money}
use Rattle.rolling.proofs.Tables.{settled}
use Rattle.rolling.proofs.balances.settle.Goals as goal

pub returns-clause-money : goal.returns-clause-money
returns-clause-money c =
    let prices : List ℕ = c.args.prices.now.table in
    let before : List Balance = c.args.balances.now in
    let end : 64 ≤ c.loop-k.k = omega (arith, c.loop-k-test.false, c.told-balances, c.loop-k.invariant.as_long) in
    settled (λ a. slips_converted prices a c.all.result.now) before c.told-balances c.args.is_bank_day c.loop-k.k c.loop-k.balances end c.loop-k.invariant
    ∙ ap (λ (ss : List Slip). rolled_at prices c.args.is_bank_day ss (money before)) c.all.ensures
