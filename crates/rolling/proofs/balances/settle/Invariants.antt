-- The loop over the accounts: the first k balances are rolled, the others are what they were.
use Rattle.report.specs.Report.{slips_converted}
use Rattle.rolling.specs.Balances.{rolled_balance}
use Rattle.rolling.proofs.Filling.{Written}
use Rattle.rolling.proofs.Tables.{nothing}
use Rattle.rolling.proofs.balances.settle.Given as goal

abbrev pub invariant-loop-k : goal.invariant-loop-k
invariant-loop-k l = Written (λ a b. rolled_balance l.is_bank_day (slips_converted l.prices.table a l.today.0.now) b) nothing l.fn.balances l.k l.balances
