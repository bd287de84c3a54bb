-- The balances of accounts, and the same as tables of amounts.
use Rattle.std.specs.Prelude.{◌≤◌, Bool, cond, List, map, ℤ, pos, ◌+ℤ◌, unsigned_abs}
use Rattle.money.specs.declared.Yen.{Yen}
use Rattle.money.specs.Kinds.{yen}
use Rattle.report.specs.State.{Money}
use Rattle.rolling.specs.declared.balances.Balance.{Balance}

-- each account's deposit and its two waiting amounts, as a table each
abbrev pub deposits : List Balance → List Yen
deposits = map (λ b. b.deposit)

abbrev pub first_waiting : List Balance → List Yen
first_waiting = map (λ b. b.waiting_one)

abbrev pub second_waiting : List Balance → List Yen
second_waiting = map (λ b. b.waiting_two)

abbrev pub money : List Balance → Money
money balances = record { deposits = deposits balances; waiting_one = first_waiting balances; waiting_two = second_waiting balances }

-- what the slips came to joins waiting two; on a bank day waiting one then goes to the deposit, waiting two becomes
-- waiting one, and waiting two becomes 0
abbrev pub rolled_balance : Bool → ℤ → Balance → Balance
rolled_balance is_bank_day today b =
    cond is_bank_day
    (record { deposit = yen (b.deposit.0 +ℤ b.waiting_one.0); waiting_one = yen (b.waiting_two.0 +ℤ today); waiting_two = yen (pos 0) })
    (record { deposit = b.deposit; waiting_one = b.waiting_one; waiting_two = yen (b.waiting_two.0 +ℤ today) })

-- amounts with room for one more
abbrev pub HasRoom : Balance → Type 0
HasRoom b =
    (unsigned_abs b.deposit.0 ≤ 1000000000000000000) × (unsigned_abs b.waiting_one.0 ≤ 1000000000000000000) × (unsigned_abs b.waiting_two.0 ≤ 1000000000000000000)
