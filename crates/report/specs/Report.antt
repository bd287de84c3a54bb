-- The report of an account: seven figures in yen.
use Rattle.std.specs.Prelude.{ℕ, ◌*◌, max, cond, List, ℤ, pos, negsuc, ◌+ℤ◌, ◌-ℤ◌, neg_ℤ, int_lt}
use Rattle.money.specs.Kinds.{yen}
use Rattle.money.specs.Sums.{sum_to}
use Rattle.money.specs.Products.{of_product, converted}
use Rattle.records.specs.declared.lots.Lot.{Lot}
use Rattle.records.specs.declared.lots.Slip.{Slip}
use Rattle.records.specs.Lots.{held, slip_sum, open_worth}
use Rattle.report.specs.declared.MarginReport.{MarginReport}
use Rattle.report.specs.State.{State, of_account}

-- an account's slips, each product's sum converted once
abbrev pub slips_converted : List ℕ → ℕ → List Slip → ℤ
slips_converted prices a slips = sum_to (λ p. converted prices p (slip_sum a p slips)) 16

-- an account's open lots, each product's worth at its latest price converted
abbrev pub lots_converted : List ℕ → ℕ → List Lot → ℤ
lots_converted prices a lots = sum_to (λ p. converted prices p (open_worth (of_product prices p) a p lots)) 16

-- for each product the schedule's amount for the larger of open bought and open sold contracts, and these added
abbrev pub base_in_product : (ℕ → ℕ) → ℕ → List Lot → ℕ → ℤ
base_in_product schedule a lots p = pos (schedule p * max (held 0 a p lots) (held 1 a p lots))

abbrev pub base_of : (ℕ → ℕ) → ℕ → List Lot → ℤ
base_of schedule a lots = sum_to (base_in_product schedule a lots) 16

-- D: the deposit
abbrev pub deposit_of : State → ℕ → ℤ
deposit_of st a = of_account st.money.deposits a

-- P: both waiting amounts, and today's slips at the latest prices
abbrev pub settled_difference : State → ℕ → ℤ
settled_difference st a =
    of_account st.money.waiting_one a +ℤ (of_account st.money.waiting_two a +ℤ slips_converted st.prices a st.ledger.slips)

-- U: the open lots at the latest prices
abbrev pub unsettled_difference : State → ℕ → ℤ
unsettled_difference st a = lots_converted st.prices a st.ledger.lots

-- B: the base amount
abbrev pub base_amount : (ℕ → ℕ) → State → ℕ → ℤ
base_amount schedule st a = base_of schedule a st.ledger.lots

-- a number, or 0 if it is negative
abbrev pub not_below_0 : ℤ → ℕ
not_below_0 (pos n) = n
not_below_0 (negsuc n) = 0

abbrev pub smaller : ℤ → ℤ → ℤ
smaller x y = cond (int_lt x y) x y

-- required: B − P − U
abbrev pub required_of : (p u b : ℤ) → ℤ
required_of p u b = b -ℤ p -ℤ u

-- shortfall: required − D, or 0 if negative
abbrev pub shortfall_of : (d p u b : ℤ) → ℕ
shortfall_of d p u b = not_below_0 (required_of p u b -ℤ d)

-- the loss in U, if any
abbrev pub open_loss : ℤ → ℕ
open_loss u = not_below_0 (neg_ℤ u)

-- withdrawable: with X = D + P − B − the open loss, the smaller of D and X, or 0 if negative
abbrev pub withdrawable_of : (d p u b : ℤ) → ℕ
withdrawable_of d p u b = not_below_0 (smaller d (d +ℤ p -ℤ b -ℤ pos (open_loss u)))

-- the seven figures
abbrev pub figures : (d p u b : ℤ) → MarginReport
figures d p u b = record {
  deposit = yen d;
  settled = yen p;
  unsettled = yen u;
  base = yen b;
  required = yen (required_of p u b);
  shortfall = yen (pos (shortfall_of d p u b));
  withdrawable = yen (pos (withdrawable_of d p u b));
}

-- the report of an account under a schedule
abbrev pub report_of : (ℕ → ℕ) → State → ℕ → MarginReport
report_of schedule st a = figures (deposit_of st a) (settled_difference st a) (unsettled_difference st a) (base_amount schedule st a)

abbrev pub shortfall : (ℕ → ℕ) → State → ℕ → ℕ
shortfall schedule st a = shortfall_of (deposit_of st a) (settled_difference st a) (unsettled_difference st a) (base_amount schedule st a)

abbrev pub withdrawable : (ℕ → ℕ) → State → ℕ → ℕ
withdrawable schedule st a = withdrawable_of (deposit_of st a) (settled_difference st a) (unsettled_difference st a) (base_amount schedule st a)
