-- The calls of a book: what refuses each, first cause first, and what an accepted one leaves.
use Rattle.std.specs.Prelude.{ℕ, ◌+◌, ◌-◌, min, Bool, not, ◌||◌, List, [], ◌∷◌, map, length, ℤ, pos, ◌+ℤ◌, neg_ℤ, Some, None, Option, Result, ◌==◌, nat_le, nat_lt, slice_set}
use Rattle.refusals.specs.declared.Refusal.{Refusal}
use Rattle.refusals.specs.declared.Refusal.TheVariants as refusal
use Rattle.refusals.specs.Ranges.{Cause, outside, first, answered}
use Rattle.money.specs.Kinds.{yen}
use Rattle.records.specs.declared.lots.Side.{Side}
use Rattle.records.specs.declared.lots.Side.TheVariants.{Bought, Sold}
use Rattle.records.specs.Lots.{held}
use Rattle.closing.specs.Rules.{Rule, lot_at, place_of}
use Rattle.pairing.specs.declared.Deal.{Deal}
use Rattle.pairing.specs.Pairs.{ledger, paired}
use Rattle.pairing.specs.Deals.{dealt, is_lot}
use Rattle.rolling.specs.declared.sheets.Sheet.{Sheet}
pub use Rattle.rolling.specs.Sheets.{bad_sheet}
use Rattle.rolling.specs.Sheets.{rolled_lot, rolled_money}
use Rattle.runs.specs.Opening.{bad_price}
use Rattle.report.specs.declared.MarginReport.{MarginReport}
use Rattle.report.specs.State.{State, Money, next, of_account}
use Rattle.report.specs.Report.{withdrawable, report_of}

-- The calls that take an entry number, with the closing rule or the schedule that is lent to them.
pub data Call : Type 0 where
  trade : (rule : Rule) (buyer seller product quantity price : ℕ) → Call
  declare : (rule : Rule) (account product bought sold quantity : ℕ) → Call
  rollover : Sheet → Call
  deposit : (account yen : ℕ) → Call
  withdraw : (schedule : ℕ → ℕ) (account yen : ℕ) → Call

-- Causes that several calls test.

abbrev pub not_in_book : State → ℕ → Cause
not_in_book st a = (outside 1 st.limits.accounts a, refusal.Account a)

abbrev pub no_entry_left : State → Cause
no_entry_left st = (nat_le 20000 st.entries, refusal.Entries)

abbrev pub bad_amount : ℕ → Cause
bad_amount y = (outside 1 1000000000 y, refusal.Amount)

abbrev pub no_product : ℕ → Cause
no_product p = (outside 1 16 p, refusal.Product p)

abbrev pub bad_quantity : ℕ → Cause
bad_quantity q = (outside 1 500 q, refusal.Quantity)

-- the open contracts of an account in a product and a column would pass 500
abbrev pub past_limit : State → (column account product quantity : ℕ) → Cause
past_limit st c a p q = (nat_lt 500 (held c a p st.ledger.lots + q), refusal.PositionLimit a)

-- under 2 lot places or 1,000 slip places free
abbrev pub few_places : State → Bool
few_places st =
    nat_lt st.limits.lot_places (length st.ledger.lots + 2) || nat_lt st.limits.slip_places (length st.ledger.slips + 1000)

-- Each call's causes, in the order in which they are tested.

abbrev pub trade_causes : State → (buyer seller product quantity price : ℕ) → List Cause
trade_causes st buyer seller p q price =
    not_in_book st buyer ∷ not_in_book st seller ∷ no_product p ∷ bad_quantity q ∷
    (bad_price price, refusal.Figure) ∷
    ((buyer == seller), refusal.SameAccount) ∷
    past_limit st 0 buyer p q ∷ past_limit st 1 seller p q ∷
    (few_places st, refusal.Places) ∷
    no_entry_left st ∷ []

-- the place of the lot that a declaration names; the number of lots where there is none
abbrev pub named_lot : State → (account product : ℕ) → Side → (entry : ℕ) → ℕ
named_lot st a p side n = place_of (is_lot a p side n) st.ledger.lots

-- the smaller remainder of the two lots that a declaration names
abbrev pub smaller_remainder : State → (account product bought sold : ℕ) → ℕ
smaller_remainder st a p b s =
    min (lot_at st.ledger.lots (named_lot st a p Bought b)).remaining (lot_at st.ledger.lots (named_lot st a p Sold s)).remaining

abbrev pub declare_causes : Rule → State → (account product bought sold quantity : ℕ) → List Cause
declare_causes rule st a p b s q =
    not_in_book st a ∷ no_product p ∷ bad_quantity q ∷
    (nat_le st.limits.slip_places (length st.ledger.slips), refusal.Places) ∷
    no_entry_left st ∷
    (not (rule.declares a), refusal.NotDeclaring) ∷
    (nat_le (length st.ledger.lots) (named_lot st a p Bought b), refusal.NoBoughtLot) ∷
    (nat_le (length st.ledger.lots) (named_lot st a p Sold s), refusal.NoSoldLot) ∷
    (nat_lt (smaller_remainder st a p b s) q, refusal.Remainder (smaller_remainder st a p b s)) ∷ []

abbrev pub rollover_causes : State → Sheet → List Cause
rollover_causes st sheet = (bad_sheet sheet, refusal.Figure) ∷ no_entry_left st ∷ []

abbrev pub deposit_causes : State → (account yen : ℕ) → List Cause
deposit_causes st a y = not_in_book st a ∷ no_entry_left st ∷ bad_amount y ∷ []

abbrev pub withdraw_causes : (ℕ → ℕ) → State → (account yen : ℕ) → List Cause
withdraw_causes schedule st a y =
    not_in_book st a ∷ no_entry_left st ∷ bad_amount y ∷
    (nat_lt (withdrawable schedule st a) y, refusal.Withdrawable (withdrawable schedule st a)) ∷ []

abbrev pub report_causes : State → (account : ℕ) → List Cause
report_causes st a = not_in_book st a ∷ []

abbrev pub causes : State → Call → List Cause
causes st (trade rule buyer seller p q price) = trade_causes st buyer seller p q price
causes st (declare rule a p b s q) = declare_causes rule st a p b s q
causes st (rollover sheet) = rollover_causes st sheet
causes st (deposit a y) = deposit_causes st a y
causes st (withdraw schedule a y) = withdraw_causes schedule st a y

-- What an accepted call leaves.

-- a trade with the next entry number
abbrev pub deal : State → (buyer seller product quantity price : ℕ) → Deal
deal st buyer seller p q price = record { buyer = buyer; seller = seller; product = p; quantity = q; price = price; entry = st.entries + 1 }

-- both lots come in, and the rule closes the buyer, then the seller
abbrev pub traded : Rule → State → (buyer seller product quantity price : ℕ) → State
traded rule st buyer seller p q price = next st st.prices (dealt rule (deal st buyer seller p q price) st.ledger) st.money

-- the two lots that are named are paired
abbrev pub declared_pair : State → (account product bought sold quantity : ℕ) → State
declared_pair st a p b s q = next st st.prices (paired st.ledger (named_lot st a p Bought b) (named_lot st a p Sold s) q) st.money

-- each lot gains or loses its points, the slips are cleared into the money that waits, and the sheet's prices become the latest
abbrev pub rolled : State → Sheet → State
rolled st sheet =
    next st sheet.prices (ledger (map (rolled_lot sheet.points) st.ledger.lots) []) (rolled_money sheet st.ledger.slips st.money)

-- z yen more in an account's deposit
abbrev pub paid : Money → ℕ → ℤ → Money
paid m a z = record {
  deposits = slice_set m.deposits (a - 1) (yen (of_account m.deposits a +ℤ z));
  waiting_one = m.waiting_one;
  waiting_two = m.waiting_two;
}

abbrev pub deposited : State → (account yen : ℕ) → State
deposited st a y = next st st.prices st.ledger (paid st.money a (pos y))

abbrev pub withdrawn : State → (account yen : ℕ) → State
withdrawn st a y = next st st.prices st.ledger (paid st.money a (neg_ℤ (pos y)))

-- a refusal leaves all as it was
abbrev pub left_by : Option Refusal → State → State → State
left_by None after before = after
left_by (Some cause) after before = before

abbrev pub after : State → Call → State
after st (trade rule buyer seller p q price) = traded rule st buyer seller p q price
after st (declare rule a p b s q) = declared_pair st a p b s q
after st (rollover sheet) = rolled st sheet
after st (deposit a y) = deposited st a y
after st (withdraw schedule a y) = withdrawn st a y

-- Every call at once: the first cause that refuses it, what it answers, and what it leaves.

abbrev pub cause_of : State → Call → Option Refusal
cause_of st call = first (causes st call)

abbrev pub answer : State → Call → Result ℕ Refusal
answer st call = answered (cause_of st call) (st.entries + 1)

abbrev pub left : State → Call → State
left st call = left_by (cause_of st call) (after st call) st

-- the report of an account that is in the book
abbrev pub reported : (ℕ → ℕ) → State → (account : ℕ) → Result MarginReport Refusal
reported schedule st a = answered (first (report_causes st a)) (report_of schedule st a)
