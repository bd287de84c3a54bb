-- The calls that the desk serves: what refuses each, first cause first, and what an accepted one leaves. The definitions of
-- each call stand below the book, where those of its runs do.
use Rattle.std.specs.Prelude.{ℕ, ◌+◌, List, Option, Result}
use Rattle.refusals.specs.declared.Refusal.{Refusal}
use Rattle.refusals.specs.Ranges.{Cause, first, answered}
use Rattle.closing.specs.Rules.{Rule}
use Rattle.report.specs.State.{State}
pub use Rattle.runs.specs.Calls.{not_in_book, no_entry_left, bad_amount, no_product, bad_quantity, past_limit, few_places, trade_causes, named_lot, smaller_remainder, declare_causes, deposit_causes, withdraw_causes, report_causes, deal, traded, declared_pair, paid, deposited, withdrawn, left_by, reported}

-- The calls that take an entry number.
pub data Call : Type 0 where
  trade : (buyer seller product quantity price : ℕ) → Call
  declare : (account product bought sold quantity : ℕ) → Call
  deposit : (account yen : ℕ) → Call
  withdraw : (account yen : ℕ) → Call

-- Each call's causes, in the order in which they are tested.
abbrev pub causes : Rule → (ℕ → ℕ) → State → Call → List Cause
causes rule schedule st (trade buyer seller p q price) = trade_causes st buyer seller p q price
causes rule schedule st (declare a p b s q) = declare_causes rule st a p b s q
causes rule schedule st (deposit a y) = deposit_causes st a y
causes rule schedule st (withdraw a y) = withdraw_causes schedule st a y

-- What an accepted call leaves.
abbrev pub after : Rule → State → Call → State
after rule st (trade buyer seller p q price) = traded rule st buyer seller p q price
after rule st (declare a p b s q) = declared_pair st a p b s q
after rule st (deposit a y) = deposited st a y
after rule st (withdraw a y) = withdrawn st a y

-- Every call at once: the first cause that refuses it, what it answers, and what it leaves.

abbrev pub cause_of : Rule → (ℕ → ℕ) → State → Call → Option Refusal
cause_of rule schedule st call = first (causes rule schedule st call)

abbrev pub answer : Rule → (ℕ → ℕ) → State → Call → Result ℕ Refusal
answer rule schedule st call = answered (cause_of rule schedule st call) (st.entries + 1)

abbrev pub left : Rule → (ℕ → ℕ) → State → Call → State
left rule schedule st call = left_by (cause_of rule schedule st call) (after rule st call) st
