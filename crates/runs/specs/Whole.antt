-- What is true of a book however it was used: after every list of calls since its opening.
use Rattle.std.specs.Prelude.{◌≡◌, ℕ, Bool, true, false, cond, ◌||◌, List, [], ◌∷◌, ◌++◌, ℤ, pos, negsuc, ◌+ℤ◌, ◌-ℤ◌, ◌*ℤ◌, ◌≤ℤ◌, Some, None, Option, ◌==◌}
use Rattle.refusals.specs.declared.Refusal.{Refusal}
use Rattle.refusals.specs.Ranges.{first}
use Rattle.money.specs.Sums.{sum_z, sum_to}
use Rattle.money.specs.Products.{of_product, step_worth, move_worth, is_yen, exact_yen, exact}
use Rattle.records.specs.declared.lots.Slip.{Slip}
use Rattle.records.specs.Lots.{slip_sum, open_worth}
use Rattle.closing.specs.Rules.{Lawful}
use Rattle.report.specs.State.{State, of_account}
use Rattle.report.specs.Report.{deposit_of, settled_difference, base_amount, shortfall}
use Rattle.rolling.specs.Points.{points_of}
use Rattle.runs.specs.Opening.{Terms, opening_causes, over_places, opened}
use Rattle.runs.specs.Calls.{Call, cause_of, left}
use Rattle.runs.specs.Calls.Call.{trade, declare, rollover, deposit, withdraw}

-- RUNS

-- One call as a book met it: the call, whether it was accepted, and the slips that lay in the book before it.
pub record Met : Type 0 where
  pub call : Call
  pub accepted : Bool
  pub slips : List Slip

abbrev pub is_accepted : Option Refusal → Bool
is_accepted None = true
is_accepted (Some cause) = false

abbrev pub met_by : State → Call → Met
met_by st call = record { call = call; accepted = is_accepted (cause_of st call); slips = st.ledger.slips }

-- the closing rule that is lent to a call keeps the law of closing rules
abbrev pub LawKept : Call → Type 0
LawKept (trade rule _ _ _ _ _) = Lawful rule
LawKept (declare rule _ _ _ _ _) = Lawful rule
LawKept (rollover _) = Unit {0}
LawKept (deposit _ _) = Unit {0}
LawKept (withdraw _ _ _) = Unit {0}

-- A run. A book comes fresh from an opening that no cause refuses, over so many lent places, and meets calls, each finding the book
-- as the previous one left it, with any arguments, accepted or refused. Any rule that keeps the law, and any schedule, may be lent
-- to each call. The newest call stands first.
pub data Reached (t : Terms) : List Met → State → Type 0 where
  fresh : first (opening_causes t) ≡ None → (lots slips : ℕ) → Reached t [] (opened (over_places t lots slips))
  met : {h : List Met} {st : State} → Reached t h st → (call : Call) → LawKept call → Reached t (met_by st call ∷ h) (left st call)

-- THE EVENT SUM: drawn only from the calls and which were accepted

-- a refused call adds nothing
abbrev pub if_accepted : Met → ℤ → ℤ
if_accepted m z = cond m.accepted z (pos 0)

-- the latest prices: the opening's, then those of the last accepted sheet
abbrev pub prices_by : Call → List ℕ → List ℕ
prices_by (trade _ _ _ _ _ _) before = before
prices_by (declare _ _ _ _ _ _) before = before
prices_by (rollover sheet) before = sheet.prices
prices_by (deposit _ _) before = before
prices_by (withdraw _ _ _) before = before

abbrev pub latest : Terms → List Met → List ℕ
latest t [] = t.prices
latest t (m ∷ h) = cond m.accepted (prices_by m.call (latest t h)) (latest t h)

-- contracts that a call bought for an account in a product, less those that it sold
abbrev pub net_by : ℕ → ℕ → Call → ℤ
net_by a p (trade _ buyer seller p' q _) =
    cond (p == p') (cond (a == buyer) (pos q) (pos 0) -ℤ cond (a == seller) (pos q) (pos 0)) (pos 0)
net_by a p (declare _ _ _ _ _ _) = pos 0
net_by a p (rollover _) = pos 0
net_by a p (deposit _ _) = pos 0
net_by a p (withdraw _ _ _) = pos 0

-- contracts bought less sold until then
abbrev pub net : ℕ → ℕ → List Met → ℤ
net a p = sum_z (λ m. if_accepted m (net_by a p m.call))

abbrev pub trade_price : Call → ℕ
trade_price (trade _ _ _ _ _ price) = price
trade_price (declare _ _ _ _ _ _) = 0
trade_price (rollover _) = 0
trade_price (deposit _ _) = 0
trade_price (withdraw _ _ _) = 0

-- each accepted purchase adds quantity × step worth × (latest price − trade price), and each sale takes that away
abbrev pub moved : (latest_price : ℕ) → ℕ → ℕ → Call → ℤ
moved now a p call = net_by a p call *ℤ move_worth (step_worth p) (trade_price call) now

abbrev pub moves : (latest_price : ℕ) → ℕ → ℕ → List Met → ℤ
moves now a p = sum_z (λ m. if_accepted m (moved now a p m.call))

-- each accepted rollover adds (contracts bought − sold until then) × its points
abbrev pub points_by : Call → ℕ → ℤ
points_by (trade _ _ _ _ _ _) p = pos 0
points_by (declare _ _ _ _ _ _) p = pos 0
points_by (rollover sheet) p = points_of sheet.points p
points_by (deposit _ _) p = pos 0
points_by (withdraw _ _ _) p = pos 0

abbrev pub points_sum : ℕ → ℕ → List Met → ℤ
points_sum a p [] = pos 0
points_sum a p (m ∷ h) = if_accepted m (net a p h *ℤ points_by m.call p) +ℤ points_sum a p h

abbrev pub event_sum : Terms → ℕ → ℕ → List Met → ℤ
event_sum t a p h = moves (of_product (latest t h) p) a p h +ℤ points_sum a p h

-- SETTLED SLIPS: those that a rollover cleared

abbrev pub cleared_by : Call → List Slip → List Slip
cleared_by (trade _ _ _ _ _ _) slips = []
cleared_by (declare _ _ _ _ _ _) slips = []
cleared_by (rollover _) slips = slips
cleared_by (deposit _ _) slips = []
cleared_by (withdraw _ _ _) slips = []

abbrev pub cleared : Met → List Slip
cleared m = cond m.accepted (cleared_by m.call m.slips) []

-- the slips of past days
abbrev pub past_slips : List Met → List Slip
past_slips [] = []
past_slips (m ∷ h) = cleared m ++ past_slips h

-- over all accounts and products
abbrev pub over_all : Terms → (ℕ → ℕ → ℤ) → ℤ
over_all t f = sum_to (λ a. sum_to (λ p. f a p) 16) t.accounts

-- their exact worth, in hundred-thousandths of a yen: over all rollovers, accounts and products the slip sum then cleared, a yen sum
-- as it is, a cross sum at that sheet's price of the product that converts it, unrounded
abbrev pub exact_cleared : Terms → Met → ℤ
exact_cleared t m = over_all t (λ a p. exact (prices_by m.call []) p (slip_sum a p (cleared m)))

abbrev pub exact_settled : Terms → List Met → ℤ
exact_settled t = sum_z (exact_cleared t)

-- a conversion is one such cross sum that is not 0
abbrev pub is_zero : ℤ → Bool
is_zero (pos n) = n == 0
is_zero (negsuc n) = false

abbrev pub conversions_by : Terms → Met → ℤ
conversions_by t m = over_all t (λ a p. cond (is_yen p || is_zero (slip_sum a p (cleared m))) (pos 0) (pos 1))

abbrev pub conversions : Terms → List Met → ℤ
conversions t = sum_z (conversions_by t)

-- MONEY

abbrev pub deposit_by : Call → ℤ
deposit_by (trade _ _ _ _ _ _) = pos 0
deposit_by (declare _ _ _ _ _ _) = pos 0
deposit_by (rollover _) = pos 0
deposit_by (deposit _ y) = pos y
deposit_by (withdraw _ _ _) = pos 0

abbrev pub withdrawal_by : Call → ℤ
withdrawal_by (trade _ _ _ _ _ _) = pos 0
withdrawal_by (declare _ _ _ _ _ _) = pos 0
withdrawal_by (rollover _) = pos 0
withdrawal_by (deposit _ _) = pos 0
withdrawal_by (withdraw _ _ y) = pos y

-- yen paid in and paid out: the amounts of all accepted deposits and withdrawals
abbrev pub paid_in : List Met → ℤ
paid_in = sum_z (λ m. if_accepted m (deposit_by m.call))

abbrev pub paid_out : List Met → ℤ
paid_out = sum_z (λ m. if_accepted m (withdrawal_by m.call))

-- yen paid in, less yen paid out, plus the exact worth of settled slips, in hundred-thousandths of a yen
abbrev pub exact_money : Terms → List Met → ℤ
exact_money t h = exact_yen (paid_in h -ℤ paid_out h) +ℤ exact_settled t h

-- all deposits and waiting amounts together
abbrev pub held_by : State → ℕ → ℤ
held_by st a = of_account st.money.deposits a +ℤ (of_account st.money.waiting_one a +ℤ of_account st.money.waiting_two a)

abbrev pub held_in_all : Terms → State → ℤ
held_in_all t st = sum_to (held_by st) t.accounts

-- WITHDRAWALS

-- an account has no shortfall, and its deposit and settled difference cover its base amount
pub record Covered (schedule : ℕ → ℕ) (st : State) (a : ℕ) : Type 0 where
  pub no_shortfall : shortfall schedule st a ≡ 0
  pub base_covered : base_amount schedule st a ≤ℤ (deposit_of st a +ℤ settled_difference st a)

-- so it is with the account that drew
abbrev pub Drew : Call → State → Type 0
Drew (trade _ _ _ _ _ _) st = Unit {0}
Drew (declare _ _ _ _ _ _) st = Unit {0}
Drew (rollover _) st = Unit {0}
Drew (deposit _ _) st = Unit {0}
Drew (withdraw schedule a _) st = Covered schedule st a

abbrev pub AfterDrawing : List Met → State → Type 0
AfterDrawing [] st = Unit {0}
AfterDrawing (m ∷ h) st = m.accepted ≡ true → Drew m.call st

-- THE STATEMENT

pub record Stands (t : Terms) (h : List Met) (st : State) : Type 0 where
  -- the prices that the book goes by are the latest
  pub latest_prices : st.prices ≡ latest t h
  -- for each account and product all slips, those of past days too, and the open lots at the latest price are worth the event sum
  pub event_sums : (a p : ℕ) →
      slip_sum a p (past_slips h ++ st.ledger.slips) +ℤ open_worth (of_product (latest t h) p) a p st.ledger.lots ≡ event_sum t a p h
  -- for each product the event sums of all accounts add up to zero
  pub cancelling : (p : ℕ) → sum_to (λ a. event_sum t a p h) t.accounts ≡ pos 0
  -- the money held never exceeds the exact money
  pub never_above : exact_yen (held_in_all t st) ≤ℤ exact_money t h
  -- and falls short of it by at most 99,999 hundred-thousandths of a yen a conversion
  pub hardly_below : exact_money t h ≤ℤ (exact_yen (held_in_all t st) +ℤ conversions t h *ℤ pos 99999)
  -- right after an accepted withdrawal the account that drew is covered
  pub after_drawing : AfterDrawing h st

-- What each call of a book promises: every run that led to the book as the call found it, with this call added, leads to the book as
-- the call leaves it, and the statement holds there.
abbrev pub Whole : Call → State → State → Type 0
Whole call before after =
    (t : Terms) (h : List Met) → Reached t h before → Reached t (met_by before call ∷ h) after × Stands t (met_by before call ∷ h) after

-- What opening promises: the empty run leads to the book that it makes, and the statement holds there.
abbrev pub WholeOpened : Terms → State → Type 0
WholeOpened t st = Reached t [] st × Stands t [] st
