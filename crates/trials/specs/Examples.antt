-- Runs exist, and what the whole-book statement says of one of them.
use Rattle.std.specs.Prelude.{◌≡◌, ℕ, true, false, List, [], ◌∷◌, map, pos, negsuc, None}
use Rattle.std.specs.List.{AllByRecursion}
use Rattle.refusals.specs.Ranges.{first}
use Rattle.records.specs.Lots.{slip_sum, open_worth}
use Rattle.closing.specs.Rules.{oldest_first, designated}
use Rattle.report.specs.State.{State}
use Rattle.report.specs.Report.{report_of, figures}
use Rattle.rolling.specs.declared.Sheet.{Sheet}
use Rattle.runs.specs.Opening.{Terms, opening_causes, over_places, opened}
use Rattle.runs.specs.Calls.{Call, left}
use Rattle.runs.specs.Calls.Call.{trade, declare, rollover, deposit, withdraw}
use Rattle.runs.specs.Whole.{Met, met_by, LawKept, Reached, past_slips, event_sum, exact_settled, conversions, paid_in, paid_out, exact_money, held_in_all}

-- the book after some calls, the newest first, and how it met them
abbrev pub state_after : Terms → List Call → State
state_after t [] = opened (over_places t 1024 2000)
state_after t (call ∷ calls) = left (state_after t calls) call

abbrev pub met_by_all : Terms → List Call → List Met
met_by_all t [] = []
met_by_all t (call ∷ calls) = met_by (state_after t calls) call ∷ met_by_all t calls

-- Two accounts. USD/JPY, which converts EUR/USD (product 11), opens at 150.000; it is 150.333 on the new day.
abbrev pub prices_from : ℕ → List ℕ
prices_from usd_jpy =
    usd_jpy ∷ 100000 ∷ 100000 ∷ 100000 ∷ 100000 ∷ 100000 ∷ 100000 ∷ 100000 ∷ 100000 ∷ 100000 ∷ 10800 ∷ 100000 ∷ 100000 ∷ 100000 ∷ 100000 ∷ 100000 ∷ []

abbrev pub terms : Terms
terms = record { accounts = 2; prices = prices_from 150000; lot_places = 1024; slip_places = 2000 }

-- a bank day; 20 hundredths are taken from each bought contract of EUR/USD and given to each sold one
abbrev pub sheet : Sheet
sheet = record {
  mark = 1;
  prices = prices_from 150333;
  points = pos 0 ∷ pos 0 ∷ pos 0 ∷ pos 0 ∷ pos 0 ∷ pos 0 ∷ pos 0 ∷ pos 0 ∷ pos 0 ∷ pos 0 ∷ negsuc 19 ∷ pos 0 ∷ pos 0 ∷ pos 0 ∷ pos 0 ∷ pos 0 ∷ [];
}

abbrev pub no_base : ℕ → ℕ
no_base p = 0

-- Account 2 pays in 500,000 yen. Account 1 buys three contracts of EUR/USD from account 2 at 1.0800, and sells one back at 1.0747: by
-- oldest first both are paired, account 1 at a loss of 5,300 hundredths. Account 2 buys one more at 1.0790, and declares it against
-- one of those that it sold; a declaration of account 1, whose rule has no declarations, is refused. A rollover settles the
-- slips, and account 2 withdraws 1,000 yen.
abbrev pub calls : List Call
calls =
    withdraw no_base 2 1000 ∷
    rollover sheet ∷
    declare oldest_first 1 11 2 4 1 ∷
    declare designated 2 11 4 2 1 ∷
    trade designated 2 1 11 1 10790 ∷
    trade oldest_first 2 1 11 1 10747 ∷
    trade oldest_first 1 2 11 3 10800 ∷
    deposit 2 500000 ∷ []

abbrev pub history : List Met
history = met_by_all terms calls

abbrev pub book : State
book = state_after terms calls

pub record Examples : Type 0 where
  -- every list of calls is met, whoever makes them
  pub every_list : (t : Terms) → first (opening_causes t) ≡ None → (calls : List Call) → AllByRecursion LawKept calls → Reached t (met_by_all t calls) (state_after t calls)
  -- so is this one; of its calls one is refused
  pub run : Reached terms history book
  pub accepted : map (λ m. m.accepted) history ≡ true ∷ true ∷ false ∷ true ∷ true ∷ true ∷ true ∷ true ∷ []
  -- the event sums of EUR/USD, in hundredths: −5,300 − 1,000 by the prices, and −20 by the points for the contract that account 1
  -- bought more than it sold; what account 1 has, account 2 lacks
  pub event_sum_1 : event_sum terms 1 11 history ≡ negsuc 6319
  pub event_sum_2 : event_sum terms 2 11 history ≡ pos 6320
  -- the slips of past days, and the lots that are still open
  pub past_1 : slip_sum 1 11 (past_slips history) ≡ negsuc 5299
  pub past_2 : slip_sum 2 11 (past_slips history) ≡ pos 6300
  pub open_1 : open_worth 10800 1 11 book.ledger.lots ≡ negsuc 1019
  pub open_2 : open_worth 10800 2 11 book.ledger.lots ≡ pos 20
  -- the money: two conversions, of −5,300 and of 6,300 hundredths, drop less than two yen
  pub in_yen : paid_in history ≡ pos 500000
  pub out_yen : paid_out history ≡ pos 1000
  pub settled : exact_settled terms history ≡ pos 150333000
  pub converted : conversions terms history ≡ pos 2
  pub exact : exact_money terms history ≡ pos 50050333000
  pub held : held_in_all terms book ≡ pos 500502
  -- what account 2, which drew, has then
  pub report_2 : report_of no_base book 2 ≡ figures (pos 499000) (pos 9470) (pos 30) (pos 0)
