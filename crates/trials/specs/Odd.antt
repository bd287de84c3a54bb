-- A closing rule that is odd on purpose: the newest bought lot with the oldest sold one, one contract at a time;
-- accounts with an even number declare.
use Rattle.std.specs.Prelude.{ℕ, ◌+◌, ◌%◌, Bool, cond, List, [], ◌∷◌, length, Some, None, Option, ◌==◌, nat_lt}
use Rattle.records.specs.declared.lots.Lot.{Lot}
use Rattle.records.specs.Lots.{is_of}
use Rattle.closing.specs.Rules.{Pair, Rule, oldest_first}

-- the place of the last lot that passes a test, from place i on; `found` where none does
abbrev pub last_from : (Lot → Bool) → ℕ → ℕ → List Lot → ℕ
last_from test i found [] = found
last_from test i found (l ∷ ls) = last_from test (i + 1) (cond (test l) i found) ls

abbrev pub newest : ℕ → ℕ → List Lot → ℕ
newest a p lots = last_from (is_of a p 0) 0 (length lots) lots

-- the sold lot is that of oldest first
abbrev pub odd_pair : Option Pair → ℕ → ℕ → Option Pair
odd_pair None bought places = None
odd_pair (Some t) bought places = cond (nat_lt bought places) (Some (bought, t.1, 1)) None

abbrev pub odd : Rule
odd = record {
  declares = λ a. (a % 2 == 0);
  pairing = λ a p lots. odd_pair (oldest_first.pairing a p lots) (newest a p lots) (length lots);
}
