-- Closing rules, by their meaning.
use Rattle.std.specs.Prelude.{◌≡◌, ℕ, ◌-◌, ◌<◌, ◌≤◌, min, Bool, true, false, cond, not, ◌&&◌, List, length, Some, None, Option, ◌==◌, nat_lt, slice_index, slice_index_or}
use Rattle.std.specs.List.{AllByRecursion, position_or_len}
use Rattle.refusals.specs.Ranges.{outside}
use Rattle.records.specs.declared.lots.Side.{Side}
use Rattle.records.specs.declared.lots.Side.TheVariants.{Bought, Sold}
use Rattle.records.specs.declared.lots.Lot.{Lot}
use Rattle.records.specs.Lots.{is_of, nobody}

-- A pair: the place of a bought lot, the place of a sold lot, and a quantity.
abbrev pub Pair : Type 0
Pair = ℕ × ℕ × ℕ

-- A rule's meaning: which accounts declare, and for an account, a product and the open lots, oldest first, no pair or one.
pub record Rule : Type 0 where
  pub declares : ℕ → Bool
  pub pairing : ℕ → ℕ → List Lot → Option Pair

abbrev pub lot_at : List Lot → ℕ → Lot
lot_at lots k = slice_index_or lots k nobody

-- place k is a lot of that account, product and side with at least q left
pub record OpenLot (lots : List Lot) (account product : ℕ) (side : Side) (k q : ℕ) : Type 0 where
  pub within : k < length lots
  pub account_is : (lot_at lots k).account ≡ account
  pub product_is : (lot_at lots k).product ≡ product
  pub side_is : (lot_at lots k).side ≡ side
  pub enough : q ≤ (lot_at lots k).remaining

-- something remains of each lot
abbrev pub AllOpen : List Lot → Type 0
AllOpen = AllByRecursion (λ (l : Lot). 1 ≤ l.remaining)

-- The law of a rule: a pair that it gives among open lots is an open bought and an open sold lot of that account and product,
-- and the quantity is 1 up to the smaller remainder. A rule is only ever shown open lots.
pub record Lawful (rule : Rule) : Type 0 where
  pub lawful : (a p : ℕ) (lots : List Lot) → AllOpen lots → (b s q : ℕ) → rule.pairing a p lots ≡ Some (b, s, q) →
      OpenLot lots a p Bought b q × OpenLot lots a p Sold s q × (1 ≤ q)

-- The three rules.

-- the place of the first lot that passes a test; the length where there is none
abbrev pub place_of : (Lot → Bool) → List Lot → ℕ
place_of = position_or_len

-- the place of the first lot of an account, product and column
abbrev pub first_of : ℕ → ℕ → ℕ → List Lot → ℕ
first_of a p c = place_of (is_of a p c)

-- the two lots at the smaller remainder, or no pair if a side is empty
abbrev pub pair_at : List Lot → ℕ → ℕ → Option Pair
pair_at lots b s =
    cond (nat_lt b (length lots) && nat_lt s (length lots)) (Some (b, s, min (lot_at lots b).remaining (lot_at lots s).remaining)) None

-- oldest first: no account declares; the first bought and the first sold lot
abbrev pub oldest_first : Rule
oldest_first = record { declares = λ a. false; pairing = λ a p lots. pair_at lots (first_of a p 0 lots) (first_of a p 1 lots) }

-- designated: every account declares; there is never a pair
abbrev pub designated : Rule
designated = record { declares = λ a. true; pairing = λ a p lots. None }

-- by account: mark 0 sends an account to the first rule, mark 1 to the second; an account outside 1 to 64 has no pair and does not declare
abbrev pub marked : List ℕ → ℕ → Bool
marked marks a = not (slice_index marks (a - 1) == 0)

abbrev pub by_account : List ℕ → Rule → Rule → Rule
by_account marks one two = record {
  declares = λ a. cond (outside 1 64 a) false (cond (marked marks a) (two.declares a) (one.declares a));
  pairing = λ a p lots. cond (outside 1 64 a) None (cond (marked marks a) (two.pairing a p lots) (one.pairing a p lots));
}
