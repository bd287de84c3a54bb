-- How a book is opened.
use Rattle.std.specs.Prelude.{ℕ, min, Bool, ◌||◌, List, [], ◌∷◌, Result}
use Rattle.refusals.specs.declared.Refusal.{Refusal}
use Rattle.refusals.specs.declared.Refusal.TheVariants as refusal
use Rattle.refusals.specs.Ranges.{Cause, outside, any, first, answered}
use Rattle.report.specs.State.{State, no_yen}

-- what a book is opened with: the number of accounts, the first latest prices, places for lots and for slips
pub record Terms : Type 0 where
  pub accounts : ℕ
  pub prices : List ℕ
  pub lot_places : ℕ
  pub slip_places : ℕ

abbrev pub bad_price : ℕ → Bool
bad_price = outside 1 999999

-- accounts, lot places or slip places out of range
abbrev pub outside_limits : (accounts lot_places slip_places : ℕ) → Bool
outside_limits accounts lots slips = outside 1 64 accounts || (outside 2 4096 lots || outside 1000 8192 slips)

abbrev pub opening_causes : Terms → List Cause
opening_causes t =
    (outside_limits t.accounts t.lot_places t.slip_places, refusal.Opening) ∷
    (any bad_price t.prices, refusal.Figure) ∷ []

-- what the check answers: the terms, or the first cause
abbrev pub checked : Terms → Result Terms Refusal
checked t = answered (first (opening_causes t)) t

-- the places of the terms, or all where fewer are lent
abbrev pub over_places : Terms → (lots slips : ℕ) → Terms
over_places t lots slips = record { accounts = t.accounts; prices = t.prices; lot_places = min t.lot_places lots; slip_places = min t.slip_places slips }

-- a fresh book: no lot, no slip, 0 yen everywhere, no entry taken
abbrev pub opened : Terms → State
opened t = record {
  limits = record { accounts = t.accounts; lot_places = t.lot_places; slip_places = t.slip_places };
  prices = t.prices;
  ledger = record { lots = []; slips = [] };
  money = record { deposits = no_yen; waiting_one = no_yen; waiting_two = no_yen };
  entries = 0;
}
