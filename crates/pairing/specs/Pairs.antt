-- Pairing a bought with a sold lot, and the closing of an account by a rule.
use Rattle.std.specs.Prelude.{◌≡◌, ℕ, zero, suc, ◌-◌, ◌*◌, ◌≤◌, min, cond, List, [], ◌∷◌, ◌++◌, pos, ◌+ℤ◌, ◌*ℤ◌, Some, None, Option, ◌==◌, slice_set, unsigned_abs}
use Rattle.money.specs.Products.{step_worth, move_worth}
use Rattle.records.specs.declared.lots.Lot.{Lot}
use Rattle.records.specs.declared.lots.Slip.{Slip}
use Rattle.records.specs.Lots.{held}
use Rattle.closing.specs.Rules.{Pair, Rule, lot_at}
use Rattle.report.specs.State.{Ledger}

abbrev pub ledger : List Lot → List Slip → Ledger
ledger lots slips = record { lots = lots; slips = slips }

-- a lot of which n contracts remain
abbrev pub with_remaining : Lot → ℕ → Lot
with_remaining l n = record {
  account = l.account;
  product = l.product;
  side = l.side;
  entry = l.entry;
  remaining = n;
  price = l.price;
  points = l.points;
}

-- q contracts less of the lot at place k
abbrev pub reduced : List Lot → ℕ → ℕ → List Lot
reduced lots k q = slice_set lots k (with_remaining (lot_at lots k) ((lot_at lots k).remaining - q))

-- a lot with nothing remaining leaves, and the others keep their order
abbrev pub still_open : List Lot → List Lot
still_open [] = []
still_open (l ∷ ls) = cond (l.remaining == 0) (still_open ls) (l ∷ still_open ls)

-- the slip of q contracts of a bought and a sold lot
abbrev pub slip_of : Lot → Lot → ℕ → Slip
slip_of bought sold q = record {
  account = bought.account;
  product = bought.product;
  bought = bought.entry;
  sold = sold.entry;
  quantity = q;
  worth = pos q *ℤ (move_worth (step_worth bought.product) bought.price sold.price +ℤ (bought.points +ℤ sold.points));
}

-- a pair takes q contracts from both lots, and writes its slip last
abbrev pub paired : Ledger → ℕ → ℕ → ℕ → Ledger
paired l b s q =
    ledger (still_open (reduced (reduced l.lots b q) s q)) (l.slips ++ slip_of (lot_at l.lots b) (lot_at l.lots s) q ∷ [])

-- The rule is asked for an account and a product until it gives no pair, and each pair is made.
pub data Asked (rule : Rule) (a p : ℕ) : Ledger → Ledger → Type 0 where
  no_pair : {l : Ledger} → rule.pairing a p l.lots ≡ None → Asked rule a p l l
  one_pair : {l after : Ledger} (b s q : ℕ) → rule.pairing a p l.lots ≡ Some (b, s, q) → Asked rule a p (paired l b s q) after → Asked rule a p l after

-- The same as a function with a budget of askings. Each pair takes a contract at least of both sides, and no account holds
-- more than 500 of a side in a product, so that 500 askings suffice.
abbrev pub closed_by : Option Pair → (ℕ → ℕ → ℕ → Ledger) → Ledger → Ledger
closed_by None more l = l
closed_by (Some t) more l = more t.0 t.1 t.2

unfoldable pub closed : Rule → ℕ → ℕ → ℕ → Ledger → Ledger
closed rule zero a p l = l
closed rule (suc n) a p l = closed_by (rule.pairing a p l.lots) (λ b s q. closed rule n a p (paired l b s q)) l

-- the contracts of the smaller side: as many pairs can be made at most
abbrev pub least_held : ℕ → ℕ → List Lot → ℕ
least_held a p lots = min (held 0 a p lots) (held 1 a p lots)

-- a lot whose figures are within bounds, n entries into the book's life, be it open or not
abbrev pub LotFine : ℕ → Lot → Type 0
LotFine n l = (l.remaining ≤ 500) × (l.price ≤ 999999) × (unsigned_abs l.points ≤ 10000 * n)
