-- Lots and slips: what they tell the one sum, and what they are worth.
use Rattle.std.specs.Prelude.{ℕ, Bool, true, false, cond, ◌&&◌, List, ℤ, pos, ◌+ℤ◌, ◌*ℤ◌, sum_by, ◌==◌}
use Rattle.money.specs.Sums.{sum_z}
use Rattle.money.specs.Products.{step_worth, move_worth}
use Rattle.records.specs.declared.lots.Side.{Side}
use Rattle.records.specs.declared.lots.Side.TheVariants.{Bought, Sold}
use Rattle.records.specs.declared.lots.Lot.{Lot}
use Rattle.records.specs.declared.lots.Slip.{Slip}
use Rattle.records.specs.declared.sum.Told.{Told}
use Rattle.records.specs.Sum.{summed}

abbrev pub is_bought : Side → Bool
is_bought Bought = true
is_bought Sold = false

-- a sold lot's column is 1, any other record's 0
abbrev pub column : Side → ℕ
column Bought = 0
column Sold = 1

-- a lot's figure is what remains, a slip's its worth
abbrev pub told_of_lot : Lot → Told
told_of_lot l = record { account = l.account; product = l.product; column = column l.side; figure = pos l.remaining }

abbrev pub told_of_slip : Slip → Told
told_of_slip s = record { account = s.account; product = s.product; column = 0; figure = s.worth }

-- a lot of nobody: what lies past the end of a list
abbrev pub nobody : Lot
nobody = record { account = 0; product = 0; side = Bought; entry = 0; remaining = 0; price = 0; points = pos 0 }

-- what the price's move from the contract price to the price `at` brought one contract; a sold lot swaps the two
abbrev pub gain : ℕ → Lot → ℤ
gain at l = cond (is_bought l.side) (move_worth (step_worth l.product) l.price at) (move_worth (step_worth l.product) at l.price)

-- what a lot is worth at a price
abbrev pub lot_worth : ℕ → Lot → ℤ
lot_worth at l = pos l.remaining *ℤ (gain at l +ℤ l.points)

-- a lot of that account, product and column
abbrev pub is_of : ℕ → ℕ → ℕ → Lot → Bool
is_of a p c l = l.account == a && (l.product == p && column l.side == c)

-- contracts of one column that an account holds open in a product
abbrev pub held : ℕ → ℕ → ℕ → List Lot → ℕ
held c a p = sum_by (λ l. cond (is_of a p c l) l.remaining 0)

-- what an account's slips of a product are worth together
abbrev pub slip_sum : ℕ → ℕ → List Slip → ℤ
slip_sum a p = summed told_of_slip a p 0

-- what an account's open lots of a product are worth together, both sides, at a price
abbrev pub open_worth : ℕ → ℕ → ℕ → List Lot → ℤ
open_worth at a p = sum_z (λ l. cond (l.account == a && l.product == p) (lot_worth at l) (pos 0))
