-- The sixteen products and their money. A product's money is yen in products 1 to 10, and hundredths
-- of the second currency in products 11 to 16. Prices are whole numbers of steps.
use Rattle.std.specs.Prelude.{ℕ, ◌-◌, ◌/◌, ◌%◌, ◌<◌, ◌≤◌, Bool, true, cond, ◌&&◌, List, [], ◌∷◌, ℤ, pos, negsuc, ◌+ℤ◌, ◌-ℤ◌, ◌*ℤ◌, ◌≤ℤ◌, ◌<ℤ◌, nat_le, slice_index, slice_index_or, unsigned_abs, Some, None, is_none}
use Rattle.std.specs.Option.{unwrap_or}
use Rattle.money.specs.declared.Row.{Row}

-- a row of the table of products: what a step of the price is worth for one contract, in the product's money,
-- and the product whose latest price converts that money into yen (none where it is yen already)
abbrev pub yen_row : ℕ → Row
yen_row step = record { step = step; by = None }

abbrev pub cross_row : ℕ → ℕ → Row
cross_row step by = record { step = step; by = Some by }

unfoldable pub rows : List Row
rows =
    yen_row 10 ∷ yen_row 100  -- 1 USD/JPY, 2 its Large
    ∷ yen_row 10 ∷ yen_row 100  -- 3 EUR/JPY, 4 its Large
    ∷ yen_row 10 ∷ yen_row 100  -- 5 GBP/JPY, 6 its Large
    ∷ yen_row 10 ∷ yen_row 100  -- 7 AUD/JPY, 8 its Large
    ∷ yen_row 10 ∷ yen_row 10  -- 9 CHF/JPY, 10 CAD/JPY
    ∷ cross_row 100 1 ∷ cross_row 1000 2  -- 11 EUR/USD, 12 its Large
    ∷ cross_row 100 1 ∷ cross_row 100 1  -- 13 GBP/USD, 14 AUD/USD
    ∷ cross_row 100 9 ∷ cross_row 100 10  -- 15 USD/CHF, 16 USD/CAD
    ∷ []

-- tables of products count from 1, and hold nothing for any other product
abbrev pub of_product : List ℕ → ℕ → ℕ
of_product table p = cond (nat_le 1 p) (slice_index table (p - 1)) 0

abbrev pub row_of : ℕ → Row
row_of p = cond (nat_le 1 p) (slice_index_or rows (p - 1) (yen_row 0)) (yen_row 0)

abbrev pub step_worth : ℕ → ℕ
step_worth p = (row_of p).step

-- the product that converts; 0 where none does
abbrev pub converter : ℕ → ℕ
converter p = unwrap_or (row_of p).by 0

abbrev pub is_yen : ℕ → Bool
is_yen p = is_none (row_of p).by

-- each product of a list is converted by none or by a yen product
unfoldable pub converted_by_yen : List ℕ → Bool
converted_by_yen [] = true
converted_by_yen (p ∷ ps) = is_yen (converter p) && converted_by_yen ps

-- what a move of the price is worth for one contract of that step worth
abbrev pub move_worth : ℕ → ℕ → ℕ → ℤ
move_worth step from to = pos step *ℤ (pos to -ℤ pos from)

-- the greatest whole number not above z ÷ 100,000
abbrev pub floored : ℤ → ℤ
floored (pos n) = pos (n / 100000)
floored (negsuc n) = negsuc (n / 100000)

-- An amount in hundred-thousandths of a yen, exactly: hundredths count as many of them as the price has steps.
abbrev pub exact_yen : ℤ → ℤ
exact_yen amount = amount *ℤ pos 100000

abbrev pub exact_cross : ℕ → ℤ → ℤ
exact_cross price amount = amount *ℤ pos price

-- an amount of product p's money in hundred-thousandths of a yen, exactly
abbrev pub exact : List ℕ → ℕ → ℤ → ℤ
exact prices p amount = cond (is_yen p) (exact_yen amount) (exact_cross (of_product prices (converter p)) amount)

-- the same in whole yen: yen convert to themselves
abbrev pub converted : List ℕ → ℕ → ℤ → ℤ
converted prices p amount = cond (is_yen p) amount (floored (exact_cross (of_product prices (converter p)) amount))

-- a conversion is never above the exact amount and less than one yen below it
pub record RoundsDown (exact yen : ℤ) : Type 0 where
  pub never_above : (yen *ℤ pos 100000) ≤ℤ exact
  pub less_than_one_below : exact <ℤ (yen *ℤ pos 100000 +ℤ pos 100000)

-- what is left of z after whole hundred thousands
abbrev pub rest_of : ℤ → ℕ
rest_of (pos n) = n % 100000
rest_of (negsuc n) = 99999 - n % 100000

-- sixteen prices, none above 999,999
abbrev pub Priced : List ℕ → Type 0
Priced prices = (k : ℕ) → k < 16 → slice_index prices k ≤ 999999

-- an amount that can be converted: any that the lists of a book can sum to
abbrev pub Modest : ℤ → Type 0
Modest z = unsigned_abs z ≤ 100000000000000000
