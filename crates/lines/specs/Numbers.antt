-- What the bytes of one field say.
use Rattle.std.specs.Prelude.{ℕ, zero, suc, ◌+◌, ◌-◌, ◌*◌, Bool, cond, not, ◌&&◌, List, [], ◌∷◌, length, drop, ℤ, pos, negsuc, Some, None, Option, ◌==◌, nat_le, nat_lt, slice_index}
use Rattle.std.specs.Str.{all_ascii_digits}
use Rattle.lines.specs.Letters.{minus_sign, zero_digit}
use Rattle.lines.specs.Said.{most_digits, is_methods}

-- The number that decimal digits write after those of n.
abbrev pub value_after : ℕ → List ℕ → ℕ
value_after n [] = n
value_after n (c ∷ cs) = value_after (n * 10 + (c - zero_digit)) cs

-- 1 to 10 digits, and no leading zero but for 0 itself.
abbrev pub is_number : List ℕ → Bool
is_number bs =
    (nat_lt 0 (length bs) && nat_le (length bs) most_digits)
    && (not (slice_index bs 0 == zero_digit && nat_lt 1 (length bs)) && all_ascii_digits bs)

-- The number that a field's bytes write.
unfoldable pub number : List ℕ → Option ℕ
number bs = cond (is_number bs) (Some (value_after 0 bs)) None

-- A number that is not 0, taken below zero.
abbrev pub negative : Option ℕ → Option ℤ
negative None = None
negative (Some zero) = None
negative (Some (suc n)) = Some (negsuc n)

-- A number as it is, among those that may be below zero.
abbrev pub positive : Option ℕ → Option ℤ
positive None = None
positive (Some n) = Some (pos n)

-- A number that may bear a minus, and is never -0.
unfoldable pub signed : List ℕ → Option ℤ
signed bs = cond (slice_index bs 0 == minus_sign) (negative (number (drop 1 bs))) (positive (number bs))

-- The methods of an opening, one letter for each account.
unfoldable pub methods : ℕ → List ℕ → Option (List ℕ)
methods accounts bs = cond (is_methods accounts bs) (Some bs) None
