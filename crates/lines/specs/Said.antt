-- What an event line can say.
use Rattle.std.specs.Prelude.{◌≡◌, ℕ, ◌*◌, ◌^◌, ◌<◌, ◌≤◌, Bool, true, cond, ◌&&◌, ◌||◌, List, [], ◌∷◌, length, take, ℤ, pos, ◌==◌, nat_le, nat_lt, slice_index, slice_index_or, unsigned_abs}
use Rattle.lines.specs.Letters.{opening_letter, schedule_letter, trade_letter, declaration_letter, deposit_letter, withdrawal_letter, rollover_letter, report_letter, oldest_first_letter, designated_letter}

-- The parts of an event: its letter, its plain numbers, the accounts' methods, the prices (or base amounts) and the points.
pub record Said : Type 0 where
  pub kind : ℕ
  pub numbers : List ℕ
  pub methods : List ℕ
  pub prices : List ℕ
  pub points : List ℤ

-- No number has more digits than this.
abbrev pub most_digits : ℕ
most_digits = 10

-- No line has more plain numbers than this.
abbrev pub most_numbers : ℕ
most_numbers = 5

-- No book has more accounts than this.
abbrev pub most_accounts : ℕ
most_accounts = 64

-- How many products there are.
abbrev pub products : ℕ
products = 16

-- The letters of the calls that follow the opening and the schedule.
abbrev pub is_call : ℕ → Bool
is_call k =
    (k == trade_letter)
    || (k == declaration_letter || (k == deposit_letter || (k == withdrawal_letter || (k == rollover_letter || k == report_letter))))

-- All eight letters.
abbrev pub is_kind : ℕ → Bool
is_kind k = k == opening_letter || (k == schedule_letter || is_call k)

-- What stands after a letter, in this order: so many plain numbers,
abbrev pub number_count : ℕ → ℕ
number_count k =
    cond (k == trade_letter || k == declaration_letter) 5
    (cond (k == deposit_letter || k == withdrawal_letter) 2
    (cond (k == schedule_letter) 0 1))

-- one field of methods or none,
abbrev pub method_count : ℕ → ℕ
method_count k = cond (k == opening_letter) 1 0

-- a price (or a base amount) for each product or none,
abbrev pub price_count : ℕ → ℕ
price_count k = cond (k == opening_letter || (k == schedule_letter || k == rollover_letter)) products 0

-- and points for each product or none.
abbrev pub point_count : ℕ → ℕ
point_count k = cond (k == rollover_letter) products 0

-- A table of `room` places, of which the first `used` are in use, and each other holds `none`.
abbrev pub Filled : {X : Type 0} → X → (X → Type 0) → ℕ → ℕ → List X → Type 0
Filled none Fits room used xs =
    (length xs ≡ room) × ((i : ℕ) → Fits (slice_index_or xs i none)) × ((i : ℕ) → used ≤ i → slice_index_or xs i none ≡ none)

-- A number with no more digits than a field can have.
abbrev pub Short : ℕ → Type 0
Short n = n < 10 ^ most_digits

-- The same of a number that may be below zero.
abbrev pub ShortSigned : ℤ → Type 0
ShortSigned z = unsigned_abs z < 10 ^ most_digits

-- Every byte is the letter of a method.
abbrev pub all_methods : List ℕ → Bool
all_methods [] = true
all_methods (b ∷ bs) = (b == oldest_first_letter || b == designated_letter) && all_methods bs

-- One letter for each account, of which there are 1 to 64.
abbrev pub is_methods : ℕ → List ℕ → Bool
is_methods accounts bs = (length bs == accounts && (nat_lt 0 accounts && nat_le accounts most_accounts)) && all_methods bs

-- The first number: of an opening, how many accounts there are.
abbrev pub accounts : Said → ℕ
accounts s = slice_index s.numbers 0

-- What holds of every event: what its letter uses is well formed, and every other place holds 0.
pub record Sayable (s : Said) : Type 0 where
  pub known : is_kind s.kind ≡ true
  pub numbered : Filled 0 Short most_numbers (number_count s.kind) s.numbers
  pub lettered : Filled 0 Short most_accounts (method_count s.kind * accounts s) s.methods
  pub methodical : method_count s.kind ≡ 1 → is_methods (accounts s) (take (accounts s) s.methods) ≡ true
  pub priced : Filled 0 Short products (price_count s.kind) s.prices
  pub pointed : Filled (pos 0) ShortSigned products (point_count s.kind) s.points

-- A letter that `count` plain numbers follow, and nothing else.
pub record Plain (k count : ℕ) : Type 0 where
  pub known : is_kind k ≡ true
  pub few : count ≤ most_numbers
  pub numbers : number_count k ≡ count
  pub methods : method_count k ≡ 0
  pub prices : price_count k ≡ 0
  pub points : point_count k ≡ 0
