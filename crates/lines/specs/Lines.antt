-- How an event is written as a line, and what a line says.
use Rattle.std.specs.Prelude.{◌≡◌, ℕ, ◌+◌, ◌-◌, Bool, true, cond, ◌&&◌, List, [], ◌∷◌, ◌++◌, map, length, take, drop, replicate, ℤ, pos, Ok, Err, decimal, Result, ◌==◌, slice_index}
use Rattle.std.specs.List.{flat_map}
use Rattle.std.specs.Fmt.{signed_decimal as spelled}
use Rattle.lines.specs.declared.event.Event.{Event}
use Rattle.lines.specs.Letters.{opening_letter, schedule_letter, line_feed}
use Rattle.lines.specs.Said.{Said, Sayable, most_numbers, most_accounts, products, is_call, number_count, method_count, price_count, point_count, accounts}
use Rattle.lines.specs.Numbers.{number, signed, methods}
use Rattle.lines.specs.Fields.{split, sewn, ended, body, listed}
use Rattle.lines.specs.Figures.{figures, and_then}

-- The parts of an event.
abbrev pub said : Event → Said
said e = record { kind = e.kind; numbers = e.numbers; methods = e.methods; prices = e.prices; points = e.points }

-- The field of an opening's methods; no field for another letter.
abbrev pub method_fields : Said → List (List ℕ)
method_fields s = take (method_count s.kind) (take (accounts s) s.methods ∷ [])

-- The fields after the letter.
abbrev pub later_fields : Said → List (List ℕ)
later_fields s =
    map decimal (take (number_count s.kind) s.numbers)
    ++ (method_fields s
    ++ (map decimal (take (price_count s.kind) s.prices)
    ++ map spelled (take (point_count s.kind) s.points)))

-- All fields: the letter, and those after it.
abbrev pub fields_of : Said → List (List ℕ)
fields_of s = (s.kind ∷ []) ∷ later_fields s

-- The line of an event: its fields with commas between them, and a line feed.
unfoldable pub text : Said → List ℕ
text s = sewn (fields_of s) ++ line_feed ∷ []

-- The parts of that line, each field with the comma before it: the numbers,
unfoldable pub numbers_text : Said → List ℕ
numbers_text s = listed decimal (take (number_count s.kind) s.numbers)

-- the methods,
unfoldable pub methods_text : Said → List ℕ
methods_text s = listed (λ f. f) (method_fields s)

-- the prices,
unfoldable pub prices_text : Said → List ℕ
prices_text s = listed decimal (take (price_count s.kind) s.prices)

-- and the points.
unfoldable pub points_text : Said → List ℕ
points_text s = listed spelled (take (point_count s.kind) s.points)

-- How many fields follow a letter.
abbrev pub field_count : ℕ → ℕ
field_count k = number_count k + method_count k + price_count k + point_count k

-- A table of `room` places that begins with xs; every other place holds `none`.
abbrev pub padded : {X : Type 0} → X → ℕ → List X → List X
padded none room xs = xs ++ replicate (room - length xs) none

-- The event of a letter and of what its fields hold.
abbrev pub filled : ℕ → List ℕ → List (List ℕ) → List ℕ → List ℤ → Said
filled k ns ms ps qs = record {
  kind = k;
  numbers = padded 0 most_numbers ns;
  methods = padded 0 most_accounts (flat_map (λ m. m) ms);
  prices = padded 0 products ps;
  points = padded (pos 0) products qs;
}

-- What the fields after the letter k say, where n are numbers, m methods, p prices and q points, or the first bad field.
-- The letter is field 1, so the first of them is field 2.
abbrev pub meant_by : (n m p q : ℕ) → ℕ → List (List ℕ) → Result Said ℕ
meant_by n m p q k fs =
    and_then (figures number 2 (take n fs)) (λ ns.
    and_then (figures (methods (slice_index ns 0)) (2 + n) (take m (drop n fs))) (λ ms.
    and_then (figures number (2 + n + m) (take p (drop (n + m) fs))) (λ ps.
    and_then (figures signed (2 + n + m + p) (take q (drop (n + m + p) fs))) (λ qs.
    Ok (filled k ns ms ps qs)))))

-- What the fields after a letter say, where there are as many as that letter has.
abbrev pub meant : ℕ → List (List ℕ) → Result Said ℕ
meant k fs = meant_by (number_count k) (method_count k) (price_count k) (point_count k) k fs

-- The letter may stand on that line: the opening on line 1, the schedule on line 2, the six others elsewhere.
abbrev pub may_stand : ℕ → ℕ → Bool
may_stand at k = cond (at == 1) (k == opening_letter) (cond (at == 2) (k == schedule_letter) (is_call k))

-- A field that is one letter, which may stand on that line.
abbrev pub is_letter : ℕ → List ℕ → Bool
is_letter at f = length f == 1 && may_stand at (slice_index f 0)

-- What a line's fields say. The letter is tested first (field 1), then the line feed and how many fields there are (told as 0),
-- then the fields in their order.
abbrev pub fields_say : ℕ → Bool → List (List ℕ) → Result Said ℕ
fields_say at ended [] = Err 1
fields_say at ended (f ∷ fs) =
    cond (is_letter at f)
    (cond (ended && length fs == field_count (slice_index f 0)) (meant (slice_index f 0) fs) (Err 0))
    (Err 1)

-- What a line says, by its number and its bytes, or the field that is refused.
unfoldable pub parsed : ℕ → List ℕ → Result Said ℕ
parsed at line = fields_say at (ended line) (split (body line))

-- The line is in the format: it is the line of an event, on a line where its letter may stand.
abbrev pub InFormat : ℕ → List ℕ → Type 0
InFormat at line = (s : Said) × Sayable s × (may_stand at s.kind ≡ true) × (text s ≡ line)
