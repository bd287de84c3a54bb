-- How commas part a text into fields, and how a line ends.
use Rattle.std.specs.Prelude.{ℕ, ◌-◌, Bool, cond, List, [], ◌∷◌, ◌++◌, length, take, ◌==◌, slice_index}
use Rattle.std.specs.List.{flat_map}
use Rattle.lines.specs.Letters.{comma, line_feed}

-- The fields with the bytes bs put before the first of them.
abbrev pub onto : List ℕ → List (List ℕ) → List (List ℕ)
onto bs [] = bs ∷ []
onto bs (f ∷ fs) = (bs ++ f) ∷ fs

-- The fields of a text, parted at each comma: always one or more.
abbrev pub split : List ℕ → List (List ℕ)
split [] = [] ∷ []
split (c ∷ cs) = cond (c == comma) ([] ∷ split cs) (onto (c ∷ []) (split cs))

-- The fields of what follows a field: nothing, or a comma and more fields.
abbrev pub fields_after : List ℕ → List (List ℕ)
fields_after [] = []
fields_after (c ∷ cs) = split cs

-- Each of xs as a field, with a comma before it.
abbrev pub listed : {X : Type 0} → (X → List ℕ) → List X → List ℕ
listed spell xs = flat_map (λ x. comma ∷ spell x) xs

-- Fields with commas put between them.
abbrev pub sewn : List (List ℕ) → List ℕ
sewn [] = []
sewn (f ∷ fs) = f ++ listed (λ g. g) fs

-- The line's last byte is a line feed.
abbrev pub ended : List ℕ → Bool
ended line = slice_index line (length line - 1) == line_feed

-- A line without the line feed at its end, if it has one.
abbrev pub body : List ℕ → List ℕ
body line = take (cond (ended line) (length line - 1) (length line)) line
