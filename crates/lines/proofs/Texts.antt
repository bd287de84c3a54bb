-- A line's text, part by part.
use Rattle.std.proofs.Common.{◌≡◌, ℕ, suc, ◌+◌, ◌*◌, ◌≤◌, eqb, List, [], ◌∷◌, ◌++◌, map, length, take, ℤ, pos, negsuc, decimal, sym, refl, ap, ◌∙◌, append_assoc, append-nil, mul-suc, arith}
use Rattle.std.specs.List.{flat_map, AllByRecursion}
use Rattle.std.specs.Fmt.{signed_decimal as spelled}
use Rattle.std.proofs.lemmas.List.{length-append}
use Rattle.std.proofs.lemmas.Fmt.{length-decimal-le}
use Rattle.std.proofs.lemmas.Bool.{cond-true, cond-false, eq-eqb, ne_eqb}
use Rattle.std.proofs.lemmas.Bool.Decides.{nat_tests}
use Rattle.lines.specs.Letters.{opening_letter, comma, line_feed}
use Rattle.lines.specs.declared.event.Event.{Event}
use Rattle.lines.specs.Said.{Said, Sayable, Short, ShortSigned, number_count, method_count, price_count, point_count, accounts}
use Rattle.lines.specs.Fields.{listed}
use Rattle.lines.specs.Lines.{said, text, method_fields, numbers_text, methods_text, prices_text, points_text}
use Rattle.lines.proofs.Padded.{used_fit, used_long}
use Rattle.lines.proofs.Figured.{methods_long}
use Rattle.lines.proofs.Meant.{few, none_or_one}
use Rattle.lines.proofs.Writings.{joined_append}

-- what holds of an event holds of what it says
pub event_sayable : (e : Event) → Sayable (said e)
event_sayable e =
    record { known = e.known; numbered = e.numbered; lettered = e.lettered; methodical = e.methodical; priced = e.priced; pointed = e.pointed }

-- the fields of a table, spelled first or while they are listed
listed_map : {X : Type 0} (spell : X → List ℕ) (xs : List X) → listed (λ g. g) (map spell xs) ≡ listed spell xs
listed_map spell [] = refl
listed_map spell (x ∷ xs) = ap (λ t. (comma ∷ spell x) ++ t) (listed_map spell xs)

-- four lists of fields, one after the other
four_listed : (xs ys zs ws : List (List ℕ)) (t : List ℕ) → listed (λ g. g) (xs ++ (ys ++ (zs ++ ws))) ++ t ≡ listed (λ g. g) xs ++ (listed (λ g. g) ys ++ (listed (λ g. g) zs ++ (listed (λ g. g) ws ++ t)))
four_listed xs ys zs ws t = simp (joined_append, append_assoc)

-- a table of fields that are no wider than w
joined_long : {X : Type 0} (f : X → List ℕ) (Fits : X → Type 0) (w : ℕ) → ((x : X) → Fits x → length (f x) ≤ w) → (xs : List X) → AllByRecursion Fits xs → length (flat_map f xs) ≤ w * length xs
joined_long f Fits w each [] all = omega arith
joined_long f Fits w each (x ∷ xs) all =
    omega (arith, length-append (f x) (flat_map f xs), each x all.0, joined_long f Fits w each xs all.1, mul-suc w (length xs))

-- the widest fields, each with its comma
number_long : (n : ℕ) → Short n → length (comma ∷ decimal n) ≤ 11
number_long n short = omega (arith, length-decimal-le 10 n (omega arith) short (omega arith))

point_long : (z : ℤ) → ShortSigned z → length (comma ∷ spelled z) ≤ 12
point_long (pos n) short = omega (arith, length-decimal-le 10 n (omega arith) short (omega arith))
point_long (negsuc n) short = omega (arith, length-decimal-le 10 (suc n) (omega arith) short (omega arith))

-- the widest line, without its letter and its line feed
widths : (k : ℕ) → 11 * number_count k + 65 * method_count k + 11 * price_count k + 12 * point_count k ≤ 379
widths k = grind (arith, nat_tests)

-- a line by its parts
pub text_is : (s : Said) → (s.kind ∷ []) ++ (numbers_text s ++ (methods_text s ++ (prices_text s ++ (points_text s ++ (line_feed ∷ []))))) ≡ text s
unfolding text numbers_text methods_text prices_text points_text
text_is s =
    let n = sym (listed_map decimal (take (number_count s.kind) s.numbers)) in
    let p = sym (listed_map decimal (take (price_count s.kind) s.prices)) in
    let q = sym (listed_map spelled (take (point_count s.kind) s.points)) in
    ap (λ t. s.kind ∷ t) ((λ i. n i ++ (listed (λ g. g) (method_fields s) ++ (p i ++ (q i ++ line_feed ∷ []))))
    ∙ sym (four_listed (map decimal (take (number_count s.kind) s.numbers)) (method_fields s) (map decimal (take (price_count s.kind) s.prices)) (map spelled (take (point_count s.kind) s.points)) (line_feed ∷ [])))

-- how long a line is, by its parts
pub text_long : (s : Said) → length (text s) ≡ 1 + (length (numbers_text s) + (length (methods_text s) + (length (prices_text s) + (length (points_text s) + 1))))
text_long s = sym (ap length (text_is s)) ∙ simp length-append (omega arith)

module _ (s : Said) (h : Sayable s) where
  -- what is written of each table fits a field
  pub numbers_fit : AllByRecursion Short (take (number_count s.kind) s.numbers)
  numbers_fit = used_fit 0 Short 5 (number_count s.kind) s.numbers (few s.kind).0 h.numbered

  pub prices_fit : AllByRecursion Short (take (price_count s.kind) s.prices)
  prices_fit = used_fit 0 Short 16 (price_count s.kind) s.prices (few s.kind).2 h.priced

  pub points_fit : AllByRecursion ShortSigned (take (point_count s.kind) s.points)
  points_fit = used_fit (pos 0) ShortSigned 16 (point_count s.kind) s.points (few s.kind).3 h.pointed

  -- how wide each part of the line can be
  numbers_wide : length (numbers_text s) ≤ 11 * number_count s.kind
  unfolding numbers_text
  numbers_wide =
      omega (arith, joined_long (λ x. comma ∷ decimal x) Short 11 number_long _ numbers_fit, used_long 0 Short 5 (number_count s.kind) s.numbers (few s.kind).0 h.numbered)

  prices_wide : length (prices_text s) ≤ 11 * price_count s.kind
  unfolding prices_text
  prices_wide =
      omega (arith, joined_long (λ x. comma ∷ decimal x) Short 11 number_long _ prices_fit, used_long 0 Short 16 (price_count s.kind) s.prices (few s.kind).2 h.priced)

  points_wide : length (points_text s) ≤ 12 * point_count s.kind
  unfolding points_text
  points_wide =
      omega (arith, joined_long (λ x. comma ∷ spelled x) ShortSigned 12 point_long _ points_fit, used_long (pos 0) ShortSigned 16 (point_count s.kind) s.points (few s.kind).3 h.pointed)

  methods_wide : length (methods_text s) ≤ 65 * method_count s.kind
  unfolding methods_text
  methods_wide =
      none_or_one (method_count s.kind) (few s.kind).1
      (λ none. rw none (omega arith))
      (λ one. let long = methods_long (accounts s) (take (accounts s) s.methods) (h.methodical one) in rw one (omega (arith, length-append (take (accounts s) s.methods) [], long.0, long.1)))

  -- and so the longest line there is
  pub text_fits : length (text s) ≤ 381
  text_fits = omega (arith, text_long s, numbers_wide, methods_wide, prices_wide, points_wide, widths s.kind)

-- the tables as the code cuts them: how much is used,
module _ (s : Said) (h : Sayable s) (r : ℕ) where
  pub numbers_cut_fit : r ≡ number_count s.kind → AllByRecursion Short (take r s.numbers)
  numbers_cut_fit e = rw e (numbers_fit s h)

  pub prices_cut_fit : r ≡ price_count s.kind → AllByRecursion Short (take r s.prices)
  prices_cut_fit e = rw e (prices_fit s h)

  pub points_cut_fit : r ≡ point_count s.kind → AllByRecursion ShortSigned (take r s.points)
  points_cut_fit e = rw e (points_fit s h)

-- and how it is spelled
module _ (s : Said) (r : ℕ) where
  pub numbers_cut : r ≡ number_count s.kind → listed decimal (take r s.numbers) ≡ numbers_text s
  unfolding numbers_text
  numbers_cut e = ap (λ n. listed decimal (take n s.numbers)) e

  pub prices_cut : r ≡ price_count s.kind → listed decimal (take r s.prices) ≡ prices_text s
  unfolding prices_text
  prices_cut e = ap (λ n. listed decimal (take n s.prices)) e

  pub points_cut : r ≡ point_count s.kind → listed spelled (take r s.points) ≡ points_text s
  unfolding points_text
  points_cut e = ap (λ n. listed spelled (take n s.points)) e

-- an opening has methods, and no other kind has
pub no_methods : (s : Said) → (s.kind ≡ opening_letter → ⊥) → [] ≡ methods_text s
unfolding methods_text
no_methods s other =
    sym (ap (λ m. listed (λ f. f) (take m (take (accounts s) s.methods ∷ []))) (cond-false (eqb s.kind opening_letter) 1 0 (ne_eqb s.kind opening_letter other)))

pub some_methods : (s : Said) → s.kind ≡ opening_letter → (comma ∷ []) ++ take (accounts s) s.methods ≡ methods_text s
unfolding methods_text
some_methods s is =
    ap (λ t. comma ∷ t) (sym (append-nil (take (accounts s) s.methods)))
    ∙ sym (ap (λ m. listed (λ f. f) (take m (take (accounts s) s.methods ∷ []))) (cond-true (eqb s.kind opening_letter) 1 0 (eq-eqb s.kind opening_letter is)))
