-- Numbers, signed numbers and methods are read as they are spelled.
use Rattle.std.proofs.Common.{◌≡◌, ℕ, zero, suc, ◌^◌, ◌<◌, ◌≤◌, true, false, eqb, ◌&&◌, ◌||◌, List, [], ◌∷◌, ◌++◌, length, get_or, ℤ, pos, negsuc, IfSome, Some, None, decimal, Option, sym, refl, ap, ◌∙◌, ⊎_elim, arith, rules}
use Rattle.std.specs.List.{AllByRecursion, list_all}
use Rattle.std.specs.Str.{all_ascii_digits}
use Rattle.std.specs.Fmt.{signed_decimal as spelled}
use Rattle.std.specs.Option.{MatchOption, IsSomeAnd}
use Rattle.std.proofs.lemmas.Str.Parse.{IsNumeralModel, numerals_by_fold, digits_value_short}
use Rattle.std.proofs.lemmas.Fmt.{decimal_digit, digits_decimal, digits_value-decimal, length-decimal-le, decimal_nonempty, first_decimal, decimal-digits_value}
use Rattle.std.proofs.lemmas.Bool.{cases_lt, cases_Bool, eqb-true, ne_eqb, cond-true, cond-false, and_parts}
use Rattle.std.proofs.lemmas.Bool.Decides.{nat_tests}
use Rattle.lines.specs.Letters.{minus_sign, zero_digit, oldest_first_letter, designated_letter}
use Rattle.lines.specs.Said.{Short, ShortSigned, is_methods, all_methods}
use Rattle.lines.specs.Numbers.{value_after, is_number, number, negative, positive, signed, methods}
use Rattle.lines.proofs.Faithful.{Faithful, NoComma}

-- digits and their value, as the lemmas on decimal digits take them
own : IsNumeralModel (λ ds. all_ascii_digits ds ≡ true) (value_after 0)
own = numerals_by_fold _ (search rules) value_after (search rules)

-- 0 alone begins with the digit 0
leads : (n : ℕ) → n < 10 ^ 10 → get_or (decimal n) 0 0 ≡ zero_digit → length (decimal n) ≡ 1
leads n small zero_first =
    ⊎_elim (λ h. ap length (decimal_digit n (omega arith))) (λ h. absurd (omega (arith, first_decimal n (omega arith) (omega arith)))) (cases_lt n 1)

-- a number is read back from its digits
number_back : (n : ℕ) → Short n → number (decimal n) ≡ Some n
unfolding number
number_back n small =
    let some = decimal_nonempty n (omega arith) in
    let long = length-decimal-le 10 n (omega arith) small (omega arith) in
    let digits = digits_decimal own n (omega arith) in
    let value = digits_value-decimal own n (omega arith) in
    let lead = leads n small in
    grind (arith, nat_tests)

-- the digits that are read are those of the number
number_forth : (f : List ℕ) (n : ℕ) → number f ≡ Some n → (decimal n ≡ f) × Short n
unfolding number
number_forth f n e =
    let is : is_number f ≡ true = grind (arith, nat_tests) in
    let value : value_after 0 f ≡ n = grind (arith, nat_tests) in
    let digits : all_ascii_digits f ≡ true = grind (arith, nat_tests) in
    let small = digits_value_short own f 10 digits (grind (arith, nat_tests)) in
    (sym (ap decimal value) ∙ decimal-digits_value own f digits (grind (arith, nat_tests)) (λ h. grind (arith, nat_tests)) (omega arith), omega arith)

-- so numbers are read as they are spelled
pub numbers_faithful : Faithful number decimal Short
numbers_faithful = record { back = number_back; forth = number_forth }

-- what a number below zero was read from
negative_some : (o : Option ℕ) (z : ℤ) → negative o ≡ Some z → (n : ℕ) × (o ≡ Some (suc n)) × (z ≡ negsuc n)
negative_some None z e = absurd (let y : ◌≡◌ {A = ℕ} 0 1 = cc in omega arith)
negative_some (Some zero) z e = absurd (let y : ◌≡◌ {A = ℕ} 0 1 = cc in omega arith)
negative_some (Some (suc n)) z e = (n, refl, cc)

-- and one that is not
positive_some : (o : Option ℕ) (z : ℤ) → positive o ≡ Some z → (n : ℕ) × (o ≡ Some n) × (z ≡ pos n)
positive_some None z e = absurd (let y : ◌≡◌ {A = ℕ} 0 1 = cc in omega arith)
positive_some (Some n) z e = (n, refl, cc)

-- no digit is a comma
digits_plain : (ds : List ℕ) → all_ascii_digits ds ≡ true → NoComma ds
digits_plain [] e = tt
digits_plain (c ∷ cs) e =
    ((λ is. let y : ◌≡◌ {A = ℕ} 0 1 = grind (arith, nat_tests) in omega arith), digits_plain cs (and_parts _ _ e).1)

-- nor is one in a number
pub decimal_plain : (n : ℕ) → Short n → NoComma (decimal n)
decimal_plain n small = digits_plain (decimal n) (digits_decimal own n (omega arith))

-- digits begin with no minus
no_minus : (ds : List ℕ) → all_ascii_digits ds ≡ true → eqb (get_or ds 0 0) minus_sign ≡ false
no_minus [] e = refl
no_minus (c ∷ cs) e = grind (arith, nat_tests)

-- points are read back from their spelling
signed_back : (z : ℤ) → ShortSigned z → signed (spelled z) ≡ Some z
unfolding signed
signed_back (pos n) small =
    cond-false _ _ _ (no_minus (decimal n) (digits_decimal own n (omega arith))) ∙ ap positive (number_back n small)
signed_back (negsuc n) small = ap negative (number_back (suc n) small)

module _ (c : ℕ) (cs : List ℕ) (z : ℤ) where
  -- points with a minus are spelled as they were read
  with_minus : eqb c minus_sign ≡ true → negative (number cs) ≡ Some z → (spelled z ≡ c ∷ cs) × ShortSigned z
  with_minus is e =
      let n = negative_some (number cs) z e in
      let f = number_forth cs (suc n.0) n.1 in
      let first = sym (eqb-true c minus_sign is) in rw n.2 ((λ i. first i ∷ f.0 i), f.1)

-- and so are those without
without_minus : (f : List ℕ) (z : ℤ) → positive (number f) ≡ Some z → (spelled z ≡ f) × ShortSigned z
without_minus f z e = let n = positive_some (number f) z e in rw n.2 (number_forth f n.0 n.1)

-- and so all
signed_forth : (f : List ℕ) (z : ℤ) → signed f ≡ Some z → (spelled z ≡ f) × ShortSigned z
unfolding signed
signed_forth [] z e = without_minus [] z e
signed_forth (c ∷ cs) z e =
    ⊎_elim
    (λ is. with_minus c cs z is (sym (cond-true _ _ _ is) ∙ e))
    (λ not_so. without_minus (c ∷ cs) z (sym (cond-false _ _ _ not_so) ∙ e))
    (cases_Bool (eqb c minus_sign))

-- what a field says that begins with a minus,
pub signed_below : (f ds : List ℕ) → f ≡ (minus_sign ∷ []) ++ ds → signed f ≡ negative (number ds)
unfolding signed
signed_below f ds e = rw e refl

-- and what any other says
pub signed_above : (f : List ℕ) → ((ds : List ℕ) → f ≡ (minus_sign ∷ []) ++ ds → ⊥) → signed f ≡ positive (number f)
unfolding signed
signed_above [] other = refl
signed_above (c ∷ cs) other = cond-false _ _ _ (ne_eqb c minus_sign (λ is. other cs (ap (λ d. d ∷ cs) is)))

-- a number of a field without a minus, as the code makes it of a number
pub mapped : (o : Option ℕ) (r : Option ℤ) (P : ℕ → ℤ → Type 0) → MatchOption o (r ≡ None) (λ n. IsSomeAnd r (P n)) → IfSome o Short → ((n : ℕ) (z : ℤ) → Short n → P n z → z ≡ pos n) → r ≡ positive o
mapped None r P is short each = is
mapped (Some n) None P is short each = absurd is
mapped (Some n) (Some z) P is short each = ap Some (each n z short is)

-- so points are read as they are spelled
pub signed_faithful : Faithful signed spelled ShortSigned
signed_faithful = record { back = signed_back; forth = signed_forth }

-- no comma is in points
pub spelled_plain : (z : ℤ) → ShortSigned z → NoComma (spelled z)
spelled_plain (pos n) small = decimal_plain n small
spelled_plain (negsuc n) small = ((λ is. omega arith), decimal_plain (suc n) small)

-- good methods are read as they stand
pub methods_back : (a : ℕ) (f : List ℕ) → is_methods a f ≡ true → methods a f ≡ Some f
unfolding methods
methods_back a f is = cond-true _ _ _ is

-- others are not read
pub methods_none : (a : ℕ) (f : List ℕ) → is_methods a f ≡ false → methods a f ≡ None
unfolding methods
methods_none a f is = cond-false _ _ _ is

-- what is read is what stood there
methods_forth : (a : ℕ) (f g : List ℕ) → methods a f ≡ Some g → (g ≡ f) × (is_methods a g ≡ true)
unfolding methods
methods_forth a f g e =
    let is : is_methods a f ≡ true = grind (arith, nat_tests) in let same : g ≡ f = grind (arith, nat_tests) in (same, rw same is)

-- so methods are read as they are spelled
pub methods_faithful : (a : ℕ) → Faithful (methods a) (λ f. f) (λ f. is_methods a f ≡ true)
methods_faithful a = record { back = methods_back a; forth = methods_forth a }

-- every letter is a method's, as std's `all` says it
pub all_methods_is : (bs : List ℕ) → list_all (λ b. eqb b oldest_first_letter || eqb b designated_letter) bs ≡ all_methods bs
all_methods_is [] = refl
all_methods_is (b ∷ bs) = ap (λ t. (eqb b oldest_first_letter || eqb b designated_letter) && t) (all_methods_is bs)

-- no method is a comma
all_plain : (f : List ℕ) → all_methods f ≡ true → NoComma f
all_plain [] e = tt
all_plain (b ∷ bs) e = ((λ is. let y : ◌≡◌ {A = ℕ} 0 1 = grind (arith, nat_tests) in omega arith), all_plain bs (and_parts _ _ e).1)

-- nor is one in the field
pub methods_plain : (a : ℕ) (f : List ℕ) → is_methods a f ≡ true → NoComma f
methods_plain a f is = all_plain f (and_parts _ _ is).1

-- letters are small numbers
all_short : (f : List ℕ) → all_methods f ≡ true → AllByRecursion Short f
all_short [] e = tt
all_short (b ∷ bs) e = (grind (arith, nat_tests), all_short bs (and_parts _ _ e).1)

-- in the whole field too
pub methods_short : (a : ℕ) (f : List ℕ) → is_methods a f ≡ true → AllByRecursion Short f
methods_short a f is = all_short f (and_parts _ _ is).1

-- there are as many methods as accounts, and at most 64
pub methods_long : (a : ℕ) (f : List ℕ) → is_methods a f ≡ true → (length f ≡ a) × (a ≤ 64)
methods_long a f is = (grind (arith, nat_tests), grind (arith, nat_tests))

-- what is read is short
pub number_short : (f : List ℕ) → IfSome (number f) Short
number_short f = at (number f) refl
  where
    at : (o : Option ℕ) → number f ≡ o → IfSome o Short
    at None e = tt
    at (Some n) e = (number_forth f n e).1
