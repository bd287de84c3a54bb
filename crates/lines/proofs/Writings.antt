-- One thing written after another.
use Rattle.std.proofs.Common.{◌≡◌, ℕ, ◌+◌, ◌-◌, ◌/◌, ◌%◌, ◌^◌, ◌<◌, ◌≤◌, true, false, List, [], ◌∷◌, ◌++◌, length, get_or, take, drop, set, ℤ, pos, negsuc, nat_abs, decimal, sym, refl, ap, ◌∙◌, subst, append_assoc, append-nil, add-zero, add_assoc, mod-eq_of_lt, add-one, arith, w64, SFits, to_z, of_z}
use Rattle.std.specs.List.{flat_map}
use borrow.Rule.Slice.PartMut.{put_mid}
use lib.Signed.{lt_z}
use Rattle.std.specs.Fmt.{signed_decimal}
use Rattle.std.proofs.lemmas.Int.{ints}
use Rattle.lines.specs.Letters.{minus_sign, zero_digit}
use Rattle.std.proofs.lemmas.List.{set_split, drop-drop, take_at, drop_at, length-append, length-take-le, length-drop, take-append-drop, take_more}
use Rattle.std.proofs.lemmas.Fmt.{decimal_digit, decimal_step}
use Rattle.lines.specs.Written.{written, Wrote}

-- one byte written
pub written_byte : (old : List ℕ) (at b : ℕ) → at < length old → set old at b ≡ written old at (b ∷ [])
written_byte old at b lt = set_split old at b lt ∙ ap (λ n. take at old ++ (b ∷ drop n old)) (sym (add-one at))

-- a part of the bytes copied
pub written_part : (old bs part : List ℕ) (at : ℕ) → part ≡ bs → put_mid at (at + length bs - at) old part ≡ written old at bs
written_part old bs part at same =
    let k : at + (at + length bs - at) ≡ at + length bs = omega arith in
    λ i. take at old ++ (same i ++ (drop-drop (at + length bs - at) at old ∙ ap (λ n. drop n old) k) i)

module _ (old : List ℕ) (at : ℕ) (xs : List ℕ) (room : at + length xs ≤ length old) where
  -- how long the front is with what was written
  front_long : length (take at old ++ xs) ≡ at + length xs
  front_long = length-append (take at old) xs ∙ ap (λ n. n + length xs) (length-take-le at old (omega arith))

  -- front and rest
  regrouped : written old at xs ≡ (take at old ++ xs) ++ drop (at + length xs) old
  regrouped = sym (append_assoc (take at old) xs (drop (at + length xs) old))

  -- what is written keeps the length
  length_written : length (written old at xs) ≡ length old
  length_written = ap length regrouped ∙ length-append (take at old ++ xs) _ ∙ simp length-drop (omega (arith, front_long))

  -- and more written after it
  written_more : (ys : List ℕ) → written (written old at xs) (at + length xs) ys ≡ written old at (xs ++ ys)
  written_more ys =
      let front : take (at + length xs) (written old at xs) ≡ take at old ++ xs = ap (take (at + length xs)) regrouped ∙ take_at (take at old ++ xs) _ (at + length xs) front_long in
      let back : drop (at + length xs) (written old at xs) ≡ drop (at + length xs) old = ap (drop (at + length xs)) regrouped ∙ drop_at (take at old ++ xs) _ (at + length xs) front_long in
      let past : drop (at + length xs + length ys) (written old at xs) ≡ drop (at + length (xs ++ ys)) old =
      sym (drop-drop (length ys) (at + length xs) (written old at xs)) ∙ ap (drop (length ys)) back ∙ drop-drop (length ys) (at + length xs) old
      ∙ ap (λ n. drop n old) (add_assoc at (length xs) (length ys) ∙ ap (λ n. at + n) (sym (length-append xs ys))) in
      (λ i. front i ++ (ys ++ past i)) ∙ append_assoc (take at old) xs _ ∙ ap (λ t. take at old ++ t) (sym (append_assoc xs ys _))

-- a number of one digit
pub one_digit : (n : ℕ) → n < 10 → decimal n ≡ (zero_digit + n % 10) ∷ []
one_digit n small = decimal_digit n small ∙ ap (λ d. (zero_digit + d) ∷ []) (sym (mod-eq_of_lt small))

-- one digit more than the number without its last
pub more_digits : (n : ℕ) → 10 ≤ n → n < 2 ^ 64 → length (decimal n) ≡ length (decimal (n / 10)) + 1
more_digits n large fits = ap length (decimal_step n large fits) ∙ length-append (decimal (n / 10)) ((zero_digit + n % 10) ∷ [])

module _ {old : List ℕ} {at : ℕ} {xs : List ℕ} {new : List ℕ} {end : ℕ} (first : Wrote old at xs new end) (room : at + length xs ≤ length old) where
  -- a writer keeps the length
  pub wrote_long : length new ≡ length old
  wrote_long = ap length first.bytes ∙ length_written old at xs room

  -- and then ys after it
  pub wrote_then : {ys new' : List ℕ} {end' : ℕ} → Wrote new end ys new' end' → Wrote old at (xs ++ ys) new' end'
  wrote_then {ys} second = record {
    ends = second.ends ∙ ap (λ n. n + length ys) first.ends ∙ add_assoc at (length xs) (length ys) ∙ ap (λ n. at + n) (sym (length-append xs ys));
    bytes = second.bytes ∙ (λ i. written (first.bytes i) (first.ends i) ys) ∙ written_more old at xs room ys;
  }

-- the same bytes
pub wrote_same : {old : List ℕ} {at : ℕ} {xs ys : List ℕ} {new : List ℕ} {end : ℕ} → xs ≡ ys → Wrote old at xs new end → Wrote old at ys new end
wrote_same {old} {at} {xs} {ys} {new} {end} e h = subst (λ bs. Wrote old at bs new end) e h

-- nothing written
pub wrote_none : (old : List ℕ) (at : ℕ) → Wrote old at [] old at
wrote_none old at = record { ends = sym (add-zero at); bytes = sym (ap (λ n. take at old ++ drop n old) (add-zero at) ∙ take-append-drop at old) }

-- two lists, one after the other
pub joined_append : {X : Type 0} (f : X → List ℕ) (xs ys : List X) → flat_map f (xs ++ ys) ≡ flat_map f xs ++ flat_map f ys
joined_append f [] ys = refl
joined_append f (x ∷ xs) ys = ap (λ t. f x ++ t) (joined_append f xs ys) ∙ sym (append_assoc (f x) (flat_map f xs) (flat_map f ys))

-- the next item of a table that is written item by item
module _ {X : Type 0} (f : X → List ℕ) (table : List X) (i : ℕ) (x : X) (lt : i < length table) (is : x ≡ get_or table i x) where
  -- its text,
  pub joined_next : flat_map f (take (i + 1) table) ≡ flat_map f (take i table) ++ f x
  joined_next =
      ap (flat_map f) (take_more table i x lt ∙ ap (λ y. take i table ++ y ∷ []) (sym is)) ∙ joined_append f (take i table) (x ∷ [])
      ∙ ap (λ t. flat_map f (take i table) ++ t) (append-nil (f x))

  -- and the room for it
  pub joined_room : length (flat_map f (take i table)) + length (f x) ≤ length (flat_map f table)
  joined_room =
      let parts = ap length (ap (flat_map f) (sym (take-append-drop (i + 1) table)) ∙ joined_append f (take (i + 1) table) (drop (i + 1) table)) ∙ length-append (flat_map f (take (i + 1) table)) (flat_map f (drop (i + 1) table)) in
      let next = ap length joined_next ∙ length-append (flat_map f (take i table)) (f x) in
      omega arith

-- a front of `whole` was written, and `rest` is left of it
pub record Led (old : List ℕ) (at : ℕ) (rest whole : List ℕ) (new : List ℕ) (end : ℕ) : Type 0 where
  pub front : List ℕ
  pub wrote : Wrote old at front new end
  pub is : front ++ rest ≡ whole

module _ {old : List ℕ} {at : ℕ} {rest whole : List ℕ} {new : List ℕ} {end : ℕ} (h : Led old at rest whole new end) (room : at + length whole ≤ length old) where
  -- there is room for the front
  led_fits : at + length h.front ≤ length old
  led_fits = omega (arith, ap length h.is, length-append h.front rest)

  -- and for what is left,
  pub led_room : end + length rest ≤ length new
  led_room = omega (arith, ap length h.is, length-append h.front rest, h.wrote.ends, wrote_long h.wrote led_fits)

  -- and with it all is written
  pub led_then : {new' : List ℕ} {end' : ℕ} → Wrote new end rest new' end' → Wrote old at whole new' end'
  led_then more = wrote_same h.is (wrote_then h.wrote led_fits more)

-- nothing is written yet
pub led_start : (old : List ℕ) (at : ℕ) {rest whole : List ℕ} → rest ≡ whole → Led old at rest whole old at
led_start old at is = record { front = []; wrote = wrote_none old at; is = is }

module _ {old : List ℕ} {at : ℕ} (part rest : List ℕ) {whole : List ℕ} {new : List ℕ} {end : ℕ} (h : Led old at (part ++ rest) whole new end) (room : at + length whole ≤ length old) where
  -- there is room for the next part,
  pub part_room : end + length part ≤ length new
  part_room = omega (arith, led_room h room, length-append part rest)

  -- and then the rest is left
  pub led_next : {new' : List ℕ} {end' : ℕ} → Wrote new end part new' end' → Led old at rest whole new' end'
  led_next more = record { front = h.front ++ part; wrote = wrote_then h.wrote (led_fits h room) more; is = append_assoc h.front part rest ∙ h.is }

-- a number's digits before the last one: some,
pub led_digits : {old new : List ℕ} {at end : ℕ} (n : ℕ) → 10 ≤ n → n < 2 ^ 64 → Wrote old at (decimal (n / 10)) new end → Led old at ((zero_digit + n % 10) ∷ []) (decimal n) new end
led_digits n large fits h = record { front = decimal (n / 10); wrote = h; is = sym (decimal_step n large fits) }

-- or none
pub led_digit : (old : List ℕ) (at n : ℕ) → n < 10 → Led old at ((zero_digit + n % 10) ∷ []) (decimal n) old at
led_digit old at n small = record { front = []; wrote = wrote_none old at; is = sym (one_digit n small) }

-- a number below zero, as the code spells it,
pub minus_spelled : (z : ℤ) → SFits w64 z → lt_z (to_z w64 (of_z w64 z)) (pos 0) ≡ true → (minus_sign ∷ []) ++ decimal (nat_abs (to_z w64 (of_z w64 z))) ≡ signed_decimal z
minus_spelled (pos n) fits below = absurd (let y : ◌≡◌ {A = ℕ} 0 1 = grind (arith, ints) in omega arith)
minus_spelled (negsuc n) fits below =
    let e : to_z w64 (of_z w64 (negsuc n)) ≡ negsuc n = omega (arith, ints) in ap (λ y. minus_sign ∷ decimal (nat_abs y)) e

-- and any other
plus_spelled : (z : ℤ) → SFits w64 z → lt_z (to_z w64 (of_z w64 z)) (pos 0) ≡ false → decimal (nat_abs (to_z w64 (of_z w64 z))) ≡ signed_decimal z
plus_spelled (pos n) fits above = let e : to_z w64 (of_z w64 (pos n)) ≡ pos n = omega (arith, ints) in ap (λ y. decimal (nat_abs y)) e
plus_spelled (negsuc n) fits above = absurd (let y : ◌≡◌ {A = ℕ} 0 1 = grind (arith, ints) in omega arith)

-- a number's sign: a minus,
pub led_minus : {old new : List ℕ} {at end : ℕ} (z : ℤ) → SFits w64 z → lt_z (to_z w64 (of_z w64 z)) (pos 0) ≡ true → Wrote old at (minus_sign ∷ []) new end → Led old at (decimal (nat_abs (to_z w64 (of_z w64 z)))) (signed_decimal z) new end
led_minus z fits below h = record { front = minus_sign ∷ []; wrote = h; is = minus_spelled z fits below }

-- or nothing
pub led_plus : (old : List ℕ) (at : ℕ) (z : ℤ) → SFits w64 z → lt_z (to_z w64 (of_z w64 z)) (pos 0) ≡ false → Led old at (decimal (nat_abs (to_z w64 (of_z w64 z)))) (signed_decimal z) old at
led_plus old at z fits above = record { front = []; wrote = wrote_none old at; is = plus_spelled z fits above }
