-- What fields say is an event that has those fields, and an event's fields say that event.
use Rattle.std.proofs.Common.{◌≡◌, ℕ, zero, suc, ◌+◌, ◌*◌, ◌<◌, ◌≤◌, true, List, [], ◌∷◌, ◌++◌, map, length, get_or, take, drop, ℤ, pos, Ok, Err, decimal, Result, sym, refl, ap, ◌∙◌, subst, append-nil, one-mul, zero-mul, arith}
use Rattle.std.specs.List.{flat_map, AllByRecursion}
use Rattle.std.specs.Fmt.{signed_decimal as spelled}
use Rattle.std.proofs.lemmas.List.{length-map, length-take-le, length-drop, length-append, take-append-drop, drop-drop, take_all, take_at, drop_at, get_or-take, map-id}
use Rattle.std.proofs.lemmas.Bool.Decides.{nat_tests}
use Rattle.lines.specs.Numbers.{number, signed, methods}
use Rattle.lines.specs.Figures.{figures, and_then}
use Rattle.lines.specs.Said.{Said, Sayable, Filled, Short, ShortSigned, is_kind, is_methods, number_count, method_count, price_count, point_count, accounts}
use Rattle.lines.specs.Lines.{padded, filled, meant_by, field_count, later_fields, fields_of}
use Rattle.lines.proofs.Faithful.{figures_back, figures_forth}
use Rattle.lines.proofs.Figured.{numbers_faithful, signed_faithful, methods_faithful, methods_short, methods_long}
use Rattle.lines.proofs.Padded.{filled_padded, take_padded, padded_used, used_fit, used_long, getD_padded}

-- both steps were good
and_then_ok : {X Y : Type 0} (r : Result X ℕ) (f : X → Result Y ℕ) (y : Y) → and_then r f ≡ Ok y → (x : X) × (r ≡ Ok x) × (f x ≡ Ok y)
and_then_ok (Ok x) f y e = (x, refl, e)
and_then_ok (Err bad) f y e = absurd (let z : ◌≡◌ {A = ℕ} 0 1 = cc in omega arith)

-- what is read of fs, part by part
pub record Parts (n m p q : ℕ) (k : ℕ) (fs : List (List ℕ)) (s : Said) : Type 0 where
  pub ns : List ℕ
  pub ms : List (List ℕ)
  pub ps : List ℕ
  pub qs : List ℤ
  pub is_ns : figures number 2 (take n fs) ≡ Ok ns
  pub is_ms : figures (methods (get_or ns 0 0)) (2 + n) (take m (drop n fs)) ≡ Ok ms
  pub is_ps : figures number (2 + n + m) (take p (drop (n + m) fs)) ≡ Ok ps
  pub is_qs : figures signed (2 + n + m + p) (take q (drop (n + m + p) fs)) ≡ Ok qs
  pub all : filled k ns ms ps qs ≡ s

-- what is read of all fields is read part by part
pub parts : (n m p q k : ℕ) (fs : List (List ℕ)) (s : Said) → meant_by n m p q k fs ≡ Ok s → Parts n m p q k fs s
parts n m p q k fs s e =
    let a = and_then_ok _ _ s e in
    let b = and_then_ok _ _ s a.2 in
    let d = and_then_ok _ _ s b.2 in
    let f = and_then_ok _ _ s d.2 in
    record { ns = a.0; ms = b.0; ps = d.0; qs = f.0; is_ns = a.1; is_ms = b.1; is_ps = d.1; is_qs = f.1; all = cc f.2 }

-- and put together again
pub whole : (n m p q k : ℕ) (fs : List (List ℕ)) (s : Said) → Parts n m p q k fs s → meant_by n m p q k fs ≡ Ok s
whole n m p q k fs s h = rw (h.is_ns, h.is_ms, h.is_ps, h.is_qs) (ap Ok h.all)

-- where a part is bad: the answer is its first bad field
module _ (n m p q k : ℕ) (fs : List (List ℕ)) (ns : List ℕ) (ms : List (List ℕ)) (ps : List ℕ) (bad : ℕ) where
  module _ (is_ns : figures number 2 (take n fs) ≡ Ok ns) where
    -- the methods,
    pub bad_methods : figures (methods (get_or ns 0 0)) (2 + n) (take m (drop n fs)) ≡ Err bad → meant_by n m p q k fs ≡ Err bad
    bad_methods e = rw (is_ns, e)

    module _ (is_ms : figures (methods (get_or ns 0 0)) (2 + n) (take m (drop n fs)) ≡ Ok ms) where
      -- the prices,
      pub bad_prices : figures number (2 + n + m) (take p (drop (n + m) fs)) ≡ Err bad → meant_by n m p q k fs ≡ Err bad
      bad_prices e = rw (is_ns, is_ms, e)

      -- and the points
      pub bad_points : figures number (2 + n + m) (take p (drop (n + m) fs)) ≡ Ok ps → figures signed (2 + n + m + p) (take q (drop (n + m + p) fs)) ≡ Err bad → meant_by n m p q k fs ≡ Err bad
      bad_points is_ps e = rw (is_ns, is_ms, is_ps, e)

-- how many fields a part has
pub part_long : (fs : List (List ℕ)) (i j : ℕ) → i + j ≤ length fs → length (take j (drop i fs)) ≡ j
part_long fs i j h = length-take-le j (drop i fs) (simp length-drop (omega arith))

-- as many were read as they spell
read_long : {X : Type 0} (spell : X → List ℕ) (xs : List X) (fs : List (List ℕ)) → map spell xs ≡ fs → length xs ≡ length fs
read_long spell xs fs e = sym (length-map xs spell) ∙ ap length e

-- the methods, of which a line has none or one
record Letters (a m : ℕ) (gs ms : List (List ℕ)) : Type 0 where
  lettered : Filled 0 Short 64 (m * a) (padded 0 64 (flat_map (λ f. f) ms))
  methodical : m ≡ 1 → is_methods a (take a (padded 0 64 (flat_map (λ f. f) ms))) ≡ true
  field : take m (take a (padded 0 64 (flat_map (λ f. f) ms)) ∷ []) ≡ gs

module _ (a p : ℕ) where
  letters_of : (gs ms : List (List ℕ)) → length gs ≤ 1 → map (λ f. f) ms ≡ gs → AllByRecursion (λ f. is_methods a f ≡ true) ms → Letters a (length gs) gs ms
  letters_of [] [] few same all =
      record { lettered = filled_padded 0 Short 64 [] (0 * a) (omega arith) (omega arith) (omega arith) tt; methodical = λ one. absurd (omega arith); field = refl }
  letters_of [] (m ∷ ms) few same all = absurd (omega (arith, ap length same))
  letters_of (g ∷ []) [] few same all = absurd (omega (arith, ap length same))
  letters_of (g ∷ []) (f ∷ []) few same all =
      let long = methods_long a f all.0 in
      let front : take a (padded 0 64 (f ++ [])) ≡ f = rw append-nil (take_padded 0 64 a f long.0) in
      let is : f ≡ g = cc in
      record {
        lettered = rw append-nil (filled_padded 0 Short 64 f (1 * a) (omega arith) (omega arith) (omega arith) (methods_short a f all.0));
        methodical = λ one. rw front all.0;
        field = ap (λ t. t ∷ []) (front ∙ is);
      }
  letters_of (g ∷ []) (f ∷ f' ∷ ms) few same all = absurd (omega (arith, ap length same))
  letters_of (g ∷ g' ∷ gs) ms few same all = absurd (omega arith)

-- four parts of a list make the list
quarters : (n m p q : ℕ) (fs : List (List ℕ)) → length fs ≡ n + m + p + q → take n fs ++ (take m (drop n fs) ++ (take p (drop (n + m) fs) ++ take q (drop (n + m + p) fs))) ≡ fs
quarters n m p q fs long =
    let d = take_all q (drop (n + m + p) fs) (simp length-drop (omega arith)) in
    let c = ap (λ t. take p (drop (n + m) fs) ++ t) (d ∙ sym (drop-drop p (n + m) fs)) ∙ take-append-drop p (drop (n + m) fs) in
    let b = ap (λ t. take m (drop n fs) ++ t) (c ∙ sym (drop-drop m n fs)) ∙ take-append-drop m (drop n fs) in
    ap (λ t. take n fs ++ t) b ∙ take-append-drop n fs

-- how many fields of each sort there can be
pub few : (k : ℕ) → (number_count k ≤ 5) × (method_count k ≤ 1) × (price_count k ≤ 16) × (point_count k ≤ 16) × (method_count k ≡ 1 → 0 < number_count k)
few k = (grind (arith, nat_tests), grind (arith, nat_tests), grind (arith, nat_tests), grind (arith, nat_tests), λ one. grind (arith, nat_tests))

module _ (k : ℕ) (fs : List (List ℕ)) (long : length fs ≡ field_count k) (s : Said) (h : Parts (number_count k) (method_count k) (price_count k) (point_count k) k fs s) where
  -- what was read of each part spells that part, and fits
  numbers_are : (map decimal h.ns ≡ take (number_count k) fs) × AllByRecursion Short h.ns
  numbers_are = figures_forth numbers_faithful 2 _ h.ns h.is_ns

  prices_are : (map decimal h.ps ≡ take (price_count k) (drop (number_count k + method_count k) fs)) × AllByRecursion Short h.ps
  prices_are = figures_forth numbers_faithful (2 + number_count k + method_count k) _ h.ps h.is_ps

  points_are : (map spelled h.qs ≡ take (point_count k) (drop (number_count k + method_count k + price_count k) fs)) × AllByRecursion ShortSigned h.qs
  points_are = figures_forth signed_faithful (2 + number_count k + method_count k + price_count k) _ h.qs h.is_qs

  -- and how much it is
  numbers_long : length h.ns ≡ number_count k
  numbers_long = read_long decimal h.ns _ numbers_are.0 ∙ part_long fs 0 (number_count k) (omega arith)

  prices_long : length h.ps ≡ price_count k
  prices_long = read_long decimal h.ps _ prices_are.0 ∙ part_long fs (number_count k + method_count k) (price_count k) (omega arith)

  points_long : length h.qs ≡ point_count k
  points_long = read_long spelled h.qs _ points_are.0 ∙ part_long fs (number_count k + method_count k + price_count k) (point_count k) (omega arith)

  -- the methods that were read
  letters_are : Letters (accounts (filled k h.ns h.ms h.ps h.qs)) (method_count k) (take (method_count k) (drop (number_count k) fs)) h.ms
  letters_are =
      let m = part_long fs (number_count k) (method_count k) (omega arith) in
      let e = figures_forth (methods_faithful (get_or h.ns 0 0)) (2 + number_count k) _ h.ms h.is_ms in
      subst (λ n. Letters n (method_count k) (take (method_count k) (drop (number_count k) fs)) h.ms) (sym (getD_padded 0 5 h.ns 0))
      (subst (λ n. Letters (get_or h.ns 0 0) n (take (method_count k) (drop (number_count k) fs)) h.ms) m
      (letters_of (get_or h.ns 0 0) 0 _ h.ms (omega (arith, (few k).1)) e.0 e.1))

  -- what was read can be said by an event
  pub parts_sayable : is_kind k ≡ true → Sayable s
  parts_sayable known =
      subst Sayable h.all (record {
        known = known;
        numbered = filled_padded 0 Short 5 h.ns (number_count k) numbers_long (few k).0 (omega arith) numbers_are.1;
        lettered = letters_are.lettered;
        methodical = letters_are.methodical;
        priced = filled_padded 0 Short 16 h.ps (price_count k) prices_long (few k).2 (omega arith) prices_are.1;
        pointed = filled_padded (pos 0) ShortSigned 16 h.qs (point_count k) points_long (few k).3 (omega arith) points_are.1;
      })

  -- and its fields are those that were read
  pub parts_fields : fields_of s ≡ (k ∷ []) ∷ fs
  parts_fields =
      ap fields_of (sym h.all)
      ∙ ap (λ gs. (k ∷ []) ∷ gs)
      ((λ i. numbers_back i ++ (letters_are.field i ++ (prices_back i ++ points_back i)))
      ∙ quarters (number_count k) (method_count k) (price_count k) (point_count k) fs long)
    where
      -- part by part
      numbers_back : map decimal (take (number_count k) (padded 0 5 h.ns)) ≡ take (number_count k) fs
      numbers_back = ap (map decimal) (take_padded 0 5 (number_count k) h.ns numbers_long) ∙ numbers_are.0

      prices_back : map decimal (take (price_count k) (padded 0 16 h.ps)) ≡ take (price_count k) (drop (number_count k + method_count k) fs)
      prices_back = ap (map decimal) (take_padded 0 16 (price_count k) h.ps prices_long) ∙ prices_are.0

      points_back : map spelled (take (point_count k) (padded (pos 0) 16 h.qs)) ≡ take (point_count k) (drop (number_count k + method_count k + price_count k) fs)
      points_back = ap (map spelled) (take_padded (pos 0) 16 (point_count k) h.qs points_long) ∙ points_are.0

-- the other way: an event's fields are read as the event
joined_methods : (m a : ℕ) (xs : List ℕ) → m ≤ 1 → flat_map (λ f. f) (take m (take a xs ∷ [])) ≡ take (m * a) xs
joined_methods zero a xs few = sym (ap (λ n. take n xs) (zero-mul a))
joined_methods (suc zero) a xs few = append-nil (take a xs) ∙ sym (ap (λ n. take n xs) (one-mul a))
joined_methods (suc (suc m)) a xs few = absurd (omega arith)

-- the field of methods, if there is one, is good
pub methods_all : (m a : ℕ) (xs : List ℕ) → m ≤ 1 → (m ≡ 1 → is_methods a (take a xs) ≡ true) → AllByRecursion (λ f. is_methods a f ≡ true) (take m (take a xs ∷ []))
methods_all zero a xs few is = tt
methods_all (suc zero) a xs few is = (is refl, tt)
methods_all (suc (suc m)) a xs few is = absurd (omega arith)

-- the parts of a list that is made of four
module _ {X : Type 0} (xs ys zs ws : List X) (n m p q : ℕ) (xn : length xs ≡ n) (ym : length ys ≡ m) (zp : length zs ≡ p) (wq : length ws ≡ q) where
  -- each part, and what follows it
  first_part : take n (xs ++ (ys ++ (zs ++ ws))) ≡ xs
  first_part = take_at xs _ n xn

  past_first : drop n (xs ++ (ys ++ (zs ++ ws))) ≡ ys ++ (zs ++ ws)
  past_first = drop_at xs _ n xn

  second_part : take m (drop n (xs ++ (ys ++ (zs ++ ws)))) ≡ ys
  second_part = ap (take m) past_first ∙ take_at ys _ m ym

  past_second : drop (n + m) (xs ++ (ys ++ (zs ++ ws))) ≡ zs ++ ws
  past_second = sym (drop-drop m n _) ∙ ap (drop m) past_first ∙ drop_at ys _ m ym

  third_part : take p (drop (n + m) (xs ++ (ys ++ (zs ++ ws)))) ≡ zs
  third_part = ap (take p) past_second ∙ take_at zs _ p zp

  fourth_part : take q (drop (n + m + p) (xs ++ (ys ++ (zs ++ ws)))) ≡ ws
  fourth_part = ap (take q) (sym (drop-drop p (n + m) _) ∙ ap (drop p) past_second ∙ drop_at zs _ p zp) ∙ take_all q ws (omega arith)

-- no field of methods, or one
pub none_or_one : {P : Type 0} (m : ℕ) → m ≤ 1 → (m ≡ 0 → P) → (m ≡ 1 → P) → P
none_or_one zero few none one = none refl
none_or_one (suc zero) few none one = one refl
none_or_one (suc (suc m)) few none one = absurd (omega arith)

module _ (s : Said) (h : Sayable s) where
  -- how many fields each part has
  numbers_used : length (map decimal (take (number_count s.kind) s.numbers)) ≡ number_count s.kind
  numbers_used =
      length-map (take (number_count s.kind) s.numbers) decimal ∙ used_long 0 Short 5 (number_count s.kind) s.numbers (few s.kind).0 h.numbered

  methods_used : length (take (method_count s.kind) (take (accounts s) s.methods ∷ [])) ≡ method_count s.kind
  methods_used = length-take-le (method_count s.kind) (take (accounts s) s.methods ∷ []) (omega (arith, (few s.kind).1))

  prices_used : length (map decimal (take (price_count s.kind) s.prices)) ≡ price_count s.kind
  prices_used =
      length-map (take (price_count s.kind) s.prices) decimal ∙ used_long 0 Short 16 (price_count s.kind) s.prices (few s.kind).2 h.priced

  points_used : length (map spelled (take (point_count s.kind) s.points)) ≡ point_count s.kind
  points_used =
      length-map (take (point_count s.kind) s.points) spelled ∙ used_long (pos 0) ShortSigned 16 (point_count s.kind) s.points (few s.kind).3 h.pointed

  -- and how many there are together
  pub fields_long : length (later_fields s) ≡ field_count s.kind
  fields_long = simp length-append (omega (arith, numbers_used, methods_used, prices_used, points_used))

  -- where there are methods, the accounts are among the numbers in use
  good_methods : AllByRecursion (λ f. is_methods (get_or (take (number_count s.kind) s.numbers) 0 0) f ≡ true) (take (method_count s.kind) (take (accounts s) s.methods ∷ []))
  good_methods =
      none_or_one (method_count s.kind) (few s.kind).1
      (λ none. rw none tt)
      (λ one. rw (get_or-take (number_count s.kind) s.numbers 0 0 ((few s.kind).4 one)) (methods_all (method_count s.kind) (accounts s) s.methods (few s.kind).1 h.methodical))

  -- each part of an event is read back from its fields
  pub sayable_parts : Parts (number_count s.kind) (method_count s.kind) (price_count s.kind) (point_count s.kind) s.kind (later_fields s) s
  sayable_parts = record {
    ns = take (number_count s.kind) s.numbers;
    ms = take (method_count s.kind) (take (accounts s) s.methods ∷ []);
    ps = take (price_count s.kind) s.prices;
    qs = take (point_count s.kind) s.points;
    is_ns = ap (figures number 2) (first_part _ _ _ _ _ _ _ _ numbers_used methods_used prices_used points_used) ∙ figures_back numbers_faithful 2 _ (used_fit 0 Short 5 (number_count s.kind) s.numbers (few s.kind).0 h.numbered);
    is_ms = ap (figures (methods (get_or (take (number_count s.kind) s.numbers) 0 0)) (2 + number_count s.kind)) (second_part _ _ _ _ _ _ _ _ numbers_used methods_used prices_used points_used ∙ sym (map-id _)) ∙ figures_back (methods_faithful _) _ _ good_methods;
    is_ps = ap (figures number (2 + number_count s.kind + method_count s.kind)) (third_part _ _ _ _ _ _ _ _ numbers_used methods_used prices_used points_used) ∙ figures_back numbers_faithful _ _ (used_fit 0 Short 16 (price_count s.kind) s.prices (few s.kind).2 h.priced);
    is_qs = ap (figures signed (2 + number_count s.kind + method_count s.kind + price_count s.kind)) (fourth_part _ _ _ _ _ _ _ _ numbers_used methods_used prices_used points_used) ∙ figures_back signed_faithful _ _ (used_fit (pos 0) ShortSigned 16 (point_count s.kind) s.points (few s.kind).3 h.pointed);
    all = same;
  }
    where
      -- and the tables are filled up as they were
      numbers_same : padded 0 5 (take (number_count s.kind) s.numbers) ≡ s.numbers
      numbers_same = padded_used 0 Short 5 (number_count s.kind) s.numbers (few s.kind).0 h.numbered

      room : method_count s.kind * accounts s ≤ 64
      room =
          none_or_one (method_count s.kind) (few s.kind).1
          (λ none. rw (none, zero-mul) (omega arith))
          (λ one. rw (one, one-mul) (methods_long (accounts s) (take (accounts s) s.methods) (h.methodical one)).1)

      methods_same : padded 0 64 (flat_map (λ f. f) (take (method_count s.kind) (take (accounts s) s.methods ∷ []))) ≡ s.methods
      methods_same =
          ap (padded 0 64) (joined_methods (method_count s.kind) (accounts s) s.methods (few s.kind).1)
          ∙ padded_used 0 Short 64 (method_count s.kind * accounts s) s.methods room h.lettered

      prices_same : padded 0 16 (take (price_count s.kind) s.prices) ≡ s.prices
      prices_same = padded_used 0 Short 16 (price_count s.kind) s.prices (few s.kind).2 h.priced

      points_same : padded (pos 0) 16 (take (point_count s.kind) s.points) ≡ s.points
      points_same = padded_used (pos 0) ShortSigned 16 (point_count s.kind) s.points (few s.kind).3 h.pointed

      same : filled s.kind (take (number_count s.kind) s.numbers) (take (method_count s.kind) (take (accounts s) s.methods ∷ [])) (take (price_count s.kind) s.prices) (take (point_count s.kind) s.points) ≡ s
      same = λ i. record { kind = s.kind; numbers = numbers_same i; methods = methods_same i; prices = prices_same i; points = points_same i }
