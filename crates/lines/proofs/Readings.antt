-- What each field reader has read: the event that its tables make is what its fields mean, or the first bad field is the one refused.
use Rattle.std.proofs.Common.{◌≡◌, ℕ, ◌+◌, ◌-◌, ◌*◌, ◌≤◌, true, false, List, [], ◌∷◌, ◌++◌, length, get_or, take, drop, replicate, ℤ, pos, IsErrAnd, None, Ok, Err, Option, Result, sym, refl, ap, ◌∙◌, append-nil, arith}
use Rattle.std.proofs.lemmas.List.{length-take, length-take-le, drop-replicate, get_or_append_left}
use Rattle.std.specs.Option.{ok_or}
use Rattle.std.proofs.lemmas.Result.{err_from_is_err_and}
use Rattle.lines.specs.Letters.{opening_letter, schedule_letter, rollover_letter}
use Rattle.lines.specs.Numbers.{number, signed, methods}
use Rattle.lines.specs.Figures.{before, figures, and_then}
use Rattle.lines.specs.Said.{Said, Sayable, Plain, Filled, Short, ShortSigned, is_kind, is_methods, number_count, method_count, price_count, point_count, accounts}
use Rattle.lines.specs.Lines.{padded, filled, meant_by, meant, field_count}
use Rattle.lines.specs.Readings.{answer, kept, Reading, Filling}
use Rattle.refusals.specs.declared.Refusal.{Refusal}
use Rattle.refusals.specs.declared.Refusal.TheVariants.{Line}
use Rattle.lines.proofs.Faithful.{figures_long}
use Rattle.lines.proofs.Figured.{methods_back, methods_none}
use Rattle.lines.proofs.Tables.{next_drop}
use Rattle.lines.proofs.Meant.{parts, parts_sayable, whole, part_long, bad_methods, bad_prices, bad_points}

-- tables of which no place is used
abbrev zeros : ℕ → List ℕ
zeros n = replicate n 0

abbrev no_points : List ℤ
no_points = replicate 16 (pos 0)

-- the event that a reader makes of its tables
abbrev made : ℕ → List ℕ → List ℕ → List ℕ → List ℤ → Said
made k ns ls ps qs = record { kind = k; numbers = ns; methods = ls; prices = ps; points = qs }

-- what the event must hold to be made
pub ghosts : {s : Said} → Sayable s → record {
  known : is_kind s.kind ≡ true;
  numbered : Filled 0 Short 5 (number_count s.kind) s.numbers;
  lettered : Filled 0 Short 64 (method_count s.kind * accounts s) s.methods;
  methodical : method_count s.kind ≡ 1 → is_methods (accounts s) (take (accounts s) s.methods) ≡ true;
  priced : Filled 0 Short 16 (price_count s.kind) s.prices;
  pointed : Filled (pos 0) ShortSigned 16 (point_count s.kind) s.points;
}
ghosts y = record { known = y.known; numbered = y.numbered; lettered = y.lettered; methodical = y.methodical; priced = y.priced; pointed = y.pointed }

-- what is read can be said by an event
meant_sayable : (k : ℕ) (fs : List (List ℕ)) (s : Said) → is_kind k ≡ true → length fs ≡ field_count k → meant k fs ≡ Ok s → Sayable s
meant_sayable k fs s known long e = parts_sayable k fs long s (parts _ _ _ _ k fs s e) known

-- what a reader shows where it has accepted its fields, and where it refuses them
pub accepted : {p : Result Said ℕ} {old s : Said} → p ≡ Ok s → Reading p (Ok tt) old s
accepted {old = old} e = record { answers = sym (ap answer e); keeps = sym (ap (λ p. kept p old) e) }

pub refused : {p : Result Said ℕ} {r : Result (Unit {0}) Refusal} {old : Said} {bad : ℕ} → p ≡ Err bad → r ≡ Err (Line bad) → Reading p r old old
refused {old = old} e is = record { answers = is ∙ sym (ap answer e); keeps = sym (ap (λ p. kept p old) e) }

-- the bad field that the refusal of a table names
named : {X : Type 0} (p : Result X ℕ) (refusal : Refusal) → answer p ≡ Err refusal → (bad : ℕ) × (p ≡ Err bad) × (refusal ≡ Line bad)
named (Ok x) refusal e = absurd (let z : ◌≡◌ {A = ℕ} 0 1 = cc in omega arith)
named (Err bad) refusal e = (bad, refl, cc)

-- a reader that passes this refusal on by a `?`
pub passed_on : {X : Type 0} {p : Result X ℕ} {q : Result Said ℕ} {refusal : Refusal} {old : Said} (r : Result (Unit {0}) Refusal) → IsErrAnd r (λ e. e ≡ refusal) → answer p ≡ Err refusal → ((bad : ℕ) → p ≡ Err bad → q ≡ Err bad) → Reading q r old old
passed_on {p = p} {refusal = refusal} r by e follows =
    let n = named p refusal e in let is = err_from_is_err_and r by in refused (follows n.0 n.1) (is.1 ∙ ap Err (is.2 ∙ n.2))

-- a reader that makes this refusal of a field that says nothing
pub refused_field : {X R : Type 0} {o : Option X} {place : ℕ} {refusal : Refusal} (r : Result R Refusal) → IsErrAnd r (λ e. e ≡ refusal) → Err refusal ≡ ok_or o (Line place) → o ≡ None → r ≡ Err (Line place)
refused_field {place = place} {refusal = refusal} r by value none =
    let is = err_from_is_err_and r by in let named : refusal ≡ Line place = let e = rw none at value in cc in is.1 ∙ ap Err (is.2 ∙ named)

-- a table that is not filled
pub not_filled : {X R : Type 0} {p : Result (List X) ℕ} (table : List X) (follows : R → Type 0) {bad : ℕ} {r : Result R Refusal} → r ≡ Err (Line bad) → p ≡ Err bad → Filling p r table follows
not_filled table follows is e = rw is (ap answer e)

-- a run of fields that is told by its place and its fields
pub read_at : {X : Type 0} (reads : List ℕ → Option X) (n : ℕ) {p q : ℕ} {fs gs : List (List ℕ)} {r : Result (List X) ℕ} → p ≡ q → fs ≡ gs → figures reads p (take n fs) ≡ r → figures reads q (take n gs) ≡ r
read_at reads n place same h = sym (λ i. figures reads (place i) (take n (same i))) ∙ h

-- a table whose first places were read
front_padded : {X : Type 0} (none : X) (room count : ℕ) (xs : List X) → length xs ≡ count → xs ++ drop count (replicate room none) ≡ padded none room xs
front_padded none room count xs long =
    ap (λ t. xs ++ t) (drop-replicate count room none ∙ ap (λ n. replicate (room - n) none) (sym long))

-- a table that was read whole
whole_padded : {X : Type 0} (none : X) (room : ℕ) (xs : List X) → length xs ≡ room → padded none room xs ≡ xs
whole_padded none room xs long =
    let z : room - length xs ≡ 0 = omega arith in ap (λ n. xs ++ replicate n none) z ∙ append-nil xs

-- the numbers where there is one
some_padded : (xs : List ℕ) → length xs ≡ 1 → padded 0 5 xs ≡ xs ++ zeros 4
some_padded xs long = ap (λ n. xs ++ zeros (5 - n)) long

-- as many figures are read as there are fields
read_as_long : {X : Type 0} (reads : List ℕ → Option X) (p i n : ℕ) (fs : List (List ℕ)) (xs : List X) → i + n ≤ length fs → figures reads p (take n (drop i fs)) ≡ Ok xs → length xs ≡ n
read_as_long reads p i n fs xs enough e = figures_long reads p _ xs e ∙ part_long fs i n enough

-- T, C, D, W and M: numbers alone, read into the front of a table
module _ {k count : ℕ} (plain : Plain k count) (fs : List (List ℕ)) (long : length fs ≡ count) where
  -- only the numbers are read
  plain_is : meant k fs ≡ meant_by count 0 0 0 k fs
  plain_is = λ i. meant_by (plain.numbers i) (plain.methods i) (plain.prices i) (plain.points i) k fs

  -- the front, as the code cuts it
  part : length (take count (zeros 5)) ≡ count
  part = simp length-take (omega (arith, plain.few))

  -- a bad number
  pub plain_bad : (bad : ℕ) → figures number 2 (take (length (take count (zeros 5))) fs) ≡ Err bad → meant k fs ≡ Err bad
  plain_bad bad e = plain_is ∙ ap (λ r. and_then r (λ ns. Ok (filled k ns [] [] []))) (ap (λ n. figures number 2 (take n fs)) (sym part) ∙ e)

  module _ {ns : List ℕ} (e : figures number 2 (take (length (take count (zeros 5))) fs) ≡ Ok ns) where
    -- the numbers that were read
    read : figures number 2 (take count fs) ≡ Ok ns
    read = ap (λ n. figures number 2 (take n fs)) (sym part) ∙ e

    -- and the table that they are in
    table : padded 0 5 ns ≡ ns ++ drop count (zeros 5)
    table =
        sym (front_padded 0 5 count ns (figures_long number 2 _ ns read ∙ length-take-le count fs (omega arith)))

    -- all numbers are good
    pub plain_good : meant k fs ≡ Ok (made k (ns ++ drop count (zeros 5)) (zeros 64) (zeros 16) no_points)
    plain_good =
        plain_is ∙ ap (λ r. and_then r (λ xs. Ok (filled k xs [] [] []))) read ∙ ap (λ t. Ok (made k t (zeros 64) (zeros 16) no_points)) table

    -- and make an event
    pub plain_sayable : Sayable (made k (ns ++ drop count (zeros 5)) (zeros 64) (zeros 16) no_points)
    plain_sayable =
        meant_sayable k fs _ plain.known (omega (arith, plain.numbers, plain.methods, plain.prices, plain.points)) plain_good

-- S
module _ (fs : List (List ℕ)) (long : length fs ≡ 16) where
  -- a bad amount
  pub schedule_bad : (bad : ℕ) → figures number 2 (take 16 fs) ≡ Err bad → meant schedule_letter fs ≡ Err bad
  schedule_bad bad e = bad_prices 0 0 16 0 schedule_letter fs [] [] [] bad refl refl e

  module _ {ps : List ℕ} (p_is : figures number 2 (take 16 fs) ≡ Ok ps) where
    -- all amounts are good
    pub schedule_good : meant schedule_letter fs ≡ Ok (made schedule_letter (zeros 5) (zeros 64) ps no_points)
    schedule_good = whole 0 0 16 0 schedule_letter fs _ (record {
      ns = [];
      ms = [];
      ps = ps;
      qs = [];
      is_ns = refl;
      is_ms = refl;
      is_ps = p_is;
      is_qs = refl;
      all = ap (λ t. made schedule_letter (zeros 5) (zeros 64) t no_points) (whole_padded 0 16 ps (read_as_long number 2 0 16 fs ps (omega arith) p_is));
    })

    -- and make an event
    pub schedule_sayable : Sayable (made schedule_letter (zeros 5) (zeros 64) ps no_points)
    schedule_sayable = meant_sayable schedule_letter fs _ refl long schedule_good

-- R
module _ (fs : List (List ℕ)) (long : length fs ≡ 33) {ns : List ℕ} (n_is : figures number 2 (take 1 fs) ≡ Ok ns) where
  -- a bad price
  pub rollover_bad_prices : (bad : ℕ) → figures number 3 (take 16 (drop 1 fs)) ≡ Err bad → meant rollover_letter fs ≡ Err bad
  rollover_bad_prices bad e = bad_prices 1 0 16 16 rollover_letter fs ns [] [] bad n_is refl e

  module _ {ps : List ℕ} (p_is : figures number 3 (take 16 (drop 1 fs)) ≡ Ok ps) where
    -- bad points
    pub rollover_bad_points : (bad : ℕ) → figures signed 19 (take 16 (drop 17 fs)) ≡ Err bad → meant rollover_letter fs ≡ Err bad
    rollover_bad_points bad e = bad_points 1 0 16 16 rollover_letter fs ns [] ps bad n_is refl p_is e

    module _ {qs : List ℤ} (q_is : figures signed 19 (take 16 (drop 17 fs)) ≡ Ok qs) where
      -- all are good
      pub rollover_good : meant rollover_letter fs ≡ Ok (made rollover_letter (ns ++ zeros 4) (zeros 64) ps qs)
      rollover_good = whole 1 0 16 16 rollover_letter fs _ (record {
        ns = ns;
        ms = [];
        ps = ps;
        qs = qs;
        is_ns = n_is;
        is_ms = refl;
        is_ps = p_is;
        is_qs = q_is;
        all = λ i. made rollover_letter (numbers i) (zeros 64) (prices i) (points i);
      })
        where
          numbers : padded 0 5 ns ≡ ns ++ zeros 4
          numbers = some_padded ns (read_as_long number 2 0 1 fs ns (omega arith) n_is)

          prices : padded 0 16 ps ≡ ps
          prices = whole_padded 0 16 ps (read_as_long number 3 1 16 fs ps (omega arith) p_is)

          points : padded (pos 0) 16 qs ≡ qs
          points = whole_padded (pos 0) 16 qs (read_as_long signed 19 17 16 fs qs (omega arith) q_is)

      -- and make an event
      pub rollover_sayable : Sayable (made rollover_letter (ns ++ zeros 4) (zeros 64) ps qs)
      rollover_sayable = meant_sayable rollover_letter fs _ refl long rollover_good

-- O, where f is the field of the methods and `more` the fields after it
module _ (fs : List (List ℕ)) (long : length fs ≡ 18) {ns : List ℕ} (n_is : figures number 2 (take 1 fs) ≡ Ok ns) {f : List ℕ} {more : List (List ℕ)} (e : drop 1 fs ≡ f ∷ more) where
  -- the accounts, in the table and as they were read
  same_accounts : get_or (ns ++ zeros 4) 0 0 ≡ get_or ns 0 0
  same_accounts = get_or_append_left ns (zeros 4) 0 0 (omega (arith, read_as_long number 2 0 1 fs ns (omega arith) n_is))

  -- the methods are one field
  letters_first : figures (methods (get_or ns 0 0)) 3 (take 1 (drop 1 fs)) ≡ before 3 (methods (get_or ns 0 0) f) (Ok [])
  letters_first = rw e

  -- bad methods
  pub opening_bad_methods : is_methods (get_or (ns ++ zeros 4) 0 0) f ≡ false → meant opening_letter fs ≡ Err 3
  opening_bad_methods is =
      bad_methods 1 1 16 0 opening_letter fs ns [] [] 3 n_is
      (letters_first ∙ ap (λ o. before 3 o (Ok [])) (methods_none (get_or ns 0 0) f (sym (ap (λ a. is_methods a f) same_accounts) ∙ is)))

  module _ (is : is_methods (get_or (ns ++ zeros 4) 0 0) f ≡ true) where
    -- good methods
    m_is : figures (methods (get_or ns 0 0)) 3 (take 1 (drop 1 fs)) ≡ Ok (f ∷ [])
    m_is =
        letters_first
        ∙ ap (λ o. before 3 o (Ok [])) (methods_back (get_or ns 0 0) f (sym (ap (λ a. is_methods a f) same_accounts) ∙ is))

    -- the prices stand after them
    past : drop 2 fs ≡ more
    past = next_drop fs 1 f more e

    -- a bad price
    pub opening_bad_prices : (bad : ℕ) → figures number 4 (take 16 more) ≡ Err bad → meant opening_letter fs ≡ Err bad
    opening_bad_prices bad h =
        bad_prices 1 1 16 0 opening_letter fs ns (f ∷ []) [] bad n_is m_is (ap (λ t. figures number 4 (take 16 t)) past ∙ h)

    module _ {ls : List ℕ} (copied : ls ≡ f) {ps : List ℕ} (p_is : figures number 4 (take 16 more) ≡ Ok ps) where
      -- good prices
      p_there : figures number 4 (take 16 (drop 2 fs)) ≡ Ok ps
      p_there = ap (λ t. figures number 4 (take 16 t)) past ∙ p_is

      -- all are good
      pub opening_good : meant opening_letter fs ≡ Ok (made opening_letter (ns ++ zeros 4) (ls ++ drop (length f) (zeros 64)) ps no_points)
      opening_good = whole 1 1 16 0 opening_letter fs _ (record {
        ns = ns;
        ms = f ∷ [];
        ps = ps;
        qs = [];
        is_ns = n_is;
        is_ms = m_is;
        is_ps = p_there;
        is_qs = refl;
        all = λ i. made opening_letter (numbers i) (letters i) (prices i) no_points;
      })
        where
          numbers : padded 0 5 ns ≡ ns ++ zeros 4
          numbers = some_padded ns (read_as_long number 2 0 1 fs ns (omega arith) n_is)

          letters : padded 0 64 (f ++ []) ≡ ls ++ drop (length f) (zeros 64)
          letters =
              ap (padded 0 64) (append-nil f) ∙ sym (front_padded 0 64 (length f) f refl)
              ∙ ap (λ t. t ++ drop (length f) (zeros 64)) (sym copied)

          prices : padded 0 16 ps ≡ ps
          prices = whole_padded 0 16 ps (read_as_long number 4 2 16 fs ps (omega arith) p_there)

      -- and make an event
      pub opening_sayable : Sayable (made opening_letter (ns ++ zeros 4) (ls ++ drop (length f) (zeros 64)) ps no_points)
      opening_sayable = meant_sayable opening_letter fs _ refl long opening_good
