-- Tables of figures, whatever a figure is.
use Rattle.std.proofs.Common.{◌≡◌, ℕ, ◌+◌, ◌<◌, List, [], ◌∷◌, ◌++◌, length, get_or, take, drop, set, Some, None, Ok, Err, Option, Result, sym, refl, ap, ◌∙◌, add-zero, arith}
use Rattle.std.proofs.lemmas.List.{take_more, drop_more, take_more_set, take-take, get_or-take, length-take, length-drop, length-take-le, take-append-drop}
use Rattle.lines.specs.Fields.{fields_after}
use Rattle.lines.specs.Figures.{before, figures}

-- where fields follow, bytes follow
pub some_after : (bs : List ℕ) → 0 < length (fields_after bs) → 0 < length bs
some_after [] some = absurd (omega arith)
some_after (c ∷ cs) some = omega arith

-- the next of a list's elements
module _ {X : Type 0} (fs : List X) (i : ℕ) (f : X) (more : List X) (e : drop i fs ≡ f ∷ more) where
  -- there is one
  within : i < length fs
  within = omega (arith, length-drop i fs, ap length e)

  -- it is this
  next_is : get_or fs i f ≡ f
  next_is = let d = drop_more fs i f within in cc

  -- and what follows it
  pub next_drop : drop (i + 1) fs ≡ more
  next_drop = let d = drop_more fs i f within in cc

-- two readings, one after the other
abbrev both : {X : Type 0} → Result (List X) ℕ → Result (List X) ℕ → Result (List X) ℕ
both (Ok xs) (Ok ys) = Ok (xs ++ ys)
both (Ok xs) (Err e) = Err e
both (Err e) r = Err e

-- nothing read first
both_none : {X : Type 0} (r : Result (List X) ℕ) → r ≡ both (Ok []) r
both_none (Ok xs) = refl
both_none (Err e) = refl

-- one field before two readings
before_both : {X : Type 0} (p : ℕ) (o : Option X) (r s : Result (List X) ℕ) → before p o (both r s) ≡ both (before p o r) s
before_both p None r s = refl
before_both p (Some x) (Ok xs) (Ok ys) = refl
before_both p (Some x) (Ok xs) (Err e) = refl
before_both p (Some x) (Err e) s = refl

module _ {X : Type 0} (reads : List ℕ → Option X) where
  -- a run of fields in two parts
  figures_append : (p : ℕ) (fs gs : List (List ℕ)) → figures reads p (fs ++ gs) ≡ both (figures reads p fs) (figures reads (p + length fs) gs)
  figures_append p [] gs = both_none _ ∙ ap (λ q. both (Ok []) (figures reads q gs)) (sym (add-zero p))
  figures_append p (f ∷ fs) gs =
      let q : p + 1 + length fs ≡ p + length (f ∷ fs) = omega arith in
      ap (before p (reads f)) (figures_append (p + 1) fs gs)
      ∙ before_both p (reads f) (figures reads (p + 1) fs) _
      ∙ ap (λ q. both (figures reads p (f ∷ fs)) (figures reads q gs)) q

  module _ (p : ℕ) (fs : List (List ℕ)) (i : ℕ) (lt : i < length fs) (f : List ℕ) (here : get_or fs i f ≡ f) (xs : List X) (good : figures reads p (take i fs) ≡ Ok xs) where
    -- one good field more
    figures_more : (x : X) → reads f ≡ Some x → figures reads p (take (i + 1) fs) ≡ Ok (xs ++ x ∷ [])
    figures_more x is =
        ap (figures reads p) (take_more fs i f lt) ∙ figures_append p (take i fs) (get_or fs i f ∷ [])
        ∙ ap (λ r. both r (figures reads (p + length (take i fs)) (get_or fs i f ∷ []))) good
        ∙ ap (λ o. both (Ok xs) (before (p + length (take i fs)) o (Ok []))) (ap reads here ∙ is)

    -- the first bad field
    figures_bad : reads f ≡ None → figures reads p fs ≡ Err (p + i)
    figures_bad is =
        let long : length (take i fs) ≡ i = length-take-le i fs (omega arith) in
        ap (figures reads p) (sym (take-append-drop i fs) ∙ ap (λ t. take i fs ++ t) (drop_more fs i f lt))
        ∙ figures_append p (take i fs) (get_or fs i f ∷ drop (i + 1) fs)
        ∙ ap (λ r. both r (figures reads (p + length (take i fs)) (get_or fs i f ∷ drop (i + 1) fs))) good
        ∙ ap (λ o. both (Ok xs) (before (p + length (take i fs)) o (figures reads (p + length (take i fs) + 1) (drop (i + 1) fs)))) (ap reads here ∙ is)
        ∙ ap (λ n. Err (p + n)) long

-- one turn of a loop that reads the first n fields of fs into a table
module _ {X : Type 0} (reads : List ℕ → Option X) (p n : ℕ) (fs : List (List ℕ)) (i : ℕ) (f : List ℕ) (more : List (List ℕ)) (e : drop i fs ≡ f ∷ more) (lt : i < n) (table : List X) (good : figures reads p (take i fs) ≡ Ok (take i table)) where
  -- a good field
  pub turn_good : (x : X) → i < length table → reads f ≡ Some x → figures reads p (take (i + 1) fs) ≡ Ok (take (i + 1) (set table i x))
  turn_good x room is =
      figures_more reads p fs i (within fs i f more e) f (next_is fs i f more e) _ good x is ∙ ap Ok (sym (take_more_set table i x room))

  -- a bad one
  pub turn_bad : reads f ≡ None → figures reads p (take n fs) ≡ Err (p + i)
  turn_bad is =
      let w = within fs i f more e in
      figures_bad reads p (take n fs) i (omega (arith, length-take n fs)) f (get_or-take n fs i f lt ∙ next_is fs i f more e) _
      (ap (figures reads p) (take-take i n fs (omega arith)) ∙ good) is
