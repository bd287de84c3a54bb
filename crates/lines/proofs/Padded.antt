-- Tables with unused places.
use Rattle.std.proofs.Common.{◌≡◌, ℕ, zero, suc, ◌+◌, ◌-◌, ◌≤◌, List, [], ◌∷◌, ◌++◌, length, get_or, take, drop, replicate, sym, refl, ap, ◌∙◌, ⊎_elim, arith}
use Rattle.std.specs.List.{AllByRecursion}
use Rattle.std.proofs.lemmas.Bool.{cases_lt}
use Rattle.std.proofs.lemmas.List.{length-append, length-replicate, length-take-le, length-drop, take_at, take-append-drop, get_or_append_left, get_or-append_right, get_or-drop, get_or_past, ext_get_or}
use Rattle.lines.specs.Said.{Filled}
use Rattle.lines.specs.Lines.{padded}

-- every place of an unused table holds none
getD_none : {X : Type 0} (none : X) (n i : ℕ) → get_or (replicate n none) i none ≡ none
getD_none none zero i = refl
getD_none none (suc n) zero = refl
getD_none none (suc n) (suc i) = getD_none none n i

-- what fits, fits at every place
all_at : {X : Type 0} (none : X) (Fits : X → Type 0) (xs : List X) → AllByRecursion Fits xs → Fits none → (i : ℕ) → Fits (get_or xs i none)
all_at none Fits [] all none_fits i = none_fits
all_at none Fits (x ∷ xs) all none_fits zero = all.0
all_at none Fits (x ∷ xs) all none_fits (suc i) = all_at none Fits xs all.1 none_fits i

-- and what fits at every place, fits
all_from : {X : Type 0} (none : X) (Fits : X → Type 0) (xs : List X) → ((i : ℕ) → Fits (get_or xs i none)) → AllByRecursion Fits xs
all_from none Fits [] at = tt
all_from none Fits (x ∷ xs) at = (at zero, all_from none Fits xs (λ i. at (suc i)))

-- and so does a front
all_take : {X : Type 0} (Fits : X → Type 0) (n : ℕ) (xs : List X) → AllByRecursion Fits xs → AllByRecursion Fits (take n xs)
all_take Fits zero xs all = tt
all_take Fits (suc n) [] all = tt
all_take Fits (suc n) (x ∷ xs) all = (all.0, all_take Fits n xs all.1)

module _ {X : Type 0} (none : X) (Fits : X → Type 0) (room : ℕ) where
  -- a table of which no place is used
  pub filled_none : (used : ℕ) → Fits none → Filled none Fits room used (replicate room none)
  filled_none used none_fits = (length-replicate room none, (λ i. rw (getD_none none room i) none_fits), (λ i h. getD_none none room i))

  -- a filled table is made of what is used
  pub filled_padded : (xs : List X) (used : ℕ) → length xs ≡ used → used ≤ room → Fits none → AllByRecursion Fits xs → Filled none Fits room used (padded none room xs)
  filled_padded xs used long few none_fits all =
      let at : (i : ℕ) → used ≤ i → get_or (padded none room xs) i none ≡ none =
      λ i h. get_or-append_right xs (replicate (room - length xs) none) used i none long h ∙ getD_none none (room - length xs) (i - used) in (
        simp (length-append, length-replicate) (omega arith),
        (λ i. ⊎_elim (λ h. rw (get_or_append_left xs (replicate (room - length xs) none) none i (omega arith)) (all_at none Fits xs all none_fits i)) (λ h. rw (at i h) none_fits) (cases_lt i used)),
        at,
      )

  module _ (used : ℕ) (xs : List X) (few : used ≤ room) (is : Filled none Fits room used xs) where
    -- what is used of a filled table: as much as it says,
    pub used_long : length (take used xs) ≡ used
    used_long = length-take-le used xs (omega (arith, is.0))

    -- fitting,
    pub used_fit : AllByRecursion Fits (take used xs)
    used_fit = all_take Fits used xs (all_from none Fits xs is.1)

    -- and it is the table, filled up again
    pub padded_used : padded none room (take used xs) ≡ xs
    padded_used =
        let long = used_long in
        ap (λ t. take used xs ++ t)
        (ext_get_or none (replicate (room - length (take used xs)) none) (drop used xs) (simp (length-replicate, length-drop) (omega (arith, is.0)))
        (λ i h. getD_none none (room - length (take used xs)) i ∙ sym (get_or-drop used xs i none ∙ is.2 (used + i) (omega arith))))
        ∙ take-append-drop used xs

-- what was filled up begins with what it was made of
pub take_padded : {X : Type 0} (none : X) (room used : ℕ) (xs : List X) → length xs ≡ used → take used (padded none room xs) ≡ xs
take_padded none room used xs long = take_at xs _ used long

-- and holds it at its places
pub getD_padded : {X : Type 0} (none : X) (room : ℕ) (xs : List X) (i : ℕ) → get_or (padded none room xs) i none ≡ get_or xs i none
getD_padded none room xs i =
    ⊎_elim
    (λ h. get_or_append_left xs (replicate (room - length xs) none) none i h)
    (λ h. get_or-append_right xs (replicate (room - length xs) none) (length xs) i none refl h ∙ getD_none none (room - length xs) (i - length xs) ∙ sym (get_or_past xs i none h))
    (cases_lt i (length xs))
