-- Fields that are read as what they spell, and tables of such.
use Rattle.std.proofs.Common.{◌≡◌, ℕ, suc, ◌+◌, List, [], ◌∷◌, map, length, Some, None, Ok, Err, Option, Result, refl, ap, ◌∙◌, arith}
use Rattle.std.specs.List.{AllByRecursion}
use Rattle.lines.specs.Letters.{comma}
use Rattle.lines.specs.Figures.{before, figures}

-- what fits is read back from its spelling, and what is read fits and is spelled so
pub record Faithful {X : Type 0} (reads : List ℕ → Option X) (spell : X → List ℕ) (Fits : X → Type 0) : Type 0 where
  pub back : (x : X) → Fits x → reads (spell x) ≡ Some x
  pub forth : (f : List ℕ) (x : X) → reads f ≡ Some x → (spell x ≡ f) × Fits x

-- no comma
abbrev pub NoComma : List ℕ → Type 0
NoComma f = AllByRecursion (λ c. c ≡ comma → ⊥) f

-- where a field and those after it are good, each is
before_ok : {X : Type 0} (p : ℕ) (o : Option X) (r : Result (List X) ℕ) (xs : List X) → before p o r ≡ Ok xs → (x : X) × (ys : List X) × (o ≡ Some x) × (r ≡ Ok ys) × (xs ≡ x ∷ ys)
before_ok p None r xs e = absurd (let z : ◌≡◌ {A = ℕ} 0 1 = cc in omega arith)
before_ok p (Some x) (Ok ys) xs e = (x, ys, refl, refl, cc)
before_ok p (Some x) (Err bad) xs e = absurd (let z : ◌≡◌ {A = ℕ} 0 1 = cc in omega arith)

module _ {X : Type 0} {reads : List ℕ → Option X} {spell : X → List ℕ} {Fits : X → Type 0} (true_to : Faithful reads spell Fits) where
  -- a table that fits is read back from its spelling
  pub figures_back : (p : ℕ) (xs : List X) → AllByRecursion Fits xs → figures reads p (map spell xs) ≡ Ok xs
  figures_back p [] all = refl
  figures_back p (x ∷ xs) all =
      ap (λ o. before p o (figures reads (p + 1) (map spell xs))) (true_to.back x all.0) ∙ ap (before p (Some x)) (figures_back (p + 1) xs all.1)

  -- what is read of fields is spelled as those fields, and fits
  pub figures_forth : (p : ℕ) (fs : List (List ℕ)) (xs : List X) → figures reads p fs ≡ Ok xs → (map spell xs ≡ fs) × AllByRecursion Fits xs
  figures_forth p [] [] e = (refl, tt)
  figures_forth p [] (x ∷ xs) e = absurd (let z : ◌≡◌ {A = List X} [] (x ∷ xs) = cc in let y : ◌≡◌ {A = ℕ} 0 1 = cc in omega arith)
  figures_forth p (f ∷ fs) xs e =
      let b = before_ok p (reads f) (figures reads (p + 1) fs) xs e in
      let one = true_to.forth f b.0 b.2 in
      let more = figures_forth (p + 1) fs b.1 b.3 in
      (ap (map spell) b.4 ∙ (λ i. one.0 i ∷ more.0 i), rw b.4 (one.1, more.1))

-- as many are read as there are fields
pub figures_long : {X : Type 0} (reads : List ℕ → Option X) (p : ℕ) (fs : List (List ℕ)) (xs : List X) → figures reads p fs ≡ Ok xs → length xs ≡ length fs
figures_long reads p [] xs e = let is : xs ≡ [] = cc in ap length is
figures_long reads p (f ∷ fs) xs e =
    let b = before_ok p (reads f) (figures reads (p + 1) fs) xs e in ap length b.4 ∙ ap suc (figures_long reads (p + 1) fs b.1 b.3)
