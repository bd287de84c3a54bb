-- What a line says, by its first field, its count and its line feed.
use Rattle.std.proofs.Common.{◌≡◌, ℕ, Bool, true, false, cond, ◌&&◌, eqb, List, ◌∷◌, length, get_or, Some, None, Err, Option, refl, ap, ◌∙◌, arith}
use Rattle.std.proofs.lemmas.Bool.{cond-true, cond-false, and_from, eq-eqb}
use Rattle.lines.specs.Fields.{split, ended, body}
use Rattle.lines.specs.Lines.{field_count, meant, is_letter, fields_say, parsed}

-- a field's letter, where it has one,
pub a_letter : (b : Bool) (k l : ℕ) → cond b (Some k) None ≡ Some l → (b ≡ true) × (k ≡ l)
a_letter true k l e = (refl, cc)
a_letter false k l e = absurd (let y : ◌≡◌ {A = ℕ} 0 1 = cc in omega arith)

-- and where it has none
pub no_letter : (b : Bool) (k : ℕ) → ◌≡◌ {A = Option ℕ} (cond b (Some k) None) None → b ≡ false
no_letter true k e = absurd (let y : ◌≡◌ {A = ℕ} 0 1 = cc in omega arith)
no_letter false k e = refl

module _ (at : ℕ) (line f : List ℕ) (fs : List (List ℕ)) (e : split (body line) ≡ f ∷ fs) where
  -- a line says what its fields say
  by_fields : parsed at line ≡ fields_say at (ended line) (f ∷ fs)
  unfolding parsed
  by_fields = ap (fields_say at (ended line)) e

  -- the letter is wrong or misplaced
  pub parsed_misplaced : is_letter at f ≡ false → parsed at line ≡ Err 1
  parsed_misplaced is = by_fields ∙ cond-false _ _ _ is

  -- the count of fields or the line feed is wrong
  pub parsed_miscounted : is_letter at f ≡ true → (ended line && eqb (length fs) (field_count (get_or f 0 0))) ≡ false → parsed at line ≡ Err 0
  parsed_miscounted is bad = by_fields ∙ cond-true _ _ _ is ∙ cond-false _ _ _ bad

  -- or the fields after the letter tell
  pub parsed_meant : is_letter at f ≡ true → ended line ≡ true → length fs ≡ field_count (get_or f 0 0) → parsed at line ≡ meant (get_or f 0 0) fs
  parsed_meant is end long = by_fields ∙ cond-true _ _ _ is ∙ cond-true _ _ _ (and_from _ _ end (eq-eqb _ _ long))
