-- What the lots that stay are.
use Rattle.std.proofs.Common.{◌≡◌, Bool, true, false, cond, not, eqb, List, [], ◌∷◌, filter, refl, ap, ◌∙◌}
use Rattle.std.proofs.lemmas.Bool.{eq-eqb, ne_eqb}
use Rattle.records.specs.declared.lots.Lot.{Lot}
use Rattle.pairing.specs.Pairs.{still_open}

pub leaves : (x : Lot) (xs : List Lot) → x.remaining ≡ 0 → still_open (x ∷ xs) ≡ still_open xs
leaves x xs e = ap (λ (t : Bool). cond t (still_open xs) (x ∷ still_open xs)) (eq-eqb x.remaining 0 e)

pub stays : (x : Lot) (xs : List Lot) → (x.remaining ≡ 0 → ⊥) → still_open (x ∷ xs) ≡ x ∷ still_open xs
stays x xs e = ap (λ (t : Bool). cond t (still_open xs) (x ∷ still_open xs)) (ne_eqb x.remaining 0 e)

-- they are what a filter keeps
abbrev pub remains : Lot → Bool
remains l = not (eqb l.remaining 0)

pub kept_open : (xs : List Lot) → filter remains xs ≡ still_open xs
kept_open [] = refl
kept_open (x ∷ xs) =
    ap (λ (ys : List Lot). cond (remains x) (x ∷ ys) ys) (kept_open xs)
    ∙ elim (eqb x.remaining 0) as (λ (b : Bool). cond (not b) (x ∷ still_open xs) (still_open xs) ≡ cond b (still_open xs) (x ∷ still_open xs)) [ true ↦ refl | false ↦ refl ]
