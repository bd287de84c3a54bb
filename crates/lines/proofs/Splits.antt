-- How a text is parted into fields.
use Rattle.std.proofs.Common.{◌≡◌, ℕ, suc, ◌+◌, ◌<◌, eqb, ltb, not, List, [], ◌∷◌, length, take, drop, Option, Some, None, cond, sym, refl, ap, ◌∙◌, arith}
use Rattle.std.proofs.Math.Numerals.{one-add}
use Rattle.std.specs.List.{slice_split, onto_first, position, position_or_len, count_by}
use Rattle.std.specs.Option.{unwrap_or}
use Rattle.std.proofs.lemmas.List.Sums.{prefix_len-le-length}
use Rattle.std.proofs.lemmas.List.Splits.{length-slice_split}
use Rattle.std.proofs.lemmas.Bool.{cond_both, ltb-false}
use Rattle.lines.specs.Letters.{comma}
use Rattle.lines.specs.Fields.{onto, split, fields_after}

-- a field begins with one byte more
onto_one : (c : ℕ) (fs : List (List ℕ)) → onto (c ∷ []) fs ≡ onto_first c fs
onto_one c [] = refl
onto_one c (f ∷ fs) = refl

-- the fields are the parts that std's `split` gives
pub split_is : (bs : List ℕ) → split bs ≡ slice_split (λ b. eqb b comma) bs
split_is [] = refl
split_is (c ∷ cs) = ap (λ fs. cond (eqb c comma) ([] ∷ split cs) fs) (onto_one c (split cs)) ∙ ap (λ fs. cond (eqb c comma) ([] ∷ fs) (onto_first c fs)) (split_is cs)

-- so there is one field more than there are commas
pub split_long : (bs : List ℕ) → length (split bs) ≡ count_by (λ b. eqb b comma) bs + 1
split_long bs = ap length (split_is bs) ∙ length-slice_split (λ b. eqb b comma) bs

-- there is a field
pub split_some : (bs : List ℕ) → 0 < length (split bs)
split_some bs = omega (arith, split_long bs)

-- the first field with one byte more
first_more : (c : ℕ) (cs : List ℕ) (n m : ℕ) → m ≡ suc n → split cs ≡ take n cs ∷ fields_after (drop n cs) → onto (c ∷ []) (split cs) ≡ take m (c ∷ cs) ∷ fields_after (drop m (c ∷ cs))
first_more c cs n m more first = rw more (ap (onto (c ∷ [])) first)

-- the first field ends at the first comma, or with the text
split_first : (bs : List ℕ) → split bs ≡ take (position_or_len (λ b. eqb b comma) bs) bs ∷ fields_after (drop (position_or_len (λ b. eqb b comma) bs) bs)
split_first [] = refl
split_first (c ∷ cs) =
    cond_both (eqb c comma) ([] ∷ split cs) (onto (c ∷ []) (split cs)) (λ fs. fs ≡ take (position_or_len (λ b. eqb b comma) (c ∷ cs)) (c ∷ cs) ∷ fields_after (drop (position_or_len (λ b. eqb b comma) (c ∷ cs)) (c ∷ cs)))
    (λ is. rw is refl)
    (λ other. rw other (first_more c cs (position_or_len (λ b. eqb b comma) cs) _ (one-add _) (split_first cs)))

-- where the code cuts
split_there : (bs : List ℕ) (end : ℕ) → end ≡ unwrap_or (position (λ b. eqb b comma) bs) (length bs) → split bs ≡ take end bs ∷ fields_after (drop end bs)
split_there bs end is =
    let first : ℕ = position_or_len (λ b. eqb b comma) bs in
    let e : end ≡ first =
    is ∙ cond_both (ltb first (length bs)) (Some first) None (λ o. unwrap_or o (length bs) ≡ first) (λ _. refl) (λ all. omega (arith, ltb-false _ _ all, prefix_len-le-length (λ b. not (eqb b comma)) bs)) in
    rw e (split_first bs)

-- by what the code computes
pub first_cut : (bs : List ℕ) {part rest : List ℕ} {found : Option ℕ} {end : ℕ} → found ≡ position (λ b. eqb b comma) bs → end ≡ unwrap_or found (length bs) → part ≡ take end bs → rest ≡ drop end bs → split bs ≡ part ∷ fields_after rest
first_cut bs {end = end} found is front back =
    split_there bs end (is ∙ ap (λ o. unwrap_or o (length bs)) found) ∙ (λ i. sym front i ∷ fields_after (sym back i))
