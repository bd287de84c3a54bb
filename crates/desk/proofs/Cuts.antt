-- Where the first line of a text ends.
use Prim.Native.Nat.{zero}
use Rattle.std.proofs.Common.{◌≡◌, ℕ, suc, ◌+◌, ◌-◌, ◌<◌, min, Bool, true, false, cond, eqb, List, [], ◌∷◌, ◌++◌, length, get_or, take, drop, sym, refl, ap, ◌∙◌, subst, arith}
use Rattle.std.specs.List.{IsFirstMatchOrLen}
use Rattle.std.proofs.Math.Seq.{drop-append_seam}
use Rattle.std.proofs.lemmas.List.{take_all, length-drop}
use Rattle.std.proofs.lemmas.Bool.{cond-true, cond-false}
use Rattle.lines.specs.Letters.{line_feed}
use Rattle.desk.specs.Pages.{before, lines_of}

-- a part up to the first line feed, or all of a text that has none, is its first line
pub first_cut : (part after : List ℕ) (i : ℕ) → 0 < length part → length part ≡ min (i + 1) (length (part ++ after)) → IsFirstMatchOrLen (λ b. eqb b line_feed) (part ++ after) i → lines_of (part ++ after) ≡ part ∷ lines_of after
first_cut [] after i some long at = absurd (omega arith)
first_cut (b ∷ []) [] i some long at = elim (eqb b line_feed) as (λ (t : Bool). cond t ((b ∷ []) ∷ []) ((b ∷ []) ∷ []) ≡ (b ∷ []) ∷ []) [ true ↦ refl | false ↦ refl ]
first_cut (b ∷ []) (c ∷ after) i some long at =
    let none : i ≡ 0 = omega (arith, long) in
    let feed : eqb b line_feed ≡ true = subst (λ (k : ℕ). eqb (get_or (b ∷ c ∷ after) k 0) line_feed ≡ true) none (at.1 (omega (arith, none)) 0) in
    cond-true (eqb b line_feed) ((b ∷ []) ∷ lines_of (c ∷ after)) (before b (lines_of (c ∷ after))) feed
first_cut (b ∷ c ∷ part) after zero some long at = absurd (omega (arith, long))
first_cut (b ∷ c ∷ part) after (suc i) some long at =
    let other : eqb b line_feed ≡ false = at.0 0 0 (omega arith) (omega arith) in
    let later : lines_of (c ∷ part ++ after) ≡ (c ∷ part) ∷ lines_of after = first_cut (c ∷ part) after i (omega arith) (omega (arith, long)) (λ k d low high. at.0 (suc k) d (omega arith) (omega (arith, high)), λ within d. at.1 (omega (arith, within)) d) in
    cond-false (eqb b line_feed) ((b ∷ []) ∷ lines_of (c ∷ part ++ after)) (before b (lines_of (c ∷ part ++ after))) other ∙ ap (before b) later

-- the same with what follows as a slice of the text
pub first_line : (text from part after : List ℕ) (i : ℕ) → from ≡ text → from ≡ part ++ after → 0 < length from → length part ≡ min (i + 1) (length from) → IsFirstMatchOrLen (λ b. eqb b line_feed) from i →
    lines_of text ≡ part ∷ lines_of (take (length text - length part) (drop (length part) text))
first_line text from part after i is cut some long at =
    let whole : text ≡ part ++ after = sym is ∙ cut in
    let left : drop (length part) text ≡ after = ap (drop (length part)) whole ∙ drop-append_seam part after in
    let all : take (length text - length part) (drop (length part) text) ≡ drop (length part) text = take_all (length text - length part) (drop (length part) text) (omega (arith, length-drop (length part) text)) in
    let first : lines_of (part ++ after) ≡ part ∷ lines_of after =
    first_cut part after i (omega (arith, some, long)) (long ∙ ap (λ (s : List ℕ). min (i + 1) (length s)) cut) (subst (λ (s : List ℕ). IsFirstMatchOrLen (λ b. eqb b line_feed) s i) cut at) in
    ap lines_of whole ∙ (first ∙ ap (λ (more : List ℕ). part ∷ lines_of more) (sym (all ∙ left)))
