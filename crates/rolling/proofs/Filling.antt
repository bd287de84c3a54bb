-- Loops that write each place of a table or list once, from the first on.
use Rattle.std.proofs.Common.{◌≡◌, ℕ, ◌+◌, ◌-◌, ◌<◌, ◌≤◌, List, ◌++◌, map, length, get_or, take, drop, set, sym, ap, ◌∙◌, ⊎_elim, arith}
use Rattle.std.proofs.lemmas.List.{length-set, get_or-set_same, get_or-set_other, get_or-append_right, get_or-drop, get_or_default, length-map, length-take, length-drop, length-append}
use Rattle.std.proofs.lemmas.List.Edits.{map_over_more}
use Rattle.std.proofs.lemmas.Bool.{cases_eq}

-- The first k places hold what f makes of what was there, counted from 1, the others what they had.
pub record Written {X : Type 0} (f : ℕ → X → X) (d : X) (before : List X) (k : ℕ) (table : List X) : Type 0 where
  pub as_long : length table ≡ length before
  pub done : (j : ℕ) → j < k → get_or table j d ≡ f (j + 1) (get_or before j d)
  pub left : (j : ℕ) → k ≤ j → get_or table j d ≡ get_or before j d

pub written_more : {X : Type 0} (f : ℕ → X → X) (d : X) (before : List X) (k : ℕ) (table : List X) (x : X) → Written f d before k table → k < length table →
    x ≡ f (k + 1) (get_or table k d) → Written f d before (k + 1) (set table k x)
written_more f d before k table x h l e = record {
  as_long = length-set table k x ∙ h.as_long;
  done = λ j a. ⊎_elim
      (λ (same : j ≡ k). ap (λ (n : ℕ). get_or (set table k x) n d) same ∙ (get_or-set_same table k x d l ∙ (e ∙ (ap (f (k + 1)) (h.left k (omega arith)) ∙ ap (λ (n : ℕ). f (n + 1) (get_or before n d)) (sym same)))))
      (λ (other : j ≡ k → ⊥). get_or-set_other table k j x d other ∙ h.done j (omega arith))
      (cases_eq j k);
  left = λ j a. get_or-set_other table k j x d (λ i. omega arith) ∙ h.left j (omega arith);
}

-- Records changed in their places: the first i are changed, the others are as they were.
module _ {X : Type 0} (f : X → X) (xs ys : List X) (i : ℕ) (d : X) (l : i < length xs) (e : ys ≡ map f (take i xs) ++ drop i xs) where
  pub not_yet : get_or ys i d ≡ get_or xs i d
  not_yet =
      let n : length (map f (take i xs)) ≡ i = simp (length-map, length-take) (omega arith) in
      ap (λ (zs : List X). get_or zs i d) e ∙ (get_or-append_right (map f (take i xs)) (drop i xs) i i d n (omega arith) ∙ (get_or-drop i xs (i - i) d ∙ ap (λ (k : ℕ). get_or xs k d) (omega arith)))

  as_long : length ys ≡ length xs
  as_long = ap length e ∙ simp (length-append, length-map, length-take, length-drop) (omega arith)

  pub one_more : set ys i (f (get_or ys i d)) ≡ map f (take (i + 1) xs) ++ drop (i + 1) xs
  one_more = map_over_more f xs ys i (get_or ys i d) l e (get_or_default ys i d (get_or ys i d) (omega (arith, as_long)))
