-- Contracts held are the one sum over lots.
use Rattle.std.proofs.Common.{◌≡◌, ℕ, ◌*◌, ◌≤◌, Bool, true, false, cond, List, [], ◌∷◌, length, get_or, ℤ, pos, ◌+ℤ◌, sym, refl, ap, ◌∙◌, arith}
use Rattle.std.proofs.lemmas.List.Elements.{All-from_get_or}
use Rattle.std.proofs.lemmas.List.Sums.{sum_by-cons, sum_by-le}
use Rattle.records.specs.declared.lots.Lot.{Lot}
use Rattle.records.specs.Sum.{summed}
use Rattle.records.specs.Lots.{is_of, held, told_of_lot, nobody}
use Rattle.report.specs.Sound.{LotsSound}

-- what a lot adds to the contracts held
abbrev pub part : ℕ → ℕ → ℕ → Lot → ℕ
part c a p l = cond (is_of a p c l) l.remaining 0

pub held_is : (c a p : ℕ) (lots : List Lot) → summed told_of_lot a p c lots ≡ pos (held c a p lots)
held_is c a p [] = refl
held_is c a p (l ∷ ls) =
    let one : cond (is_of a p c l) (pos l.remaining) (pos 0) ≡ pos (part c a p l) =
    elim (is_of a p c l) as (λ (b : Bool). cond b (pos l.remaining) (pos 0) ≡ pos (cond b l.remaining 0)) [ true ↦ refl | false ↦ refl ] in
    ap (λ (z : ℤ). z +ℤ summed told_of_lot a p c ls) one
    ∙ (ap (λ (z : ℤ). pos (part c a p l) +ℤ z) (held_is c a p ls) ∙ ap pos (sym (sum_by-cons (part c a p) l ls)))

-- a lot has 500 contracts at most
pub held_few : (c a p n : ℕ) (lots : List Lot) → LotsSound n lots → held c a p lots ≤ length lots * 500
held_few c a p n lots sound = sum_by-le (part c a p) 500 lots (All-from_get_or (λ (l : Lot). part c a p l ≤ 500) lots nobody (λ i h. part_few (get_or lots i nobody) (sound i nobody h).1))
  where
    part_few : (l : Lot) → l.remaining ≤ 500 → part c a p l ≤ 500
    part_few l k = elim (is_of a p c l) as (λ (b : Bool). cond b l.remaining 0 ≤ 500) [ true ↦ k | false ↦ omega arith ]

-- the same of the lots that a view holds
pub open_held_few : (c a p : ℕ) (lots : List Lot) → LotsSound 20000 lots → held c a p lots ≤ length lots * 500
open_held_few c a p lots sound = held_few c a p 20000 lots sound
