-- The last lot that passes a test, and why the odd rule is lawful.
use Rattle.std.specs.Prelude.{◌≡◌, ℕ, suc, ◌+◌, ◌<◌, ◌≤◌, Bool, true, false, cond, ◌⊎◌, List, [], ◌∷◌, length, Some, None, Option, nat_lt, slice_index_or, refl}
use Rattle.std.proofs.Common.{sym, ap, subst, ◌∙◌, inl, inr, ⊎_elim, arith}
use Rattle.std.proofs.ByRecursion.{All-get_or}
use Rattle.std.proofs.lemmas.Bool.{cases_Bool, ltb-true}
use Rattle.records.specs.declared.lots.Side.TheVariants.{Bought, Sold}
use Rattle.records.specs.declared.lots.Lot.{Lot}
use Rattle.records.specs.Lots.{is_of, nobody}
use Rattle.closing.specs.Rules.{Pair, Lawful, OpenLot, AllOpen, lot_at, oldest_first}
use Rattle.closing.specs.Pairs.{of_parts, bought_is, oldest_lawful, picked}
use Rattle.trials.specs.Odd.{last_from, newest, odd, odd_pair}

-- the place of a lot of the rest that passes
Passing : (Lot → Bool) → ℕ → List Lot → ℕ → Type 0
Passing test i ls at = (k : ℕ) × (k < length ls) × (at ≡ i + k) × (test (slice_index_or ls k nobody) ≡ true)

-- either no lot passed, or the last one that did
last_case : (test : Lot → Bool) (i found : ℕ) (ls : List Lot) → (last_from test i found ls ≡ found) ⊎ Passing test i ls (last_from test i found ls)
unfolding Passing
last_case test i found [] = inl refl
last_case test i found (l ∷ ls) =
    ⊎_elim
    (λ (e : last_from test (i + 1) (cond (test l) i found) ls ≡ cond (test l) i found).
    ⊎_elim
    (λ (t : test l ≡ true). inr (0, omega arith, e ∙ (ap (λ (b : Bool). cond b i found) t ∙ omega arith), t))
    (λ (t : test l ≡ false). inl (e ∙ ap (λ (b : Bool). cond b i found) t))
    (cases_Bool (test l)))
    (λ (f : Passing test (i + 1) ls (last_from test (i + 1) (cond (test l) i found) ls)). inr (suc f.0, omega (arith, f.1), f.2 ∙ omega arith, f.3))
    (last_case test (i + 1) (cond (test l) i found) ls)

newest_passes : (a p : ℕ) (lots : List Lot) → newest a p lots < length lots → is_of a p 0 (lot_at lots (newest a p lots)) ≡ true
unfolding Passing
newest_passes a p lots h =
    ⊎_elim
    (λ (e : newest a p lots ≡ length lots). absurd (omega arith))
    (λ (f : Passing (is_of a p 0) 0 lots (newest a p lots)). let at : newest a p lots ≡ f.0 = omega (arith, f.2) in subst (λ (k : ℕ). is_of a p 0 (lot_at lots k) ≡ true) (sym at) f.3)
    (last_case (is_of a p 0) 0 (length lots) lots)

cases_pair : (o : Option Pair) → (o ≡ None) ⊎ ((t : Pair) × (o ≡ Some t))
cases_pair None = inl refl
cases_pair (Some t) = inr (t, refl)

Good : List Lot → ℕ → ℕ → Pair → Type 0
Good lots a p t = OpenLot lots a p Bought t.0 t.2 × OpenLot lots a p Sold t.1 t.2 × (1 ≤ t.2)

pub odd_lawful : Lawful odd
unfolding Good
odd_lawful = record { lawful = λ a p lots open_all b s q e. by_case a p lots open_all (b, s, q) (cases_pair (oldest_first.pairing a p lots)) e }
  where
    by_case : (a p : ℕ) (lots : List Lot) → AllOpen lots → (t : Pair) → (oldest_first.pairing a p lots ≡ None) ⊎ ((o : Pair) × (oldest_first.pairing a p lots ≡ Some o)) →
        odd.pairing a p lots ≡ Some t → Good lots a p t
    by_case a p lots open_all t (inl none) e =
        let given : odd_pair None (newest a p lots) (length lots) ≡ Some t = ap (λ (o : Option Pair). odd_pair o (newest a p lots) (length lots)) (sym none) ∙ e in
        let z : ◌≡◌ {A = ℕ} 0 1 = cc in
        absurd (omega arith)
    by_case a p lots open_all t (inr f) e =
        let k : ℕ = newest a p lots in
        let given : odd_pair (Some f.0) k (length lots) ≡ Some t = ap (λ (o : Option Pair). odd_pair o k (length lots)) (sym f.1) ∙ e in
        let got = picked (nat_lt k (length lots)) (k, f.0.1, 1) t given in
        let k_in = ltb-true k (length lots) got.0 in
        let parts = of_parts a p 0 (lot_at lots k) (newest_passes a p lots k_in) in
        let k_open = All-get_or (λ (l : Lot). 1 ≤ l.remaining) lots k nobody k_in open_all in
        let old = oldest_lawful.lawful a p lots open_all f.0.0 f.0.1 f.0.2 f.1 in
        subst (Good lots a p) got.1 (
          record { within = k_in; account_is = parts.0; product_is = parts.1; side_is = bought_is (lot_at lots k).side parts.2; enough = k_open },
          record { within = old.1.within; account_is = old.1.account_is; product_is = old.1.product_is; side_is = old.1.side_is; enough = omega (arith, old.1.enough, old.2) },
          omega arith,
        )
