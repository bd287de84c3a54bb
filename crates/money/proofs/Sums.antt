-- Sums of integers over a list: one general text for lots, slips, calls, accounts and products.
use Rattle.std.proofs.Common.{◌≡◌, ℕ, zero, suc, ◌+◌, ◌<◌, ◌≤◌, cond, eqb, List, [], ◌∷◌, ◌++◌, map, length, get_or, take, set, ℤ, pos, ◌+ℤ◌, ◌-ℤ◌, ◌*ℤ◌, ◌≤ℤ◌, sym, refl, ap, ◌∙◌, inl, inr, arith}
use lib.IntN.{+ℤ_idr}
use Rattle.std.proofs.lemmas.List.{take_more}
use borrow.Author.Differences.{ints}
use Rattle.std.proofs.lemmas.Bool.{eq-eqb, ne_eqb, cond-true, cond-false, cases_eq}
use Rattle.money.specs.Sums.{sum_z, down_from}
use Rattle.money.specs.Ints.{sum_times}

pub sum_same : {X : Type 0} (f g : X → ℤ) → ((x : X) → f x ≡ g x) → (xs : List X) → sum_z f xs ≡ sum_z g xs
sum_same f g same [] = refl
sum_same f g same (x ∷ xs) = omega (arith, ints, same x, sum_same f g same xs)

pub sum_zero : {X : Type 0} (f : X → ℤ) → ((x : X) → f x ≡ pos 0) → (xs : List X) → sum_z f xs ≡ pos 0
sum_zero f zeros [] = refl
sum_zero f zeros (x ∷ xs) = omega (arith, ints, zeros x, sum_zero f zeros xs)

pub sum_at_most : {X : Type 0} (f g : X → ℤ) → ((x : X) → f x ≤ℤ g x) → (xs : List X) → sum_z f xs ≤ℤ sum_z g xs
sum_at_most f g most [] = omega (arith, ints)
sum_at_most f g most (x ∷ xs) = omega (arith, ints, most x, sum_at_most f g most xs)

pub sum_append : {X : Type 0} (f : X → ℤ) (xs ys : List X) → sum_z f (xs ++ ys) ≡ sum_z f xs +ℤ sum_z f ys
sum_append f [] ys = omega (arith, ints)
sum_append f (x ∷ xs) ys = omega (arith, ints, sum_append f xs ys)

pub sum_plus : {X : Type 0} (f g : X → ℤ) (xs : List X) → sum_z (λ x. f x +ℤ g x) xs ≡ sum_z f xs +ℤ sum_z g xs
sum_plus f g [] = refl
sum_plus f g (x ∷ xs) = omega (arith, ints, sum_plus f g xs)

pub sum_by : {X : Type 0} (f : X → ℤ) (c : ℤ) (xs : List X) → sum_z (λ x. f x *ℤ c) xs ≡ sum_z f xs *ℤ c
sum_by f c [] = omega (arith, ints)
sum_by f c (x ∷ xs) = omega (arith, ints, sum_by f c xs, sum_times (f x) (sum_z f xs) c)

pub sum_map : {X Y : Type 0} (f : Y → ℤ) (g : X → Y) (xs : List X) → sum_z f (map g xs) ≡ sum_z (λ x. f (g x)) xs
sum_map f g [] = refl
sum_map f g (x ∷ xs) = ap (λ z. f (g x) +ℤ z) (sum_map f g xs)

pub sum_set : {X : Type 0} (f : X → ℤ) (xs : List X) (i : ℕ) (y d : X) → i < length xs → sum_z f (set xs i y) ≡ sum_z f xs +ℤ (f y -ℤ f (get_or xs i d))
sum_set f [] i y d h = absurd (omega arith)
sum_set f (x ∷ xs) zero y d h = omega (arith, ints)
sum_set f (x ∷ xs) (suc i) y d h = omega (arith, ints, sum_set f xs i y d (omega arith))

-- the order of two sums does not matter
pub sum_swap : {X Y : Type 0} (f : X → Y → ℤ) (xs : List X) (ys : List Y) → sum_z (λ x. sum_z (λ y. f x y) ys) xs ≡ sum_z (λ y. sum_z (λ x. f x y) xs) ys
sum_swap f [] ys = sym (sum_zero (λ y. pos 0) (λ y. refl) ys)
sum_swap f (x ∷ xs) ys = ap (λ z. sum_z (λ y. f x y) ys +ℤ z) (sum_swap f xs ys) ∙ sym (sum_plus (λ y. f x y) (λ y. sum_z (λ x. f x y) xs) ys)

-- over the accounts 1 to n
pub accounts_same : (n : ℕ) (f g : ℕ → ℤ) → ((a : ℕ) → 1 ≤ a → a ≤ n → f a ≡ g a) → sum_z f (down_from n) ≡ sum_z g (down_from n)
accounts_same zero f g same = refl
accounts_same (suc n) f g same = omega (arith, ints, same (suc n) (omega arith) (omega arith), accounts_same n f g (λ a low high. same a low (omega arith)))

-- one account's amount
abbrev pub only : ℕ → ℤ → ℕ → ℤ
only b z a = cond (eqb a b) z (pos 0)

pub only_is : (b : ℕ) (z : ℤ) (a : ℕ) → a ≡ b → only b z a ≡ z
only_is b z a e = cond-true (eqb a b) z (pos 0) (eq-eqb a b e)

pub only_not : (b : ℕ) (z : ℤ) (a : ℕ) → (a ≡ b → ⊥) → only b z a ≡ pos 0
only_not b z a n = cond-false (eqb a b) z (pos 0) (ne_eqb a b n)

pub nobody_else : (n b : ℕ) (z : ℤ) → n < b → sum_z (only b z) (down_from n) ≡ pos 0
nobody_else zero b z h = refl
nobody_else (suc n) b z h = omega (arith, ints, only_not b z (suc n) (λ e. omega arith), nobody_else n b z (omega arith))

pub one_account : (n b : ℕ) (z : ℤ) → 1 ≤ b → b ≤ n → sum_z (only b z) (down_from n) ≡ z
one_account zero b z low high = absurd (omega arith)
one_account (suc n) b z low high = elim (cases_eq (suc n) b) [
  | inl e ↦ omega (arith, ints, only_is b z (suc n) e, nobody_else n b z (omega arith))
  | inr e ↦ omega (arith, ints, only_not b z (suc n) e, one_account n b z low (below e))
]
  where
    below : (suc n ≡ b → ⊥) → b ≤ n
    below e = omega arith

-- a loop's step: one more element
pub sum_more : {X : Type 0} (f : X → ℤ) (xs : List X) (i : ℕ) (d : X) → i < length xs → sum_z f (take (i + 1) xs) ≡ sum_z f (take i xs) +ℤ f (get_or xs i d)
sum_more f xs i d h =
    ap (sum_z f) (take_more xs i d h) ∙ sum_append f (take i xs) (get_or xs i d ∷ []) ∙ ap (λ z. sum_z f (take i xs) +ℤ z) (+ℤ_idr (f (get_or xs i d)))
