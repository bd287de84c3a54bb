-- Sums over the accounts 1 to n, and over all accounts and products.
use Rattle.std.proofs.Common.{◌≡◌, ℕ, ◌≤◌, ℤ, pos, ◌+ℤ◌, ◌*ℤ◌, ◌≤ℤ◌, ◌∙◌}
use Rattle.money.specs.Sums.{down_from, sum_to}
use Rattle.money.proofs.Sums.{sum_same, sum_zero, sum_at_most, sum_plus, sum_by, accounts_same, only, one_account}
use Rattle.runs.specs.Opening.{Terms}
use Rattle.runs.specs.Whole.{over_all}

pub total_same : (n : ℕ) (f g : ℕ → ℤ) → ((a : ℕ) → 1 ≤ a → a ≤ n → f a ≡ g a) → sum_to f n ≡ sum_to g n
unfolding sum_to
total_same n f g same = accounts_same n f g same

pub total_like : (n : ℕ) (f g : ℕ → ℤ) → ((a : ℕ) → f a ≡ g a) → sum_to f n ≡ sum_to g n
unfolding sum_to
total_like n f g same = sum_same f g same (down_from n)

pub total_zero : (n : ℕ) (f : ℕ → ℤ) → ((a : ℕ) → f a ≡ pos 0) → sum_to f n ≡ pos 0
unfolding sum_to
total_zero n f zeros = sum_zero f zeros (down_from n)

pub total_at_most : (n : ℕ) (f g : ℕ → ℤ) → ((a : ℕ) → f a ≤ℤ g a) → sum_to f n ≤ℤ sum_to g n
unfolding sum_to
total_at_most n f g most = sum_at_most f g most (down_from n)

pub total_plus : (n : ℕ) (f g : ℕ → ℤ) → sum_to (λ a. f a +ℤ g a) n ≡ sum_to f n +ℤ sum_to g n
unfolding sum_to
total_plus n f g = sum_plus f g (down_from n)

pub total_by : (n : ℕ) (f : ℕ → ℤ) (c : ℤ) → sum_to (λ a. f a *ℤ c) n ≡ sum_to f n *ℤ c
unfolding sum_to
total_by n f c = sum_by f c (down_from n)

-- one account's amount
pub total_only : (n b : ℕ) (z : ℤ) → 1 ≤ b → b ≤ n → sum_to (only b z) n ≡ z
unfolding sum_to
total_only n b z low high = one_account n b z low high

-- Over all accounts and products.
module _ (t : Terms) where
  pub all_zero : (f : ℕ → ℕ → ℤ) → ((a p : ℕ) → f a p ≡ pos 0) → over_all t f ≡ pos 0
  all_zero f zeros = total_zero t.accounts (λ a. sum_to (f a) 16) (λ a. total_zero 16 (f a) (zeros a))

  pub all_at_most : (f g : ℕ → ℕ → ℤ) → ((a p : ℕ) → f a p ≤ℤ g a p) → over_all t f ≤ℤ over_all t g
  all_at_most f g most = total_at_most t.accounts (λ a. sum_to (f a) 16) (λ a. sum_to (g a) 16) (λ a. total_at_most 16 (f a) (g a) (most a))

  pub all_by : (f : ℕ → ℕ → ℤ) (c : ℤ) → over_all t (λ a p. f a p *ℤ c) ≡ over_all t f *ℤ c
  all_by f c =
      total_like t.accounts (λ a. sum_to (λ p. f a p *ℤ c) 16) (λ a. sum_to (f a) 16 *ℤ c) (λ a. total_by 16 (f a) c)
      ∙ total_by t.accounts (λ a. sum_to (f a) 16) c

  pub all_plus : (f g : ℕ → ℕ → ℤ) → over_all t (λ a p. f a p +ℤ g a p) ≡ over_all t f +ℤ over_all t g
  all_plus f g =
      total_like t.accounts (λ a. sum_to (λ p. f a p +ℤ g a p) 16) (λ a. sum_to (f a) 16 +ℤ sum_to (g a) 16) (λ a. total_plus 16 (f a) (g a))
      ∙ total_plus t.accounts (λ a. sum_to (f a) 16) (λ a. sum_to (g a) 16)
