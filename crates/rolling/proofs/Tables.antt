-- Balances that were rolled one by one are the tables of amounts that the definitions roll.
use Rattle.std.proofs.Common.{◌≡◌, ℕ, ◌+◌, ◌<◌, ◌≤◌, Bool, true, false, cond, List, map, length, get_or, ℤ, pos, ◌+ℤ◌, sym, refl, ap, ◌∙◌, arith}
use Rattle.std.proofs.lemmas.List.FromFn.{length-map-range_with_len}
use Rattle.std.proofs.lemmas.List.{ext_get_or, get_or-map, get_or-replicate, length-map, length-replicate}
use Rattle.money.specs.declared.Yen.{Yen}
use Rattle.money.specs.Kinds.{yen}
use Rattle.report.specs.State.{of_account, no_yen}
use Rattle.rolling.specs.declared.balances.Balance.{Balance}
use Rattle.rolling.specs.Sheets.{each_account, money_of}
use Rattle.rolling.specs.Balances.{money, rolled_balance}
use Rattle.rolling.proofs.Filling.{Written}
use Rattle.rolling.proofs.Keeping.{each_at, of_next}

-- a balance of nothing
abbrev pub nothing : Balance
nothing = record { deposit = yen (pos 0); waiting_one = yen (pos 0); waiting_two = yen (pos 0) }

each_long : (f : ℕ → ℤ) → length (each_account f) ≡ 64
unfolding each_account
each_long f = length-map-range_with_len (λ k. yen (f (k + 1))) 0 64

-- a column of balances, place by place
at : (g : Balance → Yen) (bs : List Balance) (j : ℕ) → j < length bs → get_or (map g bs) j (yen (pos 0)) ≡ g (get_or bs j nothing)
at g bs j h = get_or-map g bs j nothing (yen (pos 0)) h

account_at : (g : Balance → Yen) (bs : List Balance) (j : ℕ) → j < length bs → of_account (map g bs) (j + 1) ≡ (g (get_or bs j nothing)).0
account_at g bs j h = of_next (map g bs) j ∙ ap (λ (y : Yen). y.0) (at g bs j h)

abbrev pub deposit : Balance → Yen
deposit b = b.deposit

abbrev pub first : Balance → Yen
first b = b.waiting_one

abbrev pub second : Balance → Yen
second b = b.waiting_two

-- a sum of two amounts, as the tables of accounts have it
summed : (f : ℕ → ℤ) (j : ℕ) (x y a b : ℤ) → j < 64 → f (j + 1) ≡ a +ℤ b → a ≡ x → b ≡ y → yen (x +ℤ y) ≡ get_or (each_account f) j (yen (pos 0))
summed f j x y a b l is ax by = sym (each_at f j l ∙ ap yen (is ∙ (ap (λ (z : ℤ). z +ℤ b) ax ∙ ap (λ (z : ℤ). x +ℤ z) by)))

module _ (today : ℕ → ℤ) (before : List Balance) (full : length before ≡ 64) where
  -- waiting two with the slips
  with_today : ℕ → ℤ
  with_today a = of_account (map second before) a +ℤ today a

  waited : ℕ → ℤ
  waited a = of_account (map deposit before) a +ℤ of_account (map first before) a

  -- a column is what the definitions say where each place is
  column : (bank : Bool) (k : ℕ) (table : List Balance) → 64 ≤ k → Written (λ a b. rolled_balance bank (today a) b) nothing before k table → (g : Balance → Yen) (ys : List Yen) → length ys ≡ 64 →
      ((j : ℕ) → j < 64 → g (rolled_balance bank (today (j + 1)) (get_or before j nothing)) ≡ get_or ys j (yen (pos 0))) → map g table ≡ ys
  column bank k table e h g ys long same =
      let all : length (map g table) ≡ 64 = length-map table g ∙ (h.as_long ∙ full) in
      ext_get_or (yen (pos 0)) (map g table) ys (all ∙ sym long) (λ j l.
      let below : j < 64 = omega (arith, all) in
      at g table j (omega (arith, all, h.as_long, full)) ∙ (ap g (h.done j (omega (arith, e))) ∙ same j below))

  two_is : (j : ℕ) → j < 64 → yen ((get_or before j nothing).waiting_two.0 +ℤ today (j + 1)) ≡ get_or (each_account with_today) j (yen (pos 0))
  unfolding with_today
  two_is j l = summed with_today j (get_or before j nothing).waiting_two.0 (today (j + 1)) (of_account (map second before) (j + 1)) (today (j + 1)) l refl (account_at second before j (omega (arith, full))) refl

  deposit_is : (j : ℕ) → j < 64 → yen ((get_or before j nothing).deposit.0 +ℤ (get_or before j nothing).waiting_one.0) ≡ get_or (each_account waited) j (yen (pos 0))
  unfolding waited
  deposit_is j l =
      summed waited j (get_or before j nothing).deposit.0 (get_or before j nothing).waiting_one.0 (of_account (map deposit before) (j + 1)) (of_account (map first before) (j + 1)) l refl
      (account_at deposit before j (omega (arith, full))) (account_at first before j (omega (arith, full)))

  same_column : (g : Balance → Yen) (j : ℕ) → j < 64 → g (get_or before j nothing) ≡ get_or (map g before) j (yen (pos 0))
  same_column g j l = sym (at g before j (omega (arith, full)))

  pub settled : (bank : Bool) (k : ℕ) (table : List Balance) → 64 ≤ k → Written (λ a b. rolled_balance bank (today a) b) nothing before k table →
      money table ≡ cond bank
      (money_of (each_account (λ a. of_account (map deposit before) a +ℤ of_account (map first before) a)) (each_account (λ a. of_account (map second before) a +ℤ today a)) no_yen)
      (money_of (map deposit before) (map first before) (each_account (λ a. of_account (map second before) a +ℤ today a)))
  unfolding with_today waited
  settled true k table e h = λ i. money_of
      (column true k table e h deposit (each_account waited) (each_long waited) deposit_is i)
      (column true k table e h first (each_account with_today) (each_long with_today) two_is i)
      (column true k table e h second no_yen (length-replicate 64 (yen (pos 0))) (λ j l. sym (get_or-replicate 64 j (yen (pos 0)) (yen (pos 0)) l)) i)
  settled false k table e h = λ i. money_of
      (column false k table e h deposit (map deposit before) (length-map before deposit ∙ full) (same_column deposit) i)
      (column false k table e h first (map first before) (length-map before first ∙ full) (same_column first) i)
      (column false k table e h second (each_account with_today) (each_long with_today) two_is i)
