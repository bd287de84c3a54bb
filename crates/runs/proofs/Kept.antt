-- What stays through every call: the number of accounts, a place for each, and the latest prices.
use Rattle.std.proofs.Common.{◌≡◌, ℕ, ◌≤◌, true, List, ◌∷◌, length, pos, ◌+ℤ◌, None, refl, ◌∙◌}
use Rattle.std.proofs.lemmas.List.{length-set, length-replicate}
use Rattle.std.proofs.lemmas.Bool.{cond_both}
use Rattle.refusals.specs.Ranges.{first}
use Rattle.refusals.proofs.Passed.{no_cause}
use Rattle.money.specs.Kinds.{yen}
use Rattle.records.specs.declared.lots.Slip.{Slip}
use Rattle.rolling.specs.declared.sheets.Sheet.{Sheet}
use Rattle.rolling.specs.Sheets.{is_bank_day, with_slips, transferred, rolled_money}
use Rattle.report.specs.State.{State, Money, of_account}
use Rattle.runs.specs.Opening.{Terms, opening_causes, over_places, opened}
use Rattle.runs.specs.Calls.{Call, after}
use Rattle.runs.specs.Calls.Call.{trade, declare, rollover, deposit, withdraw}
use Rattle.runs.specs.Whole.{Met, Reached, latest}
use Rattle.runs.proofs.Runs.{always, as_met}
use Rattle.runs.proofs.Accepted.{openable}
use Rattle.runs.proofs.Tables.{length_each}

-- the accounts are those of the opening, at most 64, and each has a place for its deposit
pub record Sized (t : Terms) (st : State) : Type 0 where
  pub accounts_are : st.limits.accounts ≡ t.accounts
  pub few_accounts : t.accounts ≤ 64
  pub deposits_are : length st.money.deposits ≡ 64

pub sized_opened : (t : Terms) → first (opening_causes t) ≡ None → (lots slips : ℕ) → Sized t (opened (over_places t lots slips))
sized_opened t none lots slips =
    let limits = openable t.accounts t.lot_places t.slip_places (no_cause (opening_causes t) none).0 in
    record { accounts_are = refl; few_accounts = limits.few; deposits_are = length-replicate 64 (yen (pos 0)) }

rolled_places : (sheet : Sheet) (slips : List Slip) (m : Money) → length m.deposits ≡ 64 → length (rolled_money sheet slips m).deposits ≡ 64
rolled_places sheet slips m e =
    cond_both (is_bank_day sheet) (transferred (with_slips sheet.prices slips m)) (with_slips sheet.prices slips m) (λ (n : Money). length n.deposits ≡ 64)
    (λ _. length_each (λ a. of_account m.deposits a +ℤ of_account m.waiting_one a)) (λ _. e)

pub sized_after : (t : Terms) (st : State) → Sized t st → (call : Call) → Sized t (after st call)
sized_after t st s (trade _ _ _ _ _ _) = record { accounts_are = s.accounts_are; few_accounts = s.few_accounts; deposits_are = s.deposits_are }
sized_after t st s (declare _ _ _ _ _ _) = record { accounts_are = s.accounts_are; few_accounts = s.few_accounts; deposits_are = s.deposits_are }
sized_after t st s (rollover sheet) =
    record { accounts_are = s.accounts_are; few_accounts = s.few_accounts; deposits_are = rolled_places sheet st.ledger.slips st.money s.deposits_are }
sized_after t st s (deposit _ _) = record { accounts_are = s.accounts_are; few_accounts = s.few_accounts; deposits_are = length-set _ _ _ ∙ s.deposits_are }
sized_after t st s (withdraw _ _ _) = record { accounts_are = s.accounts_are; few_accounts = s.few_accounts; deposits_are = length-set _ _ _ ∙ s.deposits_are }

-- The prices that the book goes by are those of the last accepted sheet.
prices_after : (t : Terms) (h : List Met) (st : State) → st.prices ≡ latest t h → (call : Call) → (after st call).prices ≡ latest t (as_met st call true ∷ h)
prices_after t h st e (trade _ _ _ _ _ _) = e
prices_after t h st e (declare _ _ _ _ _ _) = e
prices_after t h st e (rollover sheet) = refl
prices_after t h st e (deposit _ _) = e
prices_after t h st e (withdraw _ _ _) = e

pub latest_prices : (t : Terms) {h : List Met} {st : State} → Reached t h st → st.prices ≡ latest t h
latest_prices t = always t (λ h st. st.prices ≡ latest t h) (λ ok lots slips. refl) (λ h st e call law ok. prices_after t h st e call) (λ h st e call. e)
