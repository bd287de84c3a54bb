-- An account's balance, and the same in the tables of amounts.
use Rattle.std.proofs.Common.{◌≡◌, ℕ, ◌-◌, true, false, cond, leb, List, map, get_or, set, ℤ, pos, ◌+ℤ◌, sym, refl, ap, ◌∙◌}
use Rattle.std.specs.Option.{unwrap_or}
use Rattle.std.proofs.lemmas.List.{map-set}
use Rattle.std.proofs.Math.Seq.{map-set_same}
use Rattle.std.proofs.Math.ListN.{get_or-map}
use Rattle.money.specs.declared.Yen.{Yen}
use Rattle.money.specs.Kinds.{yen}
use Rattle.tables.specs.Numbered.{numbered}
use Rattle.tables.specs.Lookups.{numbered_or}
use Rattle.report.specs.State.{of_account}
use Rattle.rolling.specs.declared.balances.Balance.{Balance}
use Rattle.rolling.specs.Sheets.{money_of}
use Rattle.rolling.specs.Balances.{money, deposits}
use Rattle.rolling.proofs.Tables.{nothing, deposit, first, second}
use Rattle.runs.specs.Calls.{paid}

-- a column of an account's balance
pub column_of : (g : Balance → Yen) → g nothing ≡ yen (pos 0) → (bs : List Balance) (a : ℕ) → (g (unwrap_or (numbered bs a) nothing)).0 ≡ of_account (map g bs) a
column_of g none bs a =
    ap (λ (b : Balance). (g b).0) (numbered_or bs a nothing)
    ∙ elim (leb 1 a) as (λ t. (g (cond t (get_or bs (a - 1) nothing) nothing)).0 ≡ cond t (get_or (map g bs) (a - 1) (yen (pos 0))).0 (pos 0)) [
      | true ↦ ap (λ (y : Yen). y.0) (sym (get_or-map g bs (a - 1) nothing) ∙ ap (λ (d : Yen). get_or (map g bs) (a - 1) d) none)
      | false ↦ ap (λ (y : Yen). y.0) none
    ]

-- a payment writes one deposit and leaves the waiting amounts
pub paid_in : (bs : List Balance) (a : ℕ) (z sum : ℤ) → sum ≡ of_account (deposits bs) a +ℤ z →
    money (set bs (a - 1) (record { deposit = yen sum; waiting_one = (get_or bs (a - 1) nothing).waiting_one; waiting_two = (get_or bs (a - 1) nothing).waiting_two })) ≡ paid (money bs) a z
paid_in bs a z sum e =
    let b : Balance = record { deposit = yen sum; waiting_one = (get_or bs (a - 1) nothing).waiting_one; waiting_two = (get_or bs (a - 1) nothing).waiting_two } in
    λ i. money_of
    ((map-set deposit bs (a - 1) b ∙ ap (λ (y : ℤ). set (deposits bs) (a - 1) (yen y)) e) i)
    (map-set_same first bs (a - 1) b nothing refl i)
    (map-set_same second bs (a - 1) b nothing refl i)
