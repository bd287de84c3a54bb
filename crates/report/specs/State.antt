-- What a book keeps.
use Rattle.std.specs.Prelude.{ℕ, ◌+◌, ◌-◌, cond, List, replicate, ℤ, pos, nat_le, slice_index_or}
use Rattle.money.specs.declared.Yen.{Yen}
use Rattle.money.specs.Kinds.{yen}
use Rattle.records.specs.declared.lots.Lot.{Lot}
use Rattle.records.specs.declared.lots.Slip.{Slip}

-- fixed at opening: how many accounts, and how many places for lots and for slips
pub record Limits : Type 0 where
  pub accounts : ℕ
  pub lot_places : ℕ
  pub slip_places : ℕ

-- the open lots, oldest first, and today's slips
pub record Ledger : Type 0 where
  pub lots : List Lot
  pub slips : List Slip

-- each account's deposit and its two waiting amounts: what it closed earlier and has not got yet
pub record Money : Type 0 where
  pub deposits : List Yen
  pub waiting_one : List Yen
  pub waiting_two : List Yen

-- the whole book: besides these the latest prices, and how many entry numbers are taken
pub record State : Type 0 where
  pub limits : Limits
  pub prices : List ℕ
  pub ledger : Ledger
  pub money : Money
  pub entries : ℕ

-- what an accepted call leaves: prices, records and money as it makes them, and one entry number more taken
abbrev pub next : State → List ℕ → Ledger → Money → State
next st prices ledger money = record { limits = st.limits; prices = prices; ledger = ledger; money = money; entries = st.entries + 1 }

-- an account's yen in a table, counted from 1
abbrev pub of_account : List Yen → ℕ → ℤ
of_account table a = cond (nat_le 1 a) (slice_index_or table (a - 1) (yen (pos 0))).0 (pos 0)

-- 0 yen for each of 64 accounts
abbrev pub no_yen : List Yen
no_yen = replicate 64 (yen (pos 0))
