-- What a lookup gives where another value stands for an entry that is not there.
use Rattle.std.specs.Prelude.{◌≡◌, ℕ, ◌-◌, true, false, cond, List, None, nat_le, slice_get, slice_index_or}
use Rattle.std.specs.Option.{unwrap_or}
use Rattle.std.proofs.Common.{refl}
use Rattle.std.proofs.lemmas.Option.{unwrap_or-slice_get}
use Rattle.tables.specs.Numbered.{numbered}

pub numbered_or : {X : Type 0} (table : List X) (n : ℕ) (x : X) → unwrap_or (numbered table n) x ≡ cond (nat_le 1 n) (slice_index_or table (n - 1) x) x
numbered_or table n x =
    elim (nat_le 1 n) as (λ b. unwrap_or (cond b (slice_get table (n - 1)) None) x ≡ cond b (slice_index_or table (n - 1) x) x) [
      | true ↦ unwrap_or-slice_get table (n - 1) x
      | false ↦ refl
    ]
