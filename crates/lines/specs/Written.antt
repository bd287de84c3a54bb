-- What a writer leaves.
use Rattle.std.specs.Prelude.{◌≡◌, ℕ, ◌+◌, List, ◌++◌, length, take, drop}

-- The bytes bs in place of as many from `at` on.
abbrev pub written : List ℕ → ℕ → List ℕ → List ℕ
written old at bs = take at old ++ (bs ++ drop (at + length bs) old)

-- The bytes bs were written from `at` on, up to `end`, and nothing else changed.
pub record Wrote (old : List ℕ) (at : ℕ) (bs : List ℕ) (new : List ℕ) (end : ℕ) : Type 0 where
  pub ends : end ≡ at + length bs
  pub bytes : new ≡ written old at bs
