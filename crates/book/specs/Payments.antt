-- A payment that nothing refuses.
use Rattle.std.specs.Prelude.{ℕ, pos}
use Rattle.book.specs.declared.accounts.Payment.{Payment}

-- so many yen of an account, in or out
abbrev pub payment : (account yen : ℕ) → Payment
payment a y = record { account = a; yen = pos y }
