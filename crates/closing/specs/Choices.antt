-- Which of two rules an account goes by.
use Rattle.std.specs.Prelude.{ℕ, cond, List, Some, None, Option}
use Rattle.refusals.specs.Ranges.{outside}
use Rattle.closing.specs.Rules.{marked}
use Rattle.closing.specs.declared.Choice.{Choice}
use Rattle.closing.specs.declared.Choice.TheVariants.{First, Second}

-- none for an account outside 1 to 64, the second where it is marked, else the first
abbrev pub choice : List ℕ → ℕ → Option Choice
choice marks a = cond (outside 1 64 a) None (Some (cond (marked marks a) Second First))
