-- A move of the price in two stages is worth the sum of both, for any step worth.
use Rattle.std.specs.Prelude.{◌≡◌, ℕ, ◌+ℤ◌}
use Rattle.std.proofs.Common.{arith}
use Rattle.std.proofs.lemmas.Int.{ints}
use Rattle.money.specs.Products.{move_worth}
use Rattle.money.specs.Ints.{multiplied}

pub moves_add : (step from via to : ℕ) → move_worth step from to ≡ move_worth step from via +ℤ move_worth step via to
moves_add step from via to = simp multiplied (omega (arith, ints))
