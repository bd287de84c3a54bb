use Rattle.std.proofs.Common.{refl}
use Rattle.money.specs.Products.{rows}
use Rattle.pairing.specs.Pairs.{closed}
use Rattle.trials.proofs.specimens.specimens_stand.Goals as goal

-- every figure computes
pub returns : goal.returns
unfolding rows closed
returns c = record {
  gain = refl;
  loss = refl;
  nothing = refl;
  base_raised = refl;
  oldest_pairs = refl;
  oldest_leaves = refl;
  no_deposit = refl;
  required_at_a_gain = refl;
  shortfall_at_a_gain = refl;
  withdrawable_at_a_gain = refl;
  required_at_a_loss = refl;
  withdrawable_at_a_loss = refl;
}
