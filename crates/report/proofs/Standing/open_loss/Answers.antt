use Rattle.std.proofs.Common.{◌≡◌, pos, neg_ℤ, sym, ◌∙◌, arith, w64, to_z, of_z}
use Rattle.std.specs.Int.{int_max}
use Rattle.std.proofs.lemmas.Int.{ints, clamps}
use Rattle.report.specs.Amounts.{not_below_is}
use Rattle.report.proofs.Standing.open_loss.Goals as goal

pub returns-clause-loss : goal.returns-clause-loss
returns-clause-loss c =
    let u = c.args.self.now.unsettled.0 in
    let most : to_z w64 (of_z w64 c.max.result) ≡ int_max (neg_ℤ u) (pos 0) = omega (arith, ints, clamps) in
    most ∙ sym (not_below_is (neg_ℤ u))
