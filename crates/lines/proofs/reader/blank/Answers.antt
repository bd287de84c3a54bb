use Rattle.std.proofs.Common.{pos, refl, arith}
use Rattle.lines.specs.Said.{Short, ShortSigned}
use Rattle.lines.proofs.Padded.{filled_none}
use Rattle.lines.proofs.reader.blank.Goals as goal

pub invariant_of-result : goal.invariant_of-result
invariant_of-result c = record {
  known = refl;
  numbered = filled_none 0 Short 5 _ (omega arith);
  lettered = filled_none 0 Short 64 _ (omega arith);
  methodical = λ one. absurd (omega (arith, one));
  priced = filled_none 0 Short 16 _ (omega arith);
  pointed = filled_none (pos 0) ShortSigned 16 _ (omega arith);
}
