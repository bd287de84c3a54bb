use Rattle.std.proofs.Common.{◌≡◌, ◌≤◌, Bool, length}
use Rattle.std.proofs.lemmas.List.Filters.{FiltersInPlace}
use Rattle.records.proofs.list.gather.Given as goal

-- what passes among the records so far stands in front
abbrev pub invariant-loop-place : goal.invariant-loop-place
invariant-loop-place g l = record {
  filtered : (p : g.row.T.Denot → Bool) → ((x : g.row.T.Denot) (b : Bool) → goal.F-post g l.keep x b → b ≡ p x) → FiltersInPlace p l.fn.s l.s l.kept l.place;
  behind : l.kept ≤ l.place;
  same : length l.s ≡ length l.fn.s;
}
