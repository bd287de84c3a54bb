use Rattle.std.proofs.Common.{ℕ, ◌<◌, ◌≤◌, length, get_or, sym, subst, ⊎_elim, arith}
use Rattle.std.proofs.lemmas.List.{get_or_past}
use Rattle.std.proofs.lemmas.Bool.{cases_lt}
use Rattle.refusals.specs.Ranges.{outside}
use Rattle.refusals.proofs.Passed.{inside, none_at}
use Rattle.schedules.proofs.Amounts.check.Goals as goal

pub invariant_of-result : goal.invariant_of-result
invariant_of-result c =
    let table = c.args.table in
    record {
      most = λ (k : ℕ). ⊎_elim
          (λ (h : k < length table). (inside 0 1000000000 (get_or table k 0) (none_at (outside 0 1000000000) table (sym c.if-any_outside.ensures) k 0 h)).1)
          (λ (h : length table ≤ k). subst (λ (n : ℕ). n ≤ 1000000000) (sym (get_or_past table k 0 h)) (omega arith))
          (cases_lt k (length table));
    }
