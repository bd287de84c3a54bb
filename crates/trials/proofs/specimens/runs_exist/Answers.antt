use Rattle.std.proofs.Common.{◌≡◌, List, [], ◌∷◌, None, refl}
use Rattle.std.specs.List.{AllByRecursion}
use Rattle.refusals.specs.Ranges.{first}
use Rattle.money.specs.Products.{rows}
use Rattle.money.specs.Sums.{sum_to}
use Rattle.closing.specs.Pairs.{oldest_lawful, designated_lawful}
use Rattle.pairing.specs.Pairs.{closed}
use Rattle.rolling.specs.Sheets.{each_account}
use Rattle.runs.specs.Opening.{Terms, opening_causes}
use Rattle.runs.specs.Calls.{Call}
use Rattle.runs.specs.Whole.{LawKept, Reached}
use Rattle.runs.specs.Whole.Reached.{fresh, met}
use Rattle.trials.specs.Examples.{state_after, met_by_all, terms, calls}
use Rattle.trials.proofs.specimens.runs_exist.Goals as goal

met_all : (t : Terms) → first (opening_causes t) ≡ None → (calls : List Call) → AllByRecursion LawKept calls → Reached t (met_by_all t calls) (state_after t calls)
met_all t ok [] laws = fresh ok 1024 2000
met_all t ok (call ∷ calls) laws = met (met_all t ok calls laws.1) call laws.0

-- every figure computes
pub returns : goal.returns
unfolding rows closed sum_to each_account
returns c = record {
  every_list = met_all;
  run = met_all terms refl calls (tt, (tt, (oldest_lawful, (designated_lawful, (designated_lawful, (oldest_lawful, (oldest_lawful, (tt, tt))))))));
  accepted = refl;
  event_sum_1 = refl;
  event_sum_2 = refl;
  past_1 = refl;
  past_2 = refl;
  open_1 = refl;
  open_2 = refl;
  in_yen = refl;
  out_yen = refl;
  settled = refl;
  converted = refl;
  exact = refl;
  held = refl;
  report_2 = refl;
}
