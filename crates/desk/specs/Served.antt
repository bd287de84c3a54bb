-- How a page is served: what is read of its lines, and how it goes on after an answer.
use Rattle.std.specs.Prelude.{◌≡◌, ℕ, cond, List, Ok, Err, Result}
use Rattle.refusals.specs.declared.Refusal.{Refusal}
use Rattle.refusals.specs.declared.Refusal.TheVariants.{Line, BaseAmount}
use Rattle.refusals.specs.Ranges.{outside, any}
use Rattle.schedules.specs.Amounts.{largest_amount, published}
use Rattle.lines.specs.Said.{Said}
use Rattle.closing.specs.Rules.{Rule}
use Rattle.report.specs.State.{State}
use Rattle.book.specs.View.{view}
use Rattle.desk.specs.declared.pages.Desk.{Desk}
use Rattle.desk.specs.declared.answers.Stop.{Stop}
use Rattle.desk.specs.declared.answers.Stop.TheVariants as stop
use Rattle.desk.specs.Pages.{Page, rule_by, so_far, print}

-- what a desk serves by
abbrev pub rule_of : Desk → Rule
rule_of desk = rule_by desk.rule.marks.table

abbrev pub schedule_of : Desk → ℕ → ℕ
schedule_of desk = published desk.schedule.amounts.table

abbrev pub state_of : Desk → State
state_of desk = view desk.book

-- what a line says, or its refusal
abbrev pub line_told : Result Said ℕ → Result Said Refusal
line_told (Ok s) = Ok s
line_told (Err field) = Err (Line field)

-- the amounts on a line, or what refuses them
abbrev pub amounts_told : Result Said ℕ → Result (List ℕ) Refusal
amounts_told (Ok s) = cond (any (outside 0 largest_amount) s.prices) (Err BaseAmount) (Ok s.prices)
amounts_told (Err field) = Err (Line field)

-- After a step this text is printed of a page, which goes on with the rest; at a call that is not served it ends. Where memory
-- ran out, nothing is said.
abbrev pub GoesOn : Result (Unit {0}) Stop → List ℕ → Page → Page → Type 0
GoesOn (Ok done) text page rest = page ≡ print text rest
GoesOn (Err (stop.Unserved unserved)) text page rest = page ≡ so_far text (Err unserved)
GoesOn (Err (stop.OutOfMemory error)) text page rest = Unit {0}
