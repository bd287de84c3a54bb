use Rattle.std.proofs.Common.{rules, ◌≡◌, ℕ, ◌<◌, true, false, List, map, length, get_or, is_ok, Ok, Err, Result, sym, refl, ap, ◌∙◌, arith}
use Rattle.std.proofs.lemmas.Bool.{cond-false}
use Rattle.std.proofs.lemmas.Grind.{same_number_lists}
use Rattle.std.proofs.lemmas.List.{get_or-map, length-map}
use Rattle.refusals.specs.declared.Refusal.{Refusal}
use Rattle.refusals.specs.declared.Refusal.TheVariants.{Mark}
use Rattle.refusals.specs.Ranges.{outside, any, accepted_as}
use Rattle.closing.specs.declared.Marks.{Marks}
use Rattle.desk.specs.Pages.{mark_of}
use Rattle.desk.proofs.Firsts.{marks_fit}
use Rattle.desk.proofs.pages.method_rule.Goals as goal
use Rattle.desk.proofs.pages.method_rule.Goals.{After-map-table}

-- marks that are within their range are accepted
accepted : (r : Result Marks Refusal) (table : List ℕ) → accepted_as (λ (m : Marks). m.table) r ≡ Ok table → is_ok r ≡ true
accepted (Ok marks) table e = refl
accepted (Err refusal) table e = let z : ◌≡◌ {A = ℕ} 0 1 = cc in absurd (omega arith)

kept : (r : Result Marks Refusal) (marks : Marks) (table : List ℕ) → r ≡ Ok marks → accepted_as (λ (m : Marks). m.table) r ≡ Ok table → marks.table ≡ table
kept (Ok m) marks table is e = cc
kept (Err refusal) marks table is e = let z : ◌≡◌ {A = ℕ} 0 1 = cc in absurd (omega arith)

each_mark : (methods marks : List ℕ) → length marks ≡ length methods → ((k : ℕ) → k < length marks → get_or marks k 0 ≡ mark_of (get_or methods k 0)) → marks ≡ map mark_of methods
each_mark methods marks long at = same_number_lists marks (map mark_of methods) (simp length-map long) (λ k h. at k h ∙ sym (get_or-map mark_of methods k 0 0 (omega (arith, long, h))))

-- each method's mark
marks_are : (c : After-map-table) → c.map-table.result ≡ map mark_of c.args.methods
marks_are c =
    let items = c.map-table.ensures.items in
    each_mark c.args.methods c.map-table.result (omega (arith, items.long)) (λ k h. let within : k < 64 = omega (arith, h, items.long) in let got = (items.at k 0 0 within).2 in search rules)

pub unwrap-marks-requires : goal.unwrap-marks-requires
unwrap-marks-requires c =
    let table = c.map-table.result in
    let fit : any (outside 0 1) table ≡ false = ap (any (outside 0 1)) (marks_are (goal.at.unwrap-marks-requires c).After-map-table) ∙ marks_fit c.args.methods in
    accepted c.check.result table (c.check.ensures ∙ cond-false (any (outside 0 1) table) (Err Mark) (Ok table) fit)

pub returns : goal.returns
returns c =
    let table = c.map-table.result in
    let fit : any (outside 0 1) table ≡ false = ap (any (outside 0 1)) (marks_are (goal.at.returns c).After-map-table) ∙ marks_fit c.args.methods in
    kept c.check.result c.unwrap-marks.result table c.unwrap-marks.ensures (c.check.ensures ∙ cond-false (any (outside 0 1) table) (Err Mark) (Ok table) fit)
    ∙ marks_are (goal.at.returns c).After-map-table
