use Rattle.std.proofs.Common.{◌≡◌, true, length, string_bytes, sym, subst, rules}
use Rattle.std.proofs.lemmas.Bool.{cond-true}
use Rattle.std.specs.Prelude.{nat_lt}
use Rattle.refusals.specs.declared.Refusal.TheVariants.{Line}
use Rattle.desk.specs.Pages.{Page, nothing, print, stop, lines_of, opening_page, page}
use Rattle.desk.specs.Served.{GoesOn}
use Rattle.desk.proofs.pages.serve_input.Goals as goal

pub returns-then-input-gt-MOST_BYTES : goal.returns-then-input-gt-MOST_BYTES
returns-then-input-gt-MOST_BYTES c =
    let input = c.args.input.now in
    let long : nat_lt 65536 (length input) ≡ true = search rules in
    let refused : page input ≡ stop 0 (Line 0) = cond-true (nat_lt 65536 (length input)) (stop 0 (Line 0)) (opening_page (lines_of input)) long in
    subst (λ (p : Page). GoesOn c.print.result (string_bytes c.print.new.out) (print (string_bytes c.args.out.now) p) nothing) (sym refused) (c.print.ensures nothing)
