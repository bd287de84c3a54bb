-- The first two lines of a page: the opening and the schedule.
use Rattle.std.proofs.Common.{◌≡◌, ℕ, Bool, true, false, cond, ◌||◌, eqb, List, [], ◌∷◌, map, Some, None, Ok, Err, Option, Result, sym, refl, ap, ◌∙◌, arith}
use Rattle.refusals.specs.declared.Refusal.{Refusal}
use Rattle.refusals.specs.declared.Refusal.TheVariants.{BaseAmount}
use Rattle.refusals.specs.Ranges.{outside, any, first, answered}
use Rattle.schedules.specs.Amounts.{largest_amount, published}
use Rattle.lines.specs.Letters.{designated_letter}
use Rattle.lines.specs.Said.{Said}
use Rattle.lines.specs.Lines.{parsed}
use Rattle.closing.specs.Rules.{Rule}
use Rattle.report.specs.State.{State}
use Rattle.book.specs.Opening.{Terms, checked, opening_causes, over_places, opened}
use Rattle.desk.specs.Answers.{ok_text}
use Rattle.desk.specs.Pages.{Page, print, stop, lines_of, page_of, at_schedule, schedule_page, terms_of, mark_of, methods_rule, opening_terms, at_opening, opening_page}
use Rattle.desk.specs.Served.{amounts_told}

-- ---- line 2
-- the page by what was told of line 2
abbrev pub by_amounts : ℕ → Rule → State → List (List ℕ) → Result (List ℕ) Refusal → Page
by_amounts line rule st ls (Err refusal) = stop line refusal
by_amounts line rule st ls (Ok table) = print (ok_text 0) (page_of rule (published table) 3 st ls)

amounts_tell : (rule : Rule) (st : State) (p : Result Said ℕ) (ls : List (List ℕ)) → at_schedule rule st p ls ≡ by_amounts 2 rule st ls (amounts_told p)
amounts_tell rule st (Err field) ls = refl
amounts_tell rule st (Ok s) ls =
    elim (any (outside 0 largest_amount) s.prices) as (λ (b : Bool). cond b (stop 2 BaseAmount) (print (ok_text 0) (page_of rule (published s.prices) 3 st ls)) ≡ by_amounts 2 rule st ls (cond b (Err BaseAmount) (Ok s.prices))) [ true ↦ refl | false ↦ refl ]

pub schedule_turn : (rule : Rule) (st : State) (text bytes more : List ℕ) (n line : ℕ) (told : Result (List ℕ) Refusal) → n ≡ 2 → line ≡ n → lines_of text ≡ bytes ∷ lines_of more → told ≡ amounts_told (parsed line bytes) →
    schedule_page rule st (lines_of text) ≡ by_amounts line rule st (lines_of more) told
schedule_turn rule st text bytes more n line told second is cut told_is =
    ap (schedule_page rule st) cut
    ∙ (amounts_tell rule st (parsed 2 bytes) (lines_of more)
    ∙ (ap (λ (k : ℕ). by_amounts k rule st (lines_of more) (amounts_told (parsed k bytes))) (sym (is ∙ second)) ∙ ap (by_amounts line rule st (lines_of more)) (sym told_is)))

-- ---- line 1
-- the page by what was told of line 1
abbrev pub by_terms : ℕ → Rule → List (List ℕ) → Result Terms Refusal → Page
by_terms line rule ls (Err refusal) = stop line refusal
by_terms line rule ls (Ok terms) = print (ok_text 0) (schedule_page rule (opened (over_places terms 1024 2000)) ls)

terms_are : (new : Said) (terms : Terms) → Ok terms ≡ checked (terms_of new) → terms ≡ terms_of new
terms_are new terms told = by_case (first (opening_causes (terms_of new))) told
  where
    by_case : (cause : Option Refusal) → Ok terms ≡ answered cause (terms_of new) → terms ≡ terms_of new
    by_case None e = cc
    by_case (Some refusal) e = let z : ◌≡◌ {A = ℕ} 0 1 = cc in absurd (omega arith)

-- the terms of a line are those of 1,024 and 2,000 places
terms_tell : (rule : Rule) (p : Result Said ℕ) (ls : List (List ℕ)) → at_opening rule (opening_terms p) ls ≡ by_terms 1 rule ls (opening_terms p)
terms_tell rule (Err field) ls = refl
terms_tell rule (Ok s) ls = by_case (checked (terms_of s)) refl
  where
    by_case : (told : Result Terms Refusal) → told ≡ checked (terms_of s) → at_opening rule told ls ≡ by_terms 1 rule ls told
    by_case (Err refusal) e = refl
    by_case (Ok terms) e =
        let are : terms ≡ terms_of s = terms_are s terms e in
        ap (λ (t : Terms). print (ok_text 0) (schedule_page rule (opened t) ls)) are ∙ ap (λ (t : Terms). print (ok_text 0) (schedule_page rule (opened (over_places t 1024 2000)) ls)) (sym are)

pub opening_turn : (text bytes more : List ℕ) (n line : ℕ) (told : Result Terms Refusal) → n ≡ 1 → line ≡ n → lines_of text ≡ bytes ∷ lines_of more → told ≡ opening_terms (parsed line bytes) →
    opening_page (lines_of text) ≡ by_terms line (methods_rule (parsed line bytes)) (lines_of more) told
opening_turn text bytes more n line told first_is is cut told_is =
    ap opening_page cut
    ∙ (terms_tell (methods_rule (parsed 1 bytes)) (parsed 1 bytes) (lines_of more)
    ∙ (ap (λ (k : ℕ). by_terms k (methods_rule (parsed k bytes)) (lines_of more) (opening_terms (parsed k bytes))) (sym (is ∙ first_is)) ∙ ap (by_terms line (methods_rule (parsed line bytes)) (lines_of more)) (sym told_is)))

-- every mark that a method gives is 0 or 1
mark_fits : (m : ℕ) → outside 0 1 (mark_of m) ≡ false
mark_fits m = elim (eqb m designated_letter) as (λ (b : Bool). outside 0 1 (cond b 1 0) ≡ false) [ true ↦ refl | false ↦ refl ]

pub marks_fit : (ms : List ℕ) → any (outside 0 1) (map mark_of ms) ≡ false
marks_fit [] = refl
marks_fit (m ∷ ms) = ap (λ (b : Bool). b || any (outside 0 1) (map mark_of ms)) (mark_fits m) ∙ marks_fit ms
