-- How a page goes on after an answer.
use Rattle.std.proofs.Common.{◌≡◌, ℕ, ◌+◌, cond, ◌==◌, List, [], ◌∷◌, Some, None, Ok, Err, Option, Result, MatchResult, sym, ap, ◌∙◌}
use Rattle.std.specs.Result.{IsOkAnd}
use Rattle.std.proofs.lemmas.List.{append-nil}
use Rattle.refusals.specs.declared.Refusal.{Refusal}
use Rattle.lines.specs.Letters.{trade_letter, declaration_letter, deposit_letter, withdrawal_letter, report_letter}
use Rattle.lines.specs.Said.{Said}
use Rattle.lines.specs.Lines.{parsed}
use Rattle.closing.specs.Rules.{Rule}
use Rattle.report.specs.declared.MarginReport.{MarginReport}
use Rattle.report.specs.State.{State}
use Rattle.book.specs.Calls.{Call, answer, left, reported}
use Rattle.book.specs.Calls.Call.{trade, declare, deposit, withdraw}
use Rattle.desk.specs.declared.answers.Accepted.{Accepted}
use Rattle.desk.specs.declared.answers.Accepted.TheVariants.{Entry, Figures}
use Rattle.desk.specs.declared.answers.Stop.{Stop}
use Rattle.desk.specs.declared.answers.Stop.TheVariants as stop
use Rattle.desk.specs.Answers.{accepted_text, call_text, figures_text, answer_text}
use Rattle.desk.specs.Pages.{Page, number, so_far, nothing, print, lines_of, call_of, at_call, at_line, page_of}
use Rattle.desk.specs.Served.{GoesOn}

-- where serving stopped, what would have followed does not matter
pub stopped : (why : Stop) (text : List ℕ) (page rest other : Page) → GoesOn (Err why) text page rest → GoesOn (Err why) text page other
stopped (stop.Unserved unserved) text page rest other goes = goes
stopped (stop.OutOfMemory error) text page rest other goes = goes

-- the page that a run served is what was printed
pub all_printed : (page : Page) (text : List ℕ) → print [] page ≡ print text nothing → so_far text (Ok tt) ≡ page
all_printed page text is = sym (is ∙ ap (λ (t : List ℕ). so_far t (Ok tt)) (append-nil text))

-- the page from a line on
pub line_turn : (rule : Rule) (schedule : ℕ → ℕ) (n line next : ℕ) (st : State) (text bytes more : List ℕ) → line ≡ n → next ≡ n + 1 → lines_of text ≡ bytes ∷ lines_of more →
    page_of rule schedule n st (lines_of text) ≡ at_line rule schedule line st (parsed line bytes) (λ after. page_of rule schedule next after (lines_of more))
unfolding page_of
line_turn rule schedule n line next st text bytes more is next_is cut =
    ap (page_of rule schedule n st) cut
    ∙ (ap (λ (k : ℕ). at_line rule schedule k st (parsed k bytes) (λ after. page_of rule schedule (n + 1) after (lines_of more))) (sym is)
    ∙ ap (λ (k : ℕ). at_line rule schedule line st (parsed line bytes) (λ after. page_of rule schedule k after (lines_of more))) (sym next_is))

-- ---- calls
call_by : ℕ → Said → Option Call
call_by kind s =
    cond (kind == trade_letter) (Some (trade (number s 0) (number s 1) (number s 2) (number s 3) (number s 4)))
    (cond (kind == declaration_letter) (Some (declare (number s 0) (number s 1) (number s 2) (number s 3) (number s 4)))
    (cond (kind == deposit_letter) (Some (deposit (number s 0) (number s 1)))
    (cond (kind == withdrawal_letter) (Some (withdraw (number s 0) (number s 1)))
    None)))

pub is_trade : (s : Said) → s.kind ≡ trade_letter → call_of s ≡ Some (trade (number s 0) (number s 1) (number s 2) (number s 3) (number s 4))
unfolding call_by
is_trade s is = ap (λ (k : ℕ). call_by k s) is

pub is_declaration : (s : Said) → s.kind ≡ declaration_letter → call_of s ≡ Some (declare (number s 0) (number s 1) (number s 2) (number s 3) (number s 4))
unfolding call_by
is_declaration s is = ap (λ (k : ℕ). call_by k s) is

pub is_deposit : (s : Said) → s.kind ≡ deposit_letter → call_of s ≡ Some (deposit (number s 0) (number s 1))
unfolding call_by
is_deposit s is = ap (λ (k : ℕ). call_by k s) is

pub is_withdrawal : (s : Said) → s.kind ≡ withdrawal_letter → call_of s ≡ Some (withdraw (number s 0) (number s 1))
unfolding call_by
is_withdrawal s is = ap (λ (k : ℕ). call_by k s) is

-- what is told of an accepted call is its entry number
abbrev pub Entered : Result ℕ Refusal → Result Accepted Refusal → Type 0
Entered r told = MatchResult r (λ x. IsOkAnd told (λ a. a ≡ Entry x)) (λ e. told ≡ Err e)

entry_told : (line : ℕ) (r : Result ℕ Refusal) (told : Result Accepted Refusal) → Entered r told → answer_text line told ≡ call_text line r
entry_told line (Ok x) (Ok a) is = ap accepted_text is
entry_told line (Ok x) (Err e) is = absurd is
entry_told line (Err e) told is = ap (answer_text line) is

pub called : (rule : Rule) (schedule : ℕ → ℕ) (line : ℕ) (st after : State) (s : Said) (call : Call) (rest : State → Page) (r : Result ℕ Refusal) (mapped told : Result Accepted Refusal) →
    call_of s ≡ Some call → r ≡ answer rule schedule st call → after ≡ left rule schedule st call → Entered r mapped → told ≡ mapped →
    at_call rule schedule line st s (call_of s) rest ≡ print (answer_text line told) (rest after)
called rule schedule line st after s call rest r mapped told is answered after_is entered told_is =
    ap (λ (o : Option Call). at_call rule schedule line st s o rest) is
    ∙ (ap (λ (a : Result ℕ Refusal). print (call_text line a) (rest (left rule schedule st call))) (sym answered)
    ∙ (ap (λ (a : State). print (call_text line r) (rest a)) (sym after_is)
    ∙ (ap (λ (t : List ℕ). print t (rest after)) (sym (entry_told line r mapped entered)) ∙ ap (λ (t : Result Accepted Refusal). print (answer_text line t) (rest after)) (sym told_is))))

-- ---- reports
figures_told : (line account : ℕ) (Gives : MarginReport → Accepted → Type 0) (r : Result MarginReport Refusal) (told : Result Accepted Refusal) → ((x : MarginReport) (a : Accepted) → Gives x a → a ≡ Figures account x) →
    MatchResult r (λ x. IsOkAnd told (Gives x)) (λ e. told ≡ Err e) → answer_text line told ≡ figures_text line account r
figures_told line account Gives (Ok x) (Ok a) given is = ap accepted_text (given x a is)
figures_told line account Gives (Ok x) (Err e) given is = absurd is
figures_told line account Gives (Err e) told given is = ap (answer_text line) is

report_by : Rule → (ℕ → ℕ) → ℕ → State → Said → (State → Page) → ℕ → Page
report_by rule schedule line st s rest kind = at_call rule schedule line st (record { kind = kind; numbers = s.numbers; methods = s.methods; prices = s.prices; points = s.points }) (call_by kind s) rest

pub reports : (rule : Rule) (schedule : ℕ → ℕ) (line : ℕ) (st after : State) (s : Said) (rest : State → Page) (Gives : MarginReport → Accepted → Type 0) (r : Result MarginReport Refusal) (mapped told : Result Accepted Refusal) →
    s.kind ≡ report_letter → r ≡ reported schedule st (number s 0) → after ≡ st → ((x : MarginReport) (a : Accepted) → Gives x a → a ≡ Figures (number s 0) x) → MatchResult r (λ x. IsOkAnd mapped (Gives x)) (λ e. mapped ≡ Err e) → told ≡ mapped →
    at_call rule schedule line st s (call_of s) rest ≡ print (answer_text line told) (rest after)
unfolding call_by report_by
reports rule schedule line st after s rest Gives r mapped told is answered after_is given figured told_is =
    ap (report_by rule schedule line st s rest) is
    ∙ (ap (λ (a : Result MarginReport Refusal). print (figures_text line (number s 0) a) (rest st)) (sym answered)
    ∙ (ap (λ (a : State). print (figures_text line (number s 0) r) (rest a)) (sym after_is)
    ∙ (ap (λ (t : List ℕ). print t (rest after)) (sym (figures_told line (number s 0) Gives r mapped given figured)) ∙ ap (λ (t : Result Accepted Refusal). print (answer_text line t) (rest after)) (sym told_is))))
