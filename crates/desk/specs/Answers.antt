-- The lines that are printed.
use Rattle.std.specs.Prelude.{ℕ, List, [], ◌∷◌, ◌++◌, ℤ, Ok, Err, decimal, Result, codes, encode_utf8}
use Rattle.std.specs.Fmt.{signed_decimal}
use Rattle.refusals.specs.declared.Refusal.{Refusal}
use Rattle.refusals.specs.Causes.{told, letter}
use Rattle.report.specs.declared.MarginReport.{MarginReport}
use Rattle.lines.specs.Letters.{comma, line_feed}
use Rattle.desk.specs.declared.answers.Unserved.{Unserved}
use Rattle.desk.specs.declared.answers.Accepted.{Accepted}
use Rattle.desk.specs.declared.answers.Accepted.TheVariants.{Entry, Figures}

-- OK,entry
abbrev pub ok_text : ℕ → List ℕ
ok_text entry = 79 ∷ 75 ∷ comma ∷ (decimal entry ++ line_feed ∷ [])

-- NO,line,layer,number,detail
abbrev pub no_text : ℕ → Refusal → List ℕ
no_text line refusal =
    78 ∷ 79 ∷ comma ∷ (decimal line ++ comma ∷ letter (told refusal).layer ∷ comma ∷ (decimal (told refusal).number ++ comma ∷ (decimal (told refusal).detail ++ line_feed ∷ [])))

-- three figures, each with a comma before it
abbrev pub three_text : ℤ → ℤ → ℤ → List ℕ
three_text x y z = comma ∷ (signed_decimal x ++ comma ∷ (signed_decimal y ++ comma ∷ signed_decimal z))

-- M,account and the seven figures: deposit, settled and unsettled difference, base amount, required, shortfall, withdrawable
abbrev pub report_text : ℕ → MarginReport → List ℕ
report_text account r =
    77 ∷ comma ∷ (decimal account
    ++ (three_text r.deposit.0 r.settled.0 r.unsettled.0
    ++ (three_text r.base.0 r.required.0 r.shortfall.0
    ++ comma ∷ (signed_decimal r.withdrawable.0 ++ line_feed ∷ []))))

-- the answer to a call that takes an entry number, and to a report
abbrev pub call_text : ℕ → Result ℕ Refusal → List ℕ
call_text line (Ok entry) = ok_text entry
call_text line (Err refusal) = no_text line refusal

abbrev pub figures_text : ℕ → ℕ → Result MarginReport Refusal → List ℕ
figures_text line account (Ok r) = report_text account r
figures_text line account (Err refusal) = no_text line refusal

-- the same, by what was accepted
abbrev pub accepted_text : Accepted → List ℕ
accepted_text (Entry entry) = ok_text entry
accepted_text (Figures account r) = report_text account r

abbrev pub answer_text : ℕ → Result Accepted Refusal → List ℕ
answer_text line (Ok accepted) = accepted_text accepted
answer_text line (Err refusal) = no_text line refusal

-- how a call that is not served is told
abbrev pub unserved_text : Unserved → List ℕ
unserved_text u = codes "line " ++ (decimal u.line ++ (codes ": the call " ++ (encode_utf8 u.letter ++ codes " is not served yet")))
