-- How the first line of an input is cut off.
use Rattle.std.specs.Prelude.{◌≡◌, ℕ, ◌+◌, [], ◌∷◌, List, Some, None, Option}
use Rattle.desk.specs.declared.input.Line.{Line}
use Rattle.desk.specs.Pages.{lines_of}

-- from a text and the number of its first line: that line, and the text and the number that are left; no line of an empty text
abbrev pub LineCut : ℕ → List ℕ → Option Line → ℕ → List ℕ → Type 0
LineCut number text None after rest = lines_of text ≡ []
LineCut number text (Some line) after rest = (line.number ≡ number) × (lines_of text ≡ line.bytes.now ∷ lines_of rest) × (after ≡ number + 1)
