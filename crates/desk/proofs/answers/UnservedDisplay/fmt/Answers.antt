use Rattle.desk.proofs.answers.UnservedDisplay.fmt.Goals as goal

-- the byte as a char is the same number
pub returns-clause-writes : goal.returns-clause-writes
returns-clause-writes g c plain ok = rw c.from-letter.ensures at (c.write.ensures.writes plain ok)
