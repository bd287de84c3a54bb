-- The fields that a reader is handed, and those that it hands on.
use Rattle.std.specs.Prelude.{◌≡◌, ℕ, ◌+◌, length, drop}
use Rattle.lines.specs.Fields.{fields_after}
use Rattle.lines.specs.declared.reader.Fields.{Fields}

-- The fields after the letter, of which there are `count`: the letter is field 1, so the first of them is field 2.
pub record AfterLetter (fields : Fields) (count : ℕ) : Type 0 where
  pub second : fields.place ≡ 2
  pub as_many : length (fields_after fields.rest.now) ≡ count

-- The first `count` fields were cut off, which turned the fields that are left from old to new.
pub record Past (count : ℕ) (old new : Fields) : Type 0 where
  pub follow : fields_after new.rest.now ≡ drop count (fields_after old.rest.now)
  pub place : new.place ≡ old.place + count
