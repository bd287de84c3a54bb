use Rattle.std.proofs.Common.{◌≡◌, ◌∷◌, take, drop, Ok, Err, sym, refl, ap, ◌∙◌, arith}
use Rattle.refusals.specs.declared.Refusal.TheVariants.{Line}
use Rattle.lines.specs.Fields.{fields_after}
use Rattle.lines.specs.Numbers.{number}
use Rattle.lines.specs.Figures.{figures}
use Rattle.lines.proofs.Readings.{ghosts, accepted, refused, passed_on, read_at, opening_bad_methods, opening_bad_prices, opening_good, opening_sayable}
use Rattle.lines.proofs.reader.read_opening.Goals as goal
use Rattle.lines.proofs.reader.read_opening.Goals.{After-next-letters}

-- the accounts were read,
accounts : (c : After-next-letters) → figures number 2 (take 1 (fields_after c.args.fields.rest.now)) ≡ Ok c.read_table.new.table
accounts c = read_at number 1 c.requires.after.second refl c.in_ok-read_table.ensures.0

-- then the methods stand,
letters : (c : After-next-letters) → drop 1 (fields_after c.args.fields.rest.now) ≡ c.next-letters.result.part.now ∷ fields_after c.next-letters.new.self.rest.now
letters c = sym c.in_ok-read_table.ensures.1.follow ∙ c.next-letters.ensures.cut

third : (c : After-next-letters) → c.next-letters.result.place ≡ 3
third c = omega (arith, c.in_ok-read_table.ensures.1.place, c.next-letters.ensures.here, c.requires.after.second)

-- and then the prices
fourth : (c : After-next-letters) → c.next-letters.new.self.place ≡ 4
fourth c = omega (arith, c.in_ok-read_table.ensures.1.place, c.next-letters.ensures.place, c.requires.after.second)

pub returns-then-not-is_methods : goal.returns-then-not-is_methods
returns-then-not-is_methods c =
    let at = (goal.at.returns-then-not-is_methods c).After-next-letters in
    refused
    (opening_bad_methods (fields_after c.args.fields.rest.now) c.requires.after.as_many (accounts at) (letters at) (sym c.if-not-is_methods.ensures))
    (ap (λ n. Err (Line n)) (third at))

pub returns-in_err-read_table-2 : goal.returns-in_err-read_table-2
returns-in_err-read_table-2 c =
    let at = (goal.at.returns-in_err-read_table-2 c).After-next-letters in
    passed_on c.from_residual-in_err-read_table-2.result c.from_residual-in_err-read_table-2.ensures.1 c.in_err-read_table-2.ensures
    (λ bad e. opening_bad_prices (fields_after c.args.fields.rest.now) c.requires.after.as_many (accounts at) (letters at) (sym c.if-not-is_methods.ensures) bad (read_at number 16 (fourth at) refl e))

pub invariant_of-event : goal.invariant_of-event
invariant_of-event c =
    let at = (goal.at.invariant_of-event c).After-next-letters in
    ghosts (opening_sayable (fields_after c.args.fields.rest.now) c.requires.after.as_many (accounts at) (letters at) (sym c.if-not-is_methods.ensures) c.copy_from_slice.ensures.after (read_at number 16 (fourth at) refl c.in_ok-read_table-2.ensures.0))

pub returns : goal.returns
returns c =
    let at = (goal.at.returns c).After-next-letters in
    accepted (opening_good (fields_after c.args.fields.rest.now) c.requires.after.as_many (accounts at) (letters at) (sym c.if-not-is_methods.ensures) c.copy_from_slice.ensures.after (read_at number 16 (fourth at) refl c.in_ok-read_table-2.ensures.0))
