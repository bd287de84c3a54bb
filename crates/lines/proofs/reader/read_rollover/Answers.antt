use Rattle.std.proofs.Common.{◌≡◌, length, take, drop, Ok, refl, ap, ◌∙◌, arith}
use Rattle.std.proofs.lemmas.List.{drop-drop, length-drop}
use Rattle.lines.specs.Fields.{fields_after}
use Rattle.lines.specs.Numbers.{number, signed}
use Rattle.lines.specs.Figures.{figures}
use Rattle.lines.proofs.Readings.{ghosts, accepted, passed_on, read_at, rollover_good, rollover_bad_prices, rollover_bad_points, rollover_sayable}
use Rattle.lines.proofs.reader.read_rollover.Goals as goal
use Rattle.lines.proofs.reader.read_rollover.Goals.{In_ok-read_table, In_ok-read_table-2}

-- the mark was read,
mark : (c : In_ok-read_table) → figures number 2 (take 1 (fields_after c.args.fields.rest.now)) ≡ Ok c.read_table.new.table
mark c = read_at number 1 c.requires.after.second refl c.in_ok-read_table.ensures.0

-- the prices stand in the fields after it,
third : (c : In_ok-read_table) → c.read_table.new.self.place ≡ 3
third c = omega (arith, c.in_ok-read_table.ensures.1.place, c.requires.after.second)

prices : (c : In_ok-read_table-2) → figures number 3 (take 16 (drop 1 (fields_after c.args.fields.rest.now))) ≡ Ok c.read_table-2.new.table
prices c =
    read_at number 16 (omega (arith, c.in_ok-read_table.ensures.1.place, c.requires.after.second)) c.in_ok-read_table.ensures.1.follow c.in_ok-read_table-2.ensures.0

-- and the points in those after the prices
last : (c : In_ok-read_table-2) → c.read_table-2.new.self.place ≡ 19
last c =
    omega (arith, c.in_ok-read_table.ensures.1.place, c.in_ok-read_table-2.ensures.1.place, c.requires.after.second)

rest : (c : In_ok-read_table-2) → fields_after c.read_table-2.new.self.rest.now ≡ drop 17 (fields_after c.args.fields.rest.now)
rest c =
    c.in_ok-read_table-2.ensures.1.follow ∙ ap (drop 16) c.in_ok-read_table.ensures.1.follow
    ∙ drop-drop 16 1 (fields_after c.args.fields.rest.now)

pub returns-in_err-read_table-2 : goal.returns-in_err-read_table-2
returns-in_err-read_table-2 c =
    let at = (goal.at.returns-in_err-read_table-2 c).In_ok-read_table in
    passed_on c.from_residual-in_err-read_table-2.result c.from_residual-in_err-read_table-2.ensures.1 c.in_err-read_table-2.ensures
    (λ bad e. rollover_bad_prices (fields_after c.args.fields.rest.now) c.requires.after.as_many (mark at) bad (read_at number 16 (third at) c.in_ok-read_table.ensures.1.follow e))

pub returns-in_err-read_table-3 : goal.returns-in_err-read_table-3
returns-in_err-read_table-3 c =
    let at = (goal.at.returns-in_err-read_table-3 c).In_ok-read_table in
    let after = (goal.at.returns-in_err-read_table-3 c).In_ok-read_table-2 in
    passed_on c.from_residual-in_err-read_table-3.result c.from_residual-in_err-read_table-3.ensures.1 c.in_err-read_table-3.ensures
    (λ bad e. rollover_bad_points (fields_after c.args.fields.rest.now) c.requires.after.as_many (mark at) (prices after) bad (read_at signed 16 (last after) (rest after) e))

pub read_table-requires-3 : goal.read_table-requires-3
read_table-requires-3 c =
    let after = (goal.at.read_table-requires-3 c).In_ok-read_table-2 in
    record {
      enough = omega (arith, ap length (rest after), length-drop 17 (fields_after c.args.fields.rest.now), c.requires.after.as_many);
      few = omega (arith, last after);
    }

pub invariant_of-event : goal.invariant_of-event
invariant_of-event c =
    let at = (goal.at.invariant_of-event c).In_ok-read_table in
    let after = (goal.at.invariant_of-event c).In_ok-read_table-2 in
    ghosts (rollover_sayable (fields_after c.args.fields.rest.now) c.requires.after.as_many (mark at) (prices after) (read_at signed 16 (last after) (rest after) c.in_ok-read_table-3.ensures.0))

pub returns : goal.returns
returns c =
    let at = (goal.at.returns c).In_ok-read_table in
    let after = (goal.at.returns c).In_ok-read_table-2 in
    accepted (rollover_good (fields_after c.args.fields.rest.now) c.requires.after.as_many (mark at) (prices after) (read_at signed 16 (last after) (rest after) c.in_ok-read_table-3.ensures.0))
