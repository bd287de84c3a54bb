use Rattle.std.proofs.Common.{◌≡◌, ◌∷◌, length, take, drop, Ok, Err, sym, ap, ◌∙◌, subst, arith}
use Rattle.std.proofs.lemmas.List.{length-drop, take_all}
use Rattle.lines.specs.Fields.{fields_after}
use Rattle.lines.specs.Figures.{figures}
use Rattle.lines.specs.Rests.{Past}
use Rattle.refusals.specs.declared.Refusal.TheVariants.{Line}
use Rattle.lines.proofs.Readings.{refused_field, not_filled}
use Rattle.lines.proofs.Tables.{some_after, next_drop, turn_good, turn_bad}
use Rattle.lines.proofs.reader.Fields.read_table.Given as given
use Rattle.lines.proofs.reader.Fields.read_table.Goals as goal
use Rattle.lines.proofs.reader.Fields.read_table.Goals.{After-next-field}

-- the field that a turn cuts off, among all
cut : (g : given.Over) (c : After-next-field g) → drop c.loop-slot.slot-index (fields_after c.args.self.now.rest.now) ≡ c.next-field.result.part.now ∷ fields_after c.next-field.new.self.rest.now
cut g c = sym c.loop-slot.invariant.past.follow ∙ c.next-field.ensures.cut

pub next-field-requires-clause-some : goal.next-field-requires-clause-some
next-field-requires-clause-some g c =
    some_after c.loop-slot.self.rest.now (omega (arith, ap length c.loop-slot.invariant.past.follow, length-drop c.loop-slot.slot-index (fields_after c.args.self.now.rest.now), c.requires.enough))

pub returns-in_err-slot : goal.returns-in_err-slot
returns-in_err-slot g c =
    not_filled _ _
    (refused_field c.from_residual.result c.from_residual.ensures.1 c.in_err-slot.ensures.value c.in_err-slot.ensures.ok_part
    ∙ ap (λ n. Err (Line n)) (c.next-field.ensures.here ∙ c.loop-slot.invariant.past.place))
    (turn_bad g.T.Figure.reads c.args.self.now.place (length c.args.table.now) (fields_after c.args.self.now.rest.now) c.loop-slot.slot-index _ _
    (cut g (goal.at.returns-in_err-slot g c).After-next-field) (omega arith) c.loop-slot.table c.loop-slot.invariant.good (sym c.read.ensures ∙ c.in_err-slot.ensures.ok_part))

pub loop-slot-preserved : goal.loop-slot-preserved
loop-slot-preserved g c =
    let e = cut g (goal.at.loop-slot-preserved g c).After-next-field in
    record {
      past = record {
        follow = sym (next_drop (fields_after c.args.self.now.rest.now) c.loop-slot.slot-index _ _ e);
        place = omega (arith, c.next-field.ensures.place, c.loop-slot.invariant.past.place);
      };
      good =
          turn_good g.T.Figure.reads c.args.self.now.place (length c.args.table.now) (fields_after c.args.self.now.rest.now) c.loop-slot.slot-index _ _
          e (omega arith) c.loop-slot.table c.loop-slot.invariant.good c.in_ok-slot.field-0 (omega arith) (sym c.read.ensures ∙ c.in_ok-slot.ensures.ok_part);
    }

pub returns : goal.returns
returns g c =
    let i : c.loop-slot.slot-index ≡ length c.args.table.now = omega arith in (
      ap (λ n. figures g.T.Figure.reads c.args.self.now.place (take n (fields_after c.args.self.now.rest.now))) (sym i) ∙ c.loop-slot.invariant.good
          ∙ ap Ok (take_all c.loop-slot.slot-index c.loop-slot.table (omega arith)),
      subst (λ n. Past n c.args.self.now c.loop-slot.self) i c.loop-slot.invariant.past,
    )
