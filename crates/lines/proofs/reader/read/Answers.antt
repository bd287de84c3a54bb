use Rattle.std.proofs.Common.{◌≡◌, false, ◌&&◌, eqb, ◌∷◌, length, get_or, Err, sym, refl, ap, ◌∙◌, subst, arith}
use Rattle.std.proofs.lemmas.Bool.{and_left, and_right, ne_eqb}
use Rattle.lines.specs.Fields.{split, fields_after, ended, body}
use Rattle.lines.specs.Lines.{said, field_count, is_letter, meant}
use Rattle.lines.specs.Readings.{Reading}
use Rattle.refusals.specs.declared.Refusal.TheVariants.{Line}
use Rattle.lines.proofs.Readings.{refused, refused_field}
use Rattle.lines.proofs.RoundTrips.{tells_format}
use Rattle.lines.proofs.Parsing.{a_letter, no_letter, parsed_misplaced, parsed_miscounted, parsed_meant}
use Rattle.lines.proofs.reader.read.Goals as goal
use Rattle.lines.proofs.reader.read.Goals.{After-first_field, then-not-is_ended-via-then-not-is_ended, then-not-is_ended-via-else-not-is_ended+then-count_fields-field_count}

fields : (c : After-first_field) → split (body c.args.line.now) ≡ c.first_field.result.field.part.now ∷ fields_after c.first_field.result.after.rest.now
fields c = ap split (sym c.body_of-text.ensures) ∙ c.first_field.ensures.cut

pub returns-in_err-letter : goal.returns-in_err-letter
returns-in_err-letter c =
    let none = no_letter (is_letter c.args.line_number c.first_field.result.field.part.now) (get_or c.first_field.result.field.part.now 0 0) (sym c.letter_of.ensures ∙ c.in_err-letter.ensures.ok_part) in
    let e = parsed_misplaced c.args.line_number c.args.line.now _ _ (fields (goal.at.returns-in_err-letter c).After-first_field) none in
    let h = refused e (refused_field c.from_residual.result c.from_residual.ensures.1 c.in_err-letter.ensures.value c.in_err-letter.ensures.ok_part ∙ ap (λ n. Err (Line n)) c.first_field.ensures.here) in
    let tells = tells_format c.args.line_number c.args.line.now _ _ _ h in
    record { reading = h; writes_back = tells.written; only_format = tells.only; all_format = tells.all }

pub returns-then-not-is_ended : goal.returns-then-not-is_ended
returns-then-not-is_ended c =
    let letter = a_letter (is_letter c.args.line_number c.first_field.result.field.part.now) (get_or c.first_field.result.field.part.now 0 0) c.in_ok-letter.letter (sym c.letter_of.ensures ∙ c.in_ok-letter.ensures.ok_part) in
    let bad : (ended c.args.line.now && eqb (length (fields_after c.first_field.result.after.rest.now)) (field_count (get_or c.first_field.result.field.part.now 0 0))) ≡ false =
    elim c.then-not-is_ended.branch [
      | then-not-is_ended-via-then-not-is_ended w ↦ and_left _ _ (sym w.if-not-is_ended.ensures)
      | then-not-is_ended-via-else-not-is_ended+then-count_fields-field_count w ↦ and_right (ended c.args.line.now) _ (ne_eqb _ _ (λ same. w.if-count_fields-field_count.true (omega (arith, ap length c.first_field.ensures.cut, w.count_fields.ensures, w.field_count.ensures, ap field_count letter.1))))
    ] in
    let e = parsed_miscounted c.args.line_number c.args.line.now _ _ (fields (goal.at.returns-then-not-is_ended c).After-first_field) letter.0 bad in
    let h = refused e refl in
    let tells = tells_format c.args.line_number c.args.line.now _ _ _ h in
    record { reading = h; writes_back = tells.written; only_format = tells.only; all_format = tells.all }

pub returns : goal.returns
returns c =
    let letter = a_letter (is_letter c.args.line_number c.first_field.result.field.part.now) (get_or c.first_field.result.field.part.now 0 0) c.in_ok-letter.letter (sym c.letter_of.ensures ∙ c.in_ok-letter.ensures.ok_part) in
    let e = parsed_meant c.args.line_number c.args.line.now _ _ (fields (goal.at.returns c).After-first_field) letter.0 (sym c.if-not-is_ended.ensures) (omega (arith, ap length c.first_field.ensures.cut, c.count_fields.ensures, c.field_count.ensures, ap field_count letter.1)) in
    let means = e ∙ ap (λ k. meant k (fields_after c.first_field.result.after.rest.now)) letter.1 in
    let h = subst (λ p. Reading p c.read_call.result (said c.args.event.now) (said c.read_call.new.event)) (sym means) c.read_call.ensures in
    let tells = tells_format c.args.line_number c.args.line.now _ _ _ h in
    record { reading = h; writes_back = tells.written; only_format = tells.only; all_format = tells.all }
