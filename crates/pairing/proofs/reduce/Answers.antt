use Rattle.std.proofs.Common.{sym, ⊎_elim, ◌∙◌}
use Rattle.std.proofs.lemmas.List.{set_past}
use Rattle.std.proofs.lemmas.Option.{slice_get_cases}
use Rattle.records.specs.Lists.{items}
use Rattle.pairing.proofs.reduce.Goals as goal

-- there is no lot at that place
pub returns-in_default-clause-items : goal.returns-in_default-clause-items
returns-in_default-clause-items c =
    let xs = items c.args.lots.now in
    ⊎_elim
    (λ there. absurd (c.in_default.not-Some there.0 (c.get.ensures ∙ there.2)))
    (λ past. sym (set_past xs c.args.place _ past.0))
    (slice_get_cases xs c.args.place).1
