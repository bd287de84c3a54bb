use Rattle.std.proofs.Common.{◌≡◌, ◌∷◌, [], None, Some, sym, ap, ◌∙◌, to_z, rules, tests, arith, w64}
use Rattle.std.proofs.lemmas.Int.{to_z_pos}
use Rattle.std.proofs.lemmas.Bool.Decides.{Decides-eqb}
use Rattle.std.proofs.lemmas.Slice.Eq.{strip_prefix_is}
use Rattle.lines.specs.Letters.{minus_sign}
use Rattle.lines.specs.Numbers.{positive}
use Rattle.lines.proofs.Figured.{mapped, signed_below, signed_above}
use Rattle.lines.proofs.figure.read_signed.Goals as goal

pub returns-in-Some : goal.returns-in-Some
returns-in-Some c =
    c.read_negative.ensures
    ∙ sym (signed_below c.args.field.now _ (strip_prefix_is Decides-eqb c.args.field.now (minus_sign ∷ []) (Some c.in-Some.digits) c.in-Some.ensures.cases))

pub returns-in-None : goal.returns-in-None
returns-in-None c =
    mapped c.read_number.result c.map.result _ c.map.ensures.cases c.read_number.ensures.short (λ n z short is. let e : z ≡ to_z w64 n = search (rules, tests) in e ∙ to_z_pos w64 n (omega arith))
    ∙ ap positive c.read_number.ensures.value
    ∙ sym (signed_above c.args.field.now (strip_prefix_is Decides-eqb c.args.field.now (minus_sign ∷ []) None c.in-None.ensures.cases))
