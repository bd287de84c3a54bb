use Rattle.std.proofs.Common.{◌||◌, eqb, rules, tests, arith}
use Rattle.std.proofs.lemmas.Iterator.{YieldsList-from_slice}
use Rattle.std.proofs.lemmas.Iterator.Search.{all_from_yields_List}
use Rattle.std.proofs.lemmas.Bool.Decides.{nat_tests}
use Rattle.lines.specs.Letters.{oldest_first_letter, designated_letter}
use Rattle.lines.proofs.Figured.{all_methods_is}
use Rattle.lines.proofs.reader.is_methods.Goals as goal

pub returns-then-contains : goal.returns-then-contains
returns-then-contains c =
    let all = all_from_yields_List (λ b. eqb b oldest_first_letter || eqb b designated_letter) _ _ c.all.result c.all.ensures.ran (YieldsList-from_slice c.args.field.now cc) (λ x b q k. search (rules, tests)) in
    let same = all_methods_is c.args.field.now in
    grind (arith, nat_tests)
