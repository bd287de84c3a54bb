use Rattle.std.proofs.Common.{◌≡◌, ◌-◌, length, take, refl, ap, ◌∙◌, arith}
use Rattle.std.proofs.lemmas.List.{length-take}
use Rattle.records.proofs.Places.{front_is}
use Rattle.records.proofs.list.RecordList.over.Goals as goal

pub returns : goal.returns
returns g c =
    let places = c.args.places.now in
    let n_is : c.min-n.result - 0 ≡ length (take c.args.most places) = omega (arith, c.min-n.ensures, length-take c.args.most places) in
    let front : take (c.min-n.result - 0) places ≡ take c.args.most places = front_is c.args.most (c.min-n.result - 0) places n_is in
    record { items = refl; spare = front; room = ap length front ∙ length-take c.args.most places }
