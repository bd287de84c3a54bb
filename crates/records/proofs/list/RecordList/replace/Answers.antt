use Rattle.std.proofs.Common.{◌<◌, ◌≤◌, length, take, drop, sym, refl, ap, ◌∙◌, arith}
use Rattle.std.proofs.lemmas.List.{length-set, set_past}
use Rattle.records.proofs.Places.{counted, put_front, put_back}
use Rattle.records.proofs.list.RecordList.replace.Goals as goal

pub put_at-requires : goal.put_at-requires
put_at-requires g c =
    let f = counted c.args.self.now.len c.args.self.now.places.now in
    omega (arith, c.count.ensures, c.if-i-count.true)

pub returns-then-i-count : goal.returns-then-i-count
returns-then-i-count g c =
    let l = c.args.self.now.len in
    let xs = c.args.self.now.places.now in
    let i = c.args.i in
    let after = c.put_at.ensures in
    let lt : i < length (take l xs) = omega (arith, c.count.ensures, c.if-i-count.true) in
    record {
      items = ap (take l) after ∙ put_front l i xs c.args.x;
      spare = ap (drop l) after ∙ put_back l i xs c.args.x lt;
      room = ap length after ∙ length-set xs i c.args.x;
    }

pub returns-else-i-count : goal.returns-else-i-count
returns-else-i-count g c =
    let l = c.args.self.now.len in
    let xs = c.args.self.now.places.now in
    let le : length (take l xs) ≤ c.args.i = omega (arith, c.count.ensures, c.if-i-count.false) in
    record { items = sym (set_past (take l xs) c.args.i c.args.x le); spare = refl; room = refl }
