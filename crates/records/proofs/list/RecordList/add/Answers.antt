use Rattle.std.proofs.Common.{◌+◌, length, take, drop, sym, ap, ◌∙◌}
use Rattle.std.proofs.lemmas.Bool.{lt-ltb}
use Rattle.std.proofs.lemmas.List.{length-set}
use Rattle.records.proofs.Places.{pushed_front, pushed_back}
use Rattle.records.proofs.list.RecordList.add.Goals as goal

pub returns-then-n-self : goal.returns-then-n-self
returns-then-n-self g c =
    let l = c.args.self.now.len in
    let xs = c.args.self.now.places.now in
    let n = c.count-n.result in
    let after = c.put_at.ensures in
    record {
      took = sym (rw c.count-n.ensures at (lt-ltb n (length xs) c.if-n-self.true));
      items = ap (take (n + 1)) after ∙ pushed_front l n xs c.args.x c.count-n.ensures c.if-n-self.true;
      spare = ap (drop (n + 1)) after ∙ pushed_back l n xs c.args.x c.count-n.ensures c.if-n-self.true;
      room = ap length after ∙ length-set xs n c.args.x;
    }
