use Rattle.std.proofs.Common.{List, sym, ap, ◌∙◌, arith}
use Rattle.std.specs.List.{remove}
use Rattle.std.proofs.lemmas.Bool.{lt-ltb}
use Rattle.records.proofs.Places.{counted, front_is, removed_back}
use Rattle.records.proofs.list.RecordList.remove.Goals as goal

pub close_gap-requires : goal.close_gap-requires
close_gap-requires g c =
    let f = counted c.args.self.now.len c.args.self.now.places.now in (c.if-i-n.true, omega arith)

pub returns-then-i-n : goal.returns-then-i-n
returns-then-i-n g c =
    let l = c.args.self.now.len in
    let xs = c.args.self.now.places.now in
    let i = c.args.i in
    let n = c.count-n.result in
    let now_is = c.count-n.ensures in
    record {
      took = sym (rw now_is at (lt-ltb i n c.if-i-n.true));
      items = c.close_gap.ensures.front ∙ ap (λ (ys : List g.row.T.Denot). remove ys i) (front_is l n xs now_is);
      spare = removed_back l n xs c.close_gap.new.s now_is (omega (arith, c.if-i-n.true)) c.close_gap.ensures.back;
      room = c.close_gap.ensures.len;
    }
