use Rattle.std.proofs.Common.{◌≡◌, ◌-◌, List, ◌++◌, length, take, drop, ap, ◌∙◌, arith, rules}
use borrow.Rule.Slice.PartMut.{put_mid}
use Rattle.std.specs.List.{between}
use Rattle.std.proofs.lemmas.Slice.{drop-put_mid}
use Rattle.std.proofs.lemmas.List.Edits.{length-between}
use Rattle.records.proofs.Places.{turned}
use Rattle.records.proofs.list.close_gap.Goals as goal

pub returns : goal.returns
returns g c =
    let xs : List g.row.T.Denot = c.args.s.now in
    let i = c.args.i in
    let n = c.args.n in
    let after : c.rotate_left.new.self ≡ drop 1 (between i n xs) ++ take 1 (between i n xs) = c.rotate_left.ensures.after in
    let long : length c.rotate_left.new.self ≡ n - i = c.rotate_left.ensures.len ∙ length-between xs i n c.requires.1 in
    record {
      front = ap (λ (ys : List g.row.T.Denot). take (n - 1) (put_mid i (n - i) xs ys)) after ∙ turned i n xs c.requires.0 c.requires.1;
      back = drop-put_mid i (n - i) xs c.rotate_left.new.self n (omega arith) (omega arith) long;
      len = search rules;
    }
