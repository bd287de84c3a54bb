use Rattle.std.proofs.Common.{rules}
use Rattle.records.proofs.Places.{counted, front_is}
use Rattle.records.proofs.list.RecordList.all.Goals as goal

pub slice_bounds-result-end : goal.slice_bounds-result-end
slice_bounds-result-end g c = let f = counted c.args.self.now.len c.args.self.now.places.now in search rules

pub returns : goal.returns
returns g c = let f = front_is c.args.self.now.len c.count-n.result c.args.self.now.places.now c.count-n.ensures in search rules
