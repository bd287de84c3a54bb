use Rattle.std.proofs.Common.{sym, refl}
use Rattle.std.proofs.lemmas.List.{take-append-drop}
use Rattle.records.proofs.list.RecordList.clear.Goals as goal

pub returns : goal.returns
returns g c = record { items = refl; spare = sym (take-append-drop c.args.self.now.len c.args.self.now.places.now); room = refl }
