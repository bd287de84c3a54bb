-- What a ledger keeps.
use Rattle.records.specs.Lists.{items}
use Rattle.report.specs.State as state
use Rattle.pairing.specs.declared.Ledger.{Ledger}

abbrev pub kept : Ledger → state.Ledger
kept l = record { lots = items l.lots; slips = items l.slips }
