-- The book as the definitions see it.
use Rattle.records.specs.Lists.{room}
use Rattle.report.specs.State.{State}
use Rattle.pairing.specs.Kept.{kept}
use Rattle.rolling.specs.Balances.{money}
use Rattle.book.specs.declared.state.Book.{Book}
use Rattle.book.specs.declared.state.Opening.{Opening}
use Rattle.book.specs.Opening.{Terms}

abbrev pub view : Book → State
view b = record {
  limits = record { accounts = b.accounts; lot_places = room b.ledger.lots; slip_places = room b.ledger.slips };
  prices = b.prices.table;
  ledger = kept b.ledger;
  money = money b.balances;
  entries = b.entries;
}

-- what an opening was checked for
abbrev pub terms : Opening → Terms
terms o = record { accounts = o.accounts; prices = o.prices.table; lot_places = o.lot_places; slip_places = o.slip_places }
