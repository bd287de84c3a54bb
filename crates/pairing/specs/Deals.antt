-- The two lots of a trade, and lots by their entry number.
use Rattle.std.specs.Prelude.{ℕ, Bool, ◌&&◌, List, [], ◌∷◌, ◌++◌, pos, ◌==◌}
use Rattle.records.specs.declared.lots.Side.{Side}
use Rattle.records.specs.declared.lots.Side.TheVariants.{Bought, Sold}
use Rattle.records.specs.declared.lots.Lot.{Lot}
use Rattle.records.specs.Lots.{column, is_of}
use Rattle.closing.specs.Rules.{Rule}
use Rattle.report.specs.State.{Ledger}
use Rattle.pairing.specs.declared.Deal.{Deal}
use Rattle.pairing.specs.Pairs.{ledger, closed}

-- a lot that a trade makes: all of it remains, and it has no points
abbrev pub new_lot : ℕ → Side → Deal → Lot
new_lot account side d = record {
  account = account;
  product = d.product;
  side = side;
  entry = d.entry;
  remaining = d.quantity;
  price = d.price;
  points = pos 0;
}

-- the buyer gets a bought lot, then the seller a sold lot, last in the list
abbrev pub with_deal : Deal → List Lot → List Lot
with_deal d lots = lots ++ new_lot d.buyer Bought d ∷ new_lot d.seller Sold d ∷ []

-- a trade's lots come in, then the rule closes the buyer, then the seller
abbrev pub entered : Deal → Ledger → Ledger
entered d l = ledger (with_deal d l.lots) l.slips

abbrev pub bought_closed : Rule → Deal → Ledger → Ledger
bought_closed rule d l = closed rule 500 d.buyer d.product (entered d l)

abbrev pub dealt : Rule → Deal → Ledger → Ledger
dealt rule d l = closed rule 500 d.seller d.product (bought_closed rule d l)

-- the open lot of an account, product, side and entry number
abbrev pub is_lot : ℕ → ℕ → Side → ℕ → Lot → Bool
is_lot a p side n l = is_of a p (column side) l && l.entry == n
