-- Worked examples, held against the definitions that the contracts use.
use Rattle.std.specs.Prelude.{◌≡◌, ℕ, List, [], ◌∷◌, map, pos, negsuc}
use Rattle.money.specs.Products.{converted}
use Rattle.schedules.specs.Amounts.{raised}
use Rattle.records.specs.declared.lots.Side.{Side}
use Rattle.records.specs.declared.lots.Side.TheVariants.{Bought, Sold}
use Rattle.records.specs.declared.lots.Lot.{Lot}
use Rattle.closing.specs.Rules.{oldest_first}
use Rattle.report.specs.State.{Ledger}
use Rattle.pairing.specs.Pairs.{ledger, closed}
use Rattle.report.specs.Report.{required_of, shortfall_of, withdrawable_of}

-- USD/JPY at 150.333, which converts EUR/USD
abbrev pub prices : List ℕ
prices = 150333 ∷ []

abbrev pub eur_usd : ℕ
eur_usd = 11

-- a schedule with one amount for every product
abbrev pub flat : ℕ → ℕ → ℕ
flat amount p = amount

-- a lot of account 1 in USD/JPY, by its side, entry number and what remains
abbrev pub lot_of : Side → ℕ → ℕ → Lot
lot_of side entry remaining = record { account = 1; product = 1; side = side; entry = entry; remaining = remaining; price = 150000; points = pos 0 }

-- bought 2, bought 3 and sold 4, closed oldest first
abbrev pub closed_oldest : Ledger
closed_oldest = closed oldest_first 500 1 1 (ledger (lot_of Bought 1 2 ∷ lot_of Bought 2 3 ∷ lot_of Sold 3 4 ∷ []) [])

pub record Specimens : Type 0 where
  -- 5,300 hundredths are 7,967 yen, −5,300 are −7,968, and 0 are 0
  pub gain : converted prices eur_usd (pos 5300) ≡ pos 7967
  pub loss : converted prices eur_usd (negsuc 5299) ≡ negsuc 7967
  pub nothing : converted prices eur_usd (pos 0) ≡ pos 0
  -- a base of 60,010 raised by 5 percent is 63,020
  pub base_raised : raised 5 (flat 60010) 1 ≡ 63020
  -- oldest first pairs 2 and 2, and leaves bought 1
  pub oldest_pairs : map (λ s. s.quantity) closed_oldest.slips ≡ 2 ∷ 2 ∷ []
  pub oldest_leaves : closed_oldest.lots ≡ lot_of Bought 2 1 ∷ []
  -- D 0, P 4,000, no lots: nothing can be withdrawn
  pub no_deposit : withdrawable_of (pos 0) (pos 4000) (pos 0) (pos 0) ≡ 0
  -- D 100,000, P −1,000, U 5,000, B 60,000
  pub required_at_a_gain : required_of (negsuc 999) (pos 5000) (pos 60000) ≡ pos 56000
  pub shortfall_at_a_gain : shortfall_of (pos 100000) (negsuc 999) (pos 5000) (pos 60000) ≡ 0
  pub withdrawable_at_a_gain : withdrawable_of (pos 100000) (negsuc 999) (pos 5000) (pos 60000) ≡ 39000
  -- the same with U −5,000
  pub required_at_a_loss : required_of (negsuc 999) (negsuc 4999) (pos 60000) ≡ pos 66000
  pub withdrawable_at_a_loss : withdrawable_of (pos 100000) (negsuc 999) (negsuc 4999) (pos 60000) ≡ 34000
