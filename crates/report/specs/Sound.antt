-- What is true of the records that a book keeps, so that every sum over them fits 64 bits.
use Rattle.std.specs.Prelude.{ℕ, ◌+◌, ◌*◌, ◌<◌, ◌≤◌, cond, List, length, get_or, pos, sum_by, ◌==◌, slice_index_or, unsigned_abs}
use Rattle.money.specs.declared.Yen.{Yen}
use Rattle.money.specs.Kinds.{yen}
use Rattle.records.specs.declared.lots.Lot.{Lot}
use Rattle.records.specs.declared.lots.Slip.{Slip}
use Rattle.records.specs.Lots.{column}

-- An open lot, n entries into the book's life: each entry may have been a rollover that gave or took 10,000 points.
abbrev pub LotSound : ℕ → Lot → Type 0
LotSound n l = (1 ≤ l.remaining) × (l.remaining ≤ 500) × (l.price ≤ 999999) × (unsigned_abs l.points ≤ 10000 * n)

-- A slip: a contract closes at 1,400,000,000 at most, by a step worth of 1,000, a price of 999,999 and the points of two lots.
abbrev pub SlipSound : Slip → Type 0
SlipSound s = (s.quantity ≤ 500) × (unsigned_abs s.worth ≤ 1400000000 * s.quantity)

-- a record of an account and a product that there are
abbrev pub Known : ℕ → ℕ → ℕ → Type 0
Known accounts account product = (1 ≤ account) × (account ≤ accounts) × (1 ≤ product) × (product ≤ 16)

-- the same of each record of a list, by its place
abbrev pub LotsSound : ℕ → List Lot → Type 0
LotsSound n lots = (k : ℕ) (d : Lot) → k < length lots → LotSound n (slice_index_or lots k d)

abbrev pub LotsKnown : ℕ → List Lot → Type 0
LotsKnown accounts lots = (k : ℕ) (d : Lot) → k < length lots → Known accounts (get_or lots k d).account (get_or lots k d).product

abbrev pub SlipsSound : List Slip → Type 0
SlipsSound slips = (k : ℕ) (d : Slip) → k < length slips → SlipSound (slice_index_or slips k d)

abbrev pub SlipsKnown : ℕ → List Slip → Type 0
SlipsKnown accounts slips = (k : ℕ) (d : Slip) → k < length slips → Known accounts (get_or slips k d).account (get_or slips k d).product

-- all bought contracts that are still open, and all that today's slips closed
abbrev pub bought_left : List Lot → ℕ
bought_left = sum_by (λ l. cond (column l.side == 0) l.remaining 0)

abbrev pub slipped : List Slip → ℕ
slipped = sum_by (λ s. s.quantity)

-- how far the yen at a place of a table are from 0
abbrev pub size_at : List Yen → ℕ → ℕ
size_at table k = unsigned_abs (get_or table k (yen (pos 0))).0

-- What an account has and waits for, with what is still to come of lots and slips, is bounded by the n entries taken:
-- a trade brings 500 contracts at most, a contract converts to 14,000,000,000 yen at most, and a deposit or a withdrawal
-- is 1,000,000,000 at most.
abbrev pub Funded : ℕ → List Yen → List Yen → List Yen → List Lot → List Slip → Type 0
Funded n deposits one two lots slips =
    (k : ℕ) → k < 64 → size_at deposits k + size_at one k + size_at two k + 14000000000 * (slipped slips + bought_left lots) ≤ 7001000000000 * n
