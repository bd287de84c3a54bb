-- Each of the three schedules keeps what every schedule's meaning keeps.
use Rattle.std.specs.Prelude.{ℕ, ◌≤◌, List, slice_index}
use Rattle.std.proofs.Common.{rules}
use Rattle.schedules.specs.Amounts.{largest_amount, Scheduled, published, raised, larger}

pub published_scheduled : (amounts : List ℕ) → ((k : ℕ) → slice_index amounts k ≤ largest_amount) → Scheduled (published amounts)
published_scheduled amounts most = search rules

pub raised_scheduled : (u : ℕ) (base : ℕ → ℕ) → Scheduled base → Scheduled (raised u base)
raised_scheduled u base kept = search rules

pub larger_scheduled : (one two : ℕ → ℕ) → Scheduled one → Scheduled two → Scheduled (larger one two)
larger_scheduled one two kept_one kept_two = search rules
