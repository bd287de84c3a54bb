-- Opening: what is tested, and what a fresh book is. The definitions stand below the book, where those of its runs do.
pub use Rattle.report.specs.State.{no_yen}
pub use Rattle.runs.specs.Opening.{Terms, outside_limits, bad_price, opening_causes, checked, over_places, opened}
