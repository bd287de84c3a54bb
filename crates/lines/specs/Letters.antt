-- The bytes that have a meaning in a line.
use Rattle.std.specs.Prelude.{ℕ}

-- The letters of the eight calls. O: the opening of the book.
abbrev pub opening_letter : ℕ
opening_letter = 79

-- S: the schedule of base amounts.
abbrev pub schedule_letter : ℕ
schedule_letter = 83

-- T: a trade.
abbrev pub trade_letter : ℕ
trade_letter = 84

-- C: a declaration.
abbrev pub declaration_letter : ℕ
declaration_letter = 67

-- D: a deposit.
abbrev pub deposit_letter : ℕ
deposit_letter = 68

-- W: a withdrawal.
abbrev pub withdrawal_letter : ℕ
withdrawal_letter = 87

-- R: a rollover.
abbrev pub rollover_letter : ℕ
rollover_letter = 82

-- M: a report.
abbrev pub report_letter : ℕ
report_letter = 77

-- An account's method. F: its oldest lots are closed first.
abbrev pub oldest_first_letter : ℕ
oldest_first_letter = 70

-- D: the account designates its lots.
abbrev pub designated_letter : ℕ
designated_letter = 68

-- The comma between two fields.
abbrev pub comma : ℕ
comma = 44

-- The line feed that ends a line.
abbrev pub line_feed : ℕ
line_feed = 10

-- The minus before a number below zero.
abbrev pub minus_sign : ℕ
minus_sign = 45

-- The digit 0; the other digits follow it.
abbrev pub zero_digit : ℕ
zero_digit = 48
