-- A new day as the sheet that it was tested from.
use Rattle.std.specs.Prelude.{cond}
use Rattle.rolling.specs.declared.sheets.Sheet.{Sheet}
use Rattle.rolling.specs.declared.days.NewDay.{NewDay}

abbrev pub sheet_of : NewDay → Sheet
sheet_of day = record { mark = cond day.is_bank_day 1 0; prices = day.prices.table; points = day.points.table }
