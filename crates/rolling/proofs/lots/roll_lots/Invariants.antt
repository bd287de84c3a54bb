-- The loop over the lots: the first ones are rolled, the others are as they were.
use Rattle.std.proofs.Common.{◌≡◌, ◌++◌, map, length, take, drop}
use Rattle.records.specs.Lists.{items, room}
use Rattle.rolling.specs.Sheets.{rolled_lot}
use Rattle.rolling.proofs.lots.roll_lots.Given as goal

abbrev pub invariant-loop-place : goal.invariant-loop-place
invariant-loop-place l = record {
  rolled : items l.lots ≡ map (rolled_lot l.points.table) (take l.place (items l.initial.lots)) ++ drop l.place (items l.initial.lots);
  same_room : room l.lots ≡ room l.initial.lots;
  as_long : length (items l.lots) ≡ length (items l.initial.lots);
}
