-- What a list of records holds.
use Rattle.std.specs.Prelude.{ℕ, List, length, take, drop}
use Rattle.records.specs.declared.list.RecordList.{RecordList}

-- the records, oldest first
abbrev pub items : {X : Type 0} → RecordList X → List X
items r = take r.len r.places.now

-- what lies in the free places
abbrev pub spare : {X : Type 0} → RecordList X → List X
spare r = drop r.len r.places.now

-- how many places there are
abbrev pub room : {X : Type 0} → RecordList X → ℕ
room r = length r.places.now
