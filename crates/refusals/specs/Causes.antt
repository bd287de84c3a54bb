-- The table of refusals: what each cause tells. Every promise about a refusal is made with this definition.
use Rattle.std.specs.Prelude.{ℕ, List, ◌∷◌, ◌++◌, decimal}
use Rattle.refusals.specs.declared.Layer.{Layer}
use Rattle.refusals.specs.declared.Layer.TheVariants as layer
use Rattle.refusals.specs.declared.Refusal.{Refusal}
use Rattle.refusals.specs.declared.Refusal.TheVariants.{Opening, Account, Product, Quantity, Figure, SameAccount, PositionLimit, Places, Entries, NotDeclaring, NoBoughtLot, NoSoldLot, Remainder, Amount, Withdrawable, Line, BaseAmount, Mark}
use Rattle.refusals.specs.declared.Telling.{Telling}

-- the letters L, B, R and S
abbrev pub letter : Layer → ℕ
letter layer.Line = 76
letter layer.Book = 66
letter layer.Rule = 82
letter layer.Schedule = 83

abbrev pub of_layer : Layer → ℕ → ℕ → Telling
of_layer l number detail = record { layer = l; number = number; detail = detail }

-- layer, number and detail of each cause
abbrev pub told : Refusal → Telling
told Opening = of_layer layer.Book 1 0
told (Account number) = of_layer layer.Book 2 number
told (Product number) = of_layer layer.Book 3 number
told Quantity = of_layer layer.Book 4 0
told Figure = of_layer layer.Book 5 0
told SameAccount = of_layer layer.Book 6 0
told (PositionLimit account) = of_layer layer.Book 7 account
told Places = of_layer layer.Book 8 0
told Entries = of_layer layer.Book 9 0
told NotDeclaring = of_layer layer.Rule 10 0
told NoBoughtLot = of_layer layer.Book 11 1
told NoSoldLot = of_layer layer.Book 11 2
told (Remainder remainder) = of_layer layer.Book 12 remainder
told Amount = of_layer layer.Book 13 0
told (Withdrawable yen) = of_layer layer.Book 14 yen
told (Line field) = of_layer layer.Line 15 field
told BaseAmount = of_layer layer.Schedule 16 0
told Mark = of_layer layer.Rule 16 0

-- what is told, as it is printed: layer, number and detail, with a comma (44) between them
abbrev pub telling_text : Telling → List ℕ
telling_text t = letter t.layer ∷ 44 ∷ (decimal t.number ++ 44 ∷ decimal t.detail)
