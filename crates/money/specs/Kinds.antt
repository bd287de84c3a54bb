-- The kind of each product.
use Rattle.std.specs.Prelude.{ℕ, cond, ℤ}
use Rattle.money.specs.declared.Yen.{Yen}
use Rattle.money.specs.declared.ProductKind.{ProductKind}
use Rattle.money.specs.declared.ProductKind.TheVariants as product
use Rattle.money.specs.Products.{step_worth, converter, is_yen}

-- so many yen
abbrev pub yen : ℤ → Yen
yen z = record { 0 = z }

-- a yen product, or a cross product with the product that converts its money
abbrev pub kind_of : ℕ → ProductKind
kind_of p = cond (is_yen p) (product.Yen (record { step = step_worth p })) (product.Cross (record { step = step_worth p; by = converter p }))
