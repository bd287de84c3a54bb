-- The figures of a record within bounds, and the sum of few of them.
use Rattle.std.proofs.Common.{ℕ, Bool, true, false, cond, ◌&&◌, eqb, ℤ, pos}
use lib.Signed.{le_z_yes}
use Rattle.records.specs.declared.sum.Told.{Told}
use Rattle.records.specs.Sum.{share, Within}

within_cond : (b : Bool) (z : ℤ) → Within z → Within (cond b z (pos 0))
within_cond true z h = h
within_cond false z h = (le_z_yes tt, le_z_yes tt)

pub within_share : (a p c : ℕ) (t : Told) → Within t.figure → Within (share a p c t)
within_share a p c t h = within_cond (eqb t.account a && (eqb t.product p && eqb t.column c)) t.figure h
