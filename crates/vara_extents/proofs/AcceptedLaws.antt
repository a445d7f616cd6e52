-- What is known of a region that a check accepts.
use Rattle.vara_extents.proofs.Words.{◌≡◌, ℕ, ◌^◌, ◌<◌, refl, length, Bool, true, false, cond, eqb, Some, arith, slice_get, list_any, or_parts, leb-false, Header, Var, Region, Direction, Code, record_limit, records_of, check_var, bounds, other_shape, some_start, some_edge, asks_too_much, IsAccepted, nat_tests}
use Rattle.nc_base.specs.declared.answer.Code.TheVariants as code

passes : (b : Bool) (c rest : Code) → (c ≡ code.Ok → ⊥) → cond b c rest ≡ code.Ok → (b ≡ false) × (rest ≡ code.Ok)
passes true c rest n h = absurd (n h)
passes false c rest n h = (refl, h)

-- none of the causes holds
pub record Passes (header : Header) (var : Var) (g : Region) (known : ℕ) (direction : Direction) : Type 0 where
  pub shape : other_shape (length var.dims) g ≡ false
  pub stride : list_any (λ d. eqb d 0) g.stride ≡ false
  pub start : some_start (bounds header var known direction) g.start g.count ≡ false
  pub edge : some_edge (bounds header var known direction) g.start g.count g.stride ≡ false
  pub large : asks_too_much header var g ≡ false

pub passed : (header : Header) (var : Var) (g : Region) (known : ℕ) (direction : Direction) → check_var header var g known direction ≡ code.Ok → Passes header var g known direction
passed header var g known direction h = grind (arith, nat_tests, passes)

pub records_below : (header : Header) (var : Var) (g : Region) → asks_too_much header var g ≡ false → records_of header var g < record_limit header.version
records_below header var g h = grind (arith, nat_tests, or_parts, leb-false)

pub records_fit : (header : Header) (k : ℕ) (var : Var) (g : Region) → slice_get header.vars k ≡ Some var → IsAccepted header k g → records_of header var g < 2 ^ 62
records_fit header k var g is accepted = grind (arith, nat_tests, passed header var g accepted.0 accepted.1, records_below header var g)
