-- The lowest bytes of a number: those of a value, where the value is in a type's range.
use Rattle.imap_extents.proofs.Cited.{◌≡◌, ℕ, zero, suc, ◌+◌, ◌*◌, ◌^◌, ◌<◌, ◌≤◌, refl, map, true, false, not, arith, pos, negsuc, ◌+ℤ◌, FitsSigned, to_z, of_z, ◌%◌, flat_map, list_any, range_with_len, w8, w64, byte_len, byte_at, bytes_high_first, to_be_bytes, cast_unsigned, int_wrap, int_rem_euclid, unsigned_abs, to_z-of_z, wrapping_add-bits, wrapping_mul-bits, int_wrap-add_right, NcType, Value, width_of, ext, fits, nat_tests, Width}
use Rattle.std.proofs.Common.{ℤ, ◌*ℤ◌}
use Rattle.nc_base.specs.declared.request.Value.TheVariants as value
use mir.Val.{bits}

same_bytes : (k m n : ℕ) → ((i : ℕ) → i < k → byte_at i m ≡ byte_at i n) → bytes_high_first k m ≡ bytes_high_first k n
same_bytes zero m n h = refl
same_bytes (suc k) m n h = grind (arith, nat_tests, same_bytes k m n)

narrow : (kind : NcType) → byte_len (width_of kind) ≤ 8
narrow kind = grind (arith, nat_tests)

-- ---- two's complement

wrapped : (z : ℤ) → cast_unsigned w64 (int_wrap w64 z) ≡ unsigned_abs (int_rem_euclid z (pos (2 ^ bits w64)))
unfolding int_wrap
wrapped z = grind (arith, nat_tests)

complement : (w : Width) (n : ℕ) → byte_len w ≤ 8 → 2 * n < 256 ^ byte_len w → to_be_bytes w (cast_unsigned w64 (int_wrap w64 (negsuc n))) ≡ to_be_bytes w (cast_unsigned w (negsuc n))
complement w8 n l h = grind (arith, nat_tests, wrapped (negsuc n))
complement w64 n l h = grind (arith, nat_tests, wrapped)
complement w n l h = grind (arith, nat_tests, wrapped (negsuc n), same_bytes)

-- a number in the range of a type has there the lowest bytes that it has in 64 bits
pub number_form : (kind : NcType) (z : ℤ) → fits kind (value.Number z) ≡ true → to_be_bytes (width_of kind) (cast_unsigned w64 (int_wrap w64 z)) ≡ ext kind (value.Number z)
number_form kind z h = grind (arith, nat_tests, wrapped, same_bytes, narrow, complement)

below_wrap : (z : ℤ) → FitsSigned w64 z → of_z w64 z < 2 ^ bits w64
below_wrap z f = grind (arith, nat_tests)

-- a sum of a number and a product that wrap is that sum, wrapped
pub wrapped_step : (a b z : ℤ) (k : ℕ) → FitsSigned w64 a → FitsSigned w64 b → FitsSigned w64 z → z ≡ pos k
    → to_z w64 ((of_z w64 a + (of_z w64 b * of_z w64 z) % 2 ^ 64) % 2 ^ 64) ≡ int_wrap w64 (a +ℤ (b *ℤ pos k))
wrapped_step a b z k fa fb fz is =
    let sum = wrapping_add-bits w64 (of_z w64 a) ((of_z w64 b * of_z w64 z) % 2 ^ 64) (below_wrap a fa) (omega arith) in
    let product = wrapping_mul-bits w64 (of_z w64 b) (of_z w64 z) (below_wrap b fb) (below_wrap z fz) in
    rw (sum, product, to_z-of_z w64 a fa, to_z-of_z w64 b fb, to_z-of_z w64 z fz, is) (int_wrap-add_right w64 a (b *ℤ pos k))

-- values that all are in the range, from numbers that have their lowest bytes
pub fitting_forms : (kind : NcType) (at : ℕ → Value) (code : ℕ → ℕ) (s n : ℕ) → ((k : ℕ) → fits kind (at k) ≡ true → to_be_bytes (width_of kind) (code k) ≡ ext kind (at k))
    → list_any (λ v. not (fits kind v)) (map at (range_with_len s n)) ≡ false
    → flat_map (λ k. to_be_bytes (width_of kind) (code k)) (range_with_len s n) ≡ flat_map (λ v. ext kind v) (map at (range_with_len s n))
fitting_forms kind at code s zero h fit = refl
fitting_forms kind at code s (suc n) h fit = grind (arith, nat_tests, fits kind (at s), fitting_forms kind at code (s + 1) n h)
