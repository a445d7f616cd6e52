-- Numbers that fit their fields.
use Rattle.cdf_header.proofs.Words.{◌≡◌, ℕ, ◌*◌, ◌^◌, ◌<◌, Bool, true, false, subst, arith, if◌then◌else◌, ◌==◌, begin_width, fits_count, fits_field, ltb-true, w32, w64}

fits_word : (n : ℕ) → fits_field w32 n ≡ true → n < 2 ^ 32
fits_word n h = let k : 2 * n < 2 ^ 32 = ltb-true _ _ h in omega arith

pub small_count : (version n : ℕ) → fits_count version n ≡ true → (version == 5) ≡ false → n < 2 ^ 32
small_count version n h e = fits_word n (subst (λ (b : Bool). fits_field (if b then w64 else w32) n ≡ true) e h)

pub small_begin : (version n : ℕ) → fits_field (begin_width version) n ≡ true → (version == 1) ≡ true → n < 2 ^ 32
small_begin version n h e = fits_word n (subst (λ (b : Bool). fits_field (if b then w32 else w64) n ≡ true) e h)
