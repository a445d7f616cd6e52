-- The ranges of whole numbers.
use Rattle.std.specs.Prelude.{ℕ, ◌*◌, ℤ, pos, negsuc, Bool, false, nat_lt}

-- how far a number is from 0, or a negative one from -1
abbrev pub magnitude : ℤ → ℕ
magnitude (pos n) = n
magnitude (negsuc n) = n

-- one of so many numbers, half of them negative
abbrev pub signed_below : ℕ → ℤ → Bool
signed_below values z = nat_lt (2 * magnitude z) values

-- one of so many numbers from 0 on
abbrev pub unsigned_below : ℕ → ℤ → Bool
unsigned_below values (pos n) = nat_lt n values
unsigned_below values (negsuc n) = false
