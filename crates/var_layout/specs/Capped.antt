-- Sizes and places of headers whose variables may be too large. (own)
use Rattle.std.specs.Prelude.{ℕ, ◌^◌, min}

-- the number where it is below 2^62, and 2^62 from there on
abbrev pub capped : ℕ → ℕ
capped n = min n (2 ^ 62)
