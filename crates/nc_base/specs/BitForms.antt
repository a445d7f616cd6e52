-- The bit patterns of a list, in the forms in which it lies in memory. (own)
use Rattle.std.specs.Prelude.{ℕ, ◌+◌, ◌*◌, ◌%◌, ◌^◌, List, map, flat_map}
use Rattle.std.specs.List.{range_with_len}
use Rattle.nc_base.specs.declared.bits.BitRun.{BitRun}
use Rattle.nc_base.specs.declared.bits.BitForm.{BitForm}
use Rattle.nc_base.specs.declared.bits.BitForm.TheVariants as form
use Rattle.nc_base.specs.declared.bits.BitWords.{BitWords}
use Rattle.nc_base.specs.declared.bits.BitWords.TheVariants.{Narrow, Wide, Runs}

-- a, a + b, a + 2b and so on, in 64 bits
abbrev pub bit_steps : ℕ → ℕ → ℕ → List ℕ
bit_steps a b n = map (λ k. (a + b * k) % 2 ^ 64) (range_with_len 0 n)

abbrev pub bits_of_run : BitRun → List ℕ
bits_of_run r = bit_steps r.first r.step r.count

abbrev pub bits_of_runs : List BitRun → List ℕ
bits_of_runs rs = flat_map bits_of_run rs

abbrev pub bits_in : BitWords → List ℕ
bits_in (Narrow words) = words.now
bits_in (Wide words) = words.now
bits_in (Runs runs) = bits_of_runs runs.now

abbrev pub bits_of_form : BitForm → List ℕ
bits_of_form (form.Narrow words) = words.items
bits_of_form (form.Wide words) = words.items
bits_of_form (form.Runs runs) = bits_of_runs runs.items
