-- The numbers of a list, in the forms in which it lies in memory. (own)
use Rattle.std.specs.Prelude.{ℕ, List, map, flat_map, ℤ, pos, ◌+ℤ◌, ◌*ℤ◌}
use Rattle.std.specs.List.{range_with_len}
use Rattle.nc_base.specs.declared.numbers.NumberRun.{NumberRun}
use Rattle.nc_base.specs.declared.numbers.NumberForm.{NumberForm}
use Rattle.nc_base.specs.declared.numbers.NumberForm.TheVariants as form
use Rattle.nc_base.specs.declared.numbers.NumberWords.{NumberWords}
use Rattle.nc_base.specs.declared.numbers.NumberWords.TheVariants.{Narrow, Wide, Widest, Runs}

-- a, a + b, a + 2b and so on
abbrev pub steps : ℤ → ℤ → ℕ → List ℤ
steps a b n = map (λ k. a +ℤ (b *ℤ pos k)) (range_with_len 0 n)

abbrev pub numbers_of_run : NumberRun → List ℤ
numbers_of_run r = steps r.first r.step r.count

abbrev pub numbers_of_runs : List NumberRun → List ℤ
numbers_of_runs rs = flat_map numbers_of_run rs

abbrev pub numbers_in : NumberWords → List ℤ
numbers_in (Narrow words) = words.now
numbers_in (Wide words) = words.now
numbers_in (Widest words) = words.now
numbers_in (Runs runs) = numbers_of_runs runs.now

abbrev pub numbers_of_form : NumberForm → List ℤ
numbers_of_form (form.Narrow words) = words.items
numbers_of_form (form.Wide words) = words.items
numbers_of_form (form.Widest words) = words.items
numbers_of_form (form.Runs runs) = numbers_of_runs runs.items
