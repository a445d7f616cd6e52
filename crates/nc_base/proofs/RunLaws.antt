-- Numbers of one step, and one more of them.
use Rattle.nc_base.proofs.Words.{◌≡◌, ℕ, ◌+◌, List, [], ◌∷◌, ◌++◌, length, arith, ℤ, pos, ◌+ℤ◌, ◌*ℤ◌, map-range_with_len_more, NumberRun, steps, numbers_of_run, numbers_of_runs}
use Rattle.nc_base.proofs.RunLists as lists

-- a run, as RunLists has it
abbrev pub number : NumberRun → ℕ → ℤ
number r k = r.first +ℤ (r.step *ℤ pos k)

abbrev pub count : NumberRun → ℕ
count r = r.count

pub steps_more : (a b : ℤ) (n : ℕ) → steps a b (n + 1) ≡ steps a b n ++ (a +ℤ (b *ℤ pos n)) ∷ []
steps_more a b n = map-range_with_len_more (λ k. a +ℤ (b *ℤ pos k)) 0 n n (omega arith)

pub runs_push : (rs : List NumberRun) (r : NumberRun) → numbers_of_runs (rs ++ r ∷ []) ≡ numbers_of_runs rs ++ numbers_of_run r
runs_push rs r = lists.runs_push number count rs r

pub length_after : (zs : List ℤ) (r : NumberRun) → length (zs ++ numbers_of_run r) ≡ length zs + r.count
length_after zs r = lists.length_after number count zs r
