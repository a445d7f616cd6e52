use Rattle.imap_extents.proofs.Cited.{◌≡◌, ◌+◌, ◌*◌, ◌^◌, false, not, map, ◌%◌, list_any, range_with_len, fits}
use Rattle.nc_base.specs.declared.request.Value.TheVariants as value
use Rattle.imap_extents.proofs.runs.any_pattern_unfit.Given as goal

abbrev pub invariant-loop-k : goal.invariant-loop-k
invariant-loop-k l = list_any (λ v. not (fits l.kind v)) (map (λ k. value.Bits ((l.run.first + l.run.step * k) % 2 ^ 64)) (range_with_len 0 l.k)) ≡ false
