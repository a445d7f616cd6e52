use Rattle.std.proofs.Common.{◌≡◌, map, pos, ◌+ℤ◌, ◌*ℤ◌}
use Rattle.std.specs.List.{range_with_len}
use Rattle.script_values.proofs.sequences.each_number.Given as goal

abbrev pub invariant-loop-k : goal.invariant-loop-k
invariant-loop-k l = l.found.items ≡ map (λ k. l.first +ℤ (l.step *ℤ pos k)) (range_with_len 0 l.k)
