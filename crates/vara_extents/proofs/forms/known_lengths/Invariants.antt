use Rattle.vara_extents.proofs.Words.{◌≡◌, ℕ, map, take, slice_get, if◌then◌else◌, ◌==◌, length_of}
use Rattle.vara_extents.proofs.forms.known_lengths.Given as goal

abbrev pub invariant-loop-id : goal.invariant-loop-id
invariant-loop-id l = l.lengths.items ≡ map (λ (n : ℕ). if n == 0 then l.known else n) (map (λ (id : ℕ). length_of (slice_get l.header.dims id)) (take l.id-index l.var.dims))
