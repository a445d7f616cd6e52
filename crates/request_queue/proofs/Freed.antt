-- What is freed is taken from the bytes in use.
use Rattle.std.proofs.lemmas.Grind.{common_steps}
use Rattle.std.proofs.Common.{◌≡◌, ℕ, zero, suc, ◌+◌, List, [], ◌∷◌, length, Option, Some, None, set, arith}
use Rattle.std.specs.Prelude.{slice_get, sum_by}
use Rattle.std.proofs.lemmas.List.Sums.{sum_by-cons}
use Rattle.request_queue.specs.Buffer.{len_of, unless_freed}

pub freed : (placed : List (Option (List ℕ))) (n : ℕ) (bytes : List ℕ) → unless_freed (slice_get placed n) ≡ Some bytes
    → sum_by len_of (set placed n None) + length bytes ≡ sum_by len_of placed
freed [] n bytes h = cc
freed placed zero bytes h = grind (arith, common_steps, sum_by-cons len_of None placed, unless_freed, slice_get, sum_by, len_of)
freed (p ∷ placed) (suc n) bytes h =
    omega (arith, sum_by-cons len_of p placed, sum_by-cons len_of p (set placed n None), freed placed n bytes h)
