-- The bytes so far, and those of the elements that are left.
use Rattle.reference.proofs.Words.{◌≡◌, ◌++◌, drop, flat_map, range_with_len, size_of, places}
use Rattle.reference.proofs.elements.bytes_of_elements.Given as goal

abbrev pub invariant-loop-number : goal.invariant-loop-number
invariant-loop-number l =
    l.list.items ++ flat_map (λ x. range_with_len x (size_of l.of.kind)) (drop l.number (places l.header l.of l.post.region))
    ≡ flat_map (λ x. range_with_len x (size_of l.of.kind)) (places l.header l.of l.post.region)
