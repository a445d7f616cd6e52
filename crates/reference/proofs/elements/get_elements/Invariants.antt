-- The bytes so far, and those of the elements that are left.
use Rattle.reference.proofs.Words.{◌≡◌, ◌++◌, drop, flat_map, size_of, read, get, places}
use Rattle.reference.proofs.elements.get_elements.Given as goal

abbrev pub invariant-loop-number : goal.invariant-loop-number
invariant-loop-number l =
    l.bytes.items ++ flat_map (λ x. read l.file x (size_of l.of.kind)) (drop l.number (places l.header l.of l.post.region)) ≡ get l.header l.of l.post.region l.file
