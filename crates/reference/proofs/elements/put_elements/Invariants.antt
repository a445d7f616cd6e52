-- The elements that are left make the whole.
use Rattle.reference.proofs.Words.{◌≡◌, ◌*◌, drop, size_of, cells, places, put, write_cells}
use Rattle.reference.proofs.elements.put_elements.Given as goal

abbrev pub invariant-loop-number : goal.invariant-loop-number
invariant-loop-number l =
    write_cells l.file.items (cells (size_of l.of.kind) (drop l.number (places l.header l.of l.post.region)) (drop (l.number * size_of l.of.kind) l.post.bytes))
    ≡ put l.header l.of l.post.region l.post.bytes l.initial.file.items
