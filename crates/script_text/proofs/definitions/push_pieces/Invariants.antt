use Rattle.script_text.proofs.Words.{◌≡◌, ◌*◌, ◌∷◌, ◌++◌, length, flat_map, size_of, val, pieces, value_word}
use Rattle.script_text.proofs.definitions.push_pieces.Given as goal

-- what is left gives the whole
abbrev pub invariant-loop-left : goal.invariant-loop-left
invariant-loop-left l = record {
  lasts : length l.rest ≡ l.left * size_of l.kind;
  whole : l.out.items ++ flat_map (λ piece. 32 ∷ value_word (val l.kind piece)) (pieces l.left (size_of l.kind) l.rest)
      ≡ l.initial.out.items ++ flat_map (λ piece. 32 ∷ value_word (val l.kind piece)) (pieces l.count (size_of l.kind) l.bytes);
}

abbrev pub decreases-loop-left : goal.decreases-loop-left
decreases-loop-left l = l.left
