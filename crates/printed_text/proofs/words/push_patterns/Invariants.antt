use Rattle.printed_text.proofs.Cited.{◌≡◌, ◌≤◌, ◌∷◌, ◌++◌, map, take, hex, spaced}
use Rattle.printed_text.proofs.words.push_patterns.Given as goal

abbrev pub invariant-loop-k : goal.invariant-loop-k
invariant-loop-k l = record {
  pushed : l.out.items ++ take l.at l.block ≡ l.initial.out.items ++ spaced (map (λ n. 120 ∷ hex l.digits n) (take l.k l.patterns));
  bound : l.at ≤ 512;
}
