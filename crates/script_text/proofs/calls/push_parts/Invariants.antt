use Rattle.script_text.proofs.Words.{◌≡◌, ◌++◌, take, flat_map, part_words, spaced}
use Rattle.script_text.proofs.calls.push_parts.Given as goal

abbrev pub invariant-loop-part : goal.invariant-loop-part
invariant-loop-part l = l.out.items ≡ l.initial.out.items ++ flat_map (λ part. spaced (part_words part)) (take l.part-index l.parts)
