use Rattle.printed_text.proofs.Cited.{◌≡◌, ◌++◌, take, flat_map, text_char}
use Rattle.printed_text.proofs.words.push_quoted.Given as goal

abbrev pub invariant-loop-byte : goal.invariant-loop-byte
invariant-loop-byte l = l.out.items ≡ l.initial.out.items ++ flat_map text_char (take l.byte-index l.text)
