use Rattle.plan_text.proofs.Cited.{◌≡◌, ◌++◌, take, flat_map, json_character}
use Rattle.plan_text.proofs.json.push_characters.Given as goal

abbrev pub invariant-loop-byte : goal.invariant-loop-byte
invariant-loop-byte l = l.out.items ≡ l.initial.out.items ++ flat_map json_character (take l.byte-index l.text)
