use Rattle.script_text.proofs.Words.{◌≡◌, ◌++◌, take, flat_map, shown_extra}
use Rattle.script_text.proofs.definitions.push_extras.Given as goal

abbrev pub invariant-loop-extra : goal.invariant-loop-extra
invariant-loop-extra l = l.out.items ≡ l.initial.out.items ++ flat_map shown_extra (take l.extra-index l.extras)
