use Rattle.script_calls.proofs.Words.{◌≡◌, [], length, ids}
use Rattle.script_calls.proofs.calls.ids.Given as goal

abbrev pub invariant-loop-found : goal.invariant-loop-found
invariant-loop-found l = ids l.found l.words ≡ ids [] l.fn.words

abbrev pub decreases-loop-found : goal.decreases-loop-found
decreases-loop-found l = length l.words
