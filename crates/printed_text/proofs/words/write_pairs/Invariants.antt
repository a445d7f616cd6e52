use Rattle.printed_text.proofs.Cited.{◌≡◌, ◌+◌, ◌*◌, ◌≤◌, ◌++◌, hex, length, take, drop}
use Rattle.printed_text.proofs.words.write_pairs.Given as goal

abbrev pub invariant-loop-left : goal.invariant-loop-left
invariant-loop-left l = record {
  written : take l.start l.fn.text ++ hex (2 * l.pairs) l.number ++ drop (l.start + 2 * l.pairs) l.fn.text ≡ take l.start l.text ++ hex (2 * l.left) l.rest ++ drop (l.start + 2 * l.left) l.text;
  same : length l.text ≡ length l.fn.text;
  bound : l.left ≤ l.pairs;
}

abbrev pub decreases-loop-left : goal.decreases-loop-left
decreases-loop-left l = l.left
