use Rattle.ncmpi_script.proofs.Words.{◌≡◌, ◌≤◌, take, newlines}
use Rattle.ncmpi_script.proofs.top.newlines.Given as goal

abbrev pub invariant-loop-character : goal.invariant-loop-character
invariant-loop-character l = record {
  value : l.count ≡ newlines (take l.character-index l.text);
  bound : l.count ≤ l.character-index;
}
