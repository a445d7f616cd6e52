use Rattle.ruled_line.proofs.Words.{◌≡◌, view, IsSeatAt, sends_on}
use Rattle.ruled_line.proofs.line_ends.LinePut.put.Given as goal

abbrev pub invariant-loop : goal.invariant-loop
invariant-loop g l =
    IsSeatAt (sends_on l.self-inside.sender) l.self-inside.pass × (view l.self-inside.pass ≡ view l.initial.self-inside.pass)
    × (sends_on l.self-inside.sender ≡ sends_on l.initial.self-inside.sender) × (l.next ≡ l.initial.next)
