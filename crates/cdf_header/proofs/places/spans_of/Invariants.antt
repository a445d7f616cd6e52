use Rattle.cdf_header.proofs.Words.{◌≡◌, ◌++◌, drop, spans_of}
use Rattle.cdf_header.proofs.places.spans_of.Given as goal

abbrev pub invariant-loop-number : goal.invariant-loop-number
invariant-loop-number l = l.spans.items ++ spans_of l.header l.number (drop l.number l.header.vars) ≡ spans_of l.header 0 l.header.vars
