use Rattle.cdf_header.proofs.Words.{◌≡◌, drop, partner}
use Rattle.cdf_header.proofs.shared.partner.Given as goal

abbrev pub invariant-loop-q : goal.invariant-loop-q
invariant-loop-q l = partner l.size l.p (drop l.q-index l.behind) ≡ partner l.size l.p l.behind
