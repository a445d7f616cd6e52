-- The shares so far are cut.
use Rattle.collective_round.proofs.Words.{◌≡◌, ◌+◌, vec_capacity}
use Rattle.collective_round.proofs.DomainCuts.{AreCut}
use Rattle.collective_round.proofs.parts.domains_of.Given as goal

abbrev pub invariant-loop-a : goal.invariant-loop-a
invariant-loop-a l =
    AreCut l.reach.at (l.reach.at + l.reach.len) l.hints.cb_nodes l.hints.striping_unit l.hints.cb_buffer l.cover l.a l.domains.items
    × (vec_capacity l.domains ≡ vec_capacity l.initial.domains)
