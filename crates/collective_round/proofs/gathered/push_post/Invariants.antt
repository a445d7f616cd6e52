-- The extents that are left give the rest of the entries.
use Rattle.collective_round.proofs.Words.{◌++◌, entries_of, extents_left}
use Rattle.collective_round.proofs.PostEntries.{IsGoing}
use Rattle.collective_round.proofs.gathered.push_post.Given as goal

abbrev pub invariant-loop-extent : goal.invariant-loop-extent
invariant-loop-extent l =
    IsGoing l.rank l.slot l.post.id l.from (extents_left l.extent-iterator) l.list.items (l.initial.list.items ++ entries_of l.dataset.header.now l.rank l.slot l.post)
