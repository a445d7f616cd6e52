-- Each entry is one of the list.
use Rattle.window_plan.proofs.Words.{Owned, entry_ends}
use Rattle.window_plan.proofs.owners.push_owners.Goals as goal

abbrev none : Owned
none = record { extent = record { at = 0; len = 0 }; rank = 0; request = 0; slot = 0; from = 0 }

pub push_owner-requires-clause-end : goal.push_owner-requires-clause-end
push_owner-requires-clause-end c = entry_ends c.args.entries.now c.loop-entry.entry-index none c.requires.ends c.loop-entry-test.true
