-- Each entry's bytes lie in its post.
use Rattle.data_sieving.proofs.Words.{no_entry, get_or, entry_in, source_of, entry_ends, found_at}
use Rattle.data_sieving.proofs.put.lay_all.Goals as goal

pub lay_entry-requires-clause-end : goal.lay_entry-requires-clause-end
lay_entry-requires-clause-end c = entry_ends c.args.entries.now c.loop-entry.entry-index no_entry c.requires.ends c.loop-entry-test.true

pub lay_entry-requires-clause-filled : goal.lay_entry-requires-clause-filled
lay_entry-requires-clause-filled c = c.requires.filled (get_or c.args.entries.now c.loop-entry.entry-index no_entry) (entry_in c.args.entries.now c.loop-entry.entry-index no_entry c.loop-entry-test.true)

pub lay_entry-requires-clause-found : goal.lay_entry-requires-clause-found
lay_entry-requires-clause-found c = found_at (source_of c.args.puts.now) c.args.entries.now c.loop-entry.entry-index no_entry c.loop-entry-test.true c.requires.found
