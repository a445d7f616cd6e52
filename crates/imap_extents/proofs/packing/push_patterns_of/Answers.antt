use Rattle.imap_extents.proofs.packing.push_patterns_of.Goals as goal

pub returns-in-Float-clause-refused : goal.returns-in-Float-clause-refused
returns-in-Float-clause-refused c = rw c.in-Float.is c.push_patterns.ensures.refused

pub returns-in-Double-clause-refused : goal.returns-in-Double-clause-refused
returns-in-Double-clause-refused c = rw c.in-Double.is c.push_patterns-in-Double.ensures.refused
