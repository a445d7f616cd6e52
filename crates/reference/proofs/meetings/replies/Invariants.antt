-- The replies so far, and those to the offers that are left.
use Rattle.reference.proofs.Words.{◌≡◌, ◌++◌, map, drop, Setting, reply_to}
use Rattle.reference.proofs.meetings.replies.Given as goal

abbrev pub invariant-loop-offer : goal.invariant-loop-offer
invariant-loop-offer l = (s : Setting) → s.header ≡ l.header
    → l.all.items ++ map (reply_to s l.pair l.records l.file) (drop l.offer-index l.offers) ≡ map (reply_to s l.pair l.records l.file) l.offers
