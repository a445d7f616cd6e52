-- Each entry has all bytes from the place to its end.
use Rattle.data_sieving.proofs.Words.{no_entry, ◌∙◌, ap, subst, List, max, min, arith, ℕ, take_all, Owned, Reach, entry_ends, nat_tests}
use Rattle.data_sieving.proofs.HullSteps.{reach_none, reach_more}
use Rattle.data_sieving.proofs.walk.reach.Goals as goal

pub end_of-requires : goal.end_of-requires
end_of-requires c = grind (arith, nat_tests, entry_ends)

pub loop-entry-init : goal.loop-entry-init
loop-entry-init c = reach_none c.args.at c.args.stop c.args.carried.now c.requires.order

pub loop-entry-preserved : goal.loop-entry-preserved
loop-entry-preserved c =
    reach_more c.args.at c.args.stop c.loop-entry.end c.max-end.result c.loop-entry.entry-index c.args.carried.now no_entry c.loop-entry-test.true c.requires.across
    (c.max-end.ensures ∙ ap (λ (n : ℕ). max c.loop-entry.end n) (c.min.ensures ∙ ap (λ (n : ℕ). min n c.args.stop) c.end_of.ensures))
    c.requires.order c.loop-entry.invariant

pub returns : goal.returns
returns c =
    subst (λ (l : List Owned). Reach c.args.at c.args.stop l c.loop-entry.end) (take_all c.loop-entry.entry-index c.args.carried.now c.loop-entry-test.false) c.loop-entry.invariant
