-- One rank more.
use Rattle.reference.proofs.Words.{List, refl, sym, flat_map, enumerate_from, puts_of, Offer}
use Rattle.list_laws.proofs.Maps.{next_numbered}
use Rattle.reference.proofs.GatherLaws.{none_left}
use Rattle.reference.proofs.steps.puts_of.Goals as goal

pub loop-rank-preserved : goal.loop-rank-preserved
loop-rank-preserved c =
    next_numbered puts_of c.args.offers.now c.loop-rank.rank c.loop-rank.rank _ c.index-offers-rank.result c.index-offers-rank.result c.loop-rank.puts.items _ _ c.loop-rank-test.true
    (sym c.index-offers-rank.is) refl c.in_ok-add_puts.ensures c.loop-rank.invariant

pub returns : goal.returns
returns c =
    none_left (λ (os : List Offer). flat_map puts_of (enumerate_from c.loop-rank.rank os)) c.args.offers.now c.loop-rank.rank c.loop-rank.puts.items _ refl c.loop-rank-test.false
    c.loop-rank.invariant
