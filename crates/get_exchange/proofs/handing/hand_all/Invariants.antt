-- Each part so far was handed to a helper, or the part is among the rest.
use Rattle.get_exchange.proofs.Words.{IsHanding, IsPast, domain_of, part_of, IsFresh}
use Rattle.get_exchange.proofs.handing.hand_all.Given as goal

abbrev pub invariant-loop-part : goal.invariant-loop-part
invariant-loop-part g l = record {
  handing : IsHanding (λ worker. IsFresh l.plan worker) (λ worker. part_of worker) (λ worker. domain_of worker) l.domains l.fn.supply.parts.items l.yielded l.part-iterator.rest.items l.initial.shares l.shares;
  past : IsPast l.ahead.place l.plan.list.now l.ahead.entries.now;
}
