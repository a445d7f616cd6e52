-- One domain more.
use Rattle.exchange_crew.proofs.Words.{sym, subst, List, arith, take_all, Extent, In}
use Rattle.exchange_crew.proofs.BackLaws.{longest_more}
use Rattle.exchange_crew.proofs.walk.longest_window.Goals as goal

abbrev none : Extent
none = record { at = 0; len = 0 }

pub loop-domain-preserved : goal.loop-domain-preserved
loop-domain-preserved c = longest_more c.args.size _ _ none c.loop-domain.longest _ c.loop-domain-test.true c.loop-domain.invariant (omega arith) (omega arith)

pub returns : goal.returns
returns c = λ d m. c.loop-domain.invariant d (subst (λ (ds : List Extent). In ds d) (sym (take_all c.loop-domain.domain-index c.args.domains.now c.loop-domain-test.false)) m)
