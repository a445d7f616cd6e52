-- The entries with which an aggregator's walk begins. (own)
--     IsReader plan reader     what is left of the plan's entries without some that end before its domain
use Rattle.aggregator_rounds.specs.Left.{IsPast}
use Rattle.exchange_crew.specs.declared.plan.GetPlan.{GetPlan}
use Rattle.get_exchange.specs.declared.walk.Reader.{Reader}

abbrev pub IsReader : GetPlan → Reader → Type 0
IsReader plan reader = IsPast reader.aggregator.domain.at plan.list.now reader.entries.now
