-- The first parts came back from helpers, and those behind them were read in turn.
use Rattle.get_exchange.proofs.Words.{◌≡◌, ◌∙◌, ◌++◌, ap, length, rules, arith, common_steps, Rose, all_joined, came_back, domains_behind, failed_joined, left_behind, room_behind}
use Rattle.get_exchange.proofs.CollectLaws.{fit_as_long}
use Rattle.get_exchange.proofs.FetchLaws.{GotBy, got_later}
use Rattle.get_exchange.proofs.PartReads.{parts_joined}
use Rattle.get_exchange.proofs.exchange.get_helped.Goals as goal

pub get_in_turn-other-requires-clause-domains : goal.get_in_turn-other-requires-clause-domains
get_in_turn-other-requires-clause-domains g c κs within =
    let served = c.get_served-served.result in
    let number : c.len-first.result ≡ length served.back.items = first_of (search rules, grind (arith, common_steps)) in
    domains_behind (left_behind served c.len-first.result c.args.parts.items c.deref_mut.result.now c.args.domains.now c.get_served-served.ensures.first number c.requires.domains.one_each c.deref_mut.ensures.value)
    g.D.Disk c.args.plan.now.list.now c.requires.domains

pub get_in_turn-other-requires-clause-fit : goal.get_in_turn-other-requires-clause-fit
get_in_turn-other-requires-clause-fit g c κs within = fit_as_long c.args.table.now c.get_served-served.new.table c.args.plan.now.list.now c.get_served-served.ensures.blobs c.requires.fit

pub joined-requires : goal.joined-requires
joined-requires g c =
    let served = c.get_served-served.result in
    let n : served.rest.len ≡ length served.rest.items = first_of (search rules, grind (arith, common_steps)) in
    room_behind served served.rest.len c.args.parts.items c.deref_mut.result.now c.get_in_turn-other.new.parts c.get_served-served.ensures.first n c.deref_mut.ensures.value c.get_in_turn-other.auto.parts

pub returns : goal.returns
returns g c =
    let served = c.get_served-served.result in
    let plan = c.args.plan.now in
    let others = c.get_in_turn-other.new.parts in
    let number : c.len-first.result ≡ length served.back.items = first_of (search rules, grind (arith, common_steps)) in
    let split = left_behind served c.len-first.result c.args.parts.items c.deref_mut.result.now c.args.domains.now c.get_served-served.ensures.first number c.requires.domains.one_each c.deref_mut.ensures.value in
    let n : served.rest.len ≡ length served.rest.items = first_of (search rules, grind (arith, common_steps)) in
    let whole = c.joined.ensures.parts ∙ ap (λ os. served.back.items ++ os) (came_back served.rest.len others c.deref_mut.result.now served.rest.items n c.deref_mut.ensures.value c.get_in_turn-other.auto.parts) in
    record {
      got = all_joined served.back.items others c.joined.result.0.items served.end c.get_in_turn-other.result c.joined.result.1 split whole c.joined.ensures.end (GotBy g.D.Disk plan) (got_later g.D.Disk plan)
          c.get_served-served.ensures.got c.get_in_turn-other.ensures.got;
      read = parts_joined (λ d. g.D.Disk.from d) (λ d. g.D.Disk.held d) plan _ _ _ _ _ _ c.get_served-served.new.table c.get_in_turn-other.new.table _ _ _ split c.joined.ensures.end c.get_served-served.ensures.read c.get_in_turn-other.ensures.read;
      blobs = c.get_in_turn-other.ensures.blobs ∙ c.get_served-served.ensures.blobs;
      failed = failed_joined served.back.items others c.joined.result.0.items served.end c.get_in_turn-other.result c.joined.result.1 split whole c.joined.ensures.end
          (λ a b. Rose (g.D.Disk.faults a) (g.D.Disk.faults b)) c.get_served-served.ensures.failed c.get_in_turn-other.ensures.failed;
    }
