-- The first parts came back from helpers, and those behind them were served in turn.
use Rattle.put_exchange.proofs.Words.{◌≡◌, ◌∙◌, ◌++◌, ap, length, rules, arith, common_steps, Rose, all_joined, came_back, domains_behind, failed_joined, left_behind, room_behind}
use Rattle.put_exchange.proofs.PutLaws.{PutBy, put_later}
use Rattle.put_exchange.proofs.exchange.put_helped.Goals as goal

pub put_in_turn-other-requires-clause-domains : goal.put_in_turn-other-requires-clause-domains
put_in_turn-other-requires-clause-domains g c κs within =
    let served = c.put_served-served.result in
    let number : c.len-first.result ≡ length served.back.items = first_of (search rules, grind (arith, common_steps)) in
    domains_behind (left_behind served c.len-first.result c.args.parts.items c.deref_mut.result.now c.args.domains.now c.put_served-served.ensures.first number c.requires.domains.one_each c.deref_mut.ensures.value)
    g.D.Disk c.args.plan.now.list.now c.requires.domains

pub joined-requires : goal.joined-requires
joined-requires g c =
    let served = c.put_served-served.result in
    let n : served.rest.len ≡ length served.rest.items = first_of (search rules, grind (arith, common_steps)) in
    room_behind served served.rest.len c.args.parts.items c.deref_mut.result.now c.put_in_turn-other.new.parts c.put_served-served.ensures.first n c.deref_mut.ensures.value c.put_in_turn-other.auto.parts

pub returns : goal.returns
returns g c =
    let served = c.put_served-served.result in
    let plan = c.args.plan.now in
    let others = c.put_in_turn-other.new.parts in
    let number : c.len-first.result ≡ length served.back.items = first_of (search rules, grind (arith, common_steps)) in
    let split = left_behind served c.len-first.result c.args.parts.items c.deref_mut.result.now c.args.domains.now c.put_served-served.ensures.first number c.requires.domains.one_each c.deref_mut.ensures.value in
    let n : served.rest.len ≡ length served.rest.items = first_of (search rules, grind (arith, common_steps)) in
    let whole = c.joined.ensures.parts ∙ ap (λ os. served.back.items ++ os) (came_back served.rest.len others c.deref_mut.result.now served.rest.items n c.deref_mut.ensures.value c.put_in_turn-other.auto.parts) in
    record {
      put = all_joined served.back.items others c.joined.result.0.items served.end c.put_in_turn-other.result c.joined.result.1 split whole c.joined.ensures.end (PutBy g.D.Disk plan) (put_later g.D.Disk plan)
          c.put_served-served.ensures.put c.put_in_turn-other.ensures.put;
      failed = failed_joined served.back.items others c.joined.result.0.items served.end c.put_in_turn-other.result c.joined.result.1 split whole c.joined.ensures.end
          (λ a b. Rose (g.D.Disk.faults a) (g.D.Disk.faults b)) c.put_served-served.ensures.failed c.put_in_turn-other.ensures.failed;
    }
