-- The windows of a domain begin no earlier than it does.
use Rattle.put_exchange.proofs.Words.{◌≤◌, List, min, refl, rules, arith, common_steps, subst, sym, AreTurns, LieOnPart, Told, TurnWalk, plan_on, plan_turns}
use Rattle.put_exchange.proofs.MailLaws.{own_domain, walk_onward}
use Rattle.put_exchange.proofs.packing.walk_of.Goals as goal

pub returns : goal.returns
returns c =
    let plan = c.args.plan.now in
    let batches = plan.job.now.batches in
    let list = plan.list.now in
    let cover = plan.cover.now in
    let size = plan.hints.now.cb_buffer in
    let domain = c.args.domain in
    let room = min size domain.len in
    let low : c.args.ahead.now.place ≤ domain.at = first_of (search rules, grind (arith, common_steps)) in
    let on = subst (λ (ts : List Told). LieOnPart domain.at domain.len ts) (sym c.new-walk.ensures.windows)
    (plan_on _ _ _ _ _ _ _ c.requires.plan (own_domain list domain)) in
    let turns = subst (λ (ts : List Told). AreTurns list room ts) (sym c.new-walk.ensures.windows) (plan_turns _ _ _ _ domain c.requires.plan) in
    let onward : TurnWalk = record { windows = c.new-walk.result.windows; entries = c.args.ahead.now.entries } in
    let got = walk_onward _ _ _ domain _ onward c.requires.plan.sorted c.requires.plan.ends c.requires.past low on refl c.new-walk.ensures.ready turns in
    record { ready = got.ready; windows = first_of (search rules, grind (arith, common_steps)); at = got.at }
