use Rattle.rank_core.proofs.Words.{◌∙◌, ap, subst, sym, length, arith, Header, Batch, is_chosen, named, IsSoundWant, posts_held, AreOnce, nat_tests}
use Rattle.nc_base.specs.declared.answer.Code.TheVariants as code
use Rattle.serial_spec.specs.RankMachine as machine
use Rattle.rank_core.proofs.RequestLaws.{once_items, taken_few}
use Rattle.rank_core.proofs.rank.Rank.wait.Goals as goal

pub offer-requires-clause-once : goal.offer-requires-clause-once
offer-requires-clause-once c = subst AreOnce (sym c.in_ok-batch.ensures.items) (once_items c.args.self.now.state c.args.choice.now)

pub returns-clause-step : goal.returns-clause-step
returns-clause-step c =
    let r = c.args.self.now.state in
    let after = c.in_ok-batch.ensures.after in
    let items = c.in_ok-batch.ensures.items in
    let batch = c.in_ok-batch.ensures.batch in
    let gets = c.in_ok-clone.ensures ∙ ap (λ (b : Batch). b.gets) batch in
    let independent = c.is_independent.ensures ∙ ap (λ (x : machine.Rank). x.independent) after in
    let step = c.offer.ensures.step in
    record {
      right = grind (arith, nat_tests);
      sound = subst (λ (h : Header). IsSoundWant h c.offer.result) c.in_ok-batch.ensures.header step.sound;
      few = omega (arith, step.few, ap posts_held after, ap (λ (b : Batch). length b.puts) batch, ap (λ (b : Batch). length b.gets) batch, taken_few (is_chosen (named r c.args.choice.now)) r.posted);
      held = omega (arith, step.held, ap posts_held after, ap (λ (b : Batch). length b.puts) batch, ap (λ (b : Batch). length b.gets) batch, taken_few (is_chosen (named r c.args.choice.now)) r.posted);
    }
