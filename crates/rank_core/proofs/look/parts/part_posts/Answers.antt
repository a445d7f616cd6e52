use Rattle.rank_core.proofs.Words.{ap, arith, option_copied, into_iter_items, sum_by-cons, sum_by_push, Region, product, elements_of_all, nat_tests}
use Rattle.rank_core.proofs.ValueLaws.{has_fewer, part_more, part_unfit, still_fit, unfit_append}
use Rattle.rank_core.proofs.look.parts.part_posts.Goals as goal

pub push_part-requires : goal.push_part-requires
push_part-requires c =
    let next = ap elements_of_all c.in-Some.ensures.steps.0 in
    let one = sum_by-cons (λ (g : Region). product g.count) c.in-Some.region (into_iter_items c.next.new.self) in
    grind (arith, nat_tests, has_fewer, c.loop-region.invariant.rest, c.requires.few, c.requires.values)

pub returns-in_err-elements-clause-refused : goal.returns-in_err-elements-clause-refused
returns-in_err-elements-clause-refused c =
    let next = ap elements_of_all c.in-Some.ensures.steps.0 in
    let one = sum_by-cons (λ (g : Region). product g.count) c.in-Some.region (into_iter_items c.next.new.self) in
    grind (arith, nat_tests, part_unfit, c.loop-region.invariant.rest, c.in_err-elements.ensures.refused, c.from_residual-in_err-elements.ensures.1)

pub loop-region-preserved : goal.loop-region-preserved
loop-region-preserved c =
    let kind = c.args.target.now.var.now.kind in
    let values = option_copied c.args.values in
    let next = ap elements_of_all c.in-Some.ensures.steps.0 in
    let one = sum_by-cons (λ (g : Region). product g.count) c.in-Some.region (into_iter_items c.next.new.self) in
    let more = sum_by_push (λ (g : Region). product g.count) c.loop-region.yielded c.in-Some.region in
    let elements = c.in_ok-elements.ensures.elements in
    record {
      posts = grind (arith, nat_tests, part_more, c.loop-region.invariant.posts, c.loop-region.invariant.before, c.in_ok-elements.ensures.posts);
      before = omega (arith, more, elements, c.loop-region.invariant.before);
      rest = omega (arith, elements, next, one, c.loop-region.invariant.rest);
      fit = grind (arith, nat_tests, still_fit, unfit_append kind values 0 c.loop-region.before c.in_ok-elements.elements c.loop-region.before, c.loop-region.invariant.fit, c.in_ok-elements.ensures.right);
    }
