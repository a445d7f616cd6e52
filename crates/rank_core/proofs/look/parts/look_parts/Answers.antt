use Rattle.rank_core.proofs.Words.{◌∙◌, sym, ap, arith, eqb-false, eqb-true, look_of, option_copied, nat_tests}
use Rattle.rank_core.proofs.OutcomeLaws.{failed}
use Rattle.rank_core.proofs.TargetLaws.{parts_come, parts_empty, parts_refused, regions_few}
use Rattle.rank_core.proofs.look.parts.look_parts.Goals as goal

pub returns-in_err-check_parts : goal.returns-in_err-check_parts
returns-in_err-check_parts c =
    grind (arith, nat_tests, failed, parts_refused, c.from_residual.ensures.1, c.direction_of-direction.ensures, c.in_err-check_parts.ensures.refused)

pub returns-then-is_empty : goal.returns-then-is_empty
returns-then-is_empty c =
    let regions = c.in_ok-regions.regions in
    let none = eqb-true _ 0 (sym c.is_empty.ensures ∙ c.if-is_empty.true) in
    ap look_of c.new.ensures
    ∙ parts_empty _ _ _ _ c.direction_of-direction.ensures c.in_ok-check_parts.ensures.ok regions.items c.in_ok-regions.ensures (omega (arith, none, regions.ok.0))

pub asked_posts-requires : goal.asked_posts-requires
asked_posts-requires c =
    record { few = regions_few c.args.target.now c.args.given.now (option_copied c.args.values) _ c.direction_of-direction.ensures c.in_ok-check_parts.ensures.ok c.in_ok-regions.regions.items c.in_ok-regions.ensures }

pub returns : goal.returns
returns c =
    let regions = c.in_ok-regions.regions in
    let some = eqb-false _ 0 (sym c.is_empty.ensures ∙ c.if-is_empty.false) in
    parts_come _ _ _ _ c.direction_of-direction.ensures c.in_ok-check_parts.ensures.ok regions.items c.in_ok-regions.ensures c.asked_posts.result (omega (arith, some, regions.ok.0))
    c.asked_posts.ensures.ok c.asked_posts.ensures.right c.asked_posts.ensures.refused
