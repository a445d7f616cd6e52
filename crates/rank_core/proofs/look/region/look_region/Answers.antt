use Rattle.rank_core.proofs.Words.{◌≡◌, ◌∙◌, sym, ap, true, false, ltb, option_copied, err_from_is_err_and, product, look_of}
use Rattle.nc_base.specs.declared.answer.CallErr.TheVariants as refusal
use Rattle.rank_core.proofs.OutcomeLaws.{failed}
use Rattle.rank_core.proofs.TargetLaws.{region_comes, region_empty, region_mapped, region_refused}
use Rattle.rank_core.proofs.look.region.look_region.Goals as goal

pub region_posts-requires : goal.region_posts-requires
region_posts-requires c =
    record {
      mapped = region_mapped c.args.target.now c.args.given.now (option_copied c.args.values) c.direction_of.result c.direction_of.ensures
          c.in_ok-region.region c.in_ok-region.ensures c.in_ok-check.ensures.ok;
    }

pub returns-in_err-check : goal.returns-in_err-check
returns-in_err-check c =
    let e = c.in_err-check.ensures.refused in
    failed _ _ (refusal.Code c.in_err-check.field-0.0) (err_from_is_err_and c.from_residual-in_err-check.result c.from_residual-in_err-check.ensures.1)
    (region_refused c.args.target.now c.args.given.now (option_copied c.args.values) c.direction_of.result c.direction_of.ensures
    c.in_ok-region.region c.in_ok-region.ensures c.in_err-check.field-0.0 e.0 e.1)

pub returns-then-not-has_element : goal.returns-then-not-has_element
returns-then-not-has_element c =
    let none : ltb 0 (product c.in_ok-region.region.count) ≡ false = sym c.has_element.ensures ∙ c.if-not-has_element.true in
    ap look_of c.new.ensures
    ∙ region_empty c.args.target.now c.args.given.now (option_copied c.args.values) c.direction_of.result c.direction_of.ensures
    c.in_ok-region.region c.in_ok-region.ensures c.in_ok-check.ensures.ok none

pub returns : goal.returns
returns c =
    let some : ltb 0 (product c.in_ok-region.region.count) ≡ true = sym c.has_element.ensures ∙ c.if-not-has_element.false in
    region_comes c.args.target.now c.args.given.now (option_copied c.args.values) c.direction_of.result c.direction_of.ensures
    c.in_ok-region.region c.in_ok-region.ensures c.region_posts.result c.in_ok-check.ensures.ok some c.region_posts.ensures.ok c.region_posts.ensures.right c.region_posts.ensures.refused
