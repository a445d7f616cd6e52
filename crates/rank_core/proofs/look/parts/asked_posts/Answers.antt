use Rattle.rank_core.proofs.Words.{arith, nat_tests}
use Rattle.nc_base.specs.declared.answer.Code.TheVariants as code
use Rattle.rank_core.proofs.ValueLaws.{parts_code-has_values, range_refusal}
use Rattle.rank_core.proofs.look.parts.asked_posts.Goals as goal

pub returns-in_err-check_values-clause-refused : goal.returns-in_err-check_values-clause-refused
returns-in_err-check_values-clause-refused c =
    grind (arith, nat_tests, c.from_residual.ensures.1, c.as_slice.ensures.value, c.requires.few, c.elements_of_all-elements.ensures, c.in_err-check_values.ensures.refused)

pub part_posts-requires-clause-values : goal.part_posts-requires-clause-values
part_posts-requires-clause-values c =
    grind (arith, nat_tests, c.as_slice.ensures.value, c.requires.few, c.elements_of_all-elements.ensures, c.in_ok-check_values.ensures.right)

pub returns : goal.returns
returns c =
    let kind = c.args.target.now.var.now.kind in
    grind (arith, nat_tests, parts_code-has_values, range_refusal, c.as_slice.ensures.value, c.requires.few, c.elements_of_all-elements.ensures, c.in_ok-check_values.ensures.right, c.part_posts.ensures.ok, c.part_posts.ensures.right, c.part_posts.ensures.refused)
