-- A script that adds nothing makes no call.
use Rattle.opening_plan.proofs.Words.{◌∙◌, ◌++◌, sym, ap, append-nil, kept_wr_buffer, some_extras, arith, nat_tests}
use Rattle.opening_plan.proofs.OpeningLaws.{nothing_added, something_added}
use Rattle.opening_plan.proofs.opening.push_added.Goals as goal

pub returns-then-is_empty : goal.returns-then-is_empty
returns-then-is_empty c =
    sym (append-nil c.args.calls.now.items)
    ∙ ap (λ calls. c.args.calls.now.items ++ calls) (sym (nothing_added c.args.script.now c.args.old.now c.args.new.now (c.is_empty.ensures.0 c.if-is_empty.true)))

pub push_redefinition-requires : goal.push_redefinition-requires
push_redefinition-requires c = grind (arith, nat_tests, some_extras, kept_wr_buffer, c.requires.applied, c.if-is_empty.false, c.is_empty.ensures.1)

pub returns : goal.returns
returns c = grind (arith, nat_tests, something_added, c.if-is_empty.false, c.is_empty.ensures.1, c.push_redefinition.ensures)
