-- Where the script asks for no filling, there is none.
use Rattle.opening_plan.proofs.Words.{◌∙◌, ◌++◌, sym, ap, Bool, append-nil, fill_calls_if, arith, nat_tests}
use Rattle.opening_plan.proofs.OpeningLaws.{kept_cb_buffer}
use Rattle.opening_plan.proofs.opening.push_filling.Goals as goal

pub push_fills-requires-clause-some : goal.push_fills-requires-clause-some
push_fills-requires-clause-some c = kept_cb_buffer c.args.script.now c.requires.kept

pub returns-then-script : goal.returns-then-script
returns-then-script c = grind (arith, nat_tests, c.if-script.true, c.push_fills.ensures)

pub returns-else-script : goal.returns-else-script
returns-else-script c =
    sym (append-nil c.args.calls.now.items) ∙ ap (λ (b : Bool). c.args.calls.now.items ++ fill_calls_if b c.args.script.now.hints c.args.header.now) (sym c.if-script.false)
