use Rattle.printed_text.proofs.Cited.{◌≡◌, drop, arith, FindsNames}
use Rattle.printed_text.proofs.DigitLaws.{names_none}
use Rattle.printed_text.proofs.IndexLaws.{at_end, one_earlier}
use Rattle.printed_text.proofs.digits.names_index.Goals as goal

pub loop-k-init : goal.loop-k-init
loop-k-init c = at_end (λ xs. FindsNames xs c.new-index.result) c.args.vars.now (names_none c.new-index.result c.new-index.ensures.empty)

pub loop-k-preserved : goal.loop-k-preserved
loop-k-preserved c =
    one_earlier (λ xs. FindsNames xs c.put_name.new.index) c.args.vars.now c.loop-k.k c.index-vars-k.result (omega arith) (omega arith) c.index-vars-k.is
    (c.in_ok-put_name.ensures (drop c.loop-k.k c.args.vars.now) c.loop-k.invariant)

pub returns : goal.returns
returns c = let none : c.loop-k.k ≡ 0 = omega arith in rw none at c.loop-k.invariant
