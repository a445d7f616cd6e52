use Rattle.printed_text.proofs.Cited.{◌≡◌, drop, arith, FindsPosts}
use Rattle.printed_text.proofs.DigitLaws.{posts_none}
use Rattle.printed_text.proofs.IndexLaws.{at_end, one_earlier}
use Rattle.printed_text.proofs.digits.posts_index.Goals as goal

pub loop-k-init : goal.loop-k-init
loop-k-init c = at_end (λ xs. FindsPosts c.args.names.now xs c.new-index.result) c.args.calls.now (posts_none c.args.names.now c.new-index.result c.new-index.ensures.empty)

pub loop-k-preserved : goal.loop-k-preserved
loop-k-preserved c =
    one_earlier (λ xs. FindsPosts c.args.names.now xs c.put_post.new.index) c.args.calls.now c.loop-k.k c.index-calls-k.result (omega arith) (omega arith) c.index-calls-k.is
    (c.in_ok-put_post.ensures (drop c.loop-k.k c.args.calls.now) c.loop-k.invariant)

pub returns : goal.returns
returns c = let none : c.loop-k.k ≡ 0 = omega arith in rw none at c.loop-k.invariant
