-- One put more.
use Rattle.reference.proofs.Words.{read_in, sym, ap, ◌∙◌, fold, put_post, drop_all, Puts}
use Rattle.reference.proofs.PutSteps.{write_step}
use Rattle.reference.proofs.puts.write_all.Goals as goal

pub put-requires-clause-right : goal.put-requires-clause-right
put-requires-clause-right c =
    c.requires.right c.one-item.result (read_in c.args.puts.now c.loop-one.one-index c.one-item.result c.loop-one-test.true c.one-item.is)

pub loop-one-preserved : goal.loop-one-preserved
loop-one-preserved c =
    write_step c.args.header.now c.args.puts.now c.loop-one.one-index c.one-item.result c.loop-one.file.items _ c.args.file.now.items c.loop-one-test.true c.one-item.is
    (c.requires.right c.one-item.result (read_in c.args.puts.now c.loop-one.one-index c.one-item.result c.loop-one-test.true c.one-item.is)).accepted
    c.in_ok-put.ensures c.loop-one.invariant

pub returns : goal.returns
returns c = λ s same.
    sym (ap (λ (ps : Puts). fold (put_post s) c.loop-one.file.items ps) (drop_all c.loop-one.one-index c.args.puts.now c.loop-one-test.false)) ∙ c.loop-one.invariant s same
