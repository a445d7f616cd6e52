use Rattle.cdf_header.proofs.Words.{ap, flat_map, ◌++◌, ◌∙◌, take_all}
use Rattle.cdf_header.proofs.Writing.{entry_written}
use Rattle.cdf_header.proofs.written.push_each.Goals as goal

pub loop-entry-preserved : goal.loop-entry-preserved
loop-entry-preserved g c =
    entry_written (g.T.Written.bytes_of c.args.header.now) c.args.entries.now c.loop-entry.entry-index c.entry-item.result _ _ _ c.loop-entry-test.true c.entry-item.is
    c.loop-entry.invariant c.in_ok-push.ensures

pub returns : goal.returns
returns g c =
    c.loop-entry.invariant
    ∙ ap (λ xs. c.args.out.now.items ++ flat_map (g.T.Written.bytes_of c.args.header.now) xs) (take_all c.loop-entry.entry-index c.args.entries.now c.loop-entry-test.false)
