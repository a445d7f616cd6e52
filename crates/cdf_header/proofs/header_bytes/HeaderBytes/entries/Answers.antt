use Rattle.cdf_header.proofs.Words.{err_from_is_err_and, each_at}
use Rattle.cdf_header.proofs.Loop.{goes_on, ends, is_done}
use Rattle.cdf_header.proofs.header_bytes.HeaderBytes.entries.Goals as goal

pub returns-in_err-entry : goal.returns-in_err-entry
returns-in_err-entry g c =
    let p = err_from_is_err_and c.from_residual.result c.from_residual.ensures.1 in
    let entry = g.T.Entry.reading c.args.self.now.version c.args.self.now.bytes.now in
    rw (p.1, p.2) (ends c.in_err-entry.field-0.0 entry c.loop.found c.args.count c.loop.counter c.loop.at (each_at entry c.args.count c.args.at.now) c.loop-test.true c.in_err-entry.ensures c.loop.invariant)

pub loop-preserved : goal.loop-preserved
loop-preserved g c =
    let entry = g.T.Entry.reading c.args.self.now.version c.args.self.now.bytes.now in
    rw c.in_ok-push.ensures.ok (goes_on entry c.loop.found c.args.count c.loop.counter c.loop.at c.in_ok-entry.entry c.read.new.at (each_at entry c.args.count c.args.at.now) c.loop-test.true c.in_ok-entry.ensures c.loop.invariant)

pub returns : goal.returns
returns g c =
    let entry = g.T.Entry.reading c.args.self.now.version c.args.self.now.bytes.now in
    is_done entry c.loop.found c.args.count c.loop.counter c.loop.at (each_at entry c.args.count c.args.at.now) c.loop-test.false c.loop.invariant
