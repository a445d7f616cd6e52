use Rattle.generated_run.proofs.Words.{◌+◌, refl, arith, calls_of_record}
use Rattle.generated_run.proofs.Ranges.{all_pieces, next_piece}
use Rattle.generated_run.proofs.calls.push_records.Goals as goal

pub loop-time-preserved : goal.loop-time-preserved
loop-time-preserved c =
    let time = c.loop-time.time in
    next_piece (λ t. calls_of_record c.args.seed c.args.rank t) c.args.calls.now c.loop-time.calls c.push_record.new.calls 0 time (time + 1) time (omega arith) refl
    c.loop-time.invariant c.in_ok-push_record.ensures

pub returns : goal.returns
returns c =
    all_pieces (λ t. calls_of_record c.args.seed c.args.rank t) c.args.calls.now c.loop-time.calls 0 0 c.loop-time.time c.args.size refl (omega arith) c.loop-time.invariant
