use Rattle.redef_mover.proofs.Words.{◌≡◌, ◌++◌, map, record_var, records_at, Old}
use Rattle.redef_mover.proofs.Places.{records_left}
use Rattle.redef_mover.proofs.new_begins.push_records.Given as goal

abbrev pub invariant-loop-number : goal.invariant-loop-number
invariant-loop-number l =
    l.order ++ map (record_var l.header) (records_left l.header l.n Old l.number) ≡ l.fn.order ++ map (record_var l.header) (records_at l.header l.n Old)
