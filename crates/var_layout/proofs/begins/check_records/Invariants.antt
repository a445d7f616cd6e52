use Rattle.var_layout.proofs.CreatedFiles.{RecordsSoFar}
use Rattle.var_layout.proofs.begins.check_records.Given as goal

abbrev pub invariant-loop-k : goal.invariant-loop-k
invariant-loop-k l = RecordsSoFar l.header l.align l.len l.k l.begin
