use Rattle.var_layout.proofs.CreatedFiles.{WrittenSoFar}
use Rattle.var_layout.proofs.begins.write_begins.Given as goal

abbrev pub invariant-loop-var : goal.invariant-loop-var
invariant-loop-var l = WrittenSoFar l.header l.align l.len l.fn.vars l.vars l.var-index l.fixed l.record
