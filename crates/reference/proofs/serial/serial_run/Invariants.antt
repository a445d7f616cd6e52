-- The run has done the steps so far.
use Rattle.reference.proofs.Words.{◌≡◌, take, fold, setting_of, first_stand, step_to, stand_of, IsStanding}
use Rattle.reference.proofs.serial.serial_run.Given as goal

abbrev pub invariant-loop-place : goal.invariant-loop-place
invariant-loop-place l = record {
  stands : IsStanding l.script l.header (take l.place l.order) l.stand;
  state : stand_of l.stand ≡ fold (step_to (setting_of l.script l.header)) (first_stand l.header l.bytes l.script.calls) (take l.place l.order);
}
