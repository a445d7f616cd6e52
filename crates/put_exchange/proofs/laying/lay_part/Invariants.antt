-- What is left to be served gives the whole of any such plan, once its messages were taken.
use Rattle.put_exchange.proofs.Words.{◌≡◌, ℕ, ◌≤◌, List, drop, length, IsErrOf, Rose, Disk, Owned, Source, turns_due, IsPlanOn}
use Rattle.put_exchange.proofs.ServeLaws.{IsServed}
use Rattle.put_exchange.proofs.laying.lay_part.Given as goal

abbrev pub invariant-loop-due : goal.invariant-loop-due
invariant-loop-due g l = record {
  of : l.line.of ≡ l.initial.line.of;
  buf : length l.buf ≡ length l.initial.buf;
  served : (source : Source) (ranks : ℕ) (list : List Owned) (plan : IsPlanOn source ranks list (g.D.Disk.from l.initial.part) (g.D.Disk.len l.initial.part) l.dues)
      → IsServed source (g.D.Disk.from l.initial.part) ranks plan.room list (turns_due l.dues) (turns_due (drop l.due-index l.dues)) l.line.items
      (g.D.Disk.held l.initial.part) (g.D.Disk.held l.part) (g.D.Disk.calls l.initial.part) (g.D.Disk.calls l.part) l.end;
  from : g.D.Disk.from l.part ≡ g.D.Disk.from l.initial.part;
  len : g.D.Disk.len l.part ≡ g.D.Disk.len l.initial.part;
  later : g.D.Disk.faults l.initial.part ≤ g.D.Disk.faults l.part;
  failed : IsErrOf l.end Disk → Rose (g.D.Disk.faults l.initial.part) (g.D.Disk.faults l.part);
}
