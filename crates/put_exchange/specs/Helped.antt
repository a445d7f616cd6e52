-- What a helper of puts gives back. (own)
--     IsPlanOn source ranks list from len dues   entries of ranks, windows that have each covered byte of a part, and so many messages in each
--     HasServed dues ..                          as many messages were taken as such a plan has; where they are its own, the puts were done on
--                                                the part, or cut off
--     HasGivenBack ..                            the ends came back, of a part that was served so
use Rattle.std.specs.Prelude.{◌≡◌, ℕ, ◌<◌, List, length, map, Result, IsErrOf}
use Rattle.nc_base.specs.declared.plan.Owned.{Owned}
use Rattle.nc_outside.specs.Cause.{Rose}
use Rattle.nc_base.specs.declared.step.StepErr.{StepErr}
use Rattle.nc_base.specs.declared.step.StepErr.TheVariants.{Disk}
use Rattle.nc_outside.specs.declared.disk.Disk.{Ghosts as DiskGhosts}
use Rattle.overlay_laws.specs.Entries.{In, Source, cell_of}
use Rattle.serial_spec.specs.Said.{said_by, IsOneValued}
use Rattle.exchange_crew.specs.Hulls.{AreTurns, HaveWindows}
use Rattle.exchange_crew.specs.Parts.{part_state, PartState}
use Rattle.exchange_crew.specs.Pieces.{ArePieces}
use Rattle.exchange_crew.specs.declared.errand.PartBack.{PartBack}
use Rattle.exchange_crew.specs.declared.errand.PartEnds.{PartEnds}
use Rattle.put_exchange.specs.Dues.{counts_due, turns_due}
use Rattle.put_exchange.specs.Put.{HasPut}
use Rattle.put_exchange.specs.Sent.{message_counts, messages_of, Sent}
use Rattle.put_exchange.specs.declared.helper.PutLines.{PutLines}
use Rattle.put_exchange.specs.declared.laying.Due.{Due}

pub record IsPlanOn (source : Source) (ranks : ℕ) (list : List Owned) (from len : ℕ) (dues : List Due) : Type 0 where
  pub pieces : ArePieces source list
  pub below : (o : Owned) → In list o → o.rank < ranks
  pub one : IsOneValued (said_by (map (λ o. cell_of source o) list))
  pub room : ℕ
  pub turns : AreTurns list room (turns_due dues)
  pub windows : HaveWindows from len list (turns_due dues)
  pub counts : counts_due dues ≡ message_counts source ranks list (turns_due dues)

pub record HasServed {T : Type 0} (dues : List Due) (old new : PartState) (taken : List Sent) (end : Result T StepErr) : Type 0 where
  pub many : (source : Source) (ranks : ℕ) (list : List Owned) → IsPlanOn source ranks list old.from old.len dues
      → length taken ≡ length (messages_of source ranks list (turns_due dues))
  pub put : (source : Source) (ranks : ℕ) (list : List Owned) → IsPlanOn source ranks list old.from old.len dues
      → taken ≡ messages_of source ranks list (turns_due dues) → HasPut source list (turns_due dues) old new end
  pub failed : IsErrOf end Disk → Rose old.faults new.faults

pub record HasGivenBack {D : Type 0} (disk : DiskGhosts D) (dues : List Due) (ends : PartEnds D PutLines) (back : PartBack D PutLines) : Type 0 where
  pub line_of : back.ends.lines.line.of ≡ ends.lines.line.of
  pub served : HasServed dues (part_state disk ends.part) (part_state disk back.ends.part) back.ends.lines.line.items back.end
