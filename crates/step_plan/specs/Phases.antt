-- What the puts and the gets of a step come to: the domains of their entries. (own)
--     HavePutDomains header hints batches domains     the domains of the puts of all ranks, or none where a pair is told
--     HaveGetDomains header hints batches domains     those of the gets
--     HavePutWindows, HaveGetWindows ..               the sieving windows of one rank's
use Rattle.std.specs.Prelude.{◌≡◌, ℕ, List, [], ◌∷◌, None, Some}
use Rattle.nc_base.specs.declared.answer.Pair.{Pair}
use Rattle.nc_base.specs.declared.header.Header.{Header}
use Rattle.nc_base.specs.declared.plan.Batch.{Batch}
use Rattle.nc_base.specs.declared.plan.Owned.{Owned}
use Rattle.nc_base.specs.declared.script.Hints.{Hints}
use Rattle.serial_spec.specs.FileStep.{told}
use Rattle.collective_round.specs.Laid.{source_of, AreGot, AreLaid}
use Rattle.collective_round.specs.Rounds.{puts_in, puts_of_batch, setting}
use Rattle.step_plan.specs.Steps.{AreDomainPlans, AreSievedPlans}
use Rattle.step_plan.specs.declared.plan.DomainPlan.{DomainPlan}

-- ---- all ranks

pub data HavePutDomains (header : Header) (hints : Hints) (batches : List Batch) (domains : List DomainPlan) : Type 0 where
  refused : (pair : Pair) → told (setting header hints) (puts_in batches) ≡ Some pair → domains ≡ [] → HavePutDomains header hints batches domains
  laid : (list : List Owned) → told (setting header hints) (puts_in batches) ≡ None → AreLaid header (source_of 0 batches) (puts_in batches) list
      → AreDomainPlans hints list domains → HavePutDomains header hints batches domains

pub record HaveGetDomains (header : Header) (hints : Hints) (batches : List Batch) (domains : List DomainPlan) : Type 0 where
  pub list : List Owned
  pub got : AreGot header 0 batches list
  pub plans : AreDomainPlans hints list domains

-- ---- one rank

pub data HavePutWindows (header : Header) (hints : Hints) (rank : ℕ) (batch : Batch) (domains : List DomainPlan) : Type 0 where
  refused : (pair : Pair) → told (setting header hints) (puts_of_batch (rank, batch)) ≡ Some pair → domains ≡ [] → HavePutWindows header hints rank batch domains
  laid : (list : List Owned) → told (setting header hints) (puts_of_batch (rank, batch)) ≡ None
      → AreLaid header (source_of rank (batch ∷ [])) (puts_of_batch (rank, batch)) list → AreSievedPlans hints.wr_buffer list domains
      → HavePutWindows header hints rank batch domains

pub record HaveGetWindows (header : Header) (hints : Hints) (rank : ℕ) (batch : Batch) (domains : List DomainPlan) : Type 0 where
  pub list : List Owned
  pub got : AreGot header rank (batch ∷ []) list
  pub plans : AreSievedPlans hints.rd_buffer list domains
