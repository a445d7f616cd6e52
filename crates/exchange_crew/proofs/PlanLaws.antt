-- What a plan says of the windows of a domain.
use Rattle.exchange_crew.proofs.Words.{ℕ, min, List, Batch, Extent, Owned, IsDomainOf, IsPlan, turns_of, AreTurns, HaveWindows, LieOnPart}
use Rattle.exchange_crew.proofs.DomainTurns.{domain_part, domain_turns, domain_windows}

pub plan_turns : (batches : List Batch) (list : List Owned) (cover : List Extent) (size : ℕ) (domain : Extent) → IsPlan batches list cover size
    → AreTurns list (min size domain.len) (turns_of size domain cover)
plan_turns batches list cover size domain p = domain_turns size domain list cover p.some p.covers p.cover_bytes

pub plan_on : (batches : List Batch) (list : List Owned) (cover : List Extent) (size from len : ℕ) (domain : Extent) → IsPlan batches list cover size → IsDomainOf list from len domain
    → LieOnPart from len (turns_of size domain cover)
plan_on batches list cover size from len domain p d = λ t m. domain_part size domain cover from len p.some p.covers d.low d.high t m

pub plan_windows : (batches : List Batch) (list : List Owned) (cover : List Extent) (size from len : ℕ) (domain : Extent) → IsPlan batches list cover size → IsDomainOf list from len domain
    → HaveWindows from len list (turns_of size domain cover)
plan_windows batches list cover size from len domain p d = λ x l h k. domain_windows size from len domain list cover p.some p.covers p.cover_bytes d.whole x l h k
