-- Helpers that have their jobs, and were fed.
use Rattle.put_exchange.proofs.Words.{◌≡◌, ℕ, sym, ◌∙◌, ap, subst, List, length, min, Result, append-nil, In, StepErr, DiskGhosts, Sent, domain_of, part_of, HasFed, IsFed, IsFresh, IsStartedFor, HasPut, HasServed, IsPlanOn, message_counts, planned_turns, source_in, AreTurns, HaveWindows, IsPlan, PartState, Told, PutPlan, Worker, AreDue, Batch, Extent, IsDomainOf, Owned, ◌≤◌, arith, plan_on, plan_turns, plan_windows, turn_end, turn_in, turns_of, nat_tests, AreKept, kept_all}

fed_worker : {D : Type 0} (disk : DiskGhosts D) (plan : PutPlan) (old new : Worker D) → HasFed old new → IsFresh disk plan old → IsFed disk plan new
fed_worker disk plan old new h f = grind (arith, nat_tests, append-nil new.feed.line.items)

pub fed_workers : {D : Type 0} (disk : DiskGhosts D) (plan : PutPlan) {first last whole : List (Worker D)} → AreKept HasFed first last whole
    → ((worker : Worker D) → In first worker → IsFresh disk plan worker) → (worker : Worker D) → In whole worker → IsFed disk plan worker
fed_workers disk plan kept = kept_all HasFed (IsFresh disk plan) (IsFed disk plan) kept (fed_worker disk plan)

-- they stay those of their parts and domains
pub fed_same : {D : Type 0} (old new : Worker D) → HasFed old new → (part_of new ≡ part_of old) × (domain_of new ≡ domain_of old)
fed_same old new h = (ap (λ helper. helper.awaited.ends.value.part) h.helper, ap (λ helper. helper.domain) h.helper)

-- ---- what a helper is handed

-- the windows of a domain lie on its part, and fit a buffer
pub plan_due : (batches : List Batch) (list : List Owned) (cover : List Extent) (size from len room : ℕ) (domain : Extent) → IsPlan batches list cover size → IsDomainOf list from len domain
    → min size domain.len ≤ room → AreDue from len room (turns_of size domain cover)
plan_due batches list cover size from len room domain p d e = record {
  on_part = plan_on batches list cover size from len domain p d;
  short = λ t m. let short = (turn_in list (min size domain.len) (turns_of size domain cover) t (plan_turns batches list cover size domain p) m).short in omega arith;
  limit = λ t m. turn_end list (min size domain.len) t p.ends (turn_in list (min size domain.len) (turns_of size domain cover) t (plan_turns batches list cover size domain p) m);
}

-- ---- one that was fed has served its part

plan_of : {D : Type 0} (disk : DiskGhosts D) (plan : PutPlan) (worker : Worker D) → IsPlan plan.job.now.batches plan.list.now plan.cover.now plan.hints.now.cb_buffer → IsStartedFor disk plan worker
    → IsPlanOn (source_in plan) (length plan.job.now.batches) plan.list.now (disk.from (part_of worker)) (disk.len (part_of worker)) worker.helper.awaited.dues.value.items
plan_of disk plan worker p s =
    let batches = plan.job.now.batches in
    let list = plan.list.now in
    let cover = plan.cover.now in
    let size = plan.hints.now.cb_buffer in
    let from = disk.from (part_of worker) in
    let len = disk.len (part_of worker) in
    record {
      pieces = p.pieces;
      below = p.below;
      one = p.one;
      room = min size (domain_of worker).len;
      turns = subst (λ (ts : List Told). AreTurns list (min size (domain_of worker).len) ts) (sym s.windows) (plan_turns batches list cover size (domain_of worker) p);
      windows = subst (λ (ts : List Told). HaveWindows from len list ts) (sym s.windows) (plan_windows batches list cover size from len (domain_of worker) p s.domain);
      counts = s.counts ∙ sym (ap (λ (ts : List Told). message_counts (source_in plan) (length batches) list ts) s.windows);
    }

pub worker_served : {D T : Type 0} (disk : DiskGhosts D) (plan : PutPlan) (worker : Worker D) (old new : PartState) (taken : List Sent) (end : Result T StepErr)
    → IsPlan plan.job.now.batches plan.list.now plan.cover.now plan.hints.now.cb_buffer → IsFed disk plan worker → old.from ≡ disk.from (part_of worker) → old.len ≡ disk.len (part_of worker)
    → HasServed worker.helper.awaited.dues.value.items old new taken end → (length taken ≡ length worker.feed.line.items → taken ≡ worker.feed.line.items)
    → HasPut (source_in plan) plan.list.now (planned_turns plan (domain_of worker)) old new end
worker_served disk plan worker old new taken end p f from len served equal = grind (arith, nat_tests, plan_of disk plan worker p f.started)
