-- What the calling thread has of a helper. (own)
--     part_of worker                   the part that the helper was given
--     domain_of worker                 the bytes that it serves
--     IsOutfit plan domain outfit      what a helper of the domain is given, and what it is fed
--     IsStartedFor disk plan worker    its job is that of the plan, and it has the other end of this line
--     IsFresh disk plan worker         all messages of its domain are left to be put
--     IsFed disk plan worker           all messages of its domain were put
--     HasFed old new                   what was left to be put was put
use Rattle.std.specs.Prelude.{◌≡◌, ◌≤◌, [], length, min}
use Rattle.nc_base.specs.declared.plan.Extent.{Extent}
use Rattle.nc_outside.specs.declared.disk.Disk.{Ghosts as DiskGhosts}
use Rattle.exchange_crew.specs.Plan.{planned_turns, IsDomainOf}
use Rattle.exchange_crew.specs.declared.plan.PutPlan.{PutPlan}
use Rattle.put_exchange.specs.Dues.{counts_due, turns_due}
use Rattle.put_exchange.specs.Feeds.{feed_left, HaveFed}
use Rattle.put_exchange.specs.Sent.{planned_counts, planned_messages}
use Rattle.put_exchange.specs.declared.handing.Outfit.{Outfit}
use Rattle.put_exchange.specs.declared.handing.Worker.{Worker}

abbrev pub part_of : {D : Type 0} → Worker D → D
part_of worker = worker.helper.awaited.ends.value.part

abbrev pub domain_of : {D : Type 0} → Worker D → Extent
domain_of worker = worker.helper.domain

pub record IsOutfit (plan : PutPlan) (domain : Extent) (outfit : Outfit) : Type 0 where
  pub windows : turns_due outfit.dues.items ≡ planned_turns plan domain
  pub counts : counts_due outfit.dues.items ≡ planned_counts plan domain
  pub line_of : outfit.feed.line.of ≡ outfit.lines.line.of
  pub put : outfit.feed.line.items ≡ []
  pub taken : outfit.lines.line.items ≡ []
  pub left : feed_left outfit.feed ≡ planned_messages plan domain
  pub room : min plan.hints.now.cb_buffer domain.len ≤ length outfit.lines.buf.items

pub record IsStartedFor {D : Type 0} (disk : DiskGhosts D) (plan : PutPlan) (worker : Worker D) : Type 0 where
  pub domain : IsDomainOf plan.list.now (disk.from (part_of worker)) (disk.len (part_of worker)) (domain_of worker)
  pub windows : turns_due worker.helper.awaited.dues.value.items ≡ planned_turns plan (domain_of worker)
  pub counts : counts_due worker.helper.awaited.dues.value.items ≡ planned_counts plan (domain_of worker)
  pub line_of : worker.feed.line.of ≡ worker.helper.awaited.ends.value.lines.line.of

pub record IsFresh {D : Type 0} (disk : DiskGhosts D) (plan : PutPlan) (worker : Worker D) : Type 0 where
  pub started : IsStartedFor disk plan worker
  pub line : worker.feed.line.items ≡ []
  pub left : feed_left worker.feed ≡ planned_messages plan (domain_of worker)

pub record IsFed {D : Type 0} (disk : DiskGhosts D) (plan : PutPlan) (worker : Worker D) : Type 0 where
  pub started : IsStartedFor disk plan worker
  pub put : worker.feed.line.items ≡ planned_messages plan (domain_of worker)

pub record HasFed {D : Type 0} (old new : Worker D) : Type 0 where
  pub helper : new.helper ≡ old.helper
  pub fed : HaveFed old.feed new.feed
  pub none : new.feed.rounds.items ≡ []
