-- What was packed and what is left of the windows are the whole.
use Rattle.put_exchange.proofs.Words.{length, min, IsPast, planned_turns, source_in, turns_ahead}
use Rattle.put_exchange.proofs.MailLaws.{IsPacking}
use Rattle.put_exchange.proofs.packing.mail_of.Given as goal

abbrev pub invariant-turns : goal.invariant-turns
invariant-turns l = record {
  packing : IsPacking (source_in l.plan) (length l.plan.job.now.batches) (min l.plan.hints.now.cb_buffer l.fn.domain.len) l.plan.list.now (planned_turns l.plan l.fn.domain)
      l.walk l.mail.rounds.items l.mail.dues.items;
  past : IsPast l.ahead.place l.plan.list.now l.ahead.entries.now;
}

abbrev pub decreases-turns : goal.decreases-turns
decreases-turns l = length (turns_ahead l.walk.windows)
