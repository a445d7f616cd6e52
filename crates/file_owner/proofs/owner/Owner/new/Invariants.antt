-- So many clients are free.
use Rattle.file_owner.proofs.Words.{◌≡◌, replicate, free_client}
use Rattle.file_owner.proofs.owner.Owner.new.Given as goal

abbrev pub invariant-loop : goal.invariant-loop
invariant-loop l = l.clients.items ≡ replicate l.counter free_client
