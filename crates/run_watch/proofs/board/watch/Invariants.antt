use Rattle.run_watch.proofs.Words.{◌≡◌, length, All, opened}
use Rattle.run_watch.proofs.board.watch.Given as goal

abbrev pub invariant-loop-number : goal.invariant-loop-number
invariant-loop-number g l = (l.board ≡ opened l.records) × (length l.views.items ≡ l.number) × All (λ view. view ≡ opened l.records) l.views.items
