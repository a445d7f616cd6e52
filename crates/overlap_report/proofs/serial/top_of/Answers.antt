-- The first of a heap.
use Rattle.overlap_report.proofs.Words.{◌≡◌, [], Option, subst, sym, MatchOption, heap_items, Claim, IsTop}
use Rattle.overlap_report.proofs.ClaimSteps.{top_told}
use Rattle.overlap_report.proofs.serial.top_of.Goals as goal

pub returns : goal.returns
returns c =
    subst (λ (o : Option Claim). MatchOption o (heap_items c.args.heap.now ≡ []) (λ t. IsTop (heap_items c.args.heap.now) t)) (sym c.copied.ensures)
    (top_told (heap_items c.args.heap.now) c.peek.result c.requires c.peek.ensures.item c.peek.ensures.greatest)
