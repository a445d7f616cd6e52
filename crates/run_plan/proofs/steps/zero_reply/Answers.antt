-- As many zeros as each get asks for.
use Rattle.run_plan.proofs.Words.{◌∙◌, ap, subst, List, map, length, ℕ, Post, In, blobs_for, zero_row}
use Rattle.run_plan.proofs.steps.zero_reply.Goals as goal

pub zeros_for-requires : goal.zeros_for-requires
zeros_for-requires c = λ p m. c.requires.gets p (subst (λ (ps : List Post). In ps p) c.as_slice.ensures m)

pub returns-clause-row : goal.returns-clause-row
returns-clause-row c =
    ap (λ (blobs : List (List ℕ)). map (λ blob. length blob) blobs) (c.in_ok-got.ensures ∙ ap (blobs_for c.args.header.now) c.as_slice.ensures)
    ∙ zero_row c.args.header.now c.args.offer.now.batch.gets
