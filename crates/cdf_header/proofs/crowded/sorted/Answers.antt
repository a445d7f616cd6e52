use Rattle.cdf_header.proofs.Words.{Contains-permutation, ap, arith, inl, inr, ◌∙◌}
use Rattle.cdf_header.proofs.Apart.{kind_next}
use Rattle.cdf_header.proofs.crowded.sorted.Goals as goal
use Rattle.cdf_header.proofs.crowded.sorted.Goals.{then-span-is_record+in_ok-push, else-span-is_record}

pub loop-span-preserved : goal.loop-span-preserved
loop-span-preserved c =
    kind_next c.args.is_record c.args.spans.now c.loop-span.found.items c.if-span-is_record.found.items c.loop-span.span-index c.loop-span-test.true
    (elim c.if-span-is_record.branch [
      | then-span-is_record+in_ok-push w ↦ inl (ap (λ v. v.items) w.found-is ∙ w.in_ok-push.ensures.items)
      | else-span-is_record w ↦ inr (ap (λ v. v.items) w.found-is, w.if-span-is_record.false)
    ])
    c.loop-span.invariant

pub returns : goal.returns
returns c k d l is =
    Contains-permutation _ _ _ c.in_ok-sort.ensures.permutation (c.loop-span.invariant k d (omega arith) is)
