use Rattle.plan_text.proofs.head.plan_text.Goals as goal

pub returns : goal.returns
returns c =
    rw (c.from_vec.ensures, c.in_ok-push_document.ensures, c.new-out.ensures.items)
