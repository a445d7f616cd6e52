-- The puts are those of the rank.
use Rattle.reference.proofs.Words.{ℕ, List, ◌++◌, ◌∙◌, ap, subst, Post, In, puts_of}
use Rattle.reference.proofs.MeetSteps.{own_right}
use Rattle.reference.proofs.steps.solo.Goals as goal

pub told-requires-clause-accepted : goal.told-requires-clause-accepted
told-requires-clause-accepted c = λ p m.
    (own_right c.args.header.now c.args.rank c.args.offer.now p c.requires.right
    (subst (λ (ps : List (ℕ × Post)). In ps p)
    (c.as_slice.ensures.value ∙ c.in_ok-add_puts.ensures ∙ ap (λ (ps : List (ℕ × Post)). ps ++ puts_of (c.args.rank, c.args.offer.now)) c.new-puts.ensures.items) m)).accepted

pub do_puts-requires-clause-right : goal.do_puts-requires-clause-right
do_puts-requires-clause-right c = λ p m.
    own_right c.args.header.now c.args.rank c.args.offer.now p c.requires.right
    (subst (λ (ps : List (ℕ × Post)). In ps p)
    (c.as_slice-2.ensures.value ∙ c.in_ok-add_puts.ensures ∙ ap (λ (ps : List (ℕ × Post)). ps ++ puts_of (c.args.rank, c.args.offer.now)) c.new-puts.ensures.items) m)
