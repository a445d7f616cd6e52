-- The last extent in front goes past the place, or it does not.
use Rattle.file_domains.proofs.Words.{◌+◌, ◌-◌, ◌≤◌, slice_index_or, subst, sym, ◌∙◌, arith, same_Some, slice_get-get_or, entry_in, Extent, IsLeft}
use Rattle.file_domains.proofs.CoverParts.{left_from_last, left_from_next}
use Rattle.file_domains.proofs.walk.past.Goals as goal
use Rattle.file_domains.proofs.walk.past.Goals.{else-count-gt0-via-then-count-gt0+else-end_of-place, else-count-gt0-via-else-count-gt0}

pub end_of-requires : goal.end_of-requires
end_of-requires c =
    let low = c.requires.ends _ (entry_in c.args.cover.now (c.args.count - 1) (record { at = 0; len = 0 }) (omega (arith, c.requires.bound))) in
    omega arith

pub returns-then-end_of-place : goal.returns-then-end_of-place
returns-then-end_of-place c =
    subst (IsLeft c.args.place c.args.cover.now) (sym c.tail.ensures)
    (left_from_last c.args.count c.args.place (slice_index_or c.args.cover.now (c.args.count - 1) (record { at = 0; len = 0 })) c.args.cover.now
    c.requires.cover c.requires.ends (omega arith) (slice_get-get_or c.args.cover.now (c.args.count - 1) (record { at = 0; len = 0 }) (omega (arith, c.requires.bound)))
    (omega arith) c.requires.before)

pub returns-else-count-gt0 : goal.returns-else-count-gt0
returns-else-count-gt0 c =
    subst (IsLeft c.args.place c.args.cover.now) (sym c.tail-else-count-gt0.ensures)
    (left_from_next c.args.count c.args.place c.args.cover.now c.requires.cover c.requires.ends
    (elim c.else-count-gt0.branch [
      | else-count-gt0-via-then-count-gt0+else-end_of-place w ↦ (λ e some g.
          let at_last = slice_get-get_or c.args.cover.now (c.args.count - 1) (record { at = 0; len = 0 }) (omega (arith, c.requires.bound)) in
          subst (λ (z : Extent). z.at + z.len ≤ c.args.place) (same_Some _ e (sym at_last ∙ g)) (omega arith))
      | else-count-gt0-via-else-count-gt0 w ↦ (λ e some g. absurd (omega arith))
    ])
    c.requires.bound c.requires.after)
