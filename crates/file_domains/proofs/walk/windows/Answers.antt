-- The walk begins at the first covered byte of the domain.
use Rattle.file_domains.proofs.Words.{◌≡◌, Some, slice_get, ℕ, ◌+◌, ◌-◌, ◌^◌, List, ap, ◌∙◌, max, arith, no_none_some, Extent, filter, nat_lt, nat_le, same_Some, spans, round_windows}
use Rattle.file_domains.proofs.CoverParts.{cover_rises, front_low, front_high}
use Rattle.file_domains.proofs.WalkSteps.{begin_windows, told_windows, left_from}
use Rattle.file_domains.proofs.walk.windows.Goals as goal
use Rattle.file_domains.proofs.walk.windows.Goals.{in-Some, in-None}

pub begins_by-count-requires : goal.begins_by-count-requires
begins_by-count-requires c = λ i j d. cover_rises c.args.cover.now c.args.domain.at i j d c.requires.cover

pub past-cover-requires-clause-before : goal.past-cover-requires-clause-before
past-cover-requires-clause-before c = front_low c.args.cover.now c.args.domain.at c.begins_by-count.result c.begins_by-count.ensures.point.0

pub past-cover-requires-clause-after : goal.past-cover-requires-clause-after
past-cover-requires-clause-after c = front_high c.args.cover.now c.args.domain.at c.begins_by-count.result c.begins_by-count.ensures.point.1

begins : (c : goal.Joined-front) → (e : Extent) → slice_get c.past-cover.result.now 0 ≡ Some e → c.match-front.first ≡ max e.at c.args.domain.at
begins c =
    elim c.match-front.branch [
      | in-Some w ↦ (λ e g. w.first-is ∙ w.max-first.ensures ∙ ap (λ (z : Extent). max z.at c.args.domain.at) (same_Some w.in-Some.extent e (w.in-Some.ensures ∙ g)))
      | in-None w ↦ (λ e g. no_none_some e (w.in-None.ensures ∙ g))
    ]

pub returns-clause-windows : goal.returns-clause-windows
returns-clause-windows c =
    ap (λ (n : ℕ). told_windows c.match-front.first c.args.size (filter (λ y. nat_lt y n) (filter (λ y. nat_le c.match-front.first y) (spans c.past-cover.result.now)))) c.saturating_add-end.ensures
    ∙ begin_windows c.args.size c.args.domain.at c.match-front.first (c.args.domain.at + c.args.domain.len) (2 ^ 64 - 1) c.past-cover.result.now c.requires.size
    c.past-cover.ensures.cover c.past-cover.ensures.ends (omega arith) c.past-cover.ensures.past
    (begins c)
    ∙ ap (λ (b : List ℕ). round_windows c.args.size (filter (λ y. nat_lt y (c.args.domain.at + c.args.domain.len)) b)) c.past-cover.ensures.bytes

pub returns-clause-ready : goal.returns-clause-ready
returns-clause-ready c = record { cover = c.past-cover.ensures.cover; ends = c.past-cover.ensures.ends; left = left_from c.args.domain.at c.match-front.first c.past-cover.result.now c.past-cover.ensures.cover c.past-cover.ensures.past (begins c); first = omega arith; size = c.requires.size }
