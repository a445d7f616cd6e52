-- The runs that were added are all runs of the entries.
use Rattle.overlap_report.proofs.Words.{◌≡◌, ◌^◌, List, subst, sym, ◌∙◌, arith, Extent, HaveSame, ranges, extents, IsCover, spans}
use Rattle.overlap_report.proofs.CoverSteps.{joined_from, last_run, all_cover, all_bytes_joined, entry_ends}
use Rattle.overlap_report.proofs.joined.cover.Goals as goal

pub overflow_add-extent : goal.overflow_add-extent
overflow_add-extent c =
    let ends = entry_ends c.args.list.now (2 ^ 62) c.loop-entry.entry-index
    (record { extent = record { at = 0; len = 0 }; rank = 0; request = 0; slot = 0; from = 0 }) c.requires.ends c.loop-entry-test.true in
    omega arith

pub returns : goal.returns
returns c =
    let list = c.args.list.now in
    let whole = joined_from 0 0 (extents list) in
    let all : whole ≡ c.from_vec.result = sym (c.from_vec.ensures ∙ last_run list c.loop-entry.entry-index c.loop-entry.at c.loop-entry.end c.loop-entry.whole.items whole c.add-2.new.whole.items
    (omega arith) c.in_ok-add-2.ensures c.loop-entry.invariant.whole) in
    record { apart = subst IsCover all (all_cover list c.requires.sorted); bytes = subst (λ (es : List Extent). HaveSame (spans es) (ranges list)) all (all_bytes_joined list c.requires.sorted) }
