-- The part's bytes go into the blob of the entry's slot.
use Rattle.aggregator_rounds.proofs.Words.{◌+◌, ◌++◌, ◌∙◌, List, ℕ, length, take, drop, set, get_or, sym, ap, take-append_seam}
use Rattle.aggregator_rounds.proofs.PartSteps.{collected_entry}
use Rattle.aggregator_rounds.proofs.entry.collect_entry.Goals as goal

pub returns : goal.returns
returns c =
    let old = get_or c.args.blobs.now c.args.entry.now.slot c.index-blobs-slot.result in
    let now = c.copy_to.new.buf in
    let whole =
    ap (λ (n : ℕ). take n (now ++ drop (length now) old)) (sym (c.copy_to.auto.buf ∙ ap (λ (b : List ℕ). length b) c.as_mut_slice-blob.ensures.seen))
    ∙ take-append_seam now (drop (length now) old) in
    ap (λ (b : List ℕ). set c.args.blobs.now c.args.entry.now.slot b) whole
    ∙ collected_entry c.args.hull.at (c.args.hull.at + c.args.hull.len) c.args.buf.now c.args.entry.now c.cut-part.result c.args.blobs.now c.index-blobs-slot.result
    c.as_mut_slice-blob.result.now c.part_of-bytes.result.now now c.requires.filled c.requires.fit c.as_mut_slice-blob.ensures.seen c.cut-part.ensures c.part_of-bytes.ensures c.copy_to.ensures
