-- The part that is laid is the entry's cell in the hull.
use Rattle.aggregator_rounds.proofs.Words.{◌+◌, ap, List, length, ℕ, arith, source_of}
use Rattle.aggregator_rounds.proofs.PartSteps.{found_bytes, laid_entry, part_high}
use Rattle.aggregator_rounds.proofs.entry.lay_entry.Goals as goal

pub cut-part-requires-clause-from : goal.cut-part-requires-clause-from
cut-part-requires-clause-from c =
    let long = c.as_slice-bytes.type_inv.0 in
    let same = ap (λ (b : List ℕ). length b) (found_bytes c.args.puts.now c.as_slice.result.now c.args.entry.now c.index-as_slice-entry.result c.as_slice-bytes.result.now
    c.requires.filled c.requires.found c.as_slice.ensures c.as_slice-bytes.ensures) in
    let room = c.requires.found in
    omega arith

pub part_of-bytes-requires : goal.part_of-bytes-requires
part_of-bytes-requires c =
    let same = ap (λ (b : List ℕ). length b) (found_bytes c.args.puts.now c.as_slice.result.now c.args.entry.now c.index-as_slice-entry.result c.as_slice-bytes.result.now
    c.requires.filled c.requires.found c.as_slice.ensures c.as_slice-bytes.ensures) in
    let room = c.requires.found in
    let part = (part_high c.args.hull.at c.args.hull.len c.args.entry.now c.cut-part.result c.cut-part.ensures).2 in
    omega arith

pub returns : goal.returns
returns c =
    laid_entry c.args.hull.at (c.args.hull.at + c.args.hull.len) (source_of c.args.puts.now) c.args.entry.now c.cut-part.result c.as_slice-bytes.result.now c.part_of-bytes.result.now
    c.args.buf.now c.copy_to.new.buf c.cut-part.ensures c.part_of-bytes.ensures
    (found_bytes c.args.puts.now c.as_slice.result.now c.args.entry.now c.index-as_slice-entry.result c.as_slice-bytes.result.now
    c.requires.filled c.requires.found c.as_slice.ensures c.as_slice-bytes.ensures)
    c.copy_to.ensures
