-- The blob with the entry's bytes stands in its place.
use Rattle.get_exchange.proofs.Words.{◌+◌, ◌∙◌, ℕ, List, ap, get_or, length, set, arith, refilled, buffer_cell}
use Rattle.get_exchange.proofs.CollectLaws.{rank_in, collected}
use Rattle.get_exchange.proofs.collecting.collect_get.Goals as goal

pub returns : goal.returns
returns c =
    let some = c.requires.filled in
    let fit = c.requires.fit in
    let table = c.args.table.now in
    let rank = c.args.entry.now.rank in
    let lent = c.as_mut_slice-blobs.ensures.seen in
    let whole = refilled (get_or table rank c.index-table-entry.result) c.collect_entry.new.blobs (c.collect_entry.auto.blobs ∙ ap (λ (bs : List (List ℕ)). length bs) lent) in
    ap (λ (bs : List (List ℕ)). set table rank bs) whole
    ∙ collected table rank c.args.entry.now.slot c.index-table-entry.result c.as_mut_slice-blobs.result.now c.collect_entry.new.blobs
    (buffer_cell c.args.hull.at (c.args.hull.at + c.args.hull.len) c.args.buf.now c.args.entry.now) (rank_in table rank c.args.entry.now.slot (omega arith)) lent c.collect_entry.ensures
