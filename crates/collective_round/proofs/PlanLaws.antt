-- The entries of puts or gets and their cover are a plan of what is to be done.
use Rattle.collective_round.proofs.Words.{◌≡◌, ℕ, ◌+◌, ◌<◌, ◌≤◌, refl, List, length, Option, Some, None, arith, slice_get, get_is, Header, Batch, Extent, Owned, bytes_of_post, Source, HaveSame, ranges, AreFound, IsCover, spans, in_map, IsGetPlan, ArePieces, IsPlan, Puts, source_of, AreLaid, AreSorted, nat_tests, common_steps}
use Rattle.exchange_crew.specs.Turns as turns
use Rattle.collective_round.proofs.LaidLaws.{found_at}
use Rattle.collective_round.proofs.PutLaws.{cover_ends}

-- where the first batch is that of rank 0
pub same_source : (batches : List Batch) → source_of 0 batches ≡ turns.source_of batches
same_source batches = grind (arith, nat_tests)

are_pieces : (source : Source) (list : List Owned) → AreFound source list → AreSorted list → ArePieces source list
are_pieces source list found sorted o m = grind (arith, common_steps, in_map (λ (q : Owned). q.extent) list o m, found_at source list o found m)

-- a rank that has a byte is one of those with a batch
rank_below : (batches : List Batch) (rank slot n : ℕ) → 1 ≤ n → n ≤ length (turns.source_of batches rank slot) → rank < length batches
rank_below batches rank slot n some there = by_batch (slice_get batches rank) refl there
  where
    by_batch : (o : Option Batch) → slice_get batches rank ≡ o → n ≤ length (bytes_of_post (slice_get (turns.puts_of_some o) slot)) → rank < length batches
    by_batch None e h = absurd (omega arith)
    by_batch (Some b) e h = (get_is batches rank b e).0

pub laid_plan : (header : Header) (puts : Puts) (batches : List Batch) (list : List Owned) (cover : List Extent) (size : ℕ) → length batches ≤ 64
    → AreLaid header (turns.source_of batches) puts list → IsCover cover → HaveSame (spans cover) (ranges list) → 1 ≤ size → IsPlan batches list cover size
laid_plan header puts batches list cover size few laid covers bytes some =
    let pieces = are_pieces (turns.source_of batches) list laid.found laid.sorted in
    record {
      few = few;
      sorted = laid.sorted.by_place;
      ends = laid.sorted.ends;
      pieces = pieces;
      below = λ o m. (let p = pieces o m in let n = p.some in rank_below batches o.rank o.slot (o.from + o.extent.len) (omega arith) p.found);
      one = laid.one;
      covers = covers;
      cover_ends = cover_ends cover list covers bytes laid.sorted.ends;
      cover_bytes = bytes;
      some = some;
    }

pub got_plan : (list : List Owned) (cover : List Extent) (size : ℕ) → AreSorted list → IsCover cover → HaveSame (spans cover) (ranges list) → 1 ≤ size → IsGetPlan list cover size
got_plan list cover size sorted covers bytes some = grind (arith, nat_tests, cover_ends cover list covers bytes sorted.ends)
