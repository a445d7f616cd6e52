use Rattle.imap_extents.proofs.Cited.{◌≡◌, ◌≤◌, ◌-◌, ◌++◌, flat_map, to_be_bytes, range_with_len}
use Rattle.imap_extents.proofs.blocks.push_blocks.Given as goal

abbrev pub invariant-loop-done : goal.invariant-loop-done
invariant-loop-done g l = record {
  low : l.done ≤ l.count;
  so_far : l.bytes.items ≡ l.initial.bytes.items ++ flat_map (λ k. to_be_bytes g.F.Form.width (g.C.Codes.code_at l.codes k)) (range_with_len 0 l.done);
}

abbrev pub decreases-loop-done : goal.decreases-loop-done
decreases-loop-done g l = l.count - l.done
