use Rattle.imap_extents.proofs.Cited.{◌≡◌, map, take, to_be_bytes, range_with_len}
use Rattle.imap_extents.proofs.blocks.write_forms.Given as goal

abbrev pub invariant-loop-i : goal.invariant-loop-i
invariant-loop-i g l = take l.i l.forms ≡ map (λ k. to_be_bytes g.F.Form.width (g.C.Codes.code_at l.codes k)) (range_with_len l.start l.i)
