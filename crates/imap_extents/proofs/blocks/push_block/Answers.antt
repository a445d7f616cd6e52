use Rattle.imap_extents.proofs.Cited.{◌++◌, ◌∙◌, ap, ℕ, List, arith, to_be_bytes, length-take-le, length-replicate, on_ok_weaker}
use Rattle.std.specs.Prelude.{replicate}
use Rattle.imap_extents.proofs.BlockLaws.{block_bytes}
use Rattle.imap_extents.proofs.blocks.push_block.Goals as goal

pub returns : goal.returns
returns g c =
    let zeros : List ℕ = replicate g.row.N 0 in
    let long = length-replicate 128 zeros in
    let room = length-take-le c.args.count (replicate 128 zeros) (omega (arith, long, c.requires.few)) in
    on_ok_weaker c.push_forms.result
    (λ e. e ∙ ap (λ (l : List ℕ). c.args.bytes.now.items ++ l)
    (block_bytes (λ k. to_be_bytes g.F.Form.width (g.C.Codes.code_at c.args.codes k)) c.write_forms.new.forms c.args.start c.args.count _ c.write_forms.ensures room))
    c.push_forms.ensures
