use Rattle.var_layout.proofs.Words.{◌∙◌, List, length, ap, arith, Dim, dimension}
use Rattle.var_layout.proofs.WrittenLengths.{list_whole}
use Rattle.var_layout.proofs.written.dims_len.Goals as goal

pub returns : goal.returns
returns c =
    let same = ap (λ (xs : List Dim). length xs) c.as_slice-dim-items.ensures in
    c.loop-dim.invariant ∙ list_whole c.args.header.now.version 10 (dimension c.args.header.now.version) c.args.header.now.dims c.loop-dim.dim-index (omega arith)
