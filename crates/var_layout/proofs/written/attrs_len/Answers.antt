use Rattle.var_layout.proofs.Words.{◌∙◌, List, length, ap, arith, Attr, attribute}
use Rattle.var_layout.proofs.WrittenLengths.{list_whole}
use Rattle.var_layout.proofs.written.attrs_len.Goals as goal

pub returns : goal.returns
returns c =
    let same = ap (λ (xs : List Attr). length xs) c.as_slice-attr-items.ensures in
    c.loop-attr.invariant ∙ list_whole c.args.version 12 (attribute c.args.version) c.args.attrs.now c.loop-attr.attr-index (omega arith)
