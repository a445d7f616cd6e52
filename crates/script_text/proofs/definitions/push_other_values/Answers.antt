use Rattle.script_text.proofs.Words.{size_of, pieces, arith, nat_tests}
use Rattle.script_text.proofs.PrintingLaws.{values_pushed}
use Rattle.script_text.proofs.definitions.push_other_values.Goals as goal

pub returns : goal.returns
returns c =
    let a = c.args.attr.now in
    grind (arith, nat_tests, values_pushed a.kind (pieces a.count (size_of a.kind) a.bytes) c.requires.kind, c.as_slice.ensures, c.in_ok-push_pieces.ensures)
