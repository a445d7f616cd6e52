use Rattle.imap_extents.proofs.Cited.{arith, nat_tests}
use Rattle.imap_extents.proofs.BlockLaws.{written_more}
use Rattle.imap_extents.proofs.blocks.write_forms.Goals as goal

pub loop-i-preserved : goal.loop-i-preserved
loop-i-preserved g c = grind (arith, nat_tests, written_more, c.loop-i-test.true, c.loop-i.auto.forms, c.loop-i.invariant, c.form.ensures, c.code_at.ensures)
