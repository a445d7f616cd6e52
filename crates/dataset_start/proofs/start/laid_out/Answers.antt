use Rattle.dataset_start.proofs.Words.{sym, subst, arith, IsOfLayout, nat_tests}
use Rattle.dataset_start.proofs.Keeping.{kept_header_align, kept_var_align}
use Rattle.dataset_start.proofs.start.laid_out.Goals as goal

pub lay_out-requires : goal.lay_out-requires
lay_out-requires c = grind (arith, nat_tests, kept_header_align, kept_var_align, c.in_ok-header.ensures, c.requires.kept.unplaced, c.requires.fresh)

pub returns-in-Ok-clause-writable : goal.returns-in-Ok-clause-writable
returns-in-Ok-clause-writable c = grind (arith, nat_tests, c.in-Ok.ensures.writable, c.in_ok-header.ensures, c.requires.kept.writable, c.requires.fresh)

pub returns-in-Err-clause-only : goal.returns-in-Err-clause-only
returns-in-Err-clause-only c = subst IsOfLayout (sym c.from.ensures) tt
