-- The header that is defined can be laid out and written; the place's refusal is that of the whole.
use Rattle.nc_classic_c.proofs.Words.{refl, sym, subst, on_ok_weaker, IfErr, Unmade, Option, IsUnmade, arith, nat_tests, and_first}
use Rattle.nc_classic_c.proofs.DefinitionLaws.{taken_unplaced, taken_writable}
use Rattle.nc_classic_c.proofs.MakingLaws.{place_told}
use Rattle.nc_classic_c.proofs.making.made.Goals as goal

pub written-requires-clause-unplaced : goal.written-requires-clause-unplaced
written-requires-clause-unplaced c = grind (arith, nat_tests, and_first, taken_unplaced, c.in_ok-header.ensures, c.in_ok-check_definitions.ensures)

pub written-requires-clause-parts : goal.written-requires-clause-parts
written-requires-clause-parts c = grind (arith, nat_tests, taken_writable, c.in_ok-header.ensures)

pub returns-clause-none_refused : goal.returns-clause-none_refused
returns-clause-none_refused c =
    on_ok_weaker c.written.result
    (λ e. place_told c.args.defined.now c.in_ok-header.header c.in_ok-version.align _ c.in_ok-version.ensures.refused c.in_ok-check_definitions.ensures c.in_ok-header.ensures c.in_ok-version.ensures.align e)
    c.written.ensures.none_refused

pub returns-clause-bytes : goal.returns-clause-bytes
returns-clause-bytes c = grind (arith, nat_tests, c.in_ok-header.ensures, c.in_ok-version.ensures.align, c.written.ensures.bytes)

pub returns-clause-writable : goal.returns-clause-writable
returns-clause-writable c = grind (arith, nat_tests, c.in_ok-header.ensures, c.in_ok-version.ensures.align, c.written.ensures.writable)

pub returns-clause-refused : goal.returns-clause-refused
returns-clause-refused c =
    subst (λ (o : Option Unmade). IfErr c.written.result (IsUnmade o))
    (sym (place_told c.args.defined.now c.in_ok-header.header c.in_ok-version.align _ c.in_ok-version.ensures.refused c.in_ok-check_definitions.ensures c.in_ok-header.ensures c.in_ok-version.ensures.align refl))
    c.written.ensures.refused
