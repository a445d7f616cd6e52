use Rattle.rank_core.proofs.Words.{arith, nat_tests}
use Rattle.rank_core.proofs.look.parts.push_part.Goals as goal

pub values_bytes-requires : goal.values_bytes-requires
values_bytes-requires c = grind (arith, nat_tests, c.element_count-elements.ensures, c.as_slice.ensures, c.requires.few, c.requires.values)

pub returns-in_err-bytes-clause-refused : goal.returns-in_err-bytes-clause-refused
returns-in_err-bytes-clause-refused c =
    grind (arith, nat_tests, c.element_count-elements.ensures, c.as_slice.ensures, c.requires.few, c.from_residual.ensures.1, c.in_err-bytes.ensures.refused)

pub returns : goal.returns
returns c =
    grind (
      arith,
      nat_tests,
      c.element_count-elements.ensures,
      c.as_slice.ensures,
      c.requires.few,
      c.in_ok-push.ensures.ok,
      c.in_ok-bytes.ensures.ok,
      c.in_ok-bytes.ensures.right,
    )
