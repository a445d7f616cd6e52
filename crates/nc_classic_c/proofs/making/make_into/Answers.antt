-- The bytes are given, or their length is told, or the header is refused.
use Rattle.nc_classic_c.proofs.Words.{◌∙◌, arith, nat_tests}
use Rattle.nc_classic_c.proofs.MakingLaws.{made_given}
use Rattle.nc_classic_c.proofs.making.make_into.Goals as goal

pub returns-in_err-bytes-clause-len : goal.returns-in_err-bytes-clause-len
returns-in_err-bytes-clause-len c = grind (arith, nat_tests, c.in_err-bytes.ensures.refused)

pub returns-clause-made : goal.returns-clause-made
returns-clause-made c =
    made_given c.args.defined.now c.give.new.len c.as_slice.result.now c.args.into.now c.give.new.into c.in_ok-bytes.ensures.none_refused
    (c.as_slice.ensures ∙ c.in_ok-bytes.ensures.bytes) c.in_ok-bytes.ensures.writable c.written_law.ensures.cut c.give.ensures.len c.give.result c.give.ensures.room c.give.ensures.given

pub returns-clause-len : goal.returns-clause-len
returns-clause-len c =
    grind (arith, nat_tests, c.in_ok-bytes.ensures.none_refused, c.as_slice.ensures, c.in_ok-bytes.ensures.bytes, c.give.ensures.len, c.give.ensures.refused)
