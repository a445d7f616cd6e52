-- A text that is valid to its end.
use Rattle.nc_classic_c.proofs.Words.{sym, utf8_valid_len-IsUtf8, equal_true}
use Rattle.nc_classic_c.proofs.naming.is_utf8.Goals as goal

pub returns-in-Ok : goal.returns-in-Ok
returns-in-Ok c = sym (equal_true _ _ (utf8_valid_len-IsUtf8 c.args.bytes.now c.in-Ok.ensures.cases.1))
