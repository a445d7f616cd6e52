use Rattle.ncmpi_script.proofs.Words.{◌≡◌, Result, true, false, length, nat_lt, ◌==◌, sym, subst, arith, utf8_valid_len, utf8_valid_len-IsUtf8, nat_tests, ScriptErr, Script, most_bytes, GivesAt}
use Rattle.ncmpi_script.proofs.TopLaws.{text_is}
use Rattle.ncmpi_script.proofs.top.script_of_text.Goals as goal

pub returns-in-Ok : goal.returns-in-Ok
returns-in-Ok c =
    let short : nat_lt most_bytes (length c.args.text.now) ≡ false = grind (arith, nat_tests) in
    let whole : utf8_valid_len c.args.text.now ≡ length c.args.text.now = utf8_valid_len-IsUtf8 c.args.text.now c.in-Ok.ensures.cases.1 in
    let valid : (utf8_valid_len c.args.text.now == length c.args.text.now) ≡ true = grind (arith, nat_tests) in
    subst (λ (read : Result Script ScriptErr). GivesAt (λ (script : Script). script) c.script_of_utf8.result read) (sym (text_is c.args.text.now short valid)) c.script_of_utf8.ensures
