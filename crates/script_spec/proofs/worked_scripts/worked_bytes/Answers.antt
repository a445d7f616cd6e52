use Rattle.script_spec.proofs.Words.{refl, digits, is_utf8, chars, utf8_valid_len}
use lib.Utf8.{encode}
use Rattle.script_spec.proofs.worked_scripts.worked_bytes.Goals as goal

pub returns-clause-no_first : goal.returns-clause-no_first
unfolding digits is_utf8 utf8_valid_len chars encode
returns-clause-no_first c = refl

pub returns-clause-no_second : goal.returns-clause-no_second
unfolding digits is_utf8 utf8_valid_len chars encode
returns-clause-no_second c = refl

pub returns-clause-cut_off : goal.returns-clause-cut_off
unfolding digits is_utf8 utf8_valid_len chars encode
returns-clause-cut_off c = refl

pub returns-clause-text : goal.returns-clause-text
unfolding digits is_utf8 utf8_valid_len chars encode
returns-clause-text c = refl
