use Rattle.script_spelling.proofs.Words.{[], ◌∷◌, refl, codes, Text, Quoted, OfText, arith, nat_tests}
use Rattle.script_spelling.proofs.worked_lines.worked_statements.Goals as goal

pub returns : goal.returns
returns c = record {
  ranks = (codes "08", refl, refl);
  hint = (codes "threads", codes "off", refl, refl, refl);
  fill = refl;
  dim = (codes "4", refl, refl, refl);
  unlimited = (codes "unlimited", refl, refl, refl);
  var = (codes "short", codes "[t,x]", codes "t,x", refl, refl, refl, refl, refl, refl);
  att = (codes "char", Quoted (codes "a b") ∷ [], Text (codes "a b"), refl, tt, refl, refl, OfText (codes "a b") refl refl refl, refl);
  of_version_5 = (codes "ubyte", codes "[]", [], refl, refl, refl, refl, refl, refl);
  not_of_version_1 = grind (arith, nat_tests);
}
