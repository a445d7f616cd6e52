use Rattle.run_laws.proofs.Words.{Solo, arith, nat_tests}
use Rattle.run_laws.proofs.TogetherLaws.{all_more, together_all, together_kind, together_number, meeting_of_known, order_legal}
use Rattle.run_laws.proofs.together_law.Goals as goal

pub returns : goal.returns
returns c = record {
  all = together_all;
  one_kind = together_kind;
  number = together_number;
  solo_known = λ ranks r n order l h. all_more ranks order (Solo r n) (grind (arith, nat_tests)) h;
  meeting_known = meeting_of_known;
  legal = order_legal;
}
