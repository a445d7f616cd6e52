use Rattle.whole_run_laws.proofs.Words.{refl, replies_long}
use Rattle.whole_run_laws.proofs.ToldLaws.{replies_told, pair_is_least, none_shared, only_refused}
use Rattle.whole_run_laws.proofs.overlaps.telling_law.Goals as goal

pub returns : goal.returns
returns c = record {
  one_each = replies_long;
  same_pair = replies_told;
  own_pair = λ s r o d. refl;
  least = pair_is_least;
  no_shared_byte = none_shared;
  refused = only_refused;
}
