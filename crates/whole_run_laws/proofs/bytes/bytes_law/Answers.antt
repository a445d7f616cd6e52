use Rattle.whole_run_laws.proofs.KeptLaws.{end_said, end_kept, end_grown, end_long, opened_kept}
use Rattle.whole_run_laws.proofs.bytes.bytes_law.Goals as goal

pub returns : goal.returns
returns c = record {
  last_put = end_said;
  as_it_was = end_kept;
  zero_where_it_grew = end_grown;
  of_an_opened_dataset = opened_kept;
  no_shorter = end_long;
}
