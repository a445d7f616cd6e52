use Rattle.whole_run_laws.proofs.FieldLaws.{end_field}
use Rattle.whole_run_laws.proofs.counts.field_law.Goals as goal

pub returns : goal.returns
returns c = record {
  has_count = λ script header file order sound lawful legal. (end_field script header file order sound lawful legal).tells;
  as_it_was = λ script header file order sound lawful legal. (end_field script header file order sound lawful legal).same;
}
