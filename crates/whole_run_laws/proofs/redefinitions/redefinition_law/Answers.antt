use Rattle.whole_run_laws.proofs.RedefinedElements.{added_zero, counted_still, header_first, keeps, old_reads}
use Rattle.whole_run_laws.proofs.redefinitions.redefinition_law.Goals as goal

pub returns : goal.returns
returns c = record {
  old_elements = λ old new extras file k v w index a h g i. old_reads old new extras a file k v w index h g i;
  added_elements = λ old new extras file k w index a later g i. added_zero old new extras a file k w index later g i;
  header = λ old new extras file a. header_first old new extras a file;
  old_variables = keeps;
  same_indices = λ old new extras k v w index a h g i. counted_still old new extras a k v w index h g i;
}
