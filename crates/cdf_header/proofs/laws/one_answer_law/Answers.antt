use Rattle.cdf_header.proofs.Answering.{one_header, one_fault, never_both}
use Rattle.cdf_header.proofs.laws.one_answer_law.Goals as goal

pub returns : goal.returns
returns c = record { one_header = one_header; one_fault = one_fault; never_both = never_both }
