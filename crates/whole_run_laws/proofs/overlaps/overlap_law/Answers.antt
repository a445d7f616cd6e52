use Rattle.whole_run_laws.proofs.AnswerLaws.{meeting_answer, solo_answer}
use Rattle.whole_run_laws.proofs.ToldLaws.{mark_nothing}
use Rattle.whole_run_laws.proofs.overlaps.overlap_law.Goals as goal

pub returns : goal.returns
returns c = record { nothing_changes = mark_nothing; all_told = meeting_answer; one_told = solo_answer }
