use Rattle.generated_run.proofs.Words.{refl}
use Rattle.generated_run.proofs.LawfulLaws.{made_counted, made_lawful}
use Rattle.generated_run.proofs.MadeLaws.{made_laid}
use Rattle.generated_run.proofs.made_law.Goals as goal

pub returns-clause-lawful : goal.returns-clause-lawful
returns-clause-lawful c = λ seed size some few. made_lawful seed size few

pub returns-clause-whole : goal.returns-clause-whole
returns-clause-whole c = λ seed size. refl

pub returns-clause-unplaced : goal.returns-clause-unplaced
returns-clause-unplaced c = λ seed size. refl

pub returns-clause-writable : goal.returns-clause-writable
returns-clause-writable c = λ seed size. refl

pub returns-clause-laid : goal.returns-clause-laid
returns-clause-laid c = λ seed size. made_laid

pub returns-clause-ranks : goal.returns-clause-ranks
returns-clause-ranks c = λ seed size. refl

pub returns-clause-counted : goal.returns-clause-counted
returns-clause-counted c = λ seed size. made_counted seed size
