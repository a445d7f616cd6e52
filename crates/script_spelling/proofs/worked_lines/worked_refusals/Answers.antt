use Rattle.script_spelling.proofs.Words.{refl}
use Rattle.script_spelling.proofs.Told.{unread}
use Rattle.nc_base.specs.declared.errors.ScriptKind.TheVariants as kind
use Rattle.script_spelling.proofs.worked_lines.worked_refusals.Goals as goal

pub returns-clause-rank : goal.returns-clause-rank
returns-clause-rank c = λ script h. unread _ script (record { line = 4; kind = kind.BadRank }) refl h

pub returns-clause-id : goal.returns-clause-id
returns-clause-id c = λ script h. unread _ script (record { line = 6; kind = kind.TwiceNamed }) refl h
