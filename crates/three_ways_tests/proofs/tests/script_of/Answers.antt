-- A script that was read is lawful.
use Rattle.script_laws.proofs.LawfulLaws.{read_lawful}
use Rattle.three_ways_tests.proofs.tests.script_of.Goals as goal

pub returns-clause-lawful : goal.returns-clause-lawful
returns-clause-lawful g c = read_lawful c.args.text.now c.in-Ok.script c.in-Ok.ensures.read
