use Rattle.run_laws.proofs.WayLaws.{way_begins, way_answers, way_meets, way_solo, way_hears, way_beside, way_others}
use Rattle.run_laws.proofs.way_law.Goals as goal

pub returns : goal.returns
returns c = record {
  begins = way_begins;
  answers = way_answers;
  meets = way_meets;
  solo = way_solo;
  hears = way_hears;
  beside = way_beside;
  others = way_others;
}
