-- The front is read, the file grows where it is too short, and what is added is carried out.
use Rattle.opening_plan.proofs.Words.{arith, sound_end, nat_tests}
use Rattle.opening_plan.proofs.OpeningLaws.{existing_calls, existing_size, new_records, new_sound, same_place}
use Rattle.opening_plan.proofs.opening.open_existing.Goals as goal

pub end_of-end-requires : goal.end_of-end-requires
end_of-end-requires c = record {
  sound = new_sound c.args.script.now c.args.old.now c.args.new.now c.requires.opened c.requires.same c.requires.applied c.requires.sound;
  below =
      let sound = new_sound c.args.script.now c.args.old.now c.args.new.now c.requires.opened c.requires.same c.requires.applied c.requires.sound in
      grind (arith, nat_tests, new_records c.args.script.now c.args.old.now c.args.new.now c.requires.opened c.requires.same, sound_end c.args.new.now c.args.old.now.records sound, c.requires.applied);
}

pub returns : goal.returns
returns c = record {
  opening =
      let script = c.args.script.now in
      grind (arith, nat_tests, existing_calls, existing_size, c.end_of-end.ensures, c.in_ok-push_head.ensures, c.in_ok-push_growth.ensures, c.in_ok-push_added.ensures, c.from_vec.ensures, c.max.ensures);
  long = omega (arith, same_place c.args.script.now c.args.old.now c.args.new.now c.requires.opened c.requires.same c.requires.applied, c.end_of-end.ensures, c.max.ensures);
}
