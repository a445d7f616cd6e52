-- The slabs rise below the new end, and their moves and zeros are those of the definitions.
use Rattle.opening_plan.proofs.Words.{refl, arith, header_len, rising, writable_is_sound, listed, carriable_spaced, has_laws, header_short, nat_tests}
use Rattle.opening_plan.proofs.OpeningLaws.{carried_calls, rising_low}
use Rattle.opening_plan.proofs.opening.push_redefinition.Goals as goal

pub new-requires : goal.new-requires
new-requires c = record {
  sound = (has_laws c.args.old.now c.args.new.now c.requires.applied).carriable.sound;
  new_sound = writable_is_sound c.args.new.now (has_laws c.args.old.now c.args.new.now c.requires.applied).carriable.writable;
  risen = (header_len c.args.old.now, header_len c.args.new.now, (has_laws c.args.old.now c.args.new.now c.requires.applied).carriable.risen);
  short = λ s i. (rising_low c.args.old.now c.args.new.now (has_laws c.args.old.now c.args.new.now c.requires.applied) (rising c.args.old.now c.args.new.now) refl s i).1;
}

pub push_moves-requires-clause-low : goal.push_moves-requires-clause-low
push_moves-requires-clause-low c =
    rising_low c.args.old.now c.args.new.now (has_laws c.args.old.now c.args.new.now c.requires.applied) (listed c.in_ok-slabs.slabs) c.in_ok-slabs.ensures.all

pub end_of-requires-clause-sound : goal.end_of-requires-clause-sound
end_of-requires-clause-sound c = writable_is_sound c.args.new.now (has_laws c.args.old.now c.args.new.now c.requires.applied).carriable.writable

pub end_of-requires-clause-below : goal.end_of-requires-clause-below
end_of-requires-clause-below c = (has_laws c.args.old.now c.args.new.now c.requires.applied).carriable.low

pub push_zeros-requires-clause-spaced : goal.push_zeros-requires-clause-spaced
push_zeros-requires-clause-spaced c =
    grind (arith, nat_tests, has_laws, header_short, writable_is_sound, carriable_spaced, c.header_len.ensures, c.in_ok-slabs.ensures.all, c.end_of.ensures)

pub push_zeros-requires-clause-low : goal.push_zeros-requires-clause-low
push_zeros-requires-clause-low c = grind (arith, nat_tests, has_laws, c.end_of.ensures)

pub returns : goal.returns
returns c =
    let laws = has_laws c.args.old.now c.args.new.now c.requires.applied in
    grind (arith, nat_tests, header_short, writable_is_sound, carried_calls, c.header_len.ensures, c.header_len-2.ensures, c.requires.some, c.in_ok-slabs.ensures.all, c.end_of.ensures, c.in_ok-push_moves.ensures, c.in_ok-push_zeros.ensures)
