use Rattle.redef_mover.proofs.Words.{◌<◌, length, get_or, arith, get_or_default, Place, nat_tests}
use Rattle.redef_mover.proofs.Ranges.{place_inside}
use Rattle.redef_mover.proofs.Written.{last_none, written_next, written_whole}
use Rattle.redef_mover.proofs.begins.write_begins.Goals as goal

pub loop-place-init : goal.loop-place-init
loop-place-init c = last_none 0 c.args.vars.now

pub bounds-vars-place : goal.bounds-vars-place
bounds-vars-place c =
    let places = c.args.places.now in
    let i = c.loop-place.place-index in
    let empty : Place = record { number = 0; begin = 0 } in
    let p = get_or places i empty in
    let within : i < length places = omega arith in
    grind (arith, nat_tests, place_inside (length c.args.vars.now) places i p c.requires within (get_or_default places i empty p within), c.loop-place.auto.vars)

pub bounds-vars-place-in-loop-place : goal.bounds-vars-place-in-loop-place
bounds-vars-place-in-loop-place c = bounds-vars-place c

pub offset_bounds-vars-place : goal.offset_bounds-vars-place
offset_bounds-vars-place c = let below = bounds-vars-place c in omega (arith, below)

pub loop-place-preserved : goal.loop-place-preserved
loop-place-preserved c =
    let places = c.args.places.now in
    let i = c.loop-place.place-index in
    let empty : Place = record { number = 0; begin = 0 } in
    let p = get_or places i empty in
    let within : i < length places = omega arith in
    let there = get_or_default places i empty p within in
    grind (arith, nat_tests, place_inside (length c.args.vars.now) places i p c.requires within there, written_next c.args.vars.now c.loop-place.vars, c.loop-place.auto.vars, c.loop-place.invariant)

pub returns : goal.returns
returns c = written_whole c.args.vars.now c.loop-place.vars c.args.places.now c.loop-place.place-index (omega arith) c.requires c.loop-place.invariant
