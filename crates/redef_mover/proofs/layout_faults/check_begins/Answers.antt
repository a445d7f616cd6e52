use Rattle.redef_mover.proofs.Words.{◌<◌, Bool, true, false, List, length, get_or, ap, ◌∙◌, arith, enumerate_from, get_or_default, length-map, length-enumerate_from, Numbered, Place, is_bad_var, nat_tests}
use Rattle.nc_base.specs.declared.errors.LayoutErr.TheVariants as layout_fault
use Rattle.nc_base.specs.declared.errors.RedefErr.TheVariants as fault
use Rattle.redef_mover.proofs.Ranges.{place_inside, bad_here, find_stops, find_goes_on, find_ends}
use Rattle.redef_mover.proofs.layout_faults.check_begins.Goals as goal

pub bounds-as_slice-place : goal.bounds-as_slice-place
bounds-as_slice-place c =
    let header = c.args.header.now in
    let places = c.args.places.now in
    let i = c.loop-place.place-index in
    let empty : Place = record { number = 0; begin = 0 } in
    let p = get_or places i empty in
    let within : i < length places = omega arith in
    let below = place_inside (length header.vars) places i p c.requires within (get_or_default places i empty p within) in
    let long = ap (λ (bs : List Bool). length bs) (c.as_slice.ensures ∙ c.in_ok-bad.ensures) in
    let all = length-map (enumerate_from 0 header.vars) (λ (v : Numbered). is_bad_var header v.0 v.1) in
    let each = length-enumerate_from 0 header.vars in
    omega (arith, below, long, all, each)

pub returns-then-as_slice-place-clause-refused : goal.returns-then-as_slice-place-clause-refused
returns-then-as_slice-place-clause-refused c =
    let header = c.args.header.now in
    let places = c.args.places.now in
    let i = c.loop-place.place-index in
    let empty : Place = record { number = 0; begin = 0 } in
    let p = get_or places i empty in
    let within : i < length places = omega arith in
    let there = get_or_default places i empty p within in
    grind (arith, nat_tests, bad_here header c.as_slice.result.now places i p true false c.requires within there, find_stops header places i p within there, c.as_slice.ensures, c.in_ok-bad.ensures, c.if-as_slice-place.true, c.loop-place.invariant)

pub loop-place-preserved : goal.loop-place-preserved
loop-place-preserved c =
    let header = c.args.header.now in
    let places = c.args.places.now in
    let i = c.loop-place.place-index in
    let empty : Place = record { number = 0; begin = 0 } in
    let p = get_or places i empty in
    let within : i < length places = omega arith in
    let there = get_or_default places i empty p within in
    grind (arith, nat_tests, bad_here header c.as_slice.result.now places i p false false c.requires within there, find_goes_on header places i p within there, c.as_slice.ensures, c.in_ok-bad.ensures, c.if-as_slice-place.false, c.loop-place.invariant)

pub returns-clause-fault : goal.returns-clause-fault
returns-clause-fault c = find_ends c.args.header.now c.args.places.now c.loop-place.place-index (omega arith) c.loop-place.invariant
