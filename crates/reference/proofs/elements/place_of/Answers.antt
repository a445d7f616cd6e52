-- The index is that of the element.
use Rattle.reference.proofs.Words.{◌≡◌, ◌∙◌, ℕ, List, ap, arith, if_some_at, place, slice_get_within, small_of, nat_tests}
use Rattle.reference.proofs.IndexLaws.{index_is, numbered_below, numbered_element, numbered_low}
use Rattle.reference.proofs.elements.place_of.Goals as goal

pub push_index-requires-clause-low : goal.push_index-requires-clause-low
push_index-requires-clause-low c =
    rw (c.as_slice.ensures, c.as_slice-2.ensures, c.as_slice-3.ensures)
    (numbered_below c.args.header.now c.args.var c.args.of.now c.args.region.now c.args.number c.requires.sound c.requires.there c.requires.accepted c.requires.number)

pub push_index-requires-clause-number : goal.push_index-requires-clause-number
push_index-requires-clause-number c = rw c.as_slice-2.ensures c.requires.number

pub push_index-requires-clause-few : goal.push_index-requires-clause-few
push_index-requires-clause-few c = grind (arith, nat_tests, small_of, c.as_slice-2.ensures)

pub place-requires : goal.place-requires
place-requires c =
    let r = c.requires in
    let is = index_is c.args.region.now c.args.number _ _ _ _ _ c.new-index.ensures.items c.as_slice.ensures c.as_slice-2.ensures c.as_slice-3.ensures
    (c.as_slice-4.ensures.value ∙ c.in_ok-push_index.ensures) in
    record {
      sound = r.sound;
      there = slice_get_within c.args.header.now.vars c.args.var c.args.of.now r.there;
      valid = λ x there.
          numbered_element c.args.header.now c.args.var c.args.of.now x c.args.region.now c.args.number c.as_slice-4.result.now r.sound r.there r.accepted r.number is there;
      below = λ x there.
          let low = numbered_low c.args.header.now c.args.var c.args.of.now x c.args.region.now c.args.number c.as_slice-4.result.now r.sound r.there r.accepted r.number is there in
          omega (arith, low);
    }

pub returns-clause-low : goal.returns-clause-low
returns-clause-low c =
    let low = numbered_low c.args.header.now c.args.var c.args.of.now c.args.of.now c.args.region.now c.args.number c.as_slice-4.result.now c.requires.sound c.requires.there c.requires.accepted c.requires.number
    (index_is c.args.region.now c.args.number _ _ _ _ _ c.new-index.ensures.items c.as_slice.ensures c.as_slice-2.ensures c.as_slice-3.ensures (c.as_slice-4.ensures.value ∙ c.in_ok-push_index.ensures))
    c.requires.there in
    grind (arith, nat_tests, if_some_at, place, c.requires.there, c.place.ensures.value)

pub returns-clause-place : goal.returns-clause-place
returns-clause-place c =
    if_some_at (λ v. c.place.result ≡ place c.args.header.now v c.as_slice-4.result.now) _ c.args.of.now c.requires.there c.place.ensures.value
    ∙ ap (λ (index : List ℕ). place c.args.header.now c.args.of.now index)
    (index_is c.args.region.now c.args.number _ _ _ _ _ c.new-index.ensures.items c.as_slice.ensures c.as_slice-2.ensures c.as_slice-3.ensures (c.as_slice-4.ensures.value ∙ c.in_ok-push_index.ensures))
