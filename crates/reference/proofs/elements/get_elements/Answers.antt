-- One element more.
use Rattle.reference.proofs.Words.{◌++◌, ◌∙◌, ℕ, refl, ap, flat_map, size_of, read, places}
use Rattle.reference.proofs.GatherLaws.{gather_step, none_left}
use Rattle.reference.proofs.IndexLaws.{all_numbered, numbered_place}
use Rattle.reference.proofs.elements.get_elements.Goals as goal

pub loop-number-preserved : goal.loop-number-preserved
loop-number-preserved c =
    gather_step (λ x. read c.args.file.now x (size_of c.args.of.now.kind)) (places c.args.header.now c.args.of.now c.args.post.now.region) c.loop-number.number c.in_ok-at.at
    c.loop-number.bytes.items _ _
    (numbered_place c.args.header.now c.args.post.now.var c.args.of.now c.args.post.now.region c.as_slice.result.now c.element_count-number-end.result
    c.loop-number.number c.in_ok-at.at c.requires.there c.requires.accepted c.as_slice.ensures c.element_count-number-end.ensures c.loop-number-test.true c.in_ok-at.ensures.place)
    (c.in_ok-read.ensures ∙ ap (λ (n : ℕ). c.loop-number.bytes.items ++ read c.args.file.now c.in_ok-at.at n) c.size_of.ensures)
    c.loop-number.invariant

pub returns : goal.returns
returns c =
    c.from_vec.ensures
    ∙ none_left (flat_map (λ x. read c.args.file.now x (size_of c.args.of.now.kind))) (places c.args.header.now c.args.of.now c.args.post.now.region) c.loop-number.number c.loop-number.bytes.items _ refl
    (all_numbered c.args.header.now c.args.post.now.var c.args.of.now c.args.post.now.region c.as_slice.result.now c.element_count-number-end.result
    c.loop-number.number c.requires.there c.requires.accepted c.as_slice.ensures c.element_count-number-end.ensures c.loop-number-test.false)
    c.loop-number.invariant
