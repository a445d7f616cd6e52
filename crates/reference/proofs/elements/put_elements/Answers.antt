-- One element more.
use Rattle.reference.proofs.Words.{sym, drop_all, cells, write_cells, ◌≡◌, ◌+◌, ◌-◌, ◌*◌, ◌^◌, ◌<◌, ◌≤◌, ◌∙◌, ℕ, List, ap, arith, length, min, mul-le, product, take, drop, size_of, places}
use Rattle.reference.proofs.IndexLaws.{all_numbered, numbered_place}
use Rattle.reference.proofs.PutSteps.{put_step}
use Rattle.reference.proofs.elements.put_elements.Goals as goal

-- the bytes of an element are within those of all
within : (k n m size size' len : ℕ) → k < n → n ≡ min m (2 ^ 64 - 1) → size' ≡ size → len ≡ m * size → k * size' + size' ≤ len
within k n m size size' len b e s l = let h = mul-le (k + 1) size m size (omega arith) (omega arith) in omega (arith, h, l, ap (λ (x : ℕ). k * x) s)

pub element-requires : goal.element-requires
element-requires c =
    within c.loop-number.number c.element_count-number-end.result (product c.args.post.now.region.count) (size_of c.args.of.now.kind) c.size_of-size.result _ c.loop-number-test.true
    (c.element_count-number-end.ensures ∙ ap (λ (l : List ℕ). min (product l) (2 ^ 64 - 1)) c.as_slice.ensures) c.size_of-size.ensures (ap length c.as_slice-bytes.ensures ∙ c.requires.whole)

pub loop-number-preserved : goal.loop-number-preserved
loop-number-preserved c =
    let k = c.loop-number.number in
    put_step (size_of c.args.of.now.kind) (places c.args.header.now c.args.of.now c.args.post.now.region) c.args.post.now.bytes c.loop-number.file.items _ _ c.element.result.now k
    c.in_ok-at.at
    (numbered_place c.args.header.now c.args.post.now.var c.args.of.now c.args.post.now.region c.as_slice.result.now c.element_count-number-end.result k c.in_ok-at.at
    c.requires.there c.requires.accepted c.as_slice.ensures c.element_count-number-end.ensures c.loop-number-test.true c.in_ok-at.ensures.place)
    (c.element.ensures
    ∙ ap (λ (n : ℕ). take n (drop (k * n) c.as_slice-bytes.result.now)) c.size_of-size.ensures
    ∙ ap (λ (b : List ℕ). take (size_of c.args.of.now.kind) (drop (k * size_of c.args.of.now.kind) b)) c.as_slice-bytes.ensures)
    c.in_ok-write.ensures c.loop-number.invariant

pub returns : goal.returns
returns c =
    sym (ap (λ (ps : List ℕ). write_cells c.loop-number.file.items (cells (size_of c.args.of.now.kind) ps (drop (c.loop-number.number * size_of c.args.of.now.kind) c.args.post.now.bytes)))
    (drop_all c.loop-number.number (places c.args.header.now c.args.of.now c.args.post.now.region)
    (all_numbered c.args.header.now c.args.post.now.var c.args.of.now c.args.post.now.region c.as_slice.result.now c.element_count-number-end.result
    c.loop-number.number c.requires.there c.requires.accepted c.as_slice.ensures c.element_count-number-end.ensures c.loop-number-test.false)))
    ∙ c.loop-number.invariant
