use Rattle.var_layout.proofs.Words.{◌≡◌, ◌<◌, ◌+◌, ◌*◌, ℕ, List, length, get_or, map, sym, ◌∙◌, refl, arith, slice_get, length-map, get_or-map, Header, length_of, IsIndex}
use Rattle.var_layout.proofs.ElementPlaces.{RowSoFar, same_len, one_more, so_far_below}
use Rattle.var_layout.proofs.elements.row.Goals as goal

-- the loop's step, and what bounds it
step : (header : Header) (ids index : List ℕ) (k n so_far : ℕ) → k < length ids → IsIndex (map (λ id. length_of (slice_get header.dims id)) ids) index
    → n ≡ length_of (slice_get header.dims (get_or ids k 0)) → RowSoFar (map (λ id. length_of (slice_get header.dims id)) ids) index k so_far
    → RowSoFar (map (λ id. length_of (slice_get header.dims id)) ids) index (k + 1) (so_far * n + get_or index k 0)
step header ids index k n so_far h valid e so =
    let lengths = map (λ id. length_of (slice_get header.dims id)) ids in
    let long = length-map ids (λ id. length_of (slice_get header.dims id)) in
    let same = same_len lengths index valid in
    one_more lengths index k (length_of (slice_get header.dims 0)) n (get_or index k 0) so_far (omega arith) (omega arith)
    (e ∙ sym (get_or-map (λ id. length_of (slice_get header.dims id)) ids k 0)) refl so

pub bounds-index-k : goal.bounds-index-k
bounds-index-k c = omega (arith, length-map c.args.ids.now (λ id. length_of (slice_get c.args.header.now.dims id)), same_len _ _ c.requires.valid)

pub loop-k-preserved : goal.loop-k-preserved
loop-k-preserved c =
    step c.args.header.now c.args.ids.now c.args.index.now c.loop-k.k c.length_of.result c.loop-k.row (omega arith) c.requires.valid c.length_of.ensures c.loop-k.invariant

pub overflow_add-row : goal.overflow_add-row
overflow_add-row c =
    let next = step c.args.header.now c.args.ids.now c.args.index.now c.loop-k.k c.length_of.result c.loop-k.row (omega arith) c.requires.valid c.length_of.ensures c.loop-k.invariant in
    omega (arith, so_far_below _ _ _ _ next, c.requires.below)

pub overflow_mul-row : goal.overflow_mul-row
overflow_mul-row c =
    let next = step c.args.header.now c.args.ids.now c.args.index.now c.loop-k.k c.length_of.result c.loop-k.row (omega arith) c.requires.valid c.length_of.ensures c.loop-k.invariant in
    omega (arith, so_far_below _ _ _ _ next, c.requires.below)
