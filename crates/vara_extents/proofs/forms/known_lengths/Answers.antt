use Rattle.vara_extents.proofs.Words.{◌∙◌, ◌++◌, ◌∷◌, [], ◌==◌, ℕ, List, ap, sym, get_or, if◌then◌else◌, map, take, slice_get, length, length_of, map_more, map_push, arith}
use Rattle.vara_extents.proofs.forms.known_lengths.Goals as goal

pub loop-id-preserved : goal.loop-id-preserved
loop-id-preserved c =
    let own = λ (id : ℕ). length_of (slice_get c.args.header.now.dims id) in
    let known = λ (n : ℕ). if n == 0 then c.args.known else n in
    let dims = c.args.var.now.dims in
    let here = c.length_of.ensures ∙ ap (λ (ids : List ℕ). own (get_or ids c.loop-id.id-index 0)) c.as_slice-id-items.ensures in
    let more = map_more own dims c.loop-id.id-index 0 (omega (arith, ap length c.as_slice-id-items.ensures, c.loop-id-test.true)) in
    c.in_ok-push.ensures.items
    ∙ (λ i. c.loop-id.invariant i ++ (c.known_length.ensures ∙ ap known here) i ∷ [])
    ∙ sym (map_push known (map own (take c.loop-id.id-index dims)) (own (get_or dims c.loop-id.id-index 0)))
    ∙ sym (ap (map known) more)
