use Rattle.var_layout.proofs.Words.{ℕ, ◌*◌, ap, ◌∙◌, arith, slice_get, length_of, capped}
use Rattle.var_layout.proofs.Capping.{capped_product_more}
use Rattle.var_layout.proofs.sizes.elements_of_dims.Goals as goal

pub loop-id-preserved : goal.loop-id-preserved
loop-id-preserved c =
    c.product-elements.ensures
    ∙ ap (λ (n : ℕ). capped (c.loop-id.elements * n)) c.length_of.ensures
    ∙ capped_product_more (λ id. length_of (slice_get c.args.header.now.dims id)) c.args.ids.now c.loop-id.id-index 0 c.loop-id.elements (omega arith) c.loop-id.invariant
