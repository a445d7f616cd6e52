use Rattle.imap_extents.proofs.Cited.{◌≡◌, ◌∙◌, ap, ℕ, List, map, Some, arith, take_all, val, number_in, ℤ, common_steps, to_z-of_z}
use mir.Syntax.{w128}
use mir.Val.{to_z, of_z}
use Rattle.imap_extents.proofs.unpacking.decode_numbers.Goals as goal

pub loop-form-preserved : goal.loop-form-preserved
loop-form-preserved g c =
    let told : to_z w128 (of_z w128 c.number_of.result) ≡ c.number_of.result = grind (arith, to_z-of_z) in
    grind (arith, common_steps, told)

pub returns : goal.returns
returns g c =
    let form : List ℕ → ℤ = λ b. number_in (Some (val c.args.kind b)) in
    c.loop-form.invariant
    ∙ ap (λ (l : List (List ℕ)). map form l) (take_all c.loop-form.form-index c.as_chunks.result.0.now c.loop-form-test.false)
    ∙ ap (λ (l : List (List ℕ)). map form l) c.as_chunks.ensures.front
