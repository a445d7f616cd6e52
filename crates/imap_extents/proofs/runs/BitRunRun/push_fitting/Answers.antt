use Rattle.imap_extents.proofs.Cited.{◌+◌, ◌*◌, ◌^◌, ◌++◌, ◌∙◌, ap, refl, ℕ, List, ◌%◌, on_ok_weaker}
use Rattle.nc_base.specs.declared.request.Value.TheVariants as value
use Rattle.imap_extents.proofs.CodeLaws.{fitting_forms}
use Rattle.imap_extents.proofs.runs.BitRunRun.push_fitting.Goals as goal

pub returns : goal.returns
returns c =
    let a = c.args.self.first in
    let b = c.args.self.step in
    on_ok_weaker c.push_codes.result
    (λ e. e ∙ ap (λ (l : List ℕ). c.args.bytes.now.items ++ l)
    (fitting_forms c.args.kind (λ k. value.Bits ((a + b * k) % 2 ^ 64)) (λ k. (a + b * k) % 2 ^ 64) 0 c.args.count (λ k fit. refl) c.requires))
    c.push_codes.ensures
