use Rattle.imap_extents.proofs.Cited.{◌++◌, ◌∙◌, ap, ℕ, List, ◌*ℤ◌, w64, cast_unsigned, int_wrap, on_ok_weaker}
use Rattle.std.specs.Prelude.{pos, ◌+ℤ◌}
use Rattle.nc_base.specs.declared.request.Value.TheVariants as value
use Rattle.imap_extents.proofs.CodeLaws.{number_form, fitting_forms}
use Rattle.imap_extents.proofs.runs.NumberRunRun.push_fitting.Goals as goal

pub returns : goal.returns
returns c =
    let a = c.args.self.first in
    let b = c.args.self.step in
    on_ok_weaker c.push_codes.result
    (λ e. e ∙ ap (λ (l : List ℕ). c.args.bytes.now.items ++ l)
    (fitting_forms c.args.kind (λ k. value.Number (a +ℤ (b *ℤ pos k))) (λ k. cast_unsigned w64 (int_wrap w64 (a +ℤ (b *ℤ pos k)))) 0 c.args.count
    (λ k fit. number_form c.args.kind (a +ℤ (b *ℤ pos k)) fit) c.requires))
    c.push_codes.ensures
