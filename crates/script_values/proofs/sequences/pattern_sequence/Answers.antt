use Rattle.std.proofs.Common.{◌++◌, ◌∙◌, ap, length, sym}
use Rattle.std.specs.Prelude.{ℕ, List, Ok, Result}
use Rattle.nc_base.proofs.BitLaws.{length_bit_steps, no_wrap}
use Rattle.nc_base.specs.BitForms.{bit_steps}
use Rattle.nc_base.specs.declared.errors.ScriptKind.{ScriptKind}
use Rattle.script_values.proofs.sequences.pattern_sequence.Goals as goal

pub returns-clause-read : goal.returns-clause-read
returns-clause-read c =
    let right : List ℕ → Result (List ℕ) ScriptKind = λ ns. Ok ns in
    let run : List ℕ = bit_steps c.args.first c.args.step c.args.n in
    let whole = c.in_ok-push_run.ensures ∙ ap (λ (front : List ℕ). front ++ run) c.new-found.ensures in
    ap right (sym (no_wrap c.args.first c.args.step c.args.n c.requires.last) ∙ sym whole)

pub returns-clause-count : goal.returns-clause-count
returns-clause-count c =
    let run : List ℕ = bit_steps c.args.first c.args.step c.args.n in
    ap (λ (ns : List ℕ). length ns) (c.in_ok-push_run.ensures ∙ ap (λ (front : List ℕ). front ++ run) c.new-found.ensures)
    ∙ length_bit_steps c.args.first c.args.step c.args.n
