use Rattle.std.proofs.Common.{◌∙◌, ap, length}
use Rattle.std.specs.Prelude.{ℤ, List}
use Rattle.std.proofs.lemmas.List.FromFn.{length-map-range_with_len}
use Rattle.script_values.proofs.sequences.run_of_numbers.Goals as goal

pub returns-clause-count : goal.returns-clause-count
returns-clause-count c =
    let whole = rw c.new-found.ensures at c.in_ok-push_run.ensures in
    ap (λ (zs : List ℤ). length zs) whole ∙ length-map-range_with_len _ 0 c.args.n
