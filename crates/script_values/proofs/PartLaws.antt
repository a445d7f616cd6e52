-- A part more.
use Rattle.std.proofs.lemmas.Bool.Decides.{nat_tests}
use Rattle.std.proofs.Common.{◌≡◌, ◌<◌, ℕ, zero, suc, ◌-◌, List, [], ◌∷◌, ◌++◌, Result, Ok, Err, arith}
use Rattle.nc_base.specs.declared.errors.ScriptKind.{ScriptKind}
use Rattle.nc_base.specs.declared.request.Part.{Part}
use Rattle.script_spec.specs.ScriptWords.{Word}
use Rattle.script_spec.specs.ScriptCalls.{part, part_list}

pub part_more : (n : ℕ) (found : List Part) (ws : List Word) → 0 < n
    → part_list n found ws ≡ elim (part ws) as (λ r. Result (List Part × List Word) ScriptKind) [ Err e ↦ Err e | Ok p ↦ part_list (n - 1) (found ++ p.0 ∷ []) p.1 ]
part_more zero found ws h = absurd (omega arith)
part_more (suc n) found ws h = grind (arith, nat_tests)
