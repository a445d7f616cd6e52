-- The id of a post is a new one.
use Rattle.std.specs.Prelude.{◌≡◌, ℕ, List, false, IfSome}
use Rattle.nc_base.specs.declared.request.Call.{Call}
use Rattle.script_spec.specs.ScriptCalls.{id_of_post, is_posted}

abbrev pub IsNew : List ℕ → Call → Type 0
IsNew ids c = IfSome (id_of_post c) (λ id. is_posted id ids ≡ false)
