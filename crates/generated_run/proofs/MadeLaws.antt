-- The made script.
use Rattle.generated_run.proofs.Words.{◌≡◌, ℕ, List, [], map, None, true, false, refl, range_with_len, Call, Extra, canon, layout_fault, default_hints, made_header, made_script, calls_of_rank}
use Rattle.nc_base.specs.declared.header.Header as head
use Rattle.nc_base.specs.declared.script.Script as script_type

unfoldable pub scripted : head.Header → List Extra → List (List Call) → script_type.Script
scripted header extra calls = record { fresh = true; header = header; ranks = 8; hints = default_hints; filled = false; extra = extra; calls = calls }

pub script_is : (seed size : ℕ) (header : head.Header) (extra : List Extra) (calls : List (List Call)) → header ≡ made_header → extra ≡ []
    → calls ≡ map (λ r. calls_of_rank seed size r) (range_with_len 0 8)
    → ◌≡◌ {A = script_type.Script} (record { fresh = true; header = header; ranks = 8; hints = default_hints; filled = false; extra = extra; calls = calls }) (made_script seed size)
unfolding scripted calls_of_rank
script_is seed size header extra calls h x c = λ i. scripted (h i) (x i) (c i)

-- its variables get places
pub made_laid : layout_fault made_header (record { header = 4; var = 4 }) ≡ None
unfolding canon
made_laid = refl
