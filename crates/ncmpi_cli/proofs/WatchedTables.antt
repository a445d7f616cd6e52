-- One list of readings more, and how much was told.
use Rattle.ncmpi_cli.proofs.Words.{◌≡◌, ◌++◌, ◌∷◌, [], ℕ, List, All, Option, Some, length, sym, ap, ◌∙◌, unwrap_or, length-map, All-push, Header, Script, Mark, HasTold, AreReadings}

pub readings_push : (told : ℕ) (table : List (List ℕ)) (numbers : List ℕ) → All (AreReadings told) table → AreReadings told numbers → All (AreReadings told) (table ++ numbers ∷ [])
readings_push told = All-push (AreReadings told)

-- as many pairs were told as the order has steps
pub told_long : (script : Script) (header : Header) (held : Option (List ℕ)) (pairs : List (Mark × ℕ)) (order : List Mark) → HasTold script header held (Some []) (Some pairs) order → length pairs ≡ length order
told_long script header held pairs order told =
    sym (length-map pairs (λ (t : Mark × ℕ). t.0)) ∙ ap (λ (marks : Option (List Mark)). length (unwrap_or marks [])) told.marks
