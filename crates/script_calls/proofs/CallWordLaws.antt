-- The calls are those of the definitions.
use Rattle.script_calls.proofs.Words.{◌≡◌, ℕ, List, refl, Call, Word, Called, call_of, called_after, region_by, values_by, post_values_by, new_id_by, put_by, get_by, post_by, plain_by, post_or_plain_by, call_by, line_by, called_by}

pub same_call : (ranks r : ℕ) (own : List Call) (before : ℕ) (w : List ℕ) (ws : List Word) → call_by ranks r own before w ws ≡ call_of ranks r own before w ws
unfolding region_by values_by post_values_by new_id_by put_by get_by post_by plain_by post_or_plain_by call_by
same_call ranks r own before w ws = refl

pub same_called : (d : Called) (first : List ℕ) (ws : List Word) → called_by d first ws ≡ called_after d first ws
unfolding line_by called_by
same_called d first ws = refl
