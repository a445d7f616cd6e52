-- What is known is what the definitions say.
use Rattle.script_definitions.proofs.Words.{◌≡◌, ℕ, List, Option, refl, Word, Known, hint_line, known_after, hint_name_by, hint_value_by, hint_line_by, addition_by, definition_by, known_added, known_defined, known_by, ranks_by, hint_by, line_by}

pub same_hint : (given : List (Option ℕ)) (ws : List Word) → hint_line_by given ws ≡ hint_line given ws
unfolding hint_name_by hint_value_by hint_line_by
same_hint given ws = refl

pub same_line : (version : ℕ) (known : Known) (first : List ℕ) (ws : List Word) → line_by version known first ws ≡ known_after version known first ws
unfolding addition_by definition_by known_added known_defined known_by ranks_by hint_by line_by
same_line version known first ws = refl
