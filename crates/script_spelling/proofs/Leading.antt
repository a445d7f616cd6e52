-- A line that leads from what is known to what is known then.
use Rattle.script_spelling.proofs.Words.{◌≡◌, ◌∙◌, ℕ, ◌+◌, List, [], ◌∷◌, false, Some, None, Ok, refl, arith, bytes_eq, codes, Word, Plain, Quoted, Broken, Known, known_after, definition_step, nat_tests, ◌==◌, Defined, definition, is_some, slice_set, hint_of_text, hint_form, hint_in, hint_value}
use Rattle.script_spelling.proofs.Steps.{go_on, by_false}

-- the line leads from what is known to this
abbrev pub Leads : ℕ → Known → List Word → Known → Type 0
Leads version known [] after = ⊥
Leads version known (Plain first ∷ ws) after = (bytes_eq first (codes "data") ≡ false) × (known_after version known first ws ≡ Ok after)
Leads version known (Quoted text ∷ ws) after = ⊥
Leads version known (Broken ∷ ws) after = ⊥

pub step_again : (version : ℕ) (k x : Known) (first : List ℕ) (ws : List Word) → bytes_eq first (codes "data") ≡ false → known_after version k first ws ≡ Ok x → definition_step version k (Plain first) ws ≡ Ok (None, x)
step_again version k x first ws other h = by_false (bytes_eq first (codes "data")) _ _ other ∙ go_on (known_after version k first ws) (λ more. Ok (None, more)) x (None, x) h refl

pub leads_by : (version : ℕ) (k : Known) (first : List ℕ) (ws : List Word) (r : ℕ × Defined) → (version == 0) ≡ false → bytes_eq first (codes "ranks") ≡ false → bytes_eq first (codes "hint") ≡ false → bytes_eq first (codes "data") ≡ false
    → definition version k.values k.defined first ws ≡ Ok r → Leads version k (Plain first ∷ ws) (record k { defined = r.1; values = k.values + r.0 })
leads_by version k first ws r new a b c h = grind (arith, nat_tests, by_false, bytes_eq, codes, go_on)

pub hint_leads : (version : ℕ) (k : Known) (word shown : List ℕ) (i v : ℕ) → hint_of_text word ≡ Some i → is_some (hint_in i k.hints) ≡ false → hint_value (hint_form i) (Plain shown ∷ []) ≡ Ok (v, [])
    → Leads version k (Plain (codes "hint") ∷ Plain word ∷ Plain shown ∷ []) (record k { hints = slice_set k.hints i (Some v) })
hint_leads version k word shown i v at free read = grind (arith, nat_tests)
