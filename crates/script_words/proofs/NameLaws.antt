-- Names in a list, and in a list of what has names.
use Rattle.script_words.proofs.Cited.{◌≡◌, List, [], ◌∷◌, ◌++◌, map, Bool, false, ap, ◌∙◌, cond, map_push, list_any}

-- a new key goes last
pub pushed : {A B : Type 0} (test : A → Bool) (keys new : List A) (k : A) (f : A → B) → new ≡ cond (list_any test keys) keys (keys ++ k ∷ [])
    → list_any test keys ≡ false → map f new ≡ map f keys ++ f k ∷ []
pushed test keys new k f e absent =
    let last : new ≡ keys ++ k ∷ [] = rw absent at e in
    ap (map f) last ∙ map_push f keys k
