-- The variables of a sound header.
use Rattle.plan_text.proofs.Cited.{◌≡◌, ℕ, ◌^◌, ◌<◌, List, length, get_or, true, Some, sym, ap, ◌∙◌, slice_get, slice_get-get_or, Header, Var, slab, is_sound, slab_small}

-- the size of the k-th one
pub size_at : (header : Header) (vars : List Var) (k : ℕ) (v : Var) → is_sound header ≡ true → vars ≡ header.vars → k < length vars → v ≡ get_or vars k v → slab header v < 2 ^ 62
size_at header vars k v sound same within here =
    slab_small header k v sound (sym (ap (λ (vs : List Var). slice_get vs k) same) ∙ slice_get-get_or vars k v within ∙ ap (λ (w : Var). Some w) (sym here))
