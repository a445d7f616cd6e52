-- Where variables lie.
use Rattle.printed_text.proofs.Cited.{◌≡◌, ◌+◌, ◌^◌, ◌<◌, ℕ, List, ◌++◌, length, take, get_or, Bool, true, false, Some, sym, ap, ◌∙◌, arith, filter, flat_map, append-nil, append_assoc, flat_map-append, filter_more, slice_get-get_or, slab_below, Header, Var, is_sound, slab, vsize, var_kept}
use Rattle.std.specs.List.{slice_get}

-- a variable of a sound header ends within a file
pub var_ends : (header : Header) (vars : List Var) (k : ℕ) (v : Var) → is_sound header ≡ true → vars ≡ header.vars → k < length vars → v ≡ get_or vars k v
    → v.begin + slab header v < 2 ^ 62
var_ends header vars k v sound same within here =
    let found : slice_get header.vars k ≡ Some v =
    sym (ap (λ (vs : List Var). slice_get vs k) same) ∙ (slice_get-get_or vars k v within ∙ ap (λ (w : Var). Some w) (sym here)) in
    let end : v.begin + vsize header v < 2 ^ 62 = (var_kept header k v sound found).1.end in
    let below = slab_below header v in
    omega arith

-- an item that is listed, and one that is not
pub listed_more : {A : Type 0} (f : A → List ℕ) (p : A → Bool) (front now next : List ℕ) (xs : List A) (k : ℕ) (v : A) → k < length xs → v ≡ get_or xs k v
    → now ≡ front ++ flat_map f (filter p (take k xs)) → p v ≡ true → next ≡ now ++ f v → next ≡ front ++ flat_map f (filter p (take (k + 1) xs))
listed_more f p front now next xs k v h e so_far passes pushed =
    rw (pushed, so_far, filter_more p xs k v h, ← e, passes, flat_map-append, append-nil) (append_assoc front (flat_map f (filter p (take k xs))) (f v))

pub unlisted_more : {A : Type 0} (f : A → List ℕ) (p : A → Bool) (front now next : List ℕ) (xs : List A) (k : ℕ) (v : A) → k < length xs → v ≡ get_or xs k v
    → now ≡ front ++ flat_map f (filter p (take k xs)) → p v ≡ false → next ≡ now → next ≡ front ++ flat_map f (filter p (take (k + 1) xs))
unlisted_more f p front now next xs k v h e so_far fails same = rw (same, so_far, filter_more p xs k v h, ← e, fails, append-nil)
