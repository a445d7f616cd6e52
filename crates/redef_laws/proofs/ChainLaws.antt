-- Lists of slabs that stand one behind another.
use Rattle.redef_laws.proofs.Words.{ℕ, ◌+◌, ◌<◌, ◌≤◌, refl, inl, inr, List, [], ◌∷◌, arith, Slab, In, IsRisen, AreShifted, nat_tests}
use Rattle.redef_laws.proofs.Orders.{Pairwise}

-- the first begins below the second
abbrev pub Below : Slab → Slab → Type 0
Below s t = s.from < t.from

risen_from : (old_first first end a b : ℕ) (all ss : List Slab) → AreShifted old_first first end all → ((s : Slab) → In ss s → In all s)
    → Pairwise Below ss → ((s : Slab) → In ss s → (a ≤ s.from) × (b ≤ s.to)) → IsRisen a b ss
risen_from old_first first end a b all [] h k l m = tt
risen_from old_first first end a b all (s ∷ ss) h k l m =
    let rest = risen_from old_first first end (s.from + s.len) (s.to + s.len) all ss h (λ t g. k t (inr g)) l.1
    (λ t g. let r = h.lower s t (k s (inl refl)) (k t (inr g)) (l.0 t g) in (r.before, r.after)) in
    grind (arith, nat_tests, h.each s (k s (inl refl)), m s (inl refl), rest)

-- slabs that are shifted, and begin one behind another, are a chain
pub shifted_risen : (old_first first end : ℕ) (all ss : List Slab) → AreShifted old_first first end all → ((s : Slab) → In ss s → In all s)
    → Pairwise Below ss → IsRisen old_first first ss
shifted_risen old_first first end all ss h k l = grind (arith, nat_tests, risen_from)
