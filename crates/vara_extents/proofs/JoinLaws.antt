-- Joined extents.
use Rattle.vara_extents.proofs.Words.{◌≡◌, ℕ, zero, suc, ◌+◌, ◌*◌, ◌<◌, ◌≤◌, inl, inr, refl, ap, List, [], ◌∷◌, drop, Bool, cond, Some, arith, slice_get, AllByRecursion, eq-eqb, ne_eqb, cases_eq, append_assoc, range_append, Extent, joined_to, joined, IsJoined, spans, drop_at, nat_tests}

-- ---- one extent before joined ones

abbrev pub extent : ℕ → ℕ → Extent
extent at len = record { at = at; len = len }

abbrev pub lengthened : Extent → ℕ → Extent
lengthened e n = extent e.at (e.len + n)

-- where the first begins at the end, and where it does not
pub join_next : (e d : Extent) (es : List Extent) → d.at ≡ e.at + e.len → joined_to e (d ∷ es) ≡ lengthened e d.len ∷ es
join_next e d es h = ap (λ (t : Bool). cond t (lengthened e d.len ∷ es) (e ∷ d ∷ es)) (eq-eqb d.at (e.at + e.len) h)

pub join_apart : (e d : Extent) (es : List Extent) → (d.at ≡ e.at + e.len → ⊥) → joined_to e (d ∷ es) ≡ e ∷ d ∷ es
join_apart e d es h = ap (λ (t : Bool). cond t (lengthened e d.len ∷ es) (e ∷ d ∷ es)) (ne_eqb d.at (e.at + e.len) h)

-- an extent that is joined to others begins where it begins
pub join_first : (e : Extent) (es : List Extent) → (d : Extent) × (ds : List Extent) × (joined_to e es ≡ d ∷ ds) × (d.at ≡ e.at) × (e.len ≤ d.len)
join_first e [] = (e, [], refl, refl, omega arith)
join_first e (c ∷ es) = elim (cases_eq c.at (e.at + e.len)) [
  | inl h ↦ (lengthened e c.len, es, join_next e c es h, refl, omega arith)
  | inr h ↦ (e, c ∷ es, join_apart e c es h, refl, omega arith)
]

-- an extent before one that begins at its end, which is joined to others
pub join_two : (e d : Extent) (es : List Extent) → d.at ≡ e.at + e.len → joined_to e (joined_to d es) ≡ joined_to (lengthened e d.len) es
join_two e d es h = grind (arith, nat_tests, join_next, cases_eq, join_apart)

-- ---- elements one after another

-- so many extents of one length, the first at this place and each next one where the one before it ends
pub run_joined : (es : List Extent) (len k n at : ℕ) → ((i : ℕ) → i < suc n → slice_get es (k + i) ≡ Some (extent (at + i * len) len))
    → joined (drop k es) ≡ joined_to (extent at (suc n * len)) (joined (drop (k + suc n) es))
run_joined es len k zero at h =
    let here : slice_get es k ≡ Some (extent at len) = grind (arith, nat_tests, h 0) in
    grind (arith, nat_tests, drop_at es k (extent at len) here)
run_joined es len k (suc n) at h =
    let here : slice_get es k ≡ Some (extent at len) = grind (arith, nat_tests, h 0) in
    let later : (i : ℕ) → i < suc n → slice_get es (suc k + i) ≡ Some (extent (at + len + i * len) len) = λ i l. grind (arith, nat_tests, h (suc i)) in
    grind (arith, nat_tests, drop_at es k (extent at len) here, run_joined es len (suc k) n (at + len) later, join_two (extent at len) (extent (at + len) (suc n * len)) (joined (drop (suc k + suc n) es)))

-- ---- what joining keeps

pub joined_is : (es : List Extent) → IsJoined (joined es)
joined_is [] = tt
joined_is (e ∷ es) = grind (arith, nat_tests, joined_is es, cases_eq, join_next, join_apart)

abbrev pub AreSome : List Extent → Type 0
AreSome es = AllByRecursion (λ (e : Extent). 1 ≤ e.len) es

-- what each extent is, and two together
pub joined_all : (P : Extent → Type 0) → ((e d : Extent) → d.at ≡ e.at + e.len → P e → P d → P (lengthened e d.len)) → (es : List Extent)
    → AllByRecursion P es → AllByRecursion P (joined es)
joined_all P f [] h = tt
joined_all P f (e ∷ es) h = grind (arith, nat_tests, joined_all P f es h.1, cases_eq, join_next, join_apart, f)

-- every extent ends by n
abbrev pub EndBy : ℕ → List Extent → Type 0
EndBy n es = AllByRecursion (λ (e : Extent). e.at + e.len ≤ n) es

pub joined_spans : (es : List Extent) → spans (joined es) ≡ spans es
joined_spans [] = refl
joined_spans (e ∷ es) = grind (arith, nat_tests, joined_spans es, cases_eq, join_next, range_append, append_assoc, join_apart)
