-- Requests under different ids, none of which holds a byte twice.
use Rattle.rank_core.proofs.Words.{◌≡◌, ℕ, zero, suc, ◌+◌, ap, sym, refl, inl, inr, ◌⊎◌, List, [], ◌∷◌, ◌++◌, map, length, Some, arith, slice_get, same_Some, no_none_some, Header, Post, In, at_in, Holding, holdings, bytes_of, IsOwnOnce, nat_tests}

-- an index of a list that is joined from two
joined_at : {A : Type 0} (xs ys : List A) (i : ℕ) (x : A) → slice_get (xs ++ ys) i ≡ Some x
    → (slice_get xs i ≡ Some x) ⊎ ((j : ℕ) × (i ≡ length xs + j) × (slice_get ys j ≡ Some x))
joined_at [] ys i x h = inr (i, omega arith, h)
joined_at (y ∷ xs) ys zero x h = inl h
joined_at (y ∷ xs) ys (suc i) x h = grind (arith, nat_tests, joined_at xs ys i x h)

-- no key of the one list is a key of the other
abbrev pub AreApart : List Holding → List Holding → Type 0
AreApart xs ys = (i j : ℕ) (g h : Holding) → slice_get xs i ≡ Some g → slice_get ys j ≡ Some h → g.0 ≡ h.0 → ⊥

pub own_append : (xs ys : List Holding) → IsOwnOnce xs → IsOwnOnce ys → AreApart xs ys → IsOwnOnce (xs ++ ys)
own_append xs ys a b apart i j g h k l x ei ej keys ek el = grind (arith, nat_tests, joined_at)

pub own_none : IsOwnOnce []
own_none i j g h k l x ei ej keys ek el = no_none_some g ei

-- what the posts hold, under a rank
abbrev pub held_by : Header → ℕ → List Post → List Holding
held_by header rank posts = holdings header (map (λ p. (rank, p)) posts)

pub held_append : (header : Header) (rank : ℕ) (ps qs : List Post) → held_by header rank (ps ++ qs) ≡ held_by header rank ps ++ held_by header rank qs
held_append header rank [] qs = refl
held_append header rank (p ∷ ps) qs = ap (λ (l : List Holding). ((rank, p.id), bytes_of header p) ∷ l) (held_append header rank ps qs)

-- a holding is that of a post
pub held_at : (header : Header) (rank : ℕ) (ps : List Post) (i : ℕ) (h : Holding) → slice_get (held_by header rank ps) i ≡ Some h
    → (p : Post) × (slice_get ps i ≡ Some p) × (h ≡ ((rank, p.id), bytes_of header p))
held_at header rank [] i h e = no_none_some h e
held_at header rank (p ∷ ps) zero h e = (p, refl, sym (same_Some _ h e))
held_at header rank (p ∷ ps) (suc i) h e = held_at header rank ps i h e

-- posts whose ids differ are under different keys
pub keys_apart : (header : Header) (rank : ℕ) (ps qs : List Post) → ((p q : Post) → In ps p → In qs q → p.id ≡ q.id → ⊥) → AreApart (held_by header rank ps) (held_by header rank qs)
keys_apart header rank ps qs differ i j g h ei ej keys =
    let p = held_at header rank ps i g ei in
    grind (arith, nat_tests, held_at header rank qs j h ej, at_in ps i p.0 p.1, at_in qs j (held_at header rank qs j h ej).0 (held_at header rank qs j h ej).1)
