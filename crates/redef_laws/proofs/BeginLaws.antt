-- The begins of a redefined header, by number: fixed variables stand one after another past the header, then come the old record
-- variables at their distances, then the new ones.
--     at_number found k      what is found for a number
--     Numbers vars list      each variable of the list stands with its number
--     fixed_begin, map_begin, record_begin      what is found for a variable of the list
--     fixed_apart, record_apart                 two variables of the list stand apart
use Rattle.redef_laws.proofs.Words.{◌≡◌, ℕ, ◌+◌, ◌≤◌, List, [], ◌∷◌, map, Option, Some, None, refl, inl, inr, arith, ◌==◌, find, sum_by, slice_get, sum_by-cons, leb-true, eqb-true, eqb_tells, ne_eqb, Header, Var, slab, vsize, AreApart, Numbered, begin_at, fixed_begins, front_after, record_begins, In, nat_tests}

-- ---- members and numbers

-- each of the list stands with its number

abbrev pub Numbers : List Var → List Numbered → Type 0
Numbers vars list = (p : Numbered) → In list p → slice_get vars p.0 ≡ Some p.1

-- ---- what is found for a number

abbrev pub at_number : List (ℕ × ℕ) → ℕ → Option (ℕ × ℕ)
at_number found k = find (λ b. b.0 == k) found

-- ---- fixed variables

begin_past : (front : ℕ) (v : Var) → front ≤ begin_at front v
begin_past front v = grind (arith, nat_tests, leb-true)

begin_up : (front : ℕ) (v : Var) → v.begin ≤ begin_at front v
begin_up front v = grind (arith, nat_tests)

pub front_grows : (header : Header) (front : ℕ) (list : List Numbered) → front ≤ front_after header front list
front_grows header front [] = omega arith
front_grows header front (p ∷ list) = let one = begin_past front p.1 in let rest = front_grows header (begin_at front p.1 + slab header p.1) list in omega arith

-- ---- begins that are placed one after another, each past the size of the one before

pub record IsBegin (begins : ℕ → List Numbered → List (ℕ × ℕ)) (size floor : Var → ℕ) (end : ℕ → List Numbered → ℕ) (from : ℕ) (list : List Numbered) (k : ℕ) (v : Var) (b : ℕ) : Type 0 where
  pub at : at_number (begins from list) k ≡ Some (k, b)
  pub low : from ≤ b
  pub high : b + size v ≤ end from list
  pub up : floor v ≤ b

module _ (begins : ℕ → List Numbered → List (ℕ × ℕ)) (place : ℕ → Var → ℕ) (size floor : Var → ℕ) (end : ℕ → List Numbered → ℕ)
    (next : (x : ℕ) (p : Numbered) (list : List Numbered) → begins x (p ∷ list) ≡ (p.0, place x p.1) ∷ begins (place x p.1 + size p.1) list)
    (ends : (x : ℕ) (p : Numbered) (list : List Numbered) → end x (p ∷ list) ≡ end (place x p.1 + size p.1) list)
    (past : (x : ℕ) (v : Var) → x ≤ place x v) (rises : (x : ℕ) (v : Var) → floor v ≤ place x v) (grows : (x : ℕ) (list : List Numbered) → x ≤ end x list) (vars : List Var) where
  placed : (x : ℕ) (list : List Numbered) (k : ℕ) (v : Var) → Numbers vars list → In list (k, v) → (b : ℕ) × IsBegin begins size floor end x list k v b
  placed x [] k v all h = absurd h
  placed x (p ∷ list) k v all h = elim (eqb_tells p.0 k) [
    | inl e ↦ (let same : p.1 ≡ v = grind (arith, nat_tests, e.1, all (k, v) h, all p (inl refl)) in (place x p.1, grind (arith, nat_tests, e, next x p list, find)))
    | inr e ↦
        (let later = placed (place x p.1 + size p.1) list k v (λ q m. all q (inr m)) (grind (arith, nat_tests, e, h)) in grind (arith, nat_tests, next x p list, find, later.0, later.1.at, later.1.low, later.1.high, later.1.up))
  ]

  two_placed : (x : ℕ) (list : List Numbered) (k m : ℕ) (v w : Var) (b c : ℕ) → Numbers vars list → In list (k, v) → In list (m, w) → (k ≡ m → ⊥)
      → at_number (begins x list) k ≡ Some (k, b) → at_number (begins x list) m ≡ Some (m, c) → AreApart b (size v) c (size w)
  two_placed x [] k m v w b c all h i other e d = absurd h
  two_placed x (p ∷ list) k m v w b c all h i other e d =
      grind (
        arith,
        nat_tests,
        all (k, v) h,
        all (m, w) i,
        all p (inl refl),
        two_placed (place x p.1 + size p.1) list k m v w b c (λ q n. all q (inr n)),
        next x p list,
        placed (place x p.1 + size p.1) list k v (λ q n. all q (inr n)),
        placed (place x p.1 + size p.1) list m w (λ q n. all q (inr n)),
      )

pub fixed_begin : (header : Header) (vars : List Var) (front : ℕ) (list : List Numbered) (k : ℕ) (v : Var) → Numbers vars list → In list (k, v)
    → (b : ℕ) × IsBegin (fixed_begins header) (slab header) (λ w. w.begin) (front_after header) front list k v b
fixed_begin header = placed (fixed_begins header) begin_at (slab header) (λ w. w.begin) (front_after header) (λ x p list. refl) (λ x p list. refl) begin_past begin_up (front_grows header)

pub fixed_apart : (header : Header) (vars : List Var) (front : ℕ) (list : List Numbered) (k m : ℕ) (v w : Var) (b c : ℕ) → Numbers vars list
    → In list (k, v) → In list (m, w) → (k ≡ m → ⊥)
    → at_number (fixed_begins header front list) k ≡ Some (k, b) → at_number (fixed_begins header front list) m ≡ Some (m, c)
    → AreApart b (slab header v) c (slab header w)
fixed_apart header = two_placed (fixed_begins header) begin_at (slab header) (λ w. w.begin) (front_after header) (λ x p list. refl) (λ x p list. refl) begin_past begin_up (front_grows header)

-- a number that no variable of the list has
abbrev pub HasNone : ℕ → List Numbered → Type 0
HasNone k list = (p : Numbered) → In list p → p.0 ≡ k → ⊥

pub fixed_none : (header : Header) (front : ℕ) (list : List Numbered) (k : ℕ) → HasNone k list → at_number (fixed_begins header front list) k ≡ None
fixed_none header front [] k none = refl
fixed_none header front (p ∷ list) k none = grind (arith, nat_tests, fixed_none header (begin_at front p.1 + slab header p.1) list k (λ q m. none q (inr m)), none p (inl refl), ne_eqb)

-- ---- old record variables

abbrev pub mapped_begins : (Var → ℕ) → List Numbered → List (ℕ × ℕ)
mapped_begins f list = map (λ p. (p.0, f p.1)) list

pub map_begin : (f : Var → ℕ) (vars : List Var) (list : List Numbered) (k : ℕ) (v : Var) → Numbers vars list → In list (k, v) → at_number (mapped_begins f list) k ≡ Some (k, f v)
map_begin f vars [] k v all h = absurd h
map_begin f vars (p ∷ list) k v all h =
    grind (arith, nat_tests, map_begin f vars list k v (λ q m. all q (inr m)), all (k, v) h, all p (inl refl), eqb-true)

pub map_none : (f : Var → ℕ) (list : List Numbered) (k : ℕ) → HasNone k list → at_number (mapped_begins f list) k ≡ None
map_none f [] k none = refl
map_none f (p ∷ list) k none = grind (arith, nat_tests, map_none f list k (λ q m. none q (inr m)), none p (inl refl), ne_eqb)

-- ---- new record variables

abbrev pub vsizes : Header → List Numbered → ℕ
vsizes header list = sum_by (λ p. vsize header p.1) list

abbrev pub record_end : Header → ℕ → List Numbered → ℕ
record_end header from list = from + vsizes header list

record_ends : (header : Header) (x : ℕ) (p : Numbered) (list : List Numbered) → record_end header x (p ∷ list) ≡ record_end header (x + vsize header p.1) list
record_ends header x p list = let s = sum_by-cons (λ (q : Numbered). vsize header q.1) p list in omega arith

pub record_begin : (header : Header) (vars : List Var) (from : ℕ) (list : List Numbered) (k : ℕ) (v : Var) → Numbers vars list → In list (k, v)
    → (b : ℕ) × IsBegin (record_begins header) (vsize header) (λ w. 0) (record_end header) from list k v b
record_begin header =
    placed (record_begins header) (λ x v. x) (vsize header) (λ w. 0) (record_end header) (λ x p list. refl) (record_ends header) (λ x v. omega arith) (λ x v. omega arith) (λ x list. omega arith)

pub record_apart : (header : Header) (vars : List Var) (from : ℕ) (list : List Numbered) (k m : ℕ) (v w : Var) (b c : ℕ) → Numbers vars list
    → In list (k, v) → In list (m, w) → (k ≡ m → ⊥)
    → at_number (record_begins header from list) k ≡ Some (k, b) → at_number (record_begins header from list) m ≡ Some (m, c)
    → AreApart b (vsize header v) c (vsize header w)
record_apart header =
    two_placed (record_begins header) (λ x v. x) (vsize header) (λ w. 0) (record_end header) (λ x p list. refl) (record_ends header) (λ x v. omega arith) (λ x v. omega arith) (λ x list. omega arith)
