-- Where the old variables begin in a redefined header: no lower than before, and in the same order.
use Rattle.redef_laws.proofs.Words.{filter_in, numbered_in, ◌≡◌, ℕ, ◌+◌, ◌-◌, ◌<◌, ◌≤◌, refl, sym, ◌∙◌, List, [], ◌∷◌, ◌++◌, false, Some, arith, nat_tests, find-append, leb-true, leb-false, begins_before, slice_get, enumerate_from, lt-ltb, holds_or_not, inl, inr, Header, Var, is_record, slab, header_len, Numbered, fixed_of, old_of, new_of, by_begin, begin_at, fixed_begins, front_after, first_record, begins_by_number, begin_of_number, In, in_filter, in_numbered}
use Rattle.redef_laws.proofs.BeginLaws.{at_number, fixed_begin, Numbers}
use Rattle.redef_laws.proofs.PlaceLaws.{begin_is, fixed_place, in_old, old_first_low, old_place}
use Rattle.redef_laws.proofs.Orders.{in_sorted, sorted_in, Orders, Pairwise, pairs_by_place, sorted_pairs}

-- ---- fixed variables

abbrev AreOrdered : List Numbered → Type 0
AreOrdered vars = Pairwise (λ v w. v.1.begin ≤ w.1.begin) vars

begins_order : Orders begins_before (λ v w. Unit {0}) (λ v w. v.1.begin ≤ w.1.begin)
begins_order = record { passed = λ v w u e. leb-true v.1.begin w.1.begin e; failed = λ v w u e. (let l = leb-false v.1.begin w.1.begin e in omega arith); on = λ v w x l m. omega (arith, l, m) }

-- The lower of two variables in order is placed lower.
fixed_rise : (header : Header) (vars : List Var) (front : ℕ) (list : List Numbered) (k m : ℕ) (u x : Var) (b c : ℕ) → Numbers vars list → AreOrdered list
    → In list (k, u) → In list (m, x) → u.begin < x.begin
    → at_number (fixed_begins header front list) k ≡ Some (k, b) → at_number (fixed_begins header front list) m ≡ Some (m, c) → b ≤ c
fixed_rise header vars front [] k m u x b c all ordered h g l e f = absurd h
fixed_rise header vars front (p ∷ list) k m u x b c all ordered h g l e f =
    grind (
      arith,
      nat_tests,
      all (k, u) h,
      all (m, x) g,
      all p (inl refl),
      fixed_begin header vars ((begin_at front p.1) + slab header p.1) list m x (λ q n. all q (inr n)),
      fixed_rise header vars ((begin_at front p.1) + slab header p.1) list k m u x b c (λ q n. all q (inr n)) ordered.1,
    )

fixed_begins-append : (header : Header) (front : ℕ) (vars others : List Numbered)
    → fixed_begins header front (vars ++ others) ≡ fixed_begins header front vars ++ fixed_begins header (front_after header front vars) others
fixed_begins-append header front [] others = refl
fixed_begins-append header front (p ∷ vars) others = λ t. (p.0, begin_at front p.1) ∷ fixed_begins-append header (begin_at front p.1 + slab header p.1) vars others t

-- ---- the variables of a header, the first n of which are old

abbrev old_fixed : Header → ℕ → List Numbered
old_fixed header n = old_of n (fixed_of header (enumerate_from 0 header.vars))

fixed_is_old : (header : Header) (n k : ℕ) (v : Var) → slice_get header.vars k ≡ Some v → k < n → is_record header v ≡ false → In (by_begin (old_fixed header n)) (k, v)
fixed_is_old header n k v h l e = grind (arith, nat_tests, in_sorted, in_numbered header.vars k v h, lt-ltb k n l, in_filter)

fixed_numbers : (header : Header) (n : ℕ) → Numbers header.vars (by_begin (old_fixed header n))
fixed_numbers header n p h = grind (arith, nat_tests, sorted_in begins_before (old_fixed header n) p h, filter_in, numbered_in, fixed_of, old_fixed)

fixed_found : (header : Header) (n k b : ℕ) → at_number (fixed_begins header (header_len header) (by_begin (old_fixed header n))) k ≡ Some (k, b)
    → begin_of_number (begins_by_number header n) k ≡ b
fixed_found header n k b h =
    let others = new_of n (fixed_of header (enumerate_from 0 header.vars)) in
    grind (arith, nat_tests, begin_is (begins_by_number header n) k b, find-append, fixed_begins-append header (header_len header) (by_begin (old_fixed header n)) others, h)

-- ---- the laws

-- an old variable begins no lower than before
pub begin_rises : (header : Header) (n k : ℕ) (v : Var) → slice_get header.vars k ≡ Some v → k < n → v.begin ≤ begin_of_number (begins_by_number header n) k
begin_rises header n k v h l =
    grind (arith, nat_tests, holds_or_not (is_record header v), fixed_place header n k v h, begin_is (begins_by_number header n) k, old_place header n k v h, old_first_low header n (k, v), in_old header n k v h, first_record)

-- old variables of one kind keep their order
pub begins_rise : (header : Header) (n k m : ℕ) (v w : Var) → slice_get header.vars k ≡ Some v → slice_get header.vars m ≡ Some w → k < n → m < n
    → is_record header v ≡ is_record header w → v.begin < w.begin → begin_of_number (begins_by_number header n) k ≤ begin_of_number (begins_by_number header n) m
begins_rise header n k m v w h g i j same l = elim (holds_or_not (is_record header v)) [
  | inr e ↦
      (let list = by_begin (old_fixed header n) in
      let numbers = fixed_numbers header n in
      let first = fixed_is_old header n k v h i e in
      let second = fixed_is_old header n m w g j (sym same ∙ e) in
      let one = fixed_begin header header.vars (header_len header) list k v numbers first in
      let two = fixed_begin header header.vars (header_len header) list m w numbers second in
      grind (arith, nat_tests, two.1.at, fixed_found header n k one.0 one.1.at, fixed_found header n m two.0 two.1.at, fixed_rise header header.vars (header_len header) list k m v w one.0, sorted_pairs, begins_order, pairs_by_place))
  | inl e ↦ grind (arith, nat_tests, begin_is (begins_by_number header n), old_place header n k v h e i, old_place header n m w g (sym same ∙ e) j)
]
