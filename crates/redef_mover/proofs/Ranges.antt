-- The begins that are out of range.
use Rattle.redef_mover.proofs.Words.{◌≡◌, ℕ, zero, suc, ◌+◌, ◌<◌, ◌≤◌, List, [], ◌∷◌, ◌++◌, length, take, drop, get_or, map, Bool, true, false, cond, Option, Some, None, refl, sym, ap, ◌∙◌, arith, sum_by, count_by, find, slice_get, nat_lt, ◌==◌, enumerate_from, nat_tests, take_more, take_all, drop_more, drop_all, get_or_default, map-append, get_or-map, length-map, sum_by-cons, get_or-enumerate_from, length-enumerate_from, slice_get_read, Header, Var, Byte, record_share, Numbered, is_bad_begin, capped, capped_sum_more, Place, pairs, HasOneEach, is_bad, is_bad_var}

-- ---- one variable after another

pub record RangedSoFar (header : Header) (k : ℕ) (bad : List Bool) (before : ℕ) : Type 0 where
  pub told : bad ≡ map (λ (v : Numbered). is_bad_var header v.0 v.1) (take k (enumerate_from 0 header.vars))
  pub sum : before ≡ capped (sum_by (λ v. record_share header v) (take k header.vars))

pub ranged_next : (header : Header) (k : ℕ) (v : Var) (bad after : List Bool) (here : Bool) (before next share : ℕ) → k < length header.vars → v ≡ get_or header.vars k v
    → ((n : ℕ) → before ≡ capped n → here ≡ is_bad header n v) → after ≡ bad ++ here ∷ [] → share ≡ capped (record_share header v) → next ≡ capped (before + share)
    → RangedSoFar header k bad before → RangedSoFar header (k + 1) after next
ranged_next header k v bad after here before next share within there test pushed shared to so_far =
    let all = enumerate_from 0 header.vars in
    let long = length-enumerate_from 0 header.vars in
    let inside : k < length all = omega arith in
    let numbered : get_or all k (k, v) ≡ (k, v) =
    get_or-enumerate_from 0 header.vars k (k, v) within ∙ ap (λ (w : Var). (0 + k, w)) (sym there) ∙ ap (λ (n : ℕ). (n, v)) (let e : 0 + k ≡ k = omega arith in e) in
    record {
      told =
          pushed ∙ ap (λ (bs : List Bool). bs ++ here ∷ []) so_far.told
          ∙ ap (λ (b : Bool). map (λ (w : Numbered). is_bad_var header w.0 w.1) (take k all) ++ b ∷ []) (test (sum_by (λ w. record_share header w) (take k header.vars)) so_far.sum)
          ∙ sym (map-append (λ (w : Numbered). is_bad_var header w.0 w.1) (take k all) ((k, v) ∷ []))
          ∙ ap (λ (x : Numbered). map (λ (w : Numbered). is_bad_var header w.0 w.1) (take k all ++ x ∷ [])) (sym numbered)
          ∙ ap (λ xs. map (λ (w : Numbered). is_bad_var header w.0 w.1) xs) (sym (take_more all k (k, v) inside));
      sum =
          to
          ∙ capped_sum_more (λ w. record_share header w) header.vars k v 0 before share within (so_far.sum ∙ omega arith) (shared ∙ ap (λ (w : Var). capped (record_share header w)) there)
          ∙ omega arith;
    }

pub ranged_whole : (header : Header) (k : ℕ) (bad : List Bool) (before : ℕ) → length header.vars ≤ k → RangedSoFar header k bad before
    → bad ≡ map (λ (v : Numbered). is_bad_var header v.0 v.1) (enumerate_from 0 header.vars)
ranged_whole header k bad before past so_far =
    let long = length-enumerate_from 0 header.vars in
    so_far.told ∙ ap (λ xs. map (λ (w : Numbered). is_bad_var header w.0 w.1) xs) (take_all k (enumerate_from 0 header.vars) (omega arith))

-- ---- each variable has one place

abbrev pub times : ℕ → List (ℕ × ℕ) → ℕ
times k found = count_by (λ b. b.0 == k) found

times_member : (found : List (ℕ × ℕ)) (i : ℕ) (d : ℕ × ℕ) → i < length found → 1 ≤ times (get_or found i d).0 found
times_member [] i d h = absurd (omega arith)
times_member (b ∷ found) zero d h =
    let one = sum_by-cons (λ (x : ℕ × ℕ). cond (x.0 == b.0) 1 0) b found in
    grind (arith, nat_tests)
times_member (b ∷ found) (suc i) d h =
    let rest = times_member found i d (omega arith) in
    let one = sum_by-cons (λ (x : ℕ × ℕ). cond (x.0 == (get_or found i d).0) 1 0) b found in
    omega (arith, one, rest)

pub inside : (count : ℕ) (found : List (ℕ × ℕ)) (i : ℕ) (d : ℕ × ℕ) → HasOneEach count found → i < length found → (get_or found i d).0 < count
inside count found i d one h = by_test (nat_lt (get_or found i d).0 count) refl (one (get_or found i d).0) (times_member found i d h)
  where
    by_test : (t : Bool) → nat_lt (get_or found i d).0 count ≡ t → times (get_or found i d).0 found ≡ cond t 1 0 → 1 ≤ times (get_or found i d).0 found → (get_or found i d).0 < count
    by_test true e f g = grind (arith, nat_tests)
    by_test false e f g = absurd (omega arith)

-- of places
pub place_inside : (count : ℕ) (places : List Place) (i : ℕ) (p : Place) → HasOneEach count (pairs places) → i < length places → p ≡ get_or places i p → p.number < count
place_inside count places i p one h there =
    let long : length (pairs places) ≡ length places = length-map places (λ (q : Place). (q.number, q.begin)) in
    let is = get_or-map (λ (q : Place). (q.number, q.begin)) places i p (0, 0) h in
    let same = ap (λ (b : ℕ × ℕ). b.0) is ∙ ap (λ (q : Place). q.number) (sym there) in
    let below = inside count (pairs places) i (0, 0) one (omega arith) in
    omega (arith, same, below)

-- ---- the first that is out of range

nobody : Var
nobody = record { name = []; dims = []; attrs = []; kind = Byte; begin = 0 }

bad_told : (header : Header) (bad : List Bool) (p : Place) (t d : Bool) → p.number < length header.vars → bad ≡ map (λ (v : Numbered). is_bad_var header v.0 v.1) (enumerate_from 0 header.vars)
    → t ≡ get_or bad p.number d → is_bad_begin header (p.number, p.begin) ≡ t
bad_told header bad p t d h told there =
    let v = get_or header.vars p.number nobody in
    let long = length-enumerate_from 0 header.vars in
    let here : slice_get header.vars p.number ≡ Some v =
    slice_get_read header.vars (length header.vars) p.number v refl h (get_or_default header.vars p.number nobody v h) in
    let numbered = get_or-enumerate_from 0 header.vars p.number (0, nobody) h in
    let at : get_or bad p.number d ≡ is_bad_var header p.number v =
    ap (λ (bs : List Bool). get_or bs p.number d) told
    ∙ get_or-map (λ (w : Numbered). is_bad_var header w.0 w.1) (enumerate_from 0 header.vars) p.number (0, nobody) d (omega arith)
    ∙ ap (λ (w : Numbered). is_bad_var header w.0 w.1) numbered
    ∙ ap (λ (n : ℕ). is_bad_var header n v) (let e : 0 + p.number ≡ p.number = omega arith in e) in
    ap (λ (o : Option Var). elim o [ None ↦ false | Some w ↦ is_bad_var header p.number w ]) here ∙ sym at ∙ sym there

pub bad_here : (header : Header) (bad : List Bool) (places : List Place) (i : ℕ) (p : Place) (t d : Bool) → HasOneEach (length header.vars) (pairs places) → i < length places → p ≡ get_or places i p
    → bad ≡ map (λ (v : Numbered). is_bad_var header v.0 v.1) (enumerate_from 0 header.vars) → t ≡ get_or bad p.number d → is_bad_begin header (p.number, p.begin) ≡ t
bad_here header bad places i p t d one h there told at = bad_told header bad p t d (place_inside (length header.vars) places i p one h there) told at

find_step : (header : Header) (places : List Place) (i : ℕ) (p : Place) → i < length places → p ≡ get_or places i p
    → find (is_bad_begin header) (pairs (drop i places)) ≡ cond (is_bad_begin header (p.number, p.begin)) (Some (p.number, p.begin)) (find (is_bad_begin header) (pairs (drop (i + 1) places)))
find_step header places i p h there = grind (arith, nat_tests, drop_more places i p h)

pub find_stops : (header : Header) (places : List Place) (i : ℕ) (p : Place) → i < length places → p ≡ get_or places i p → is_bad_begin header (p.number, p.begin) ≡ true
    → find (is_bad_begin header) (pairs (drop i places)) ≡ find (is_bad_begin header) (pairs places) → find (is_bad_begin header) (pairs places) ≡ Some (p.number, p.begin)
find_stops header places i p h there bad so_far = grind (arith, nat_tests, find_step header places i p h there)

pub find_goes_on : (header : Header) (places : List Place) (i : ℕ) (p : Place) → i < length places → p ≡ get_or places i p → is_bad_begin header (p.number, p.begin) ≡ false
    → find (is_bad_begin header) (pairs (drop i places)) ≡ find (is_bad_begin header) (pairs places) → find (is_bad_begin header) (pairs (drop (i + 1) places)) ≡ find (is_bad_begin header) (pairs places)
find_goes_on header places i p h there good so_far = grind (arith, nat_tests, find_step header places i p h there)

pub find_ends : (header : Header) (places : List Place) (i : ℕ) → length places ≤ i → find (is_bad_begin header) (pairs (drop i places)) ≡ find (is_bad_begin header) (pairs places)
    → find (is_bad_begin header) (pairs places) ≡ None
find_ends header places i past so_far = sym so_far ∙ ap (λ (ps : List Place). find (is_bad_begin header) (pairs ps)) (drop_all i places past)
