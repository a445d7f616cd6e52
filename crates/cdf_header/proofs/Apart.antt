-- Spans that are seen to share no byte share none.
use Rattle.cdf_header.proofs.Words.{Contains-push, ◌∙◌, ◌++◌, ◌≡◌, ℕ, ◌+◌, ◌<◌, ◌≤◌, min, List, [], ◌∷◌, Bool, true, false, None, length, get_or, drop, refl, sym, ap, subst, inl, inr, ◌⊎◌, arith, nat_lt, nat_le, All, AllPairs, Contains, cases_lt, le-ltb, le-leb, lt-leb, get_or_default, get_or-drop, length-drop, All-contains, All-head, All-tail, All-get_or, Contains-get_or, Span, fixed_meet, records_meet, share, partner, NoneShares, EndsBefore, AreApart, HasAll, AreSpans, nat_tests, cond, common_steps}
use mathlib.Core.Bool.{beq}

other_kind : (a b : Bool) → beq a b ≡ false → a ≡ b → ⊥
other_kind a b f e = grind (arith, nat_tests)

-- one span more, which is among those that are found if it is of the kind
pub kind_next : (kind : Bool) (spans found next : List Span) (n : ℕ) → n < length spans
    → (let s = get_or spans n (record { begin = 0; end = 0; number = 0; is_record = false }) in
    (next ≡ found ++ s ∷ []) ⊎ ((next ≡ found) × (beq s.is_record kind ≡ false)))
    → ((k : ℕ) (d : Span) → k < n → (get_or spans k d).is_record ≡ kind → Contains found (get_or spans k d))
    → (k : ℕ) (d : Span) → k < n + 1 → (get_or spans k d).is_record ≡ kind → Contains next (get_or spans k d)
kind_next kind spans found next n within step so_far k d l is =
    let none : Span = record { begin = 0; end = 0; number = 0; is_record = false } in
    elim (cases_lt k n) [
      | inl before ↦ grind (arith, common_steps)
      | inr le ↦
          let same : k ≡ n = omega arith in
          let here : get_or spans k d ≡ get_or spans n none = ap (λ (m : ℕ). get_or spans m d) same ∙ get_or_default spans n d none within in
          elim step [
            | inl push ↦ subst (λ (ys : List Span). Contains ys (get_or spans k d)) (sym push) (subst (λ (s : Span). Contains (found ++ s ∷ []) (get_or spans k d)) here (Contains-push found (get_or spans k d)))
            | inr stay ↦ absurd (other_kind _ _ stay.1 (ap (λ (s : Span). s.is_record) (sym here) ∙ is))
          ]
    ]

-- two different elements of a list stand one after the other
pair_of : {X : Type 0} (R : X → X → Type 0) (xs : List X) (x y : X) → AllPairs R xs → Contains xs x → Contains xs y → (x ≡ y → ⊥) → R x y ⊎ R y x
pair_of {X = X} R xs x y all p q differ = grind (arith, nat_tests, cases_lt p.0 q.0, get_or_default xs q.0 x y q.1, cases_lt q.0 p.0)

apart_fixed : (p q : Span) → (p.end ≤ q.begin) ⊎ (q.end ≤ p.begin) → fixed_meet p q ≡ false
apart_fixed p q (inl h) = grind arith
apart_fixed p q (inr h) = grind arith

apart_records : (size : ℕ) (p q : Span) → p.end ≤ q.begin → q.end ≤ p.begin + size → records_meet size p q ≡ false
apart_records size p q h k = grind arith

record_pair : (size : ℕ) (p q : Span) → p.begin < p.end → q.begin < q.end → (p.end ≤ q.begin) ⊎ (q.end ≤ p.begin) → q.end ≤ p.begin + size → p.end ≤ q.begin + size
    → cond (nat_le p.begin q.begin) (records_meet size p q) (records_meet size q p) ≡ false
record_pair size p q some more xs k m = grind (arith, nat_tests, le-leb, apart_records, lt-leb)

by_kind : (size : ℕ) (p q : Span) (s t : Bool) → p.is_record ≡ s → q.is_record ≡ t
    → cond s (cond t (cond (nat_le p.begin q.begin) (records_meet size p q) (records_meet size q p)) (nat_lt p.begin q.end)) (cond t (nat_lt q.begin p.end) (fixed_meet p q)) ≡ false
    → share size p q ≡ false
by_kind size p q s t e f h = rw (e, f) h

-- p and q stand in the list of all spans, and p has a number below n
pub record AreTwo (n : ℕ) (spans : List Span) (p q : Span) : Type 0 where
  pub in_p : Contains spans p
  pub in_q : Contains spans q
  pub filled_p : p.begin < p.end
  pub filled_q : q.begin < q.end
  pub low : p.number < n
  pub differ : p ≡ q → ⊥

low_left : (n a b : ℕ) → a < n → min a b < n
low_left n a b h = omega arith

low_right : (n a b : ℕ) → a < n → min b a < n
low_right n a b h = omega arith

ends_before : (n : ℕ) (p q : Span) → p.number < n → EndsBefore n p q ⊎ EndsBefore n q p → (p.end ≤ q.begin) ⊎ (q.end ≤ p.begin)
ends_before n p q low (inl h) = inl (h (low_left n p.number q.number low))
ends_before n p q low (inr h) = inr (h (low_right n p.number q.number low))

by_kinds : (n size : ℕ) (spans fixed records : List Span) (p q : Span) → AreApart n size fixed records → HasAll false spans fixed → HasAll true spans records
    → AreTwo n spans p q → (s t : Bool) → p.is_record ≡ s → q.is_record ≡ t
    → cond s (cond t (cond (nat_le p.begin q.begin) (records_meet size p q) (records_meet size q p)) (nat_lt p.begin q.end)) (cond t (nat_lt q.begin p.end) (fixed_meet p q)) ≡ false
by_kinds n size spans fixed records p q clear has_fixed has_records two false false e f =
    grind (arith, nat_tests, apart_fixed p q, ends_before n p q two.low, pair_of (EndsBefore n) fixed p q clear.fixed_apart)
by_kinds n size spans fixed records p q clear has_fixed has_records two false true e f = grind (arith, nat_tests, low_left n p.number q.number two.low, le-ltb)
by_kinds n size spans fixed records p q clear has_fixed has_records two true false e f = grind (arith, nat_tests, low_right n p.number q.number two.low, le-ltb)
by_kinds n size spans fixed records p q clear has_fixed has_records two true true e f =
    let here = All-contains (λ s. s.is_record ≡ true → Contains records s) spans p has_records two.in_p e in
    grind (arith, nat_tests, record_pair size p q two.filled_p two.filled_q, ends_before n p q two.low, pair_of (EndsBefore n) records p q clear.records_apart here, low_left n p.number q.number two.low, low_right n p.number q.number two.low)

pub apart : (n size : ℕ) (spans fixed records : List Span) (p q : Span) → AreApart n size fixed records → HasAll false spans fixed → HasAll true spans records
    → AreTwo n spans p q → share size p q ≡ false
apart n size spans fixed records p q clear has_fixed has_records two =
    by_kind size p q p.is_record q.is_record refl refl (by_kinds n size spans fixed records p q clear has_fixed has_records two p.is_record q.is_record refl refl)

two_of : (n : ℕ) (spans : List Span) → AreSpans spans → (i j : ℕ) (d : Span) → i < j → j < length spans → (get_or spans i d).number < n → AreTwo n spans (get_or spans i d) (get_or spans j d)
two_of n spans are i j d lt within low =
    let inside : i < length spans = omega arith in
    record {
      in_p = Contains-get_or spans i d inside;
      in_q = Contains-get_or spans j d within;
      filled_p = All-get_or (λ s. s.begin < s.end) spans i d inside are.filled;
      filled_q = All-get_or (λ s. s.begin < s.end) spans j d within are.filled;
      low = low;
      differ = λ same. (let rising = are.rising i j d lt within in let equal : (get_or spans i d).number ≡ (get_or spans j d).number = ap (λ (s : Span). s.number) same in absurd (omega (arith, rising, equal)));
    }

pub none_shares : (n size : ℕ) (spans fixed records : List Span) → AreSpans spans → AreApart n size fixed records → HasAll false spans fixed → HasAll true spans records
    → NoneShares n size spans
none_shares n size spans fixed records are clear has_fixed has_records i j d lt within low =
    apart n size spans fixed records (get_or spans i d) (get_or spans j d) clear has_fixed has_records (two_of n spans are i j d lt within low)

no_partner : (size : ℕ) (p : Span) (qs : List Span) → All (λ q. share size p q ≡ false) qs → partner size p qs ≡ None
no_partner size p [] h = refl
no_partner size p (q ∷ qs) h =
    let none : share size p q ≡ false = All-head (λ s. share size p s ≡ false) q qs h in
    rw none (no_partner size p qs (All-tail (λ s. share size p s ≡ false) q qs h))

-- the spans behind the one at i have no byte of it
pub none_behind : (n size : ℕ) (spans : List Span) → NoneShares n size spans → (i : ℕ) (d : Span) → i < length spans → (get_or spans i d).number < n
    → partner size (get_or spans i d) (drop (i + 1) spans) ≡ None
none_behind n size spans none i d within low =
    no_partner size (get_or spans i d) (drop (i + 1) spans)
    (λ k e inside. rw get_or-drop (subst (λ (s : Span). share size s (get_or spans (i + 1 + k) e) ≡ false) (get_or_default spans i e d within)
    (none i (i + 1 + k) e (omega arith) (let len = length-drop (i + 1) spans in omega (arith, len, inside)) (subst (λ (s : Span). s.number < n) (sym (get_or_default spans i e d within)) low))))
