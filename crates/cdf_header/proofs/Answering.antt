-- Bytes have one answer.
use Rattle.cdf_header.proofs.Words.{◌≡◌, ℕ, ◌+◌, ◌-◌, ◌≤◌, ◌^◌, List, [], ◌∷◌, ◌++◌, take, drop, length, true, Option, Some, None, refl, sym, ap, ◌∙◌, length-append, arith, inl, inr, take-append-drop, length-take-le, append-nil, take-append_seam, take-append-add, and_first, and_second, Header, HeaderErr, canon, header_len, Spells, HasFault, field_fault, is_writable, canon_spelled, fault_only, spells_once, BeginsWith, none_of_test, nat_tests}
use Rattle.cdf_header.proofs.Walks.{no_fault}

no_some : {A : Type 0} (o : Option A) (x : A) → o ≡ None → o ≡ Some x → ⊥
no_some o x h k = absurd cc

same_some : {A : Type 0} (o : Option A) (x y : A) → o ≡ Some x → o ≡ Some y → x ≡ y
same_some o x y h k = cc

pub one_header : (bytes : List ℕ) (h k : Header) (n m : ℕ) → BeginsWith bytes h n → BeginsWith bytes k m → (h ≡ k) × (n ≡ m)
one_header bytes h k n m p q =
    let once = spells_once h k (take n bytes) (take m bytes) (drop n bytes) (drop m bytes) p.0 q.0 (take-append-drop n bytes ∙ sym (take-append-drop m bytes)) in
    (once.0, sym (length-take-le n bytes p.3) ∙ ap (λ (t : List ℕ). length t) once.1 ∙ length-take-le m bytes q.3)

pub one_fault : (bytes : List ℕ) (e f : HeaderErr) → HasFault bytes e → HasFault bytes f → e ≡ f
one_fault bytes e f (inl p) (inl q) = same_some (field_fault bytes) e f (fault_only bytes e p) (fault_only bytes f q)
one_fault bytes e f (inl p) (inr q) = absurd (no_some (field_fault bytes) e q.5 (fault_only bytes e p))
one_fault bytes e f (inr p) (inl q) = absurd (no_some (field_fault bytes) f p.5 (fault_only bytes f q))
one_fault bytes e f (inr p) (inr q) = grind (arith, nat_tests, spells_once p.0 q.0 p.1 q.1 p.2 q.2 p.4 q.4 (sym p.3 ∙ q.3), same_some)

pub never_both : (bytes : List ℕ) (h : Header) (n : ℕ) (e : HeaderErr) → BeginsWith bytes h n → HasFault bytes e → ⊥
never_both bytes h n e p (inl q) = no_some (field_fault bytes) e p.1 (fault_only bytes e q)
never_both bytes h n e p (inr q) =
    grind (arith, nat_tests, spells_once h q.0 (take n bytes) q.1 (drop n bytes) q.2 p.0 q.4 (take-append-drop n bytes ∙ q.3), take-append-drop n bytes, no_some)

pub begins_whole : (header : Header) (more : List ℕ) → is_writable header ≡ true → BeginsWith (canon header ++ more) header (header_len header)
begins_whole header more is = grind (arith, nat_tests, and_first, take-append_seam, length-append, canon_spelled, no_fault, none_of_test, and_second)

-- the first 2^20 bytes
cut_after : (t more : List ℕ) (n : ℕ) → length t ≤ n → (rest : List ℕ) × (take n (t ++ more) ≡ t ++ rest)
cut_after t more n h = grind (arith, nat_tests, take-append-add t more (n - length t))

pub begins_cut : (header : Header) (more : List ℕ) → is_writable header ≡ true → BeginsWith (take (2 ^ 20) (canon header ++ more)) header (header_len header)
begins_cut header more is = grind (arith, nat_tests, and_first, and_second, cut_after (canon header) more (2 ^ 20), begins_whole header)

nothing_more : (t more : List ℕ) → t ≡ t ++ more → more ≡ []
nothing_more t [] e = refl
nothing_more t (x ∷ more) e = absurd (let l = ap (λ (s : List ℕ). length s) e ∙ length-append t (x ∷ more) in omega (arith, l))

pub no_longer : (h k : Header) (bytes more : List ℕ) → Spells h bytes → Spells k (bytes ++ more) → more ≡ []
no_longer h k bytes more p q =
    grind (arith, nat_tests, spells_once h k bytes (bytes ++ more) more [] p q (sym (append-nil (bytes ++ more))), nothing_more bytes more)
