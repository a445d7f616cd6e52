-- The pair that the spans of a header's variables give is that of the header.
use Rattle.cdf_header.proofs.Words.{nat_tests, drop, drop_more, append_assoc, ◌++◌, ◌≡◌, ℕ, zero, suc, ◌+◌, ◌<◌, List, [], ◌∷◌, length, get_or, Bool, true, false, cond, Option, Some, None, refl, sym, ◌∙◌, arith, option_map, position, AllPairs, AllByRecursion, position_from, option_or, position_from-zero, mul-le-mul_left, size_pos, Header, Var, slab, recsize, sharing_with, sharing_from, sharing, record_later, Span, span_of, spans_of, partner, shared_pair, AreSpans, told_else, common_steps}
use Rattle.serial_spec.specs.Layout as layout
use Rattle.cdf_header.proofs.Products.{inner-pos, product-pos}

one_partner : (t : Bool) (k m : ℕ) (o : Option (ℕ × ℕ)) (p : Option ℕ) → o ≡ option_map (λ n. (k, n)) p
    → cond t (Some (k, m)) o ≡ option_map (λ n. (k, n)) (cond t (Some m) p)
one_partner true k m o p h = refl
one_partner false k m o p h = h

by_partner : (header : Header) (v : Var) (k m : ℕ) (ws : List Var)
    → sharing_with header v k m ws ≡ option_map (λ n. (k, n)) (partner (recsize header) (span_of header k v) (spans_of header m ws))
by_partner header v k m [] = refl
by_partner header v k m (w ∷ ws) = grind (arith, nat_tests, by_partner header v k (suc m) ws, one_partner)

one_pair : (t : Bool) (s : ℕ × ℕ) (w p rest more : Option (ℕ × ℕ)) → w ≡ p → rest ≡ more → cond t (Some s) (option_or w rest) ≡ option_or (cond t (Some s) p) more
one_pair true s w p rest more h k = refl
one_pair false s w p rest more h k = rw (h, k) refl

by_pair : (header : Header) (first k : ℕ) (vs : List Var) → sharing_from header first k vs ≡ shared_pair (recsize header) first (spans_of header k vs)
by_pair header first k [] = refl
by_pair header first k (v ∷ vs) = grind (arith, nat_tests, by_pair header first (suc k) vs, by_partner header v k (suc k) vs, one_pair)

pub sharing_by_spans : (header : Header) (first : ℕ) → sharing header first ≡ shared_pair (recsize header) first (spans_of header 0 header.vars)
sharing_by_spans header first = by_pair header first 0 header.vars

-- the span of one variable more
pub spans_next : (header : Header) (vars : List Var) (n : ℕ) (v : Var) (s : Span) (now next whole : List Span) → n < length vars → v ≡ get_or vars n v → s ≡ span_of header n v
    → next ≡ now ++ s ∷ [] → now ++ spans_of header n (drop n vars) ≡ whole → next ++ spans_of header (n + 1) (drop (n + 1) vars) ≡ whole
spans_next header vars n v s now next whole l there is push so_far = grind (arith, nat_tests, drop_more vars n v l, append_assoc)

-- ---- the spans are in order, and none is empty

number_of : (header : Header) (k : ℕ) (vs : List Var) (i : ℕ) (d : Span) → i < length (spans_of header k vs) → (get_or (spans_of header k vs) i d).number ≡ k + i
number_of header k [] i d h = absurd (omega arith)
number_of header k (v ∷ vs) zero d h = omega arith
number_of header k (v ∷ vs) (suc i) d h = let e = number_of header (suc k) vs i d (omega arith) in omega (arith, e)

rising : (header : Header) (vs : List Var) → AllPairs (λ p q. p.number < q.number) (spans_of header 0 vs)
rising header vs i j d lt within = grind (arith, nat_tests, number_of header 0 vs i d (omega arith), number_of header 0 vs j d within)

some_bytes : (header : Header) (v : Var) → record_later header v ≡ false → v.begin < v.begin + slab header v
some_bytes header v h = grind (arith, nat_tests, product-pos, inner-pos, size_pos, mul-le-mul_left)

filled : (header : Header) (k n : ℕ) (vs : List Var) → position_from (record_later header) n vs ≡ None → AllByRecursion (λ s. s.begin < s.end) (spans_of header k vs)
filled header k n [] h = tt
filled header k n (v ∷ vs) h = grind (arith, nat_tests, told_else, some_bytes, filled header (suc k) (n + 1) vs, spans_of)

pub are_spans : (header : Header) → position (record_later header) header.vars ≡ None → AreSpans (spans_of header 0 header.vars)
are_spans header h =
    grind (arith, common_steps, rising header header.vars, filled header 0 0 header.vars (sym (position_from-zero (record_later header) header.vars) ∙ h))
