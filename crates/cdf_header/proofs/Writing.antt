-- What the writers write, part after part.
use Rattle.cdf_header.proofs.Words.{Header, attribute, canon, dimension, magic, variable, ◌≡◌, ℕ, suc, ap, count, tag, ◌+◌, ◌<◌, List, [], ◌∷◌, ◌++◌, length, take, get_or, flat_map, ◌∙◌, append-nil, arith, nat_tests, list_of, list_head, take_more, then_append, flat_map-append, common_steps}

some_head : (v t n : ℕ) → list_head v t (suc n) ≡ tag t ++ count v (suc n)
some_head v t n = grind (arith, nat_tests)

-- the entries of a list behind its head
pub list_written : {A : Type 0} (v t : ℕ) (f : A → List ℕ) (xs : List A) (o x y : List ℕ) → x ≡ o ++ list_head v t (length xs) → y ≡ x ++ flat_map f xs → y ≡ o ++ list_of v t f xs
list_written v t f [] o x y h k = k ∙ append-nil x ∙ h
list_written v t f (e ∷ xs) o x y h k = then_append o x y (tag t ++ count v (length (e ∷ xs))) (flat_map f (e ∷ xs)) (h ∙ ap (λ (s : List ℕ). o ++ s) (some_head v t (length xs))) k

-- one entry more
pub entry_written : {A : Type 0} (f : A → List ℕ) (xs : List A) (k : ℕ) (e : A) (o x y : List ℕ) → k < length xs → e ≡ get_or xs k e → x ≡ o ++ flat_map f (take k xs) → y ≡ x ++ f e
    → y ≡ o ++ flat_map f (take (k + 1) xs)
entry_written f xs k e o x y l is h n = grind (arith, nat_tests, take_more xs k e l, flat_map-append f (take k xs) (e ∷ []), append-nil (f e), then_append)

-- all fields of a header
pub fields_written : (header : Header) (o p q r s t : List ℕ) → p ≡ o ++ magic header.version → q ≡ p ++ count header.version header.records
    → r ≡ q ++ list_of header.version 10 (λ d. dimension header.version d) header.dims → s ≡ r ++ list_of header.version 12 (λ a. attribute header.version a) header.attrs
    → t ≡ s ++ list_of header.version 11 (λ v. variable header v) header.vars → t ≡ o ++ canon header
unfolding canon
fields_written header o p q r s t f g h i j =
    let v = header.version in
    grind (arith, common_steps, then_append o s t ((magic v ++ count v header.records) ++ (list_of v 10 (λ d. dimension v d) header.dims) ++ (list_of v 12 (λ a. attribute v a) header.attrs)), then_append o r s ((magic v ++ count v header.records) ++ (list_of v 10 (λ d. dimension v d) header.dims)) (list_of v 12 (λ a. attribute v a) header.attrs), then_append o q r (magic v ++ count v header.records) (list_of v 10 (λ d. dimension v d) header.dims) (then_append o p q (magic v) (count v header.records) f g) h, then_append o p q (magic v) (count v header.records) f g)
