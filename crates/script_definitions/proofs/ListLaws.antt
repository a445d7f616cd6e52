-- The bytes of values, one after another.
use Rattle.script_definitions.proofs.Words.{◌≡◌, ◌∙◌, ℕ, suc, ◌+◌, List, [], ◌∷◌, ◌++◌, length, flat_map, append-nil, refl, sym, ap, ap₂, arith, add-one, option_map, slice_get, range_with_len, flat_map-append, NcType, Values, Numbers, Text, Bits, ext, count_of, ext_of, value_at, external_bytes, range_push, Option, Some}
use Rattle.nc_base.specs.declared.request.Value.TheVariants as value

pub bytes_more : (t : NcType) (values : Values) (now next : List ℕ) (n : ℕ) → now ≡ flat_map (λ k. ext_of t (value_at values k)) (range_with_len 0 n)
    → next ≡ now ++ ext_of t (value_at values n) → next ≡ flat_map (λ k. ext_of t (value_at values k)) (range_with_len 0 (n + 1))
bytes_more t values now next n so_far pushed =
    let f : ℕ → List ℕ = λ k. ext_of t (value_at values k) in
    pushed
    ∙ ap (λ (bytes : List ℕ). bytes ++ f n) so_far
    ∙ ap (λ (bytes : List ℕ). flat_map f (range_with_len 0 n) ++ bytes) (sym (append-nil (f n)))
    ∙ sym (flat_map-append f (range_with_len 0 n) (n ∷ []))
    ∙ ap (λ (ks : List ℕ). flat_map f ks) (sym (range_push 0 n n (omega arith)))
    ∙ ap (λ (k : ℕ). flat_map f (range_with_len 0 k)) (sym (add-one n))

-- the items of a list, by their places in another behind so many
by_place : {A : Type 0} (f : A → List ℕ) (g : Option A → List ℕ) (xs : List A) (h : ℕ → Option A) (a : ℕ) → ((x : A) → g (Some x) ≡ f x)
    → ((k : ℕ) → h (a + k) ≡ slice_get xs k) → flat_map (λ k. g (h k)) (range_with_len a (length xs)) ≡ flat_map f xs
by_place f g [] h a same there = refl
by_place f g (x ∷ xs) h a same there =
    let here : h a ≡ Some x = ap h (omega arith) ∙ there 0 in
    ap₂ (λ (front back : List ℕ). front ++ back) (ap g here ∙ same x) (by_place f g xs h (a + 1) same (λ k. ap h (omega arith) ∙ there (suc k)))

pub bytes_of_all : (t : NcType) (values : Values) → flat_map (λ k. ext_of t (value_at values k)) (range_with_len 0 (count_of values)) ≡ external_bytes t values
bytes_of_all t (Numbers zs) = by_place (λ z. ext t (value.Number z)) (λ z. ext_of t (option_map (λ z. value.Number z) z)) zs (λ k. slice_get zs k) 0 (λ z. refl) (λ k. ap (λ (j : ℕ). slice_get zs j) (omega arith))
bytes_of_all t (Text cs) = by_place (λ c. ext t (value.Char c)) (λ c. ext_of t (option_map (λ c. value.Char c) c)) cs (λ k. slice_get cs k) 0 (λ c. refl) (λ k. ap (λ (j : ℕ). slice_get cs j) (omega arith))
bytes_of_all t (Bits ns) = by_place (λ n. ext t (value.Bits n)) (λ n. ext_of t (option_map (λ n. value.Bits n) n)) ns (λ k. slice_get ns k) 0 (λ n. refl) (λ k. ap (λ (j : ℕ). slice_get ns j) (omega arith))
