-- The index of an element, one dimension after another, and how great its entries are.
use Rattle.reference.proofs.Words.{append-nil, ◌⊎◌, ◌≡◌, ℕ, ◌+◌, ◌-◌, ◌*◌, ◌/◌, ◌%◌, ◌^◌, ◌<◌, ◌≤◌, sym, ◌∙◌, subst, List, [], ◌∷◌, ◌++◌, length, get_or, min, true, Some, arith, slice_get, AllByRecursion, mul-le, same_Some, each_weaker, Header, Var, Region, size_of, product, inner_lengths, is_record, recsize, row, place, record_of, within_record, HasRecord, IsIndex, IsElement, index_at, index_fixed, index_record, product_pos, place_fixed, place_record, places, length-places, place_at, row_below_bytes, is_sound, IsAccepted, coordinates_of, index_of, accepted_place, small_of, wide_records, AreBelow, split, rest, nat_tests}

-- ---- one dimension more

-- the list after its first entry, as a pattern takes it
pub record IndexStep (starts counts strides : List ℕ) (number inner s t : ℕ) (starts' counts' strides' : List ℕ) : Type 0 where
  pub is : index_at starts strides (coordinates_of counts number) ≡ (s + number / inner * t) ∷ index_at starts' strides' (coordinates_of counts' (number % inner))
  pub some : 1 ≤ inner
  pub number_low : number % inner < product counts'
  pub few : product counts' ≤ 2 ^ 20

step_at : (number s n t : ℕ) (starts counts strides starts' counts' strides' : List ℕ) → starts ≡ s ∷ starts' → counts ≡ n ∷ counts' → strides ≡ t ∷ strides'
    → number < product counts → product counts ≤ 2 ^ 20 → IndexStep starts counts strides number (product counts') s t starts' counts' strides'
step_at number s n t starts counts strides starts' counts' strides' e f g = grind (arith, nat_tests)

pub index_step : (starts counts strides : List ℕ) (number inner : ℕ) → 1 ≤ length starts → 1 ≤ length counts → 1 ≤ length strides
    → number < product counts → product counts ≤ 2 ^ 20 → inner ≡ min (product (rest counts)) (2 ^ 64 - 1)
    → IndexStep starts counts strides number inner (get_or starts 0 0) (get_or strides 0 0) (rest starts) (rest counts) (rest strides)
index_step starts counts strides number inner a b c below few e =
    let step = step_at number (get_or starts 0 0) (get_or counts 0 0) (get_or strides 0 0) starts counts strides (rest starts) (rest counts) (rest strides)
    (split starts a) (split counts b) (split strides c) below few in
    grind (arith, nat_tests, step)

pub first_low : (starts counts strides : List ℕ) (number inner : ℕ) → 1 ≤ length starts → 1 ≤ length counts → 1 ≤ length strides
    → number < product counts → product counts ≤ 2 ^ 20 → inner ≡ min (product (rest counts)) (2 ^ 64 - 1) → AreBelow (2 ^ 62) (index_at starts strides (coordinates_of counts number))
    → get_or starts 0 0 + number / inner * get_or strides 0 0 < 2 ^ 62
first_low starts counts strides number inner a b c below few e low = grind (arith, nat_tests, index_step starts counts strides number inner a b c below few e)

-- all elements of a region that a check accepts are counted
counted : (header : Header) (k : ℕ) (v : Var) (g : Region) (counts : List ℕ) (n : ℕ) → slice_get header.vars k ≡ Some v → IsAccepted header k g → counts ≡ g.count
    → n ≡ min (product counts) (2 ^ 64 - 1) → n ≡ product g.count
counted header k v g counts n there accepted same e = grind (arith, nat_tests, small_of header k v g there accepted)

-- the elements so far are counted, and so are those of which none is left
pub numbered_place : (header : Header) (k : ℕ) (v : Var) (g : Region) (counts : List ℕ) (n i at : ℕ) → slice_get header.vars k ≡ Some v → IsAccepted header k g → counts ≡ g.count
    → n ≡ min (product counts) (2 ^ 64 - 1) → i < n → at ≡ place header v (index_of g i) → slice_get (places header v g) i ≡ Some at
numbered_place header k v g counts n i at there accepted same e below is = grind (arith, nat_tests, counted, place_at)

pub all_numbered : (header : Header) (k : ℕ) (v : Var) (g : Region) (counts : List ℕ) (n i : ℕ) → slice_get header.vars k ≡ Some v → IsAccepted header k g → counts ≡ g.count
    → n ≡ min (product counts) (2 ^ 64 - 1) → n ≤ i → length (places header v g) ≤ i
all_numbered header k v g counts n i there accepted same e past = grind (arith, nat_tests, counted, length-places)

-- ---- none left

pub none_indexed : (old starts counts strides : List ℕ) (number : ℕ) → (length starts < 1) ⊎ ((length strides < 1) ⊎ (length counts < 1))
    → old ≡ old ++ index_at starts strides (coordinates_of counts number)
none_indexed old [] counts strides number h = sym (append-nil old)
none_indexed old (s ∷ starts) counts [] number h = sym (append-nil old)
none_indexed old (s ∷ starts) [] (t ∷ strides) number h = sym (append-nil old)
none_indexed old (s ∷ starts) (n ∷ counts) (t ∷ strides) number h = absurd (omega arith)

-- ---- the entries

entries_low : (lengths index : List ℕ) → IsIndex lengths index → AllByRecursion (λ i. i ≤ row lengths index) index
entries_low [] [] h = tt
entries_low [] (i ∷ index) h = absurd h
entries_low (n ∷ lengths) [] h = absurd h
entries_low (n ∷ lengths) (i ∷ index) h =
    let low = mul-le i 1 i (product lengths) (omega arith) (product_pos lengths index h.1) in
    grind (arith, nat_tests, low, entries_low lengths index h.1, each_weaker)

entries_below : (lengths index : List ℕ) (n : ℕ) → IsIndex lengths index → row lengths index < n → AreBelow n index
entries_below lengths index n h l = grind (arith, nat_tests, each_weaker, entries_low)

record_below : (header : Header) (v : Var) (index : List ℕ) (n : ℕ) → HasRecord index → IsIndex (inner_lengths header v) (within_record index) → 1 ≤ recsize header
    → record_of index * recsize header < n → row (inner_lengths header v) (within_record index) < n → AreBelow n index
record_below header v index n a h wide low rows = grind (arith, nat_tests, mul-le, entries_below)

-- the entries of an index are no greater than its place
pub index_below : (header : Header) (v : Var) (index : List ℕ) (n : ℕ) → IsElement header v index → (is_record header v ≡ true → 1 ≤ recsize header)
    → place header v index < n → AreBelow n index
index_below header v index n h wide low =
    grind (arith, nat_tests, place_fixed, row_below_bytes, entries_below, index_fixed, place_record, index_record, record_below)

-- ---- the element with a number

pub index_is : (g : Region) (n : ℕ) (old starts counts strides index : List ℕ) → old ≡ [] → starts ≡ g.start → counts ≡ g.count → strides ≡ g.stride
    → index ≡ old ++ index_at starts strides (coordinates_of counts n) → index ≡ index_of g n
index_is g n old starts counts strides index a b d e f = grind (arith, nat_tests)

pub numbered_below : (header : Header) (k : ℕ) (v : Var) (g : Region) (n : ℕ) → is_sound header ≡ true → slice_get header.vars k ≡ Some v → IsAccepted header k g
    → n < product g.count → AreBelow (2 ^ 62) (index_of g n)
numbered_below header k v g n sound is h below =
    let p = accepted_place header k v g n sound is h below in
    index_below header v (index_of g n) (2 ^ 62) p.element (λ e. wide_records header k v (index_of g n) is e p.element) (omega (arith, p.low))

pub numbered_element : (header : Header) (k : ℕ) (v x : Var) (g : Region) (n : ℕ) (index : List ℕ) → is_sound header ≡ true → slice_get header.vars k ≡ Some v
    → IsAccepted header k g → n < product g.count → index ≡ index_of g n → slice_get header.vars k ≡ Some x → IsElement header x index
numbered_element header k v x g n index sound is h below e there =
    let p = accepted_place header k v g n sound is h below in
    subst (λ (i : List ℕ). IsElement header x i) (sym e) (subst (λ (w : Var). IsElement header w (index_of g n)) (same_Some v x (sym is ∙ there)) p.element)

pub numbered_low : (header : Header) (k : ℕ) (v x : Var) (g : Region) (n : ℕ) (index : List ℕ) → is_sound header ≡ true → slice_get header.vars k ≡ Some v
    → IsAccepted header k g → n < product g.count → index ≡ index_of g n → slice_get header.vars k ≡ Some x → place header x index + size_of x.kind < 2 ^ 62
numbered_low header k v x g n index sound is h below e there =
    grind (arith, nat_tests, accepted_place header k v g n sound is h below, same_Some v x (sym is ∙ there))
