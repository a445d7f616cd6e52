-- Parts of one call: the first refusal, the elements that two of them share, and the code of all.
use Rattle.vara_extents.proofs.Words.{◌≡◌, ℕ, ap, sym, refl, List, [], ◌∷◌, length, map, Bool, true, false, cond, ltb, ◌&&◌, replicate, arith, flat_map, All, list_any, both_ways, and_parts, not-false, eqb-true, All-nil, All-cons, All-head, All-tail, All-map, Header, Var, Part, Region, Direction, Code, most_elements, elements, check_var, check_parts, first_refusal, is_ok_code, is_put, has_index, part_region, share_element, elements_of_all, meets_any, some_meet, IsBox, code_by_boxes, refusal_of, together_code, nat_tests}
use Rattle.std.specs.Prelude.{not}
use Rattle.nc_base.specs.declared.answer.Code.TheVariants as code
use Rattle.vara_extents.proofs.AcceptedLaws.{passed}
use Rattle.vara_extents.proofs.BoxLaws.{boxes_share, any_both, any_none}

-- ---- the first refusal

pub ok_both : (c rest : Code) → cond (not (is_ok_code c)) c rest ≡ code.Ok → (c ≡ code.Ok) × (rest ≡ code.Ok)
ok_both c rest h = grind (arith, nat_tests)

each_ok : {A : Type 0} (f : A → Code) (xs : List A) → first_refusal (map f xs) ≡ code.Ok → All (λ x. f x ≡ code.Ok) xs
each_ok f [] h = All-nil (λ x. f x ≡ code.Ok)
each_ok f (x ∷ xs) h = let both = ok_both (f x) (first_refusal (map f xs)) h in All-cons (λ x. f x ≡ code.Ok) x xs both.0 (each_ok f xs both.1)

pub ok_is : (c : Code) → is_ok_code c ≡ true → c ≡ code.Ok
ok_is c h = grind (arith, nat_tests)

pub ok_is_not : (c : Code) → is_ok_code c ≡ false → c ≡ code.Ok → ⊥
ok_is_not c h e = absurd (both_ways (is_ok_code c) h (ap is_ok_code e))

-- ---- parts that are accepted are boxes

abbrev HasStrides : Var → Region → Type 0
HasStrides var g = g.stride ≡ replicate (length var.dims) 1

boxes_of : (header : Header) (var : Var) (known : ℕ) (direction : Direction) (parts : List Region)
    → All (λ g. check_var header var g known direction ≡ code.Ok) parts → All (HasStrides var) parts → All (IsBox (length var.dims)) parts
boxes_of header var known direction [] h s = All-nil (IsBox (length var.dims))
boxes_of header var known direction (g ∷ parts) h s =
    grind (arith, nat_tests, passed, not-false, and_parts, eqb-true, boxes_of header var known direction parts (All-tail (λ g. check_var header var g known direction ≡ code.Ok) g parts h))

strides_of : (var : Var) (parts : List Part) → All (HasStrides var) (map (part_region var) parts)
strides_of var parts = All-map (HasStrides var) (part_region var) parts (λ k d l. refl)

-- ---- the elements that they share

meets_each : (dims : ℕ) (g : Region) (others : List Region) → IsBox dims g → All (IsBox dims) others
    → meets_any g others ≡ list_any (has_index (flat_map elements others)) (elements g)
meets_each dims g [] h k = sym (any_none (elements g))
meets_each dims g (other ∷ others) h k =
    let head : IsBox dims other = All-head (IsBox dims) other others k in
    let share = boxes_share g.start g.count other.start other.count in
    let later = meets_each dims g others h (All-tail (IsBox dims) other others k) in
    grind (arith, nat_tests, share, later, any_both (elements other) (flat_map elements others) (elements g))

share_is : (dims : ℕ) (parts : List Region) → All (IsBox dims) parts → some_meet parts ≡ share_element parts
share_is dims [] h = refl
share_is dims (g ∷ parts) h = grind (arith, nat_tests, meets_each dims g parts, All-head (IsBox dims) g parts, All-tail (IsBox dims) g parts, share_is dims parts)

-- ---- the whole code

together_is : (header : Header) (var : Var) (parts : List Region) (known : ℕ) (direction : Direction)
    → refusal_of header var parts known direction ≡ code.Ok → All (IsBox (length var.dims)) parts → together_code parts direction ≡ check_parts header var parts known direction
together_is header var parts known direction h boxes =
    grind (arith, nat_tests, share_is (length var.dims) parts boxes)

by_code : (header : Header) (var : Var) (parts : List Region) (known : ℕ) (direction : Direction) (c : Code)
    → c ≡ refusal_of header var parts known direction → All (HasStrides var) parts
    → cond (is_ok_code c) (together_code parts direction) c ≡ check_parts header var parts known direction
by_code header var parts known direction code.Ok h s =
    grind (arith, nat_tests, together_is header var parts known direction (sym h), boxes_of header var known direction parts, each_ok)
by_code header var parts known direction c h s = grind (arith, nat_tests, together_code)

pub code_is : (header : Header) (var : Var) (parts : List Part) (known : ℕ) (direction : Direction)
    → code_by_boxes header var (map (part_region var) parts) known direction ≡ check_parts header var (map (part_region var) parts) known direction
unfolding code_by_boxes
code_is header var parts known direction = grind (arith, nat_tests, by_code, strides_of, code_by_boxes)

-- ---- the steps to the code by boxes

pub refused_by : (header : Header) (var : Var) (parts : List Region) (known : ℕ) (direction : Direction) (c : Code)
    → c ≡ refusal_of header var parts known direction → is_ok_code c ≡ false → c ≡ code_by_boxes header var parts known direction
unfolding code_by_boxes
refused_by header var parts known direction c h e = grind (arith, nat_tests)

pub accepted_by : (header : Header) (var : Var) (parts : List Region) (known : ℕ) (direction : Direction) (c : Code)
    → c ≡ refusal_of header var parts known direction → is_ok_code c ≡ true → together_code parts direction ≡ code_by_boxes header var parts known direction
unfolding code_by_boxes
accepted_by header var parts known direction c h e = grind (arith, nat_tests)

pub few_are : (parts listed : List Region) (direction : Direction) (put share : Bool) → listed ≡ parts → ltb most_elements (elements_of_all listed) ≡ false
    → is_put direction ≡ put → some_meet parts ≡ share → cond (put && share) code.ESelf code.Ok ≡ together_code parts direction
few_are parts listed direction put share same few p s = grind (arith, nat_tests)
