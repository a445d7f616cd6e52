-- Every spelling of a header has the length of the one that is written.
use Rattle.serial_spec.proofs.Words.{◌≡◌, ℕ, ◌+◌, ◌≤◌, List, [], ◌∷◌, ◌++◌, length, Bool, cond, sym, ap, ◌∙◌, inl, inr, arith, flat_map, Width, w32, w64, byte_len, to_be_bytes, length-replicate, Header, Dim, Attr, Var, NcType, size_of, vsize, count_width, begin_width, padded, count, tag, name, list_of, dimension, attribute, variable, magic, canon, header_len, number_of, Joined, ◌▹◌, AnyBytes, Exactly, Each, Number, Padded, NameOf, ListOf, TypeOf, DimensionOf, AttributeOf, VariableOf, RecordsOf, Spells, nat_tests, common_steps}
use Rattle.serial_spec.proofs.ValueLaws.{be_long}

-- every string of the set has the length of the text
abbrev pub Long : (List ℕ → Type 0) → List ℕ → Type 0
Long P text = (s : List ℕ) → P s → length s ≡ length text

pub joined_long : {P Q : List ℕ → Type 0} (a b : List ℕ) → Long P a → Long Q b → Long (Joined P Q) (a ++ b)
joined_long a b p q s j = grind (arith, common_steps)

number_long : (w : Width) (n : ℕ) → Long (Number w n) (to_be_bytes w n)
number_long w n s h = ap (λ (t : List ℕ). length t) h.1

exactly_long : (t : List ℕ) → Long (Exactly t) t
exactly_long t s h = ap (λ (u : List ℕ). length u) h

padded_long : (t : List ℕ) → Long (Padded t) (padded t)
padded_long t = joined_long t _ (exactly_long t) (λ s h. h ∙ sym (length-replicate _ _))

name_long : (v : ℕ) (n : List ℕ) → Long (NameOf v n) (name v n)
name_long v n = joined_long _ _ (number_long (count_width v) (length n)) (padded_long n)

each_long : {A : Type 0} (P : A → List ℕ → Type 0) (f : A → List ℕ) → ((x : A) → Long (P x) (f x)) → (xs : List A) → Long (Each P xs) (flat_map f xs)
each_long P f h [] = exactly_long []
each_long P f h (x ∷ xs) = joined_long (f x) (flat_map f xs) (h x) (each_long P f h xs)

list_long : {A : Type 0} (v t : ℕ) (P : A → List ℕ → Type 0) (f : A → List ℕ) → ((x : A) → Long (P x) (f x)) → (xs : List A) → Long (ListOf v t P xs) (list_of v t f xs)
list_long v t P f h [] s xs = grind (arith, nat_tests, joined_long, exactly_long, number_long)
list_long v t P f h (x ∷ xs) s (inl k) = grind (arith, nat_tests)
list_long v t P f h (x ∷ xs) s (inr k) =
    joined_long (tag t ++ count v (length (x ∷ xs))) (flat_map f (x ∷ xs)) (joined_long (tag t) (count v (length (x ∷ xs))) (exactly_long (tag t)) (number_long (count_width v) (length (x ∷ xs)))) (each_long P f h (x ∷ xs)) s k

type_long : (v : ℕ) (kind : NcType) → Long (TypeOf v kind) (tag (number_of kind))
type_long v kind s h = ap (λ (u : List ℕ). length u) h.1

dim_long : (v : ℕ) (d : Dim) → Long (DimensionOf v d) (dimension v d)
dim_long v d = joined_long _ _ (name_long v d.name) (number_long (count_width v) d.len)

attr_long : (v : ℕ) (a : Attr) → Long (AttributeOf v a) (attribute v a)
attr_long v a s h =
    joined_long _ _ (joined_long _ _ (joined_long _ _ (name_long v a.name) (type_long v a.kind)) (number_long (count_width v) a.count)) (padded_long a.bytes) s h.1

pub width_long : (t : Bool) (n : ℕ) → length (to_be_bytes (cond t w64 w32) n) ≡ byte_len (cond t w64 w32)
width_long t n = be_long (cond t w64 w32) n

var_long : (header : Header) (v : Var) → Long (VariableOf header.version v) (variable header v)
var_long header v =
    let w = count_width header.version in
    let dims = joined_long _ _ (joined_long _ _ (name_long header.version v.name) (number_long w (length v.dims))) (each_long (λ id. Number w id) (λ id. count header.version id) (λ id. number_long w id) v.dims) in
    let attrs = joined_long _ _ dims (list_long header.version 12 (AttributeOf header.version) (attribute header.version) (attr_long header.version) v.attrs) in
    let size : Long (AnyBytes (byte_len w)) (to_be_bytes w (vsize header v)) = λ s h. h ∙ sym (be_long w (vsize header v)) in
    joined_long _ _ (joined_long _ _ (joined_long _ _ attrs (type_long header.version v.kind)) size) (number_long (begin_width header.version) v.begin)

records_long : (v n : ℕ) → Long (RecordsOf v n) (count v n)
records_long v n s xs = grind (arith, nat_tests)

header_long : (header : Header) → Long (Exactly (magic header.version) ▹ RecordsOf header.version header.records
    ▹ ListOf header.version 10 (DimensionOf header.version) header.dims
    ▹ ListOf header.version 12 (AttributeOf header.version) header.attrs
    ▹ ListOf header.version 11 (VariableOf header.version) header.vars) (canon header)
unfolding canon
header_long header =
    let head = magic header.version ++ count header.version header.records in
    let dims = list_of header.version 10 (dimension header.version) header.dims in
    let attrs = list_of header.version 12 (attribute header.version) header.attrs in
    let first = joined_long (magic header.version) _ (exactly_long (magic header.version)) (records_long header.version header.records) in
    let second = joined_long head dims first (list_long header.version 10 (DimensionOf header.version) (dimension header.version) (dim_long header.version) header.dims) in
    joined_long (head ++ dims ++ attrs) _
    (joined_long (head ++ dims) attrs second (list_long header.version 12 (AttributeOf header.version) (attribute header.version) (attr_long header.version) header.attrs))
    (list_long header.version 11 (VariableOf header.version) (variable header) (var_long header) header.vars)

pub spelling_long : (header : Header) (s : List ℕ) → Spells header s → length s ≡ header_len header
spelling_long header s h = header_long header s h.1

-- ---- a value of each type

pub size_pos : (kind : NcType) → 1 ≤ size_of kind
size_pos kind = grind (arith, nat_tests)

pub size_most : (kind : NcType) → size_of kind ≤ 8
size_most kind = grind (arith, nat_tests)
