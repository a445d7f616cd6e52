-- Over what is written of a header the grammar asks for right fields only.
use Rattle.cdf_header.proofs.Words.{◌≡◌, ℕ, ◌+◌, ◌-◌, ◌*◌, ◌^◌, ◌≤◌, ◌<◌, List, [], ◌∷◌, ◌++◌, take, drop, length, Bool, true, false, cond, Some, None, refl, sym, ap, subst, ◌∙◌, append_assoc, length-append, arith, ◌==◌, ◌||◌, ◌&&◌, not, nat_lt, nat_le, replicate, list_all, w32, w64, byte_len, to_be_bytes, from_be_bytes, drop-append_seam, take-append_seam, length-drop, length-replicate, drop-drop, from_be_bytes-to_be_bytes_4, from_be_bytes-to_be_bytes_8, ltb-true, eqb-true, le-ltb, leb-true, width_long, and_first, and_second, all_three, equal_itself, Header, Dim, Attr, Var, NcType, HeaderErr, most_dims, most_vars, most_dims_of_var, size_of, round_up, vsize, number_of, is_version, count, tag, name, padded, list_of, dimension, attribute, variable, magic, canon, count_width, begin_width, Field, Magic, Records, Tag, Count, NameLength, Block, DimLength, AttrType, AttrCount, DimCount, DimId, VarType, Vsize, Begin, Entries, Dimensions, Attributes, Variables, Ids, Ask, One, Many, Run, stands, takes, asked, the_header, first_field, other_fields, many, block, most_of, tag_of, type_size, bad_type, version_of, fault_if, wrong, wrong_at, after_field, field_number, field_len, big_endian, field_fault, is_type, fits_field, fits_count, is_writable, is_writable_dim, is_writable_attr, is_writable_list, is_writable_var, run_on, run_whole, len_pos, known_version, nat_tests, flat_map, common_steps}
use Rattle.nc_base.specs.declared.errors.HeaderErr.TheVariants as fault
use Rattle.cdf_header.proofs.Pieces.{AtMost, above_none}

-- Where the text stands, right fields lead over it from what is asked to what is asked later.
abbrev pub Walk : ℕ → List Ask → List Ask → List ℕ → Type 0
Walk v asks later text = (b : List ℕ) (x : ℕ) (more : List ℕ) → drop x b ≡ text ++ more → Run v b asks x later (x + length text)

pub drop_on : (b : List ℕ) (x : ℕ) (s t : List ℕ) → drop x b ≡ s ++ t → drop (x + length s) b ≡ t
drop_on b x s t e = sym (drop-drop (length s) x b) ∙ ap (λ (c : List ℕ). drop (length s) c) e ∙ drop-append_seam s t

walk_then : (v : ℕ) (asks mid later : List Ask) (s t : List ℕ) → Walk v asks mid s → Walk v mid later t → Walk v asks later (s ++ t)
walk_then v asks mid later s t p q b x more e =
    let there = e ∙ append_assoc s t more in
    let far : x + length s + length t ≡ x + length (s ++ t) = omega (arith, length-append s t) in
    run_on (p b x (t ++ more) there) (subst (λ (y : ℕ). Run v b mid (x + length s) later y) far (q b (x + length s) more (drop_on b x s (t ++ more) there)))

nothing : (v : ℕ) (asks : List Ask) → Walk v asks asks []
nothing v asks b x more e = let same : x ≡ x + 0 = omega arith in subst (λ (y : ℕ). Run v b asks x asks y) same stands

-- ---- one field

take_here : (b text more : List ℕ) (x n : ℕ) → drop x b ≡ text ++ more → length text ≡ n → take n (drop x b) ≡ text
take_here b text more x n e len = ap (λ (c : List ℕ). take n c) e ∙ ap (λ (k : ℕ). take k (text ++ more)) (sym len) ∙ take-append_seam text more

inside : (b text more : List ℕ) (x n : ℕ) → drop x b ≡ text ++ more → length text ≡ n → 1 ≤ n → x + n ≤ length b
inside b text more x n e len some = grind (arith, nat_tests, length-append text more, length-drop x b)

-- the field is right, and what is asked after it is what is asked later
abbrev RightAt : ℕ → List Ask → List Ask → Field → List ℕ → Type 0
RightAt v rest later f text =
    (b : List ℕ) (x : ℕ) → take (field_len v f) (drop x b) ≡ text
    → (wrong v f x (field_number v f b x) ≡ None) × ((after_field f (field_number v f b x) ++ rest) ≡ later)

walk_field : (v : ℕ) (asks rest later : List Ask) (f : Field) (text : List ℕ) → asked asks ≡ Some (f, rest) → length text ≡ field_len v f → RightAt v rest later f text → Walk v asks later text
walk_field v asks rest later f text a len is_right b x more e =
    let r = is_right b x (take_here b text more x (field_len v f) e len) in
    let ends_inside = le-ltb (length b) (x + field_len v f) (inside b text more x (field_len v f) e len (len_pos v f)) in
    let fine : wrong_at v f b x ≡ None = rw ends_inside r.0 in
    takes a fine (grind (arith, common_steps, stands))

-- ---- numbers

read_4 : (p q r s : ℕ) → big_endian (p ∷ q ∷ r ∷ s ∷ []) ≡ from_be_bytes w32 (p ∷ q ∷ r ∷ s ∷ [])
read_4 p q r s = omega arith

read_8 : (a b c d p q r s : ℕ) → big_endian (a ∷ b ∷ c ∷ d ∷ p ∷ q ∷ r ∷ s ∷ []) ≡ from_be_bytes w64 (a ∷ b ∷ c ∷ d ∷ p ∷ q ∷ r ∷ s ∷ [])
read_8 a b c d p q r s = omega arith

pub back_4 : (n : ℕ) → n < 2 ^ 32 → big_endian (to_be_bytes w32 n) ≡ n
back_4 n h = read_4 _ _ _ _ ∙ from_be_bytes-to_be_bytes_4 n h

pub back_8 : (n : ℕ) → n < 2 ^ 64 → big_endian (to_be_bytes w64 n) ≡ n
back_8 n h = read_8 _ _ _ _ _ _ _ _ ∙ from_be_bytes-to_be_bytes_8 n h

back_by : (t : Bool) (n : ℕ) → fits_field (cond t w64 w32) n ≡ true → (big_endian (to_be_bytes (cond t w64 w32) n) ≡ n) × (length (to_be_bytes (cond t w64 w32) n) ≡ byte_len (cond t w64 w32))
back_by true n h = let less : 2 * n < 2 ^ 64 = ltb-true _ _ h in (back_8 n (omega (arith, less)), refl)
back_by false n h = let less : 2 * n < 2 ^ 32 = ltb-true _ _ h in (back_4 n (omega (arith, less)), refl)

back_begin : (t : Bool) (n : ℕ) → fits_field (cond t w32 w64) n ≡ true → (big_endian (to_be_bytes (cond t w32 w64) n) ≡ n) × (length (to_be_bytes (cond t w32 w64) n) ≡ byte_len (cond t w32 w64))
back_begin true n h = let less : 2 * n < 2 ^ 32 = ltb-true _ _ h in (back_4 n (omega (arith, less)), refl)
back_begin false n h = let less : 2 * n < 2 ^ 64 = ltb-true _ _ h in (back_8 n (omega (arith, less)), refl)

not_negative : (n m : ℕ) → nat_lt n m ≡ true → nat_le m n ≡ false
not_negative n m h = grind arith

-- a field of the width of counts whose number counts
number_walk : (v n : ℕ) (asks rest later : List Ask) (f : Field) → asked asks ≡ Some (f, rest) → field_len v f ≡ byte_len (count_width v)
    → ((b : List ℕ) (x : ℕ) → field_number v f b x ≡ big_endian (take (field_len v f) (drop x b)))
    → fits_count v n ≡ true → ((x : ℕ) → wrong v f x n ≡ None) → (after_field f n ++ rest) ≡ later → Walk v asks later (count v n)
number_walk v n asks rest later f a wide read fits fine after =
    grind (arith, nat_tests, back_by (v == 5) n fits, walk_field v asks rest later f (count v n) a ((back_by (v == 5) n fits).1 ∙ sym wide))

-- a tag or a type
word_walk : (v n : ℕ) (asks rest later : List Ask) (f : Field) → asked asks ≡ Some (f, rest) → field_len v f ≡ 4
    → ((b : List ℕ) (x : ℕ) → field_number v f b x ≡ big_endian (take (field_len v f) (drop x b)))
    → n < 2 ^ 32 → ((x : ℕ) → wrong v f x n ≡ None) → (after_field f n ++ rest) ≡ later → Walk v asks later (tag n)
word_walk v n asks rest later f a wide read small fine after = grind (arith, nat_tests, walk_field v asks rest later f (tag n) a (sym wide), back_4 n small)

-- ---- names and blocks

rounded : (n : ℕ) → n + (round_up 4 n - n) ≡ round_up 4 n
rounded n = omega arith

padded_long : (t : List ℕ) → length (padded t) ≡ round_up 4 (length t)
padded_long t = length-append t (replicate (round_up 4 (length t) - length t) 0) ∙ ap (λ (n : ℕ). length t + n) (length-replicate _ _) ∙ rounded (length t)

block_walk : (v : ℕ) (t : List ℕ) (rest : List Ask) → Walk v (block (length t) ++ rest) rest (padded t)
block_walk v [] rest = nothing v rest
block_walk v (c ∷ t) rest = grind (arith, nat_tests, walk_field v (One (Block (length t)) ∷ rest) rest rest (Block (length t)) (padded (c ∷ t)), padded_long (c ∷ t))

name_walk : (v : ℕ) (n : List ℕ) (asks rest : List Ask) → asked asks ≡ Some (NameLength, rest) → fits_count v (length n) ≡ true → Walk v asks rest (name v n)
name_walk v n asks rest a fits =
    walk_then v asks (block (length n) ++ rest) rest (count v (length n)) (padded n)
    (number_walk v (length n) asks rest (block (length n) ++ rest) NameLength a refl (λ b x. refl) fits (λ x. rw (not_negative _ _ fits) refl) refl)
    (block_walk v n rest)

-- ---- dimensions, types and attributes

dim_walk : (v : ℕ) (d : Dim) (asks rest : List Ask) → asked asks ≡ Some (NameLength, One DimLength ∷ rest) → is_writable_dim v d ≡ true → Walk v asks rest (dimension v d)
dim_walk v d asks rest a h =
    let fits : fits_count v d.len ≡ true = and_second _ _ (and_first _ _ h) in
    grind (arith, nat_tests, and_second, walk_then v asks (One DimLength ∷ rest) rest (name v d.name) (count v d.len), name_walk v d.name asks (One DimLength ∷ rest) a, and_first, number_walk v d.len (One DimLength ∷ rest) rest rest DimLength, not_negative)
  where
    leb-true : (n m : ℕ) → nat_le n m ≡ true → nat_lt m n ≡ false
    leb-true n m k = grind arith

number_known : (kind : NcType) → ((number_of kind == 0) ≡ false) × (number_of kind < 2 ^ 32) × (type_size (number_of kind) ≡ size_of kind)
number_known kind = grind (arith, nat_tests)

type_fine : (v : ℕ) (kind : NcType) (x : ℕ) → is_type v kind ≡ true → bad_type v x (number_of kind) ≡ None
type_fine v kind x h = grind (arith, nat_tests, number_known kind)

attr_walk : (v : ℕ) (a : Attr) (asks rest : List Ask) → asked asks ≡ Some (NameLength, One AttrType ∷ rest) → is_writable_attr v a ≡ true → Walk v asks rest (attribute v a)
attr_walk v a asks rest e h =
    let front = and_first _ _ h in
    let n = number_of a.kind in
    let known = number_known a.kind in
    let fits : fits_count v a.count ≡ true = and_second _ _ front in
    let long : length a.bytes ≡ a.count * type_size n = eqb-true _ _ (and_second _ _ h) ∙ ap (λ (s : ℕ). a.count * s) (sym known.2) in
    let typed = One (AttrCount (type_size n)) ∷ rest in
    let counted = block (length a.bytes) ++ rest in
    walk_then v asks counted rest (name v a.name ++ tag n ++ count v a.count) (padded a.bytes)
    (walk_then v asks typed counted (name v a.name ++ tag n) (count v a.count)
    (walk_then v asks (One AttrType ∷ rest) typed (name v a.name) (tag n) (name_walk v a.name asks (One AttrType ∷ rest) e (and_first _ _ (and_first _ _ front)))
    (word_walk v n (One AttrType ∷ rest) rest typed AttrType refl refl (λ b x. refl) known.1 (λ x. type_fine v a.kind x (and_second _ _ (and_first _ _ front))) refl))
    (number_walk v a.count typed rest counted (AttrCount (type_size n)) refl refl (λ b x. refl) fits (λ x. rw (not_negative _ _ fits) refl) (ap (λ (k : ℕ). block k ++ rest) (sym long))))
    (block_walk v a.bytes rest)

-- ---- lists

-- a text of one entry
abbrev WalksEntry : {A : Type 0} → ℕ → Entries → (A → List ℕ) → A → Type 0
WalksEntry v e f x = (asks rest : List Ask) → asked asks ≡ Some (first_field e, other_fields e ++ rest) → Walk v asks rest (f x)

each_walk : {A : Type 0} (v : ℕ) (e : Entries) (f : A → List ℕ) (test : A → Bool) → ((x : A) → test x ≡ true → WalksEntry v e f x)
    → (xs : List A) → list_all test xs ≡ true → (rest : List Ask) → Walk v (many e (length xs) ++ rest) rest (flat_map f xs)
each_walk v e f test one [] h rest = nothing v rest
each_walk v e f test one (x ∷ xs) h rest =
    walk_then v (Many e (length xs) ∷ rest) (many e (length xs) ++ rest) rest (f x) (flat_map f xs)
    (one x (and_first _ _ h) (Many e (length xs) ∷ rest) (many e (length xs) ++ rest) (ap (λ (t : List Ask). Some (first_field e, t)) (append_assoc (other_fields e) (many e (length xs)) rest)))
    (each_walk v e f test one xs (and_second _ _ h) rest)

tag_fine : (n x : ℕ) → fault_if (not (n == 0 || n == n)) (fault.BadTag x) ≡ None
tag_fine n x = grind (arith, nat_tests, equal_itself n)

few_fine : (s t : Bool) (d e : HeaderErr) → s ≡ false → t ≡ false → cond s (Some d) (fault_if t e) ≡ None
few_fine s t d e h k = rw (h, k) refl

zero_by : (t : Bool) → fits_field (cond t w64 w32) 0 ≡ true
zero_by t = grind (arith, nat_tests)

-- the lists of a header that have tags
pub record IsTagged (e : Entries) : Type 0 where
  pub some : (tag_of e == 0) ≡ false
  pub small : tag_of e < 2 ^ 32

attributes_tagged : IsTagged Attributes
attributes_tagged = record { some = refl; small = omega arith }

list_walk : {A : Type 0} (v : ℕ) (e : Entries) (f : A → List ℕ) (test : A → Bool) → IsTagged e → ((x : A) → test x ≡ true → WalksEntry v e f x)
    → (xs : List A) → AtMost (most_of e) (length xs) → fits_count v (length xs) ≡ true → list_all test xs ≡ true → (rest : List Ask) → Walk v (One (Tag e) ∷ rest) rest (list_of v (tag_of e) f xs)
list_walk v e f test tagged one [] few fits all rest =
    walk_then v (One (Tag e) ∷ rest) (One (Count e true) ∷ rest) rest (tag 0) (count v 0)
    (word_walk v 0 (One (Tag e) ∷ rest) rest (One (Count e true) ∷ rest) (Tag e) refl refl (λ b x. refl) (omega arith) (λ x. refl) refl)
    (number_walk v 0 (One (Count e true) ∷ rest) rest rest (Count e true) refl refl (λ b x. refl) (zero_by (v == 5)) (λ x. refl) refl)
list_walk v e f test tagged one (y ∷ ys) few fits all rest =
    let n = length (y ∷ ys) in
    let counted = One (Count e false) ∷ rest in
    walk_then v (One (Tag e) ∷ rest) (many e n ++ rest) rest (tag (tag_of e) ++ count v n) (flat_map f (y ∷ ys))
    (walk_then v (One (Tag e) ∷ rest) counted (many e n ++ rest) (tag (tag_of e)) (count v n)
    (word_walk v (tag_of e) (One (Tag e) ∷ rest) rest counted (Tag e) refl refl (λ b x. refl) tagged.small (λ x. tag_fine (tag_of e) x) (ap (λ (t : Bool). One (Count e t) ∷ rest) tagged.some))
    (number_walk v n counted rest (many e n ++ rest) (Count e false) refl refl (λ b x. refl) fits (λ x. few_fine _ _ _ _ (not_negative _ _ fits) (above_none (most_of e) n few)) refl))
    (each_walk v e f test one (y ∷ ys) all rest)

attrs_walk : (v : ℕ) (xs : List Attr) → is_writable_list v (is_writable_attr v) xs ≡ true → (rest : List Ask) → Walk v (One (Tag Attributes) ∷ rest) rest (list_of v 12 (λ a. attribute v a) xs)
attrs_walk v xs h rest = grind (arith, nat_tests, list_walk, attributes_tagged, attr_walk, and_first, and_second)

-- ---- variables

id_walk : (v id : ℕ) → fits_count v id ≡ true → WalksEntry v Ids (λ n. count v n) id
id_walk v id fits asks rest a = number_walk v id asks rest rest DimId a refl (λ b x. refl) fits (λ x. rw (not_negative _ _ fits) refl) refl

begin_walk : (v n : ℕ) (rest : List Ask) → fits_field (begin_width v) n ≡ true → Walk v (One Begin ∷ rest) rest (to_be_bytes (begin_width v) n)
begin_walk v n rest fits =
    grind (arith, nat_tests, back_begin (v == 1) n fits, walk_field v (One Begin ∷ rest) rest rest Begin (to_be_bytes (begin_width v) n), not_negative)

var_walk : (h : Header) (v : Var) → is_writable_var h v ≡ true → nat_le (length v.dims) most_dims_of_var ≡ true → WalksEntry h.version Variables (λ w. variable h w) v
var_walk h v is few asks rest a =
    let t5 = and_first _ _ is in
    let t4 = and_first _ _ t5 in
    let t3 = and_first _ _ t4 in
    let t2 = and_first _ _ t3 in
    let ids = and_second _ _ t2 in
    let version = h.version in
    let n = length v.dims in
    let after_stored = One Begin ∷ rest in
    let after_type = One Vsize ∷ after_stored in
    let after_attrs = One VarType ∷ after_type in
    let after_ids = One (Tag Attributes) ∷ after_attrs in
    let after_name = One DimCount ∷ after_ids in
    let named = name version v.name in
    let counted = named ++ count version n in
    let listed = counted ++ flat_map (λ id. count version id) v.dims in
    let described = listed ++ list_of version 12 (λ b. attribute version b) v.attrs in
    let typed = described ++ tag (number_of v.kind) in
    let sized = typed ++ count version (vsize h v) in
    walk_then version asks after_stored rest sized (to_be_bytes (begin_width version) v.begin)
    (walk_then version asks after_type after_stored typed (count version (vsize h v))
    (walk_then version asks after_attrs after_type described (tag (number_of v.kind))
    (walk_then version asks after_ids after_attrs listed (list_of version 12 (λ b. attribute version b) v.attrs)
    (walk_then version asks (many Ids n ++ after_ids) after_ids counted (flat_map (λ id. count version id) v.dims)
    (walk_then version asks after_name (many Ids n ++ after_ids) named (count version n)
    (name_walk version v.name asks after_name a (and_first _ _ t2))
    (number_walk version n after_name after_ids (many Ids n ++ after_ids) DimCount refl refl (λ b x. refl) (and_first _ _ ids) (λ x. few_fine _ _ _ _ (not_negative _ _ (and_first _ _ ids)) (le-ltb most_dims_of_var n (leb-true n most_dims_of_var few))) refl))
    (each_walk version Ids (λ id. count version id) (λ id. fits_count version id) (λ id k. id_walk version id k) v.dims (and_second _ _ ids) after_ids))
    (attrs_walk version v.attrs (and_second _ _ t3) after_attrs))
    (word_walk version (number_of v.kind) after_attrs after_type after_type VarType refl refl (λ b x. refl) (number_known v.kind).1 (λ x. type_fine version v.kind x (and_second _ _ t4)) refl))
    (walk_field version after_type after_stored after_stored Vsize (count version (vsize h v)) refl (width_long (version == 5) (vsize h v)) (λ b x here. (refl, refl))))
    (begin_walk version v.begin rest (and_second _ _ t5))

-- ---- a header

both_tests : {A : Type 0} (p q : A → Bool) (xs : List A) → list_all p xs ≡ true → list_all q xs ≡ true → list_all (λ x. p x && q x) xs ≡ true
both_tests p q [] h k = refl
both_tests p q (x ∷ xs) h k = all_three (p x) (q x) _ (and_first _ _ h) (and_first _ _ k) (both_tests p q xs (and_second _ _ h) (and_second _ _ k))

version_cases : (v : ℕ) (P : ℕ → Type 0) → P 1 → P 2 → P 5 → is_version v ≡ true → P v
version_cases v P a b c h = grind (arith, nat_tests, eqb-true)

magic_walk : (v : ℕ) (rest : List Ask) → is_version v ≡ true → Walk v (One Magic ∷ rest) rest (magic v)
magic_walk v rest known = grind (arith, nat_tests, walk_field v (One Magic ∷ rest) rest rest Magic (magic v), version_cases v)

records_walk : (v n : ℕ) (rest : List Ask) → fits_count v n ≡ true → Walk v (One Records ∷ rest) rest (count v n)
records_walk v n rest fits = number_walk v n (One Records ∷ rest) rest rest Records refl refl (λ b x. refl) fits (λ x. rw (not_negative _ _ fits) refl) refl

header_walk : (h : Header) → is_writable h ≡ true → Walk h.version the_header [] (canon h)
unfolding canon
header_walk h is =
    let h4 = and_first _ _ is in
    let h3 = and_first _ _ h4 in
    let h2 = and_first _ _ h3 in
    let sound = and_first _ _ h2 in
    let small = and_second _ _ (and_first _ _ (and_first _ _ sound)) in
    let v = h.version in
    let after_attrs = One (Tag Variables) ∷ [] in
    let after_dims = One (Tag Attributes) ∷ after_attrs in
    let after_records = One (Tag Dimensions) ∷ after_dims in
    let after_magic = One Records ∷ after_records in
    let counted = magic v ++ count v h.records in
    let shaped = counted ++ list_of v 10 (λ d. dimension v d) h.dims in
    let described = shaped ++ list_of v 12 (λ a. attribute v a) h.attrs in
    walk_then v the_header after_attrs [] described (list_of v 11 (λ w. variable h w) h.vars)
    (walk_then v the_header after_dims after_attrs shaped (list_of v 12 (λ a. attribute v a) h.attrs)
    (walk_then v the_header after_records after_dims counted (list_of v 10 (λ d. dimension v d) h.dims)
    (grind (arith, common_steps, walk_then v the_header after_magic after_records (magic v) (count v h.records) (magic_walk v after_magic (known_version h sound)), magic_walk v after_magic (known_version h sound), known_version h sound, records_walk v h.records after_records, and_second))
    (list_walk v Dimensions (λ d. dimension v d) (is_writable_dim v) (record { some = refl; small = omega arith })
    (λ d k asks more e. dim_walk v d asks more e k) h.dims (leb-true (length h.dims) most_dims (and_first _ _ (and_first _ _ small))) (and_first _ _ (and_second _ _ h3)) (and_second _ _ (and_second _ _ h3)) after_dims))
    (attrs_walk v h.attrs (and_second _ _ h4) after_attrs))
    (list_walk v Variables (λ w. variable h w) (λ w. is_writable_var h w && nat_le (length w.dims) most_dims_of_var) (record { some = refl; small = omega arith })
    (λ w k. var_walk h w (and_first _ _ k) (and_second _ _ k)) h.vars (leb-true (length h.vars) most_vars (and_second _ _ (and_first _ _ small))) (and_first _ _ (and_second _ _ is))
    (both_tests (is_writable_var h) (λ w. nat_le (length w.dims) most_dims_of_var) h.vars (and_second _ _ (and_second _ _ is)) (and_second _ _ small)) [])

version_there : (h : Header) (more : List ℕ) → version_of (canon h ++ more) ≡ h.version
unfolding canon
version_there h more = let same : 0 + h.version ≡ h.version = omega arith in same

pub no_fault : (h : Header) (more : List ℕ) → is_writable h ≡ true → field_fault (canon h ++ more) ≡ None
no_fault h more is = grind (arith, nat_tests, header_walk h is (canon h ++ more) 0 more refl, version_there h more, run_whole)
