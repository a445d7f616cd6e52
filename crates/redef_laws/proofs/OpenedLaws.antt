-- A sound header that was read can be redefined: what is spelled fits its field, and the reader bounds the lengths.
use Rattle.redef_laws.proofs.Words.{◌≡◌, ℕ, ◌+◌, ◌*◌, ◌^◌, ◌<◌, List, [], ◌∷◌, ◌++◌, length, take, drop, Bool, true, false, cond, ◌&&◌, Some, None, refl, sym, ap, subst, ◌∙◌, inl, inr, arith, append_assoc, length-append, nat_le, ◌==◌, list_all, AllByRecursion, Width, w32, w64, byte_len, to_be_bytes, take-append_seam, take-append-drop, and_from, or_parts, lt-ltb, le-leb, ltb-false, width_long, drop_on, each_passes, passes_each, and_first, and_second, equal_true, Header, Dim, Attr, Var, HeaderErr, file_limit, round_up, count_width, begin_width, tag, magic, Joined, ◌▹◌, Exactly, Each, Number, Padded, NameOf, ListOf, DimensionOf, AttributeOf, VariableOf, RecordsOf, all_ones, Field, Magic, Records, Tag, Count, NameLength, Block, DimLength, Dimensions, Attributes, Variables, Ask, One, Many, stands, asked, the_header, many, block, wrong, wrong_at, after_field, field_number, field_len, field_fault, version_of, big_endian, fits_field, fits_count, is_sound, is_writable_dim, is_writable_attr, is_writable_list, is_redefinable, is_redefinable_var, EndsWrong, ends_later, fault_only, BeginsWith, right_number, no_fault, some_or_none, nat_tests, small_count}
use Rattle.nc_base.specs.declared.errors.HeaderErr.TheVariants as fault
use Rattle.redef_laws.proofs.FitLaws.{checked}
use Rattle.redef_laws.proofs.FieldLaws.{each_both}

-- ---- what is spelled fits its field

number_fits : (w : Width) (n : ℕ) (bytes : List ℕ) → Number w n bytes → fits_field w n ≡ true
number_fits w n bytes h = lt-ltb (2 * n) (256 ^ byte_len w) h.0

name_fits : (version : ℕ) (text bytes : List ℕ) → NameOf version text bytes → fits_count version (length text) ≡ true
name_fits version text bytes h = number_fits (count_width version) (length text) h.front h.first

each_fits : {A : Type 0} (P : A → List ℕ → Type 0) (test : A → Bool) → ((x : A) (bytes : List ℕ) → P x bytes → test x ≡ true)
    → (xs : List A) (bytes : List ℕ) → Each P xs bytes → list_all test xs ≡ true
each_fits P test f [] bytes h = refl
each_fits P test f (x ∷ xs) bytes h = and_from (test x) (list_all test xs) (f x h.front h.first) (each_fits P test f xs h.rest h.second)

list_fits : {A : Type 0} (version t : ℕ) (P : A → List ℕ → Type 0) (test : A → Bool) → ((x : A) (bytes : List ℕ) → P x bytes → test x ≡ true)
    → (xs : List A) (bytes : List ℕ) → ListOf version t P xs bytes → is_writable_list version test xs ≡ true
list_fits version t ys test f xs bytes n = grind (arith, nat_tests, small_count, number_fits, each_fits)

attr_fits : (version : ℕ) (a : Attr) (bytes : List ℕ) → AttributeOf version a bytes → is_writable_attr version a ≡ true
attr_fits version a bytes (whole, h) = grind (arith, nat_tests, name_fits, number_fits, equal_true)

var_fits : (header : Header) (v : Var) (bytes : List ℕ) → VariableOf header.version v bytes → is_redefinable_var header v ≡ true
var_fits header v bytes h =
    let version = header.version in
    grind (arith, nat_tests, name_fits version v.name h.first.first.first.first.first.front h.first.first.first.first.first.first, number_fits (count_width version) (length v.dims) h.first.first.first.first.first.rest, each_fits, list_fits version 12 (AttributeOf version) (is_writable_attr version) (attr_fits version) v.attrs, attr_fits version, number_fits (begin_width version) v.begin h.rest h.second, h.first.first, h.first.first.first, h.first.first.first.first, h.first.first.first.first.first, h.first.first.first.first.first.second, h.first.first.first.first.rest, h.first.first.first.first.second, h.first.first.first.rest)

records_fit : (version n : ℕ) (bytes : List ℕ) → RecordsOf version n bytes → (n == all_ones version) ≡ false → fits_count version n ≡ true
records_fit version n bytes xs e = grind (arith, nat_tests)

dim_fits : (version : ℕ) (d : Dim) (bytes : List ℕ) → DimensionOf version d bytes → (fits_count version (length d.name) && fits_count version d.len) ≡ true
dim_fits version d bytes h = grind (arith, nat_tests, name_fits, number_fits)

-- ---- the fields that the reader comes to

-- no run of right fields from what is asked at x ends at a wrong one
abbrev Clean : ℕ → List ℕ → List Ask → ℕ → Type 0
Clean v b asks x = (e : HeaderErr) → EndsWrong v b asks x e → ⊥

clean_field : (v : ℕ) (b : List ℕ) (asks rest : List Ask) (f : Field) (x : ℕ) → asked asks ≡ Some (f, rest) → Clean v b asks x
    → (wrong_at v f b x ≡ None) × Clean v b (after_field f (field_number v f b x) ++ rest) (x + field_len v f)
clean_field v b asks rest f x a clean = elim (some_or_none (wrong_at v f b x)) [
  | inl w ↦ (w, λ e t. clean e (ends_later v b asks x e f rest a w t))
  | inr found ↦ absurd (clean found.0 (asks, x, f, rest, stands, a, found.1))
]

-- Where a string of the set stands, the fields are right from what is asked to what is asked later, and so the fact holds.
abbrev Passes : ℕ → List Ask → List Ask → (List ℕ → Type 0) → Type 0 → Type 0
Passes v asks later P G =
    (b : List ℕ) (x : ℕ) (text more : List ℕ) → drop x b ≡ text ++ more → P text → Clean v b asks x → G × Clean v b later (x + length text)

passes_then : {P Q : List ℕ → Type 0} {G H : Type 0} (v : ℕ) (asks mid later : List Ask) → Passes v asks mid P G → Passes v mid later Q H → Passes v asks later (P ▹ Q) (G × H)
passes_then v asks mid later p q b x text more e j clean =
    let there : drop x b ≡ j.front ++ (j.rest ++ more) = e ∙ ap (λ (t : List ℕ). t ++ more) j.split ∙ append_assoc j.front j.rest more in
    let far : x + length j.front + length j.rest ≡ x + length text = omega (arith, length-append j.front j.rest, ap (λ (t : List ℕ). length t) j.split) in
    let one = p b x j.front (j.rest ++ more) there j.first clean in
    let two = q b (x + length j.front) j.rest more (drop_on b x j.front (j.rest ++ more) there) j.second one.1 in
    ((one.0, two.0), subst (λ (y : ℕ). Clean v b later y) far two.1)

-- one field, of so many bytes
field_passes : {P : List ℕ → Type 0} (v : ℕ) (asks rest later : List Ask) (f : Field) (G : Type 0) → asked asks ≡ Some (f, rest)
    → ((text : List ℕ) → P text → length text ≡ field_len v f)
    → ((b : List ℕ) (x : ℕ) (text : List ℕ) → P text → take (field_len v f) (drop x b) ≡ text → wrong v f x (field_number v f b x) ≡ None
    → G × ((after_field f (field_number v f b x) ++ rest) ≡ later))
    → Passes v asks later P G
field_passes v asks rest later f G a long go b x text more e p clean =
    let len = long text p in
    let here : take (field_len v f) (drop x b) ≡ text =
    ap (λ (c : List ℕ). take (field_len v f) c) e ∙ ap (λ (k : ℕ). take k (text ++ more)) (sym len) ∙ take-append_seam text more in
    let step = clean_field v b asks rest f x a clean in
    let told = go b x text p here (right_number v f b x step.0) in
    (told.0, subst (λ (n : ℕ). Clean v b later (x + n)) (sym len) (subst (λ (next : List Ask). Clean v b next (x + field_len v f)) told.1 step.1))

back_by : (t : Bool) (n : ℕ) → 2 * n < 256 ^ byte_len (cond t w64 w32) → (big_endian (to_be_bytes (cond t w64 w32) n) ≡ n) × (length (to_be_bytes (cond t w64 w32) n) ≡ byte_len (cond t w64 w32))
back_by t n h = grind (arith, nat_tests)

-- a number of the width of counts
number_passes : (v n : ℕ) (asks rest later : List Ask) (f : Field) (G : Type 0) → asked asks ≡ Some (f, rest) → field_len v f ≡ byte_len (count_width v)
    → ((b : List ℕ) (x : ℕ) → field_number v f b x ≡ big_endian (take (field_len v f) (drop x b)))
    → ((x : ℕ) → wrong v f x n ≡ None → G) → (after_field f n ++ rest) ≡ later → Passes v asks later (Number (count_width v) n) G
number_passes v n asks rest later f G a wide read fine after =
    field_passes v asks rest later f G a
    (λ text p. ap (λ (t : List ℕ). length t) p.1 ∙ width_long (v == 5) n ∙ sym wide)
    (λ b x text p here right.
    let is : field_number v f b x ≡ n = read b x ∙ ap (λ (t : List ℕ). big_endian t) (here ∙ p.1) ∙ (back_by (v == 5) n p.0).0 in
    (fine x (subst (λ (k : ℕ). wrong v f x k ≡ None) is right), subst (λ (k : ℕ). (after_field f k ++ rest) ≡ later) (sym is) after))

padded_long : (text bytes : List ℕ) → Padded text bytes → length bytes ≡ round_up 4 (length text)
padded_long text bytes h = omega (arith, ap (λ (t : List ℕ). length t) h.split ∙ length-append h.front h.rest, ap (λ (t : List ℕ). length t) h.first, h.second)

block_passes : (v : ℕ) (text : List ℕ) (rest : List Ask) → Passes v (block (length text) ++ rest) rest (Padded text) (Unit {0})
block_passes v [] rest = λ b x bytes more e p clean.
    let same : x ≡ x + length bytes = omega (arith, padded_long [] bytes p) in
    (tt, subst (λ (y : ℕ). Clean v b rest y) same clean)
block_passes v (c ∷ text) rest =
    field_passes v (One (Block (length text)) ∷ rest) rest rest (Block (length text)) (Unit {0}) refl (λ bytes p. padded_long (c ∷ text) bytes p) (λ b x bytes p here right. (tt, refl))

name_passes : (v : ℕ) (text : List ℕ) (asks rest : List Ask) → asked asks ≡ Some (NameLength, rest) → Passes v asks rest (NameOf v text) (Unit {0} × Unit {0})
name_passes v text asks rest a =
    passes_then v asks (block (length text) ++ rest) rest
    (number_passes v (length text) asks rest (block (length text) ++ rest) NameLength (Unit {0}) a refl (λ b x. refl) (λ x w. tt) refl)
    (block_passes v text rest)

-- ---- lengths within the limit

abbrev IsWithinLimit : Dim → Type 0
IsWithinLimit d = nat_le d.len file_limit ≡ true

dim_passes : (v : ℕ) (d : Dim) (asks rest : List Ask) → asked asks ≡ Some (NameLength, One DimLength ∷ rest) → Passes v asks rest (DimensionOf v d) ((Unit {0} × Unit {0}) × IsWithinLimit d)
dim_passes v d asks rest a =
    passes_then v asks (One DimLength ∷ rest) rest (name_passes v d.name asks (One DimLength ∷ rest) a)
    (number_passes v d.len (One DimLength ∷ rest) rest rest DimLength (IsWithinLimit d) refl refl (λ b x. refl) (λ x w. le-leb d.len file_limit (ltb-false file_limit d.len (or_parts _ _ (no_fault _ (fault.BadNumber x) w)).1)) refl)

dims_pass : (v : ℕ) (dims : List Dim) (rest : List Ask) → Passes v (many Dimensions (length dims) ++ rest) rest (Each (DimensionOf v) dims) (AllByRecursion IsWithinLimit dims)
dims_pass v [] rest b x text more e p clean =
    let same : x ≡ x + length text = omega (arith, ap (λ (t : List ℕ). length t) p) in
    (tt, subst (λ (y : ℕ). Clean v b rest y) same clean)
dims_pass v (d ∷ dims) rest b x text more e p clean =
    let both = passes_then v (Many Dimensions (length dims) ∷ rest) (many Dimensions (length dims) ++ rest) rest
    (dim_passes v d (Many Dimensions (length dims) ∷ rest) (many Dimensions (length dims) ++ rest) refl) (dims_pass v dims rest) b x text more e p clean in
    ((both.0.0.1, both.0.1), both.1)

tag_passes : (v : ℕ) (rest : List Ask) → Passes v (One (Tag Dimensions) ∷ rest) (One (Count Dimensions false) ∷ rest) (Exactly (tag 10)) (Unit {0})
tag_passes v rest =
    field_passes v (One (Tag Dimensions) ∷ rest) rest (One (Count Dimensions false) ∷ rest) (Tag Dimensions) (Unit {0}) refl (λ text p. ap (λ (t : List ℕ). length t) p)
    (λ b x text p here right.
    let is : field_number v (Tag Dimensions) b x ≡ 10 = ap (λ (t : List ℕ). big_endian t) (here ∙ p) in
    (tt, ap (λ (n : ℕ). after_field (Tag Dimensions) n ++ rest) is))

list_passes : (v : ℕ) (dims : List Dim) (rest : List Ask) (b : List ℕ) (x : ℕ) (text more : List ℕ) → drop x b ≡ text ++ more
    → ListOf v 10 (DimensionOf v) dims text → Clean v b (One (Tag Dimensions) ∷ rest) x → AllByRecursion IsWithinLimit dims
list_passes v dims rest b x text more e (inl (none, p)) clean = subst (λ (ds : List Dim). AllByRecursion IsWithinLimit ds) (sym none) tt
list_passes v dims rest b x text more e (inr p) clean =
    let counted = One (Count Dimensions false) ∷ rest in
    let all = passes_then v (One (Tag Dimensions) ∷ rest) (many Dimensions (length dims) ++ rest) rest
    (passes_then v (One (Tag Dimensions) ∷ rest) counted (many Dimensions (length dims) ++ rest) (tag_passes v rest)
    (number_passes v (length dims) counted rest (many Dimensions (length dims) ++ rest) (Count Dimensions false) (Unit {0}) refl refl (λ b x. refl) (λ x w. tt) refl))
    (dims_pass v dims rest) b x text more e p clean in
    all.0.1

magic_passes : (v : ℕ) (rest : List Ask) → Passes v (One Magic ∷ rest) rest (Exactly (magic v)) (Unit {0})
magic_passes v rest = field_passes v (One Magic ∷ rest) rest rest Magic (Unit {0}) refl (λ text p. ap (λ (t : List ℕ). length t) p) (λ b x text p here right. (tt, refl))

records_pass : (v n : ℕ) (rest : List Ask) → Passes v (One Records ∷ rest) rest (RecordsOf v n) (Unit {0})
records_pass v n rest = field_passes v (One Records ∷ rest) rest rest Records (Unit {0}) refl (λ text xs. grind (arith, nat_tests)) (λ b x text p here right. (tt, refl))

none_wrong : (bytes : List ℕ) → field_fault bytes ≡ None → Clean (version_of bytes) bytes the_header 0
none_wrong bytes h e t = let found = fault_only bytes e t in cc

unjoined : {P Q : List ℕ → Type 0} (bytes text more : List ℕ) (j : Joined P Q text) → bytes ≡ text ++ more → bytes ≡ j.front ++ (j.rest ++ more)
unjoined bytes text more j e = e ∙ ap (λ (t : List ℕ). t ++ more) j.split ∙ append_assoc j.front j.rest more

dims_within : (header : Header) (bytes : List ℕ) (len : ℕ) → BeginsWith bytes header len → AllByRecursion IsWithinLimit header.dims
dims_within header bytes len h =
    let v = header.version in
    let whole = h.0.1 in
    let described = whole.first in
    let shaped = described.first in
    let counted = shaped.first in
    let after_dims = One (Tag Attributes) ∷ One (Tag Variables) ∷ [] in
    let after_records = One (Tag Dimensions) ∷ after_dims in
    let past_vars = drop len bytes in
    let past_attrs = whole.rest ++ past_vars in
    let past_dims = described.rest ++ past_attrs in
    let past_records = shaped.rest ++ past_dims in
    let all : bytes ≡ whole.front ++ past_attrs = unjoined bytes (take len bytes) past_vars whole (sym (take-append-drop len bytes)) in
    let head : bytes ≡ shaped.front ++ past_records =
    unjoined bytes described.front past_dims shaped (unjoined bytes whole.front past_attrs described all) in
    let first : bytes ≡ counted.front ++ (counted.rest ++ past_records) = unjoined bytes shaped.front past_records counted head in
    let known : version_of bytes ≡ v = ap version_of (first ∙ ap (λ (t : List ℕ). t ++ (counted.rest ++ past_records)) counted.first) ∙ omega arith in
    let clean : Clean v bytes the_header 0 = subst (λ (n : ℕ). Clean n bytes the_header 0) known (none_wrong bytes h.1) in
    let passed = passes_then v the_header (One Records ∷ after_records) after_records (magic_passes v (One Records ∷ after_records)) (records_pass v header.records after_records)
    bytes 0 shaped.front past_records head counted clean in
    list_passes v header.dims after_dims bytes (0 + length shaped.front) shaped.rest past_dims (drop_on bytes 0 shaped.front past_records head) shaped.second passed.1

-- ---- the law

dims_fit : (version : ℕ) (dims : List Dim) (bytes : List ℕ) → ListOf version 10 (DimensionOf version) dims bytes → AllByRecursion IsWithinLimit dims
    → is_writable_list version (is_writable_dim version) dims ≡ true
dims_fit version dims bytes h within =
    let spelled = list_fits version 10 (DimensionOf version) (λ d. fits_count version (length d.name) && fits_count version d.len) (dim_fits version) dims bytes h in
    grind (arith, nat_tests, and_first, each_passes, each_both, passes_each, and_second, IsWithinLimit)

pub opened : (header : Header) (bytes : List ℕ) (len : ℕ) → BeginsWith bytes header len → is_sound header ≡ true → is_redefinable header ≡ true
opened header bytes len h sound =
    let version = header.version in
    let whole = h.0.1 in
    let described = whole.first in
    let shaped = described.first in
    let counted = shaped.first in
    let records = records_fit version header.records counted.rest counted.second (checked header sound).counted in
    let dims = dims_fit version header.dims shaped.rest shaped.second (dims_within header bytes len h) in
    let attrs = list_fits version 12 (AttributeOf version) (is_writable_attr version) (attr_fits version) header.attrs described.rest described.second in
    let vars = list_fits version 11 (VariableOf version) (is_redefinable_var header) (var_fits header) header.vars whole.rest whole.second in
    grind (arith, nat_tests, and_from, sound, records, dims, attrs, vars)
