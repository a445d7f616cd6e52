-- What the words of a line between the head and `data` say, where they are read, and that it may stand there.
use Rattle.script_spelling.proofs.Words.{◌≡◌, ◌∙◌, ℕ, zero, suc, ◌<◌, ◌≤◌, List, [], ◌∷◌, position, length, true, false, Option, Some, None, is_some, is_none, slice_get, unwrap_or, Ok, refl, sym, ap, subst, arith, bytes_eq, codes, list_any, list_all, and_parts, length-map, cond_some, none_of_test, not_some, some_of_map, faultless_some, NcType, Dim, Attr, Var, most_dims, most_dims_of_var, most_vars, Word, Plain, is_name, between_brackets, parts, all_some, or_fault, reads_as, values, HintForm, Within, Either, HintRow, hint_table, hint_form, hint_of_text, no_row, hint_in, hint_value, hint_line, ranks_line, number_within, one_of_two, type_of, length_of_text, is_among, dim_ids, dim_line, var_head, name_list, shape, added_shape, var_names, var_line, owner_of_text, owner_name, Title, same_title, attr_of, attribute_name, attribute, VarLine, RanksAre, HintIs, DimIs, VarIs, AttIs, hint_value_of, owner_word, IsOwner, Says, DimStands, VarStands, nat_tests, ◌>>=◌, Result, ScriptKind, and_left, ne_eqb, leb-false, ltb-false, option_map}
use Rattle.script_spelling.proofs.Steps.{same_ok, step_then, free_then, end_then, decided}
use Rattle.script_spelling.proofs.Places.{bytes_same}
use Rattle.script_spelling.proofs.WordsRead.{WordRead, word_is, NameRead, read_then, named_then}
use Rattle.script_spelling.proofs.ValuesRead.{values_spelled}
use Rattle.nc_base.specs.declared.errors.ScriptKind.TheVariants as kind

three_words : (first one two : List ℕ) (ws a b : List Word) → ws ≡ Plain one ∷ a → a ≡ Plain two ∷ b → b ≡ [] → Plain first ∷ ws ≡ Plain first ∷ Plain one ∷ Plain two ∷ []
three_words first one two ws a b e1 e2 e3 = ap (λ (xs : List Word). Plain first ∷ xs) e1 ∙ ap (λ (xs : List Word). Plain first ∷ Plain one ∷ xs) (e2 ∙ ap (λ (xs : List Word). Plain two ∷ xs) e3)

-- ---- ranks and hints

pub ranks_said : (version : ℕ) (ranks : Option ℕ) (ws : List Word) (n : ℕ) → ranks_line ranks ws ≡ Ok n → Says version (Plain (codes "ranks") ∷ ws) (RanksAre n) × (ranks ≡ None)
ranks_said version ranks ws n h = grind (arith, nat_tests)

hint_word : (f : HintForm) (ws : List Word) (r : ℕ × List Word) → hint_value_of f (34 ∷ []) ≡ None → hint_value f ws ≡ Ok r → WordRead (hint_value_of f) ws r
hint_word (Within low high unit) ws r none h = let w = word_is (number_within low high unit) kind.BadNumber ws r none h in record { word = w.word; are = w.are; says = w.says }
hint_word (Either a b) ws r none h = let w = word_is (one_of_two a b) kind.UnknownWord ws r none h in record { word = w.word; are = w.are; says = w.says }

-- a text is the value of no hint
no_quote : (rows : List HintRow) (h : ℕ) → list_all (λ row. is_none (hint_value_of row.form (34 ∷ []))) rows ≡ true
    → hint_value_of ((unwrap_or (slice_get rows h) no_row).form) (34 ∷ []) ≡ None
no_quote [] h all = refl
no_quote (row ∷ rows) zero all = none_of_test (hint_value_of row.form (34 ∷ [])) (and_parts _ _ all).0
no_quote (row ∷ rows) (suc h) all = no_quote rows h (and_parts (is_none (hint_value_of row.form (34 ∷ []))) _ all).1

pub record HintSaid (version : ℕ) (hints : List (Option ℕ)) (words : List Word) (r : ℕ × ℕ) : Type 0 where
  pub says : Says version words (HintIs r.0 r.1)
  pub free : hint_in r.0 hints ≡ None

pub hint_said : (version : ℕ) (hints : List (Option ℕ)) (ws : List Word) (r : ℕ × ℕ) → hint_line hints ws ≡ Ok r → HintSaid version hints (Plain (codes "hint") ∷ ws) r
hint_said version hints ws r h =
    read_then hint_of_text _ ws _ r refl h (λ n w h. free_then (is_some (hint_in n.0 hints)) _ _ r h (λ free h. step_then (hint_value (hint_form n.0) n.1) _ r h (λ v told h. end_then v.1 _ r h (λ none h.
    let x = hint_word (hint_form n.0) n.1 v (no_quote hint_table n.0 refl) told in
    grind (arith, nat_tests, same_ok, three_words, not_some, w.says, x.says)))))

-- ---- dimensions

pub dim_said : (version : ℕ) (dims : List Dim) (ws : List Word) (d : Dim) → dim_line version dims ws ≡ Ok d → Says version (Plain (codes "dim") ∷ ws) (DimIs d) × DimStands dims d
dim_said version dims ws d h =
    named_then ws _ d h (λ a n h. free_then _ _ _ d h (λ fresh h. free_then _ _ _ d h (λ room h.
    read_then (length_of_text version) _ a.1 _ d refl h (λ e w h. free_then _ _ _ d h (λ one h. end_then e.1 _ d h (λ none h.
    subst (λ (x : Dim). Says version (Plain (codes "dim") ∷ ws) (DimIs x) × DimStands dims x) (same_ok (record { name = a.0; len = e.0 }) d h) (
      (w.word, three_words (codes "dim") a.0 w.word ws a.1 e.1 n.are w.are none, n.named, w.says),
      (fresh, leb-false most_dims (length dims) room, one),
    )))))))

-- ---- variables

pub record HeadSaid (version : ℕ) (names : List (List ℕ)) (ws : List Word) (r : (NcType × List ℕ) × List Word) : Type 0 where
  pub word : List ℕ
  pub are : ws ≡ Plain word ∷ Plain r.0.1 ∷ r.1
  pub kind : type_of version word ≡ Some r.0.0
  pub named : is_name r.0.1 ≡ true
  pub fresh : is_among r.0.1 names ≡ false
  pub room : length names < most_vars

pub head_said : (version : ℕ) (names : List (List ℕ)) (ws : List Word) (r : (NcType × List ℕ) × List Word) → var_head version names ws ≡ Ok r → HeadSaid version names ws r
head_said version names ws r h =
    read_then (type_of version) _ ws _ r refl h (λ a w h. named_then a.1 _ r h (λ b n h. free_then _ _ _ r h (λ fresh h. free_then _ _ _ r h (λ room h.
    subst (HeadSaid version names ws) (same_ok ((a.0, b.0), b.1) r h) (record {
      word = w.word;
      are = w.are ∙ ap (λ (xs : List Word). Plain w.word ∷ xs) n.are;
      kind = w.says;
      named = n.named;
      fresh = fresh;
      room = leb-false most_vars (length names) room;
    })))))

pub record NamesSaid (ws : List Word) (r : List (List ℕ) × List Word) : Type 0 where
  pub word : List ℕ
  pub are : ws ≡ Plain word ∷ r.1
  pub inside : List ℕ
  pub between : between_brackets word ≡ Some inside
  pub parts_are : parts inside ≡ r.0
  pub named : list_all is_name r.0 ≡ true

pub names_said : (ws : List Word) (r : List (List ℕ) × List Word) → name_list ws ≡ Ok r → NamesSaid ws r
names_said ws r h = grind (arith, nat_tests, read_then, free_then, same_ok)

var_says : (version : ℕ) (names : List (List ℕ)) (ws : List Word) (v : (NcType × List ℕ) × List Word) (ns : List (List ℕ) × List Word) → HeadSaid version names ws v → NamesSaid v.1 ns → ns.1 ≡ []
    → Says version (Plain (codes "var") ∷ ws) (VarIs (record { kind = v.0.0; name = v.0.1; dims = ns.0 }))
var_says version names ws v ns head shape_said end = grind (arith, nat_tests, codes)

pub all_found : {A : Type 0} (os : List (Option A)) (xs : List A) → all_some os ≡ Some xs → length xs ≡ length os
all_found [] xs h = let same : [] ≡ xs = cc in ap length (sym same)
all_found (None ∷ os) xs h = absurd (cc)
all_found (Some x ∷ os) xs h = grind (arith, nat_tests, all_found os, option_map, some_of_map)

few_dims : (dims : List Dim) (names : List (List ℕ)) (ids : List ℕ) → dim_ids dims names ≡ Some ids → length ids ≤ most_dims_of_var → length names ≤ most_dims_of_var
few_dims dims names ids e few = grind (arith, nat_tests, position, bytes_eq, all_found, length-map)

-- a variable of a new dataset, by the line that defines it
pub record VarSaid (version : ℕ) (dims : List Dim) (names : List (List ℕ)) (words : List Word) (v : Var) : Type 0 where
  pub line : VarLine
  pub says : Says version words (VarIs line)
  pub stands : VarStands false dims names line
  pub found : dim_ids dims line.dims ≡ Some v.dims
  pub same : v ≡ record { name = line.name; dims = v.dims; attrs = []; kind = line.kind; begin = 0 }

pub var_said : (version : ℕ) (dims : List Dim) (vars : List Var) (ws : List Word) (v : Var) → var_line version dims vars ws ≡ Ok v → VarSaid version dims (var_names vars) (Plain (codes "var") ∷ ws) v
var_said version dims vars ws v h =
    step_then (var_head version (var_names vars) ws) _ v h (λ a heads h. step_then (shape dims a.1) _ v h (λ b shaped h. end_then b.1 _ v h (λ none h.
    step_then (name_list a.1) _ b shaped (λ n listed k. step_then (or_fault kind.UnknownName (dim_ids dims n.0)) _ b k (λ i there k. free_then _ _ _ b k (λ few k. free_then _ _ _ b k (λ records k.
    let pair = same_ok (i, n.1) b k in
    let head = head_said version (var_names vars) ws a heads in
    let found = faultless_some kind.UnknownName (dim_ids dims n.0) i there in
    subst (VarSaid version dims (var_names vars) (Plain (codes "var") ∷ ws)) (same_ok (record { name = a.0.1; dims = b.0; attrs = []; kind = a.0.0; begin = 0 }) v h) (record {
      line = record { kind = a.0.0; name = a.0.1; dims = n.0 };
      says = var_says version (var_names vars) ws a n head (names_said a.1 n listed) (ap (λ (x : List ℕ × List Word). x.1) pair ∙ none);
      stands = (head.fresh, head.room, few_dims dims n.0 i found (ltb-false most_dims_of_var (length i) few), (i, found, records));
      found = found ∙ ap (λ (x : List ℕ × List Word). Some x.0) pair;
      same = refl;
    }))))))))

-- what is added to a dataset that is opened
pub record LineSaid (dims : List Dim) (names : List (List ℕ)) (words : List Word) (v : (NcType × List ℕ) × List Word) (ns : List (List ℕ) × List Word) : Type 0 where
  pub says : ns.1 ≡ [] → Says 5 words (VarIs (record { kind = v.0.0; name = v.0.1; dims = ns.0 }))
  pub stands : VarStands true dims names (record { kind = v.0.0; name = v.0.1; dims = ns.0 })

pub added_said : (dims : List Dim) (names : List (List ℕ)) (ws : List Word) (v : (NcType × List ℕ) × List Word) (ns : List (List ℕ) × List Word) → var_head 5 names ws ≡ Ok v → added_shape dims v.1 ≡ Ok ns
    → LineSaid dims names (Plain (codes "var") ∷ ws) v ns
added_said dims names ws v ns h k =
    step_then (name_list v.1) _ ns k (λ n listed k. free_then _ _ _ ns k (λ few k. free_then _ _ _ ns k (λ records k.
    let head = head_said 5 names ws v h in
    let all = names_said v.1 n listed in
    subst (LineSaid dims names (Plain (codes "var") ∷ ws) v) (same_ok n ns k)
    (record { says = λ end. var_says 5 names ws v n head all end; stands = (head.fresh, head.room, ltb-false most_dims_of_var (length n.0) few, records) }))))

-- ---- attributes

pub no_colon : (n : List ℕ) → is_name n ≡ true → bytes_eq n (codes ":") ≡ false
no_colon n h = grind (arith, nat_tests, and_parts, and_left, ne_eqb)

pub owner_told : (owner : Option (List ℕ)) → IsOwner owner → (owner_of_text (owner_word owner) ≡ Some (owner_word owner)) × (owner_name (owner_word owner) ≡ owner)
owner_told owner is = grind (arith, nat_tests)

-- the owner of an attribute, by its word
pub owner_then : {B P : Type 0} (ws : List Word) (f : List ℕ × List Word → Result B ScriptKind) (y : B) → (reads_as owner_of_text kind.BadName ws >>= f) ≡ Ok y
    → ((owner : Option (List ℕ)) (more : List Word) → IsOwner owner → ws ≡ Plain (owner_word owner) ∷ more → f (owner_word owner, more) ≡ Ok y → P) → P
owner_then ws f y h k =
    read_then owner_of_text _ ws f y refl h (λ r w h. decided (bytes_eq w.word (codes ":")) _ _ _ w.says
    (λ e g.
    let same : w.word ≡ r.0 = cc in
    let colon = bytes_same w.word (codes ":") e in
    k None r.1 tt (w.are ∙ ap (λ (x : List ℕ). Plain x ∷ r.1) colon) (subst (λ (x : List ℕ). f (x, r.1) ≡ Ok y) (sym same ∙ colon) h))
    (λ e g.
    let n = cond_some (is_name w.word) w.word r.0 g in
    k (Some w.word) r.1 n.0 w.are (subst (λ (x : List ℕ). f (x, r.1) ≡ Ok y) (sym n.1) h)))

-- an attribute of this owner
pub record AttrSaid (version : ℕ) (titles : List Title) (owner : List ℕ) (ws : List Word) (a : Attr) : Type 0 where
  pub says : (o : Option (List ℕ)) → IsOwner o → Says version (Plain (codes "att") ∷ Plain (owner_word o) ∷ ws) (AttIs o a)
  pub fresh : list_any (same_title (owner, a.name)) titles ≡ false

pub attr_said : (version : ℕ) (titles : List Title) (before : ℕ) (owner : List ℕ) (ws : List Word) (a : Attr) → attribute version titles before owner ws ≡ Ok a → AttrSaid version titles owner ws a
attr_said version titles before owner ws a h =
    step_then (attribute_name titles owner ws) _ a h (λ n new h. read_then (type_of version) _ n.1 _ a refl h (λ t w h. step_then (values (Some t.0) before t.1) _ a h (λ vs spelt h.
    named_then ws _ n new (λ m named k. free_then _ _ _ n k (λ free k.
    let same = same_ok m n k in
    let is_named = subst (NameRead ws) same named in
    let are = is_named.are ∙ ap (λ (xs : List Word). Plain n.0 ∷ xs) w.are in
    let spells = values_spelled (Some t.0) before t.1 vs spelt in
    subst (AttrSaid version titles owner ws) (same_ok (attr_of n.0 t.0 vs) a h) (record {
      says = λ o is. (w.word, t.1, vs, ap (λ (xs : List Word). Plain (codes "att") ∷ Plain (owner_word o) ∷ xs) are, is, is_named.named, w.says, spells, refl);
      fresh = subst (λ (x : List ℕ × List Word). list_any (same_title (owner, x.0)) titles ≡ false) same free;
    }))))))
