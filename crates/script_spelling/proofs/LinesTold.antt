-- Words that say a statement are read as what they say, where it may stand.
use Rattle.script_spelling.proofs.Words.{◌≡◌, ℕ, suc, ◌<◌, ◌≤◌, List, [], ◌∷◌, position, length, Bool, true, false, not, nat_lt, ◌||◌, Some, None, Ok, refl, sym, ap, inr, arith, bytes_eq, codes, list_any, list_all, le-ltb, length-map, count_of, Dim, Attr, Var, Values, most_dims_of_var, most_vars, Word, Plain, is_name, between_brackets, parts, reads_as, name, HintForm, hint_value, ranks_line, number_within, type_of, length_of_text, is_among, dim_ids, dim_line, var_head, name_list, var_names, var_line, owner_place, Title, same_title, attr_of, attribute, SpellsValues, VarLine, hint_value_of, DimStands, VarStands, nat_tests, ◌∙◌, Added, var_addition, ◌++◌}
use Rattle.script_spelling.proofs.Steps.{go_on, passed, faultless, word_read, by_false}
use Rattle.script_spelling.proofs.Places.{place_here, place_later}
use Rattle.script_spelling.proofs.Rooms.{HasRoom}
use Rattle.script_spelling.proofs.WordsRead.{name_again}
use Rattle.script_spelling.proofs.LinesRead.{no_colon, all_found}
use Rattle.std.proofs.Common.{inl}
use Rattle.list_laws.proofs.Truth.{holds_or_not}
use Rattle.script_spelling.proofs.GrownVars.{var_of}
use Rattle.script_spelling.proofs.ValuesTold.{values_told}
use Rattle.nc_base.specs.declared.errors.ScriptKind.TheVariants as kind
use Rattle.nc_base.specs.declared.errors.LimitName.TheVariants as limit
use Rattle.nc_base.specs.declared.script.Extra.TheVariants as extra

-- ---- ranks and hints

pub ranks_told : (w : List ℕ) (n : ℕ) → number_within 1 64 1 w ≡ Some n → ranks_line None (Plain w ∷ []) ≡ Ok n
ranks_told w n h = go_on (reads_as (number_within 1 64 1) kind.BadNumber (Plain w ∷ [])) _ (n, []) n (word_read (number_within 1 64 1) kind.BadNumber w n [] h) refl

pub hint_told : (f : HintForm) (w : List ℕ) (v : ℕ) → hint_value_of f w ≡ Some v → hint_value f (Plain w ∷ []) ≡ Ok (v, [])
hint_told f w v h = grind (arith, nat_tests)

-- ---- dimensions

pub dim_told : (version : ℕ) (dims : List Dim) (d : Dim) (w : List ℕ) → is_name d.name ≡ true → length_of_text version w ≡ Some d.len → DimStands dims d → dim_line version dims (Plain d.name ∷ Plain w ∷ []) ≡ Ok d
dim_told version dims d w named told stands = grind (arith, nat_tests)

-- ---- variables

-- what a line says of a variable, word by word
pub record VarWords (version : ℕ) (line : VarLine) : Type 0 where
  pub kind_word : List ℕ
  pub shape_word : List ℕ
  pub inside : List ℕ
  pub kind : type_of version kind_word ≡ Some line.kind
  pub named : is_name line.name ≡ true
  pub between : between_brackets shape_word ≡ Some inside
  pub parts_are : parts inside ≡ line.dims
  pub dims_named : list_all is_name line.dims ≡ true

names_told : (version : ℕ) (line : VarLine) (w : VarWords version line) → name_list (Plain w.shape_word ∷ []) ≡ Ok (line.dims, [])
names_told version line w = grind (arith, nat_tests, go_on, word_read, not, passed)

head_told : (version : ℕ) (names : List (List ℕ)) (line : VarLine) (w : VarWords version line) (more : List Word) → is_among line.name names ≡ false → length names < most_vars
    → var_head version names (Plain w.kind_word ∷ Plain line.name ∷ more) ≡ Ok ((line.kind, line.name), more)
head_told version names line w more fresh room = grind (arith, nat_tests)

few_ids : (dims : List Dim) (names : List (List ℕ)) (ids : List ℕ) → dim_ids dims names ≡ Some ids → length names ≤ most_dims_of_var → length ids ≤ most_dims_of_var
few_ids dims names ids e few = grind (arith, nat_tests, position, bytes_eq, all_found, length-map)

pub var_told : (version : ℕ) (dims : List Dim) (vars : List Var) (line : VarLine) (w : VarWords version line) (stands : VarStands false dims (var_names vars) line)
    → var_line version dims vars (Plain w.kind_word ∷ Plain line.name ∷ Plain w.shape_word ∷ []) ≡ Ok (var_of line stands.3.0)
var_told version dims vars line w stands = grind (arith, nat_tests, go_on, head_told, names_told, faultless, nat_lt, passed, le-ltb, few_ids)

-- what a line adds to a dataset that is opened
abbrev pub with_line : VarLine → Added → Added
with_line line d = record d { vars = d.vars ++ line.name ∷ []; extras = d.extras ++ extra.Var line.kind line.name line.dims ∷ [] }

pub added_told : (d : Added) (line : VarLine) (w : VarWords 5 line) → VarStands true d.dims d.vars line → var_addition d (Plain w.kind_word ∷ Plain line.name ∷ Plain w.shape_word ∷ []) ≡ Ok (0, with_line line d)
added_told d line w stands = grind (arith, nat_tests, go_on, head_told, names_told, nat_lt, passed, le-ltb)

-- ---- attributes

pub attr_told : (version : ℕ) (titles : List Title) (before : ℕ) (word : List ℕ) (a : Attr) (w : List ℕ) (given : List Word) (vs : Values) → is_name a.name ≡ true → type_of version w ≡ Some a.kind → SpellsValues (Some a.kind) given vs
    → a ≡ attr_of a.name a.kind vs → list_any (same_title (word, a.name)) titles ≡ false → HasRoom (Some a.kind) before (count_of vs) → attribute version titles before word (Plain a.name ∷ Plain w ∷ given) ≡ Ok a
attr_told version titles before word a w given vs named told spells same fresh room =
    grind (arith, nat_tests, go_on, name_again a.name (Plain w ∷ given) named, passed, word_read (type_of version) kind.UnknownWord w a.kind given told, values_told (Some a.kind) before given vs spells room)

-- a name that is among these has a place
pub place_told : (n : List ℕ) (names : List (List ℕ)) → is_among n names ≡ true → (k : ℕ) × (position (bytes_eq n) names ≡ Some k)
place_told n [] h = absurd (cc)
place_told n (x ∷ names) h =
    elim (holds_or_not (bytes_eq n x)) [
      | inl e ↦ (0, place_here (bytes_eq n) x names e)
      | inr e ↦ let later = place_told n names (sym (ap (λ (b : Bool). b || is_among n names) e) ∙ h) in (suc later.0, place_later (bytes_eq n) x names later.0 e later.1)
    ]

pub owner_found : (vars : List Var) (owner : List ℕ) (k : ℕ) → is_name owner ≡ true → position (bytes_eq owner) (var_names vars) ≡ Some k → owner_place vars owner ≡ Ok (Some k)
owner_found vars owner k is at = grind (arith, nat_tests, by_false, bytes_eq, codes, no_colon, go_on, position, faultless)
