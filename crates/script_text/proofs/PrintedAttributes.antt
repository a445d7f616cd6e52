-- Types and attributes that are printed are read again.
use Rattle.script_text.proofs.Words.{◌≡◌, ◌∙◌, ℕ, List, [], ◌∷◌, map, find, length, Bool, true, nat_le, Option, Some, ℤ, refl, ap, subst, arith, list_all, and_parts, take_at, drop_at, NcType, Attr, Value, Values, Numbers, Text, Bits, Class, class_of, size_of, ext, val, fits, types, codes, SpellsValues, OfNothing, OfText, number_of, last_type, number_in, code_in, gathered, val-ext, ext_long, type_word, pieces, attr_values, Word, Plain, are_numbers, are_patterns, are_text, type_of, external_bytes, attr_of, nat_tests, fits_in}
use Rattle.std.proofs.Common.{flat_map}
use Rattle.script_text.proofs.Lexing.{is_plain, is_good, is_byte}
use Rattle.script_text.proofs.Numerals.{name_plain}
use Rattle.script_laws.proofs.Sequences.{is_fit_number, is_fit_pattern}
use Rattle.script_text.proofs.PrintedValues.{value_tokens, is_read, AreFit, values_spell, values_good, are_fit}
use Rattle.nc_base.specs.declared.request.Value.TheVariants as value
use Rattle.serial_spec.specs.ExternalForm as class
use Rattle.script_spelling.specs.Statements.{AttIs, owner_word, IsOwner, Says}

-- ---- types

pub type_plain : (t : NcType) → is_plain (type_word t) ≡ true
type_plain t = grind (arith, nat_tests)

pub type_told : (version : ℕ) (t : NcType) → nat_le (number_of t) (last_type version) ≡ true → type_of version (type_word t) ≡ Some t
type_told version t h = grind (arith, nat_tests)

pub type_again : (version : ℕ) (w : List ℕ) (t : NcType) → type_of version w ≡ Some t → type_of version (type_word t) ≡ Some t
type_again version w t h = grind (arith, nat_tests, type_told, find, nat_le)

-- ---- the values of an attribute, from its bytes

abbrev seen : NcType → ℕ → List ℕ → List (Option Value)
seen t n bytes = map (λ b. Some (val t b)) (pieces n (size_of t) bytes)

-- values of which each fits, from their bytes
seen_again : {A : Type 0} (t : NcType) (h : A → Value) (test : A → Bool) → ((x : A) → test x ≡ true → fits t (h x) ≡ true) → (xs : List A) → list_all test xs ≡ true
    → seen t (length xs) (flat_map (λ x. ext t (h x)) xs) ≡ map (λ x. Some (h x)) xs
seen_again t h test each [] all = refl
seen_again t h test each (x ∷ xs) all =
    grind (arith, nat_tests, seen_again t h test each xs (and_parts (test x) (list_all test xs) all).1, and_parts, flat_map, take_at, ext_long, drop_at, val-ext)

each_back : {A B : Type 0} (f : B → A) (g : A → B) → ((x : A) → f (g x) ≡ x) → (xs : List A) → map f (map g xs) ≡ xs
each_back f g back [] = refl
each_back f g back (x ∷ xs) = rw (back x, each_back f g back xs)

-- what is printed of an attribute's values spells values of which the attribute is the same
pub record AttrShown (n : List ℕ) (t : NcType) (vs : Values) : Type 0 where
  pub good : list_all is_good (value_tokens (attr_values (attr_of n t vs))) ≡ true
  pub told : Values
  pub spells : SpellsValues (Some t) (value_tokens (attr_values (attr_of n t vs))) told
  pub same : attr_of n t told ≡ attr_of n t vs

-- values that are shown as they are
as_they_are : (n : List ℕ) (t : NcType) (vs : Values) → attr_values (attr_of n t vs) ≡ vs → AreFit (Some t) vs → AttrShown n t vs
as_they_are n t vs same fit = grind (arith, nat_tests, is_good, values_good, values_spell, list_all)

gathered_as : (c : Class) (os : List (Option Value))
    → (are_numbers c ≡ true → gathered c os ≡ Numbers (map number_in os)) × (are_text c ≡ true → gathered c os ≡ Text (map code_in os)) × (are_patterns c ≡ true → gathered c os ≡ Bits (map code_in os))
gathered_as c os = (λ h. grind (arith, nat_tests), λ h. grind (arith, nat_tests), λ h. grind (arith, nat_tests))

nothing_shown : (n : List ℕ) (t : NcType) (c : Class) → class_of t ≡ c → AttrShown n t (Numbers [])
nothing_shown n t class.Text e =
    let words = ap (λ (x : Class). value_tokens (gathered x [])) e in
    record { good = ap (list_all is_good) words; told = Text []; spells = OfText [] words (ap are_text e) refl; same = refl }
nothing_shown n t c e =
    let words : value_tokens (gathered (class_of t) []) ≡ [] = ap (λ (x : Class). value_tokens (gathered x [])) e in
    record { good = ap (list_all is_good) words; told = Numbers []; spells = OfNothing words refl; same = refl }

class_numbers : (c : Class) (size : ℕ) (z : ℤ) → fits_in c size (value.Number z) ≡ true → are_numbers c ≡ true
class_numbers c size z h = grind (arith, nat_tests)

class_patterns : (c : Class) (size n : ℕ) → fits_in c size (value.Bits n) ≡ true → are_patterns c ≡ true
class_patterns c size n h = grind (arith, nat_tests)

numbers_shown : (n : List ℕ) (t : NcType) (zs : List ℤ) → AreFit (Some t) (Numbers zs) → AttrShown n t (Numbers zs)
numbers_shown n t [] fit = nothing_shown n t (class_of t) refl
numbers_shown n t (z ∷ zs) fit =
    let os = seen t (length (z ∷ zs)) (external_bytes t (Numbers (z ∷ zs))) in
    let same : os ≡ map (λ y. Some (value.Number y)) (z ∷ zs) = seen_again t (λ y. value.Number y) (is_fit_number (Some t)) (λ y h. (and_parts _ _ h).1) (z ∷ zs) fit in
    let numbers = class_numbers (class_of t) (size_of t) z (and_parts _ _ (and_parts (is_fit_number (Some t) z) _ fit).0).1 in
    grind (arith, nat_tests, as_they_are n t (Numbers (z ∷ zs)), (gathered_as (class_of t) os).0 numbers, number_in, each_back number_in, value.Number)

bits_shown : (n : List ℕ) (t : NcType) (ns : List ℕ) → AreFit (Some t) (Bits ns) → AttrShown n t (Bits ns)
bits_shown n t [] fit = absurd (omega (arith, fit.1))
bits_shown n t (x ∷ xs) fit =
    let ns = x ∷ xs in
    let os = seen t (length ns) (external_bytes t (Bits ns)) in
    let same : os ≡ map (λ y. Some (value.Bits y)) ns = seen_again t (λ y. value.Bits y) (is_fit_pattern (Some t)) (λ y h. (and_parts _ _ h).1) ns fit.0 in
    let patterns = class_patterns (class_of t) (size_of t) x (and_parts _ _ (and_parts (is_fit_pattern (Some t) x) _ fit.0).0).1 in
    as_they_are n t (Bits ns) ((gathered_as (class_of t) os).2 patterns ∙ ap (λ (ys : List ℕ). Bits ys) (ap (map code_in) same ∙ each_back code_in (λ y. Some (value.Bits y)) (λ y. refl) ns)) fit

text_shown : (n : List ℕ) (t : NcType) (cs : List ℕ) → AreFit (Some t) (Text cs) → AttrShown n t (Text cs)
text_shown n t cs fit =
    let os = seen t (length cs) (external_bytes t (Text cs)) in
    let same : os ≡ map (λ y. Some (value.Char y)) cs = seen_again t (λ y. value.Char y) is_byte (λ c b. grind (arith, nat_tests, fit.1)) cs fit.0 in
    as_they_are n t (Text cs) ((gathered_as (class_of t) os).1 fit.1 ∙ ap (λ (ys : List ℕ). Text ys) (ap (map code_in) same ∙ each_back code_in (λ y. Some (value.Char y)) (λ y. refl) cs)) fit

values_shown : (n : List ℕ) (t : NcType) (vs : Values) → AreFit (Some t) vs → AttrShown n t vs
values_shown n t (Numbers zs) fit = numbers_shown n t zs fit
values_shown n t vs fit = grind (arith, nat_tests, text_shown n t, bits_shown n t)

-- ---- attributes

-- what follows the owner
abbrev pub attr_tokens : Attr → List Word
attr_tokens a = Plain a.name ∷ Plain (type_word a.kind) ∷ value_tokens (attr_values a)

-- the attribute, printed, says it again of each owner
pub record AttrAgain (version : ℕ) (a : Attr) : Type 0 where
  pub good : list_all is_good (attr_tokens a) ≡ true
  pub says : (o : Option (List ℕ)) → IsOwner o → Says version (Plain (codes "att") ∷ Plain (owner_word o) ∷ attr_tokens a) (AttIs o a)

pub attr_again : (version : ℕ) (words : List Word) (o : Option (List ℕ)) (a : Attr) → Says version words (AttIs o a) → list_all is_read words ≡ true → AttrAgain version a
attr_again version words o a (w, given, vs, are, is, named, told, spells, same) read =
    let given_read : list_all is_read given ≡ true = subst (λ (xs : List Word). list_all is_read xs ≡ true) are read in
    let shown = values_shown a.name a.kind vs (are_fit (Some a.kind) given vs spells given_read) in
    grind (arith, nat_tests, type_again version w a.kind told, name_plain a.name named, type_plain a.kind, shown.good, shown.told, shown.spells, shown.same)
