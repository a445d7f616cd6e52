-- What the words of a line spell of values and regions. (own)
--     Each f words xs           the words, one by one, spell these
--     SpellsValues t words vs   the words spell the values of an attribute of this type, or of a call
--     SpellsRegion words given  the words spell the region
use Rattle.std.specs.Prelude.{◌≡◌, ◌<◌, ℕ, List, [], ◌∷◌, flat_map, length, true, Option, Some, ℤ, codes}
use Rattle.std.specs.List.{AllZip}
use Rattle.nc_base.specs.declared.header.NcType.{NcType}
use Rattle.nc_base.specs.declared.request.Values.{Values}
use Rattle.nc_base.specs.declared.request.Values.TheVariants.{Numbers, Text, Bits}
use Rattle.nc_base.specs.declared.request.Form.{Form}
use Rattle.nc_base.specs.declared.request.Form.TheVariants as form
use Rattle.nc_base.specs.declared.request.Given.{Given}
use Rattle.script_spec.specs.ScriptWords.{Word, Plain, Quoted, size_of_text, number_of_text, bits_of_text, list_of_text}
use Rattle.script_spec.specs.ScriptValues.{are_numbers, are_patterns, are_text, may_be, number_for, pattern_for, sequence, last_number, is_term, pattern_sequence, last_pattern, is_pattern_term, pattern_values}

-- the word, as it stands, spells this
abbrev pub SpellsOne : {A : Type 0} → (List ℕ → Option A) → Word → A → Type 0
SpellsOne f word x = (w : List ℕ) × (word ≡ Plain w) × (f w ≡ Some x)

abbrev pub Each : {A : Type 0} → (List ℕ → Option A) → List Word → List A → Type 0
Each f words xs = AllZip (SpellsOne f) words xs

-- ---- values of an attribute of a type, or of a call where there is none

-- `seq N A B`: the N numbers A, A + B, A + 2B and so on, of which the first and the last may stand here
abbrev pub SpellsSequence : Option NcType → List Word → Values → Type 0
SpellsSequence t words vs =
    (count first step : List ℕ) × (n : ℕ) × (a b : ℤ) × (words ≡ Plain (codes "seq") ∷ Plain count ∷ Plain first ∷ Plain step ∷ [])
    × (size_of_text count ≡ Some n) × (number_of_text first ≡ Some a) × (number_of_text step ≡ Some b)
    × (0 < n → may_be are_numbers t ≡ true) × (is_term t n a ≡ true) × (is_term t n (last_number a b n) ≡ true)
    × (vs ≡ Numbers (sequence a b n))

-- `seqx N A B`: the same of bits
abbrev pub SpellsBitSequence : Option NcType → List Word → Values → Type 0
SpellsBitSequence t words vs =
    (count first step : List ℕ) × (n a b : ℕ) × (words ≡ Plain (codes "seqx") ∷ Plain count ∷ Plain first ∷ Plain step ∷ [])
    × (size_of_text count ≡ Some n) × (bits_of_text first ≡ Some a) × (bits_of_text step ≡ Some b)
    × (0 < n → may_be are_patterns t ≡ true) × (is_pattern_term t n a ≡ true) × (is_pattern_term t n (last_pattern a b n) ≡ true)
    × (vs ≡ pattern_values (pattern_sequence a b n))

pub data SpellsValues (t : Option NcType) (words : List Word) (vs : Values) : Type 0 where
  OfNothing : words ≡ [] → vs ≡ Numbers [] → SpellsValues t words vs
  OfText : (text : List ℕ) → words ≡ Quoted text ∷ [] → may_be are_text t ≡ true → vs ≡ Text text → SpellsValues t words vs
  OfNumbers : (zs : List ℤ) → Each (number_for t) words zs → vs ≡ Numbers zs → SpellsValues t words vs
  OfBits : (ns : List ℕ) → 0 < length ns → Each (pattern_for t) words ns → vs ≡ Bits ns → SpellsValues t words vs
  OfSequence : SpellsSequence t words vs → SpellsValues t words vs
  OfBitSequence : SpellsBitSequence t words vs → SpellsValues t words vs

-- ---- regions

-- the lists of a region, in the order of their words
abbrev pub lists_of : Form → Given → List (List ℕ)
lists_of form.Var g = []
lists_of form.Var1 g = g.start ∷ []
lists_of form.Vara g = g.start ∷ g.count ∷ []
lists_of form.Vars g = g.start ∷ g.count ∷ g.stride ∷ []
lists_of form.Varm g = g.start ∷ g.count ∷ g.stride ∷ g.imap ∷ []
lists_of form.Varn g = flat_map (λ p. p.start ∷ p.count ∷ []) g.parts

-- the number of the parts comes before their lists
abbrev pub SpellsForm : Form → List Word → Given → Type 0
SpellsForm form.Varn words g =
    (count : List ℕ) × (lists : List Word) × (words ≡ Plain count ∷ lists) × (size_of_text count ≡ Some (length g.parts))
    × Each list_of_text lists (lists_of form.Varn g)
SpellsForm f words g = Each list_of_text words (lists_of f g)

abbrev pub SpellsRegion : List Word → Given → Type 0
SpellsRegion words g = SpellsForm g.form words g
