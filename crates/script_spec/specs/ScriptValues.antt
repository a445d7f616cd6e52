-- The values of a call or of an attribute: numbers, bits, a text, or a sequence by its terms. (own)
--     values t before words     what the words say, for an attribute of a type or for a call, or the first fault among them
use Rattle.std.specs.Prelude.{ℕ, ◌+◌, ◌-◌, ◌*◌, ◌^◌, List, [], ◌∷◌, ◌++◌, map, length, Bool, true, false, not, ◌&&◌, ◌||◌, nat_lt, ◌==◌, if◌then◌else◌, Option, Some, None, Result, Ok, Err, is_some, ℤ, pos, ◌+ℤ◌, ◌*ℤ◌, unsigned_abs, codes}
use Rattle.std.specs.List.{range_with_len}
use Rattle.nc_base.specs.declared.errors.ScriptKind.{ScriptKind}
use Rattle.nc_base.specs.declared.errors.ScriptKind.TheVariants as kind
use Rattle.nc_base.specs.declared.errors.LimitName.TheVariants as limit
use Rattle.nc_base.specs.declared.header.NcType.{NcType}
use Rattle.nc_base.specs.declared.header.NcType.TheVariants.{Char}
use Rattle.nc_base.specs.declared.request.Value.{Value}
use Rattle.nc_base.specs.declared.request.Value.TheVariants as value
use Rattle.nc_base.specs.declared.request.Values.{Values}
use Rattle.nc_base.specs.declared.request.Values.TheVariants.{Numbers, Text, Bits}
use Rattle.serial_spec.specs.ExternalForm as class
use Rattle.serial_spec.specs.ExternalForm.{Class, class_of, fits}
use Rattle.serial_spec.specs.Limits.{most_elements}
use Rattle.serial_spec.specs.Lawful.{most_values}
use Rattle.script_spec.specs.ScriptWords.{Word, Plain, Quoted, Broken, number_of_text, bits_of_text}
use Rattle.script_spec.specs.ScriptSteps.{◌>>=◌, refuse_if, or_fault, Readers, by_word, bare, reads_as, size, ended}

-- ---- values of a call, or of an attribute of a type; some have come before

-- n values are not too many, for a call or for a script
abbrev pub within_limits : Option NcType → ℕ → ℕ → Result (Unit {0}) ScriptKind
within_limits t before n = do
  _ ← refuse_if (not (is_some t) && nat_lt most_elements n) (kind.Limit limit.Elements)
  refuse_if (nat_lt most_values (before + n)) (kind.Limit limit.Values)

abbrev pub are_numbers : Class → Bool
are_numbers class.Signed = true
are_numbers class.Unsigned = true
are_numbers _ = false

abbrev pub are_patterns : Class → Bool
are_patterns class.Pattern = true
are_patterns _ = false

abbrev pub are_text : Class → Bool
are_text class.Text = true
are_text _ = false

-- values of this kind may stand here
abbrev pub may_be : (Class → Bool) → Option NcType → Bool
may_be test None = true
may_be test (Some t) = test (class_of t)

-- this value may stand here
abbrev pub may_have : Option NcType → Value → Bool
may_have None v = true
may_have (Some t) v = fits t v

-- where another kind stands
abbrev pub wrong_kind : Option NcType → ScriptKind
wrong_kind (Some Char) = kind.BadText
wrong_kind _ = kind.BadNumber

-- what a word says, if it may stand here
abbrev pub number_for : Option NcType → List ℕ → Option ℤ
number_for t w = elim (number_of_text w) [ None ↦ None | Some z ↦ if may_have t (value.Number z) then Some z else None ]

abbrev pub pattern_for : Option NcType → List ℕ → Option ℕ
pattern_for t w = elim (bits_of_text w) [ None ↦ None | Some n ↦ if may_have t (value.Bits n) then Some n else None ]

-- one value, after n of its line
abbrev pub one_value : {A : Type 0} → (List ℕ → Option A) → Option NcType → ℕ → ℕ → Word → Result A ScriptKind
one_value f t before n w = do
  v ← bare w
  x ← or_fault kind.BadNumber (f v)
  _ ← within_limits t before (n + 1)
  Ok x

-- values to the line's end, after those found
abbrev pub each_value : {A : Type 0} → (List ℕ → Option A) → Option NcType → ℕ → List A → List Word → Result (List A) ScriptKind
each_value f t before found [] = Ok found
each_value f t before found (w ∷ ws) =
    elim (one_value f t before (length found) w) [ Err e ↦ Err e | Ok x ↦ each_value f t before (found ++ x ∷ []) ws ]

-- how many values a sequence has, whose kind suits or not
abbrev pub sequence_count : Bool → Option NcType → ℕ → List Word → Result (ℕ × List Word) ScriptKind
sequence_count suits t before ws = do
  n ← size ws
  _ ← refuse_if (nat_lt 0 n.0 && not suits) (wrong_kind t)
  _ ← within_limits t before n.0
  Ok n

-- A, A + B, A + 2B and so on
abbrev pub sequence : ℤ → ℤ → ℕ → List ℤ
sequence a b n = map (λ k. a +ℤ (b *ℤ pos k)) (range_with_len 0 n)

-- the last of n; between it and the first lie the others
abbrev pub last_number : ℤ → ℤ → ℕ → ℤ
last_number a b n = a +ℤ (b *ℤ pos (n - 1))

-- among n numbers, if there is one at all, this may be
abbrev pub is_term : Option NcType → ℕ → ℤ → Bool
is_term t n z = n == 0 || (nat_lt (unsigned_abs z) (10 ^ 20) && may_have t (value.Number z))

-- the first of n numbers
abbrev pub term : Option NcType → ℕ → List Word → Result (ℤ × List Word) ScriptKind
term t n ws = do
  a ← reads_as number_of_text kind.BadNumber ws
  _ ← refuse_if (not (is_term t n a.0)) kind.BadNumber
  Ok a

-- n numbers by the first of them and the step
abbrev pub numbers_between : Option NcType → ℕ → List Word → Result (List ℤ) ScriptKind
numbers_between t n ws = do
  a ← term t n ws
  b ← reads_as number_of_text kind.BadNumber a.1
  _ ← refuse_if (not (is_term t n (last_number a.0 b.0 n))) kind.BadNumber
  _ ← ended b.1
  Ok (sequence a.0 b.0 n)

-- the same of bits
abbrev pub pattern_sequence : ℕ → ℕ → ℕ → List ℕ
pattern_sequence a b n = map (λ k. a + b * k) (range_with_len 0 n)

abbrev pub last_pattern : ℕ → ℕ → ℕ → ℕ
last_pattern a b n = a + b * (n - 1)

abbrev pub is_pattern_term : Option NcType → ℕ → ℕ → Bool
is_pattern_term t n x = n == 0 || (nat_lt x (2 ^ 64) && may_have t (value.Bits x))

abbrev pub pattern_term : Option NcType → ℕ → List Word → Result (ℕ × List Word) ScriptKind
pattern_term t n ws = do
  a ← reads_as bits_of_text kind.BadNumber ws
  _ ← refuse_if (not (is_pattern_term t n a.0)) kind.BadNumber
  Ok a

abbrev pub patterns_between : Option NcType → ℕ → List Word → Result (List ℕ) ScriptKind
patterns_between t n ws = do
  a ← pattern_term t n ws
  b ← reads_as bits_of_text kind.BadNumber a.1
  _ ← refuse_if (not (is_pattern_term t n (last_pattern a.0 b.0 n))) kind.BadNumber
  _ ← ended b.1
  Ok (pattern_sequence a.0 b.0 n)

-- what follows `seq`, and what follows `seqx`
abbrev pub seq_values : Option NcType → ℕ → List Word → Result Values ScriptKind
seq_values t before ws = do
  n ← sequence_count (may_be are_numbers t) t before ws
  zs ← numbers_between t n.0 n.1
  Ok (Numbers zs)

-- a list of no bits is one of no numbers
abbrev pub pattern_values : List ℕ → Values
pattern_values [] = Numbers []
pattern_values (n ∷ ns) = Bits (n ∷ ns)

abbrev pub seqx_values : Option NcType → ℕ → List Word → Result Values ScriptKind
seqx_values t before ws = do
  n ← sequence_count (may_be are_patterns t) t before ws
  ns ← patterns_between t n.0 n.1
  Ok (pattern_values ns)

abbrev pub text_values : Option NcType → ℕ → List ℕ → List Word → Result Values ScriptKind
text_values t before text ws = do
  _ ← refuse_if (not (may_be are_text t)) kind.BadNumber
  _ ← within_limits t before (length text)
  _ ← ended ws
  Ok (Text text)

abbrev pub number_values : Option NcType → ℕ → List Word → Result Values ScriptKind
number_values t before ws = each_value (number_for t) t before [] ws >>= λ zs. Ok (Numbers zs)

abbrev pub bits_values : Option NcType → ℕ → List Word → Result Values ScriptKind
bits_values t before ws = each_value (pattern_for t) t before [] ws >>= λ ns. Ok (Bits ns)

-- the word of bits
abbrev pub begins_x : List ℕ → Bool
begins_x [] = false
begins_x (c ∷ cs) = c == 120  -- x

-- the kind of values that are written out: an attribute's by its type, a call's by the first word
abbrev pub listed_kind : Option NcType → List ℕ → Class
listed_kind None w = if begins_x w then class.Pattern else class.Signed
listed_kind (Some t) w = class_of t

abbrev pub listed_values : Class → Option NcType → ℕ → List Word → Result Values ScriptKind
listed_values class.Text t before ws = Err kind.BadText
listed_values class.Pattern t before ws = bits_values t before ws
listed_values class.Signed t before ws = number_values t before ws
listed_values class.Unsigned t before ws = number_values t before ws

abbrev pub sequence_readers : Option NcType → ℕ → Readers Values
sequence_readers t before = (codes "seq", seq_values t before) ∷ (codes "seqx", seqx_values t before) ∷ []

-- values to the line's end, by their first word
abbrev pub values : Option NcType → ℕ → List Word → Result Values ScriptKind
values t before [] = Ok (Numbers [])
values t before (Broken ∷ ws) = Err kind.BadText
values t before (Quoted text ∷ ws) = text_values t before text ws
values t before (Plain w ∷ ws) =
    by_word (sequence_readers t before) (λ rest. listed_values (listed_kind t w) t before (Plain w ∷ rest)) w ws
