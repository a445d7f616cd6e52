-- Words that spell values are read as these values.
use Rattle.script_spelling.proofs.Words.{◌≡◌, ◌∙◌, ℕ, ◌+◌, ◌<◌, List, [], ◌∷◌, ◌++◌, length, Bool, true, false, not, Option, Some, None, Ok, ℤ, refl, sym, ap, append_assoc, append-nil, length-append, arith, bytes_eq, codes, some_not_none, count_of, NcType, Values, Numbers, Bits, Word, Plain, size_of_text, number_for, pattern_for, each_value, sequence_count, sequence, number_values, bits_values, listed_kind, listed_values, values, Each, SpellsSequence, SpellsBitSequence, SpellsValues, OfNothing, OfText, OfNumbers, OfBits, OfSequence, OfBitSequence, nat_tests, ◌>>=◌, ◌*◌, pos, ◌+ℤ◌, ◌*ℤ◌, length-map-range_with_len, pattern_sequence}
use Rattle.script_spelling.proofs.Steps.{go_on, passed, faultless, word_read, carry_on, by_false}
use Rattle.script_spelling.proofs.Places.{bytes_same}
use Rattle.script_spelling.proofs.Rooms.{HasRoom, room_again, less_room}
use Rattle.nc_base.specs.declared.errors.ScriptKind.TheVariants as kind
use Rattle.nc_base.specs.declared.request.Value.TheVariants as value
use Rattle.serial_spec.specs.ExternalForm as class

-- a word that this reads is no word that it doesn't
pub other_word : {A : Type 0} (f : List ℕ → Option A) (w text : List ℕ) (x : A) → f text ≡ None → f w ≡ Some x → bytes_eq w text ≡ false
other_word f w text x none some = grind (arith, nat_tests, bytes_eq, some_not_none, bytes_same)

-- ---- values that are written out

each_told : {A : Type 0} (f : List ℕ → Option A) (t : Option NcType) (before : ℕ) (found : List A) (ws : List Word) (xs : List A) → Each f ws xs → HasRoom t before (length (found ++ xs))
    → each_value f t before found ws ≡ Ok (found ++ xs)
each_told {A} f t before found [] [] h room = ap (λ (ys : List A). Ok ys) (sym (append-nil found))
each_told {A} f t before found [] (x ∷ xs) h room = absurd h
each_told {A} f t before found (w ∷ ws) [] h room = absurd h
each_told {A} f t before found (w ∷ ws) (x ∷ xs) h room =
    grind (arith, nat_tests, each_told f t before (found ++ x ∷ []) ws xs h.1, append_assoc, length-append, go_on, faultless, room_again, less_room, carry_on)

-- ---- numbers

as_numbers : (t : Option NcType) (before : ℕ) (w : List ℕ) (ws : List Word) (z : ℤ) → number_for t w ≡ Some z → listed_values (listed_kind t w) t before ws ≡ number_values t before ws
as_numbers t before w ws z h = grind (arith, nat_tests)

-- words of which the first is no `seq` and no `seqx`
listed_told : (t : Option NcType) (before : ℕ) (w : List ℕ) (ws : List Word) → bytes_eq w (codes "seq") ≡ false → bytes_eq w (codes "seqx") ≡ false
    → values t before (Plain w ∷ ws) ≡ listed_values (listed_kind t w) t before (Plain w ∷ ws)
listed_told t before w ws a b = by_false (bytes_eq w (codes "seq")) _ _ a ∙ by_false (bytes_eq w (codes "seqx")) _ _ b

-- words that this reads, where those that begin so are listed so
written_told : {A : Type 0} (f : List ℕ → Option A) (made : List A → Values) (t : Option NcType) (before : ℕ) (w : Word) (ws : List Word) (x : A) (xs : List A) → f (codes "seq") ≡ None → f (codes "seqx") ≡ None
    → ((v : List ℕ) (more : List Word) → f v ≡ Some x → listed_values (listed_kind t v) t before more ≡ (each_value f t before [] more >>= λ ys. Ok (made ys))) → Each f (w ∷ ws) (x ∷ xs) → HasRoom t before (length (x ∷ xs))
    → values t before (w ∷ ws) ≡ Ok (made (x ∷ xs))
written_told f made t before w ws x xs none none_x listed h room =
    grind (arith, nat_tests, each_told f t before [] (w ∷ ws) (x ∷ xs) h room, listed_told, other_word, listed, go_on)

numbers_told : (t : Option NcType) (before : ℕ) (ws : List Word) (zs : List ℤ) → Each (number_for t) ws zs → HasRoom t before (length zs) → values t before ws ≡ Ok (Numbers zs)
numbers_told t before [] [] h room = refl
numbers_told t before [] (z ∷ zs) h room = absurd h
numbers_told t before (w ∷ ws) [] h room = absurd h
numbers_told t before (w ∷ ws) (z ∷ zs) h room = written_told (number_for t) Numbers t before w ws z zs refl refl (λ v more e. as_numbers t before v more z e) h room

-- ---- bits

as_bits : (t : Option NcType) (before : ℕ) (w : List ℕ) (ws : List Word) (n : ℕ) → pattern_for t w ≡ Some n → listed_values (listed_kind t w) t before ws ≡ bits_values t before ws
as_bits t before w ws n h = grind (arith, nat_tests)

bits_told : (t : Option NcType) (before : ℕ) (ws : List Word) (ns : List ℕ) → 0 < length ns → Each (pattern_for t) ws ns → HasRoom t before (length ns) → values t before ws ≡ Ok (Bits ns)
bits_told t before [] [] some h room = absurd (omega arith)
bits_told t before [] (n ∷ ns) some h room = absurd h
bits_told t before (w ∷ ws) [] some h room = absurd h
bits_told t before (w ∷ ws) (n ∷ ns) some h room = written_told (pattern_for t) Bits t before w ws n ns refl refl (λ v more e. as_bits t before v more n e) h room

-- ---- sequences

pub length-sequence : (a b : ℤ) (n : ℕ) → length (sequence a b n) ≡ n
length-sequence a b n = length-map-range_with_len (λ k. a +ℤ (b *ℤ pos k)) 0 n

pub length-pattern_sequence : (a b n : ℕ) → length (pattern_sequence a b n) ≡ n
length-pattern_sequence a b n = length-map-range_with_len (λ k. a + b * k) 0 n

count_told : (suits : Bool) (t : Option NcType) (before : ℕ) (count : List ℕ) (n : ℕ) (more : List Word) → size_of_text count ≡ Some n → (0 < n → suits ≡ true) → HasRoom t before n
    → sequence_count suits t before (Plain count ∷ more) ≡ Ok (n, more)
count_told suits t before count n more h fits room = grind (arith, nat_tests)

seq_told : (t : Option NcType) (before : ℕ) (ws : List Word) (vs : Values) → SpellsSequence t ws vs → HasRoom t before (count_of vs) → values t before ws ≡ Ok vs
seq_told t before ws vs xs room = grind (arith, nat_tests, length-sequence, go_on, word_read, not, passed, count_told)

seqx_told : (t : Option NcType) (before : ℕ) (ws : List Word) (vs : Values) → SpellsBitSequence t ws vs → HasRoom t before (count_of vs) → values t before ws ≡ Ok vs
seqx_told t before ws vs xs room = grind (arith, nat_tests, length-pattern_sequence, go_on, word_read, not, passed, count_told)

-- ---- all values

pub values_told : (t : Option NcType) (before : ℕ) (ws : List Word) (vs : Values) → SpellsValues t ws vs → HasRoom t before (count_of vs) → values t before ws ≡ Ok vs
values_told t before ws vs (OfNothing none same) room = ap (values t before) none ∙ ap (λ (x : Values). Ok x) (sym same)
values_told t before ws vs (OfText text are may same) room = grind (arith, nat_tests, go_on, passed, room_again, not)
values_told t before ws vs (OfNumbers zs each same) room = grind (arith, nat_tests, numbers_told)
values_told t before ws vs (OfBits ns some each same) room = grind (arith, nat_tests, bits_told)
values_told t before ws vs (OfSequence h) room = seq_told t before ws vs h room
values_told t before ws vs (OfBitSequence h) room = seqx_told t before ws vs h room
