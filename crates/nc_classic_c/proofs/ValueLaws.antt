-- Values one after another, in memory and in external form.
use Rattle.nc_classic_c.proofs.Words.{◌≡◌, ℕ, ◌+◌, ◌*◌, ◌^◌, ◌<◌, List, [], ◌∷◌, ◌++◌, length, map, take, drop, set, get_or, Bool, true, false, not, ltb, Some, None, Err, ap, sym, subst, ◌∙◌, arith, position, w32, w64, from_be_bytes, range_with_len, position_or_len, mul-le-mul_right, lt-ltb, ltb-false, not-false, flat_map-append, append-nil, get_or-drop, get_or-map, get_or-take, length-map, map-append, take_more, take_more_set, get_or-map-range_with_len, length-map-range_with_len, map-range_with_len_more, position_or_len_is, fails_before_first, take-put_mid, NcType, Float, Double, Value, size_of, fits, ext, val, ext_long, first_out, is_length, pack, packed, patterns, values_of, nat_tests, position_map}
use borrow.Rule.Slice.PartMut.{put_mid}
use Rattle.nc_base.specs.declared.request.Value.TheVariants as value
use Rattle.nc_classic_c.specs.declared.answers.Refusal.TheVariants as refusal

-- ---- the first value that is not in the range

none_at : {X : Type 0} (p : X → Bool) (xs : List X) → position_or_len p xs ≡ length xs → position p xs ≡ None
none_at p xs e = grind (arith, nat_tests)

-- where none is found, each is in the range
pub each_fits : (kind : NcType) (vs : List Value) (k : ℕ) (d : Value) → first_out kind vs ≡ None → k < length vs → fits kind (get_or vs k d) ≡ true
each_fits kind vs k d h l = grind (arith, nat_tests, ltb, ltb-false, not, not-false, fails_before_first)

pub none_out : (kind : NcType) (vs : List Value) (d : Value) → ((k : ℕ) → k < length vs → fits kind (get_or vs k d) ≡ true) → first_out kind vs ≡ None
none_out kind vs d h =
    none_at (λ v. not (fits kind v)) vs
    (position_or_len_is (λ v. not (fits kind v)) vs (length vs) d (omega arith) (λ k l. ap (λ (b : Bool). not b) (h k l)) (λ l. absurd (omega arith)))

pub one_out : (kind : NcType) (vs : List Value) (d : Value) (i : ℕ) → i < length vs → ((k : ℕ) → k < i → fits kind (get_or vs k d) ≡ true)
    → fits kind (get_or vs i d) ≡ false → first_out kind vs ≡ Some i
one_out kind vs d i l h out = grind (arith, nat_tests, ltb, lt-ltb, not, position_or_len_is)

-- of words
first_of_words : {W : Type 0} (kind : NcType) (told : W → Value) (ws : List W) → position (λ w. not (fits kind (told w))) ws ≡ first_out kind (map told ws)
first_of_words kind told ws = sym (position_map (λ v. not (fits kind v)) told ws)

pub word_fits : {W : Type 0} (kind : NcType) (told : W → Value) (ws : List W) (i : ℕ) (w : W) → first_out kind (map told ws) ≡ None → i < length ws → w ≡ get_or ws i w
    → fits kind (told w) ≡ true
word_fits kind told ws i w h l is =
    let long = length-map ws told in
    grind (arith, nat_tests, long, get_or-map told ws i w (told w) l, each_fits kind (map told ws) i (told w) h (omega arith))

pub words_fit : {W : Type 0} (kind : NcType) (told : W → Value) (ws : List W) → position (λ w. not (fits kind (told w))) ws ≡ None → first_out kind (map told ws) ≡ None
words_fit kind told ws h = sym (first_of_words kind told ws) ∙ h

pub words_refused : {W : Type 0} (kind : NcType) (told : W → Value) (ws : List W) (len k : ℕ) → is_length kind (length ws) len ≡ true
    → position (λ w. not (fits kind (told w))) ws ≡ Some k → pack kind (map told ws) len ≡ Err (refusal.Range k)
words_refused kind told ws len k h e = grind (arith, nat_tests, length-map, first_of_words)

-- ---- values that are written

packed_more : {W : Type 0} (kind : NcType) (told : W → Value) (ws : List W) (i : ℕ) (w : W) → i < length ws → w ≡ get_or ws i w
    → packed kind (map told (take i ws)) ++ ext kind (told w) ≡ packed kind (map told (take (i + 1) ws))
packed_more {W} kind told ws i w l is =
    grind (arith, nat_tests, append-nil (ext kind (told w)), map-append told (take i ws) (w ∷ []), take_more ws i w l, flat_map-append)

pub one_written : {W : Type 0} (kind : NcType) (told : W → Value) (ws : List W) (into ys : List ℕ) (i size k : ℕ) (w : W) → size ≡ size_of kind → i < length ws → w ≡ get_or ws i w
    → length ws * size_of kind ≡ length into → ys ≡ ext kind (told w) → take (i * size_of kind) into ≡ packed kind (map told (take i ws))
    → take ((i + 1) * size_of kind) (put_mid (i * size) k into ys) ≡ packed kind (map told (take (i + 1) ws))
one_written kind told ws into ys i size k w s l is room e before = grind (arith, nat_tests, ext_long, mul-le-mul_right, take-put_mid, packed_more)

-- ---- values that are read

abbrev pub value_in : NcType → List ℕ → ℕ → Value
value_in kind bytes k = val kind (take (size_of kind) (drop (k * size_of kind) bytes))

-- the value that is read there
value_at : (kind : NcType) (n : ℕ) (bytes : List ℕ) (k : ℕ) (d : Value) → k < n → get_or (values_of kind n bytes) k d ≡ value_in kind bytes k
value_at kind n bytes k d l = get_or-map-range_with_len (value_in kind bytes) 0 n k k d l (omega arith)

pub value_fits : (memory kind : NcType) (n : ℕ) (bytes : List ℕ) (k : ℕ) → first_out memory (values_of kind n bytes) ≡ None → k < n → fits memory (value_in kind bytes k) ≡ true
value_fits memory kind n bytes k h l =
    let long = length-map-range_with_len (value_in kind bytes) 0 n in
    sym (ap (λ (v : Value). fits memory v) (value_at kind n bytes k (value.Bits 0) l)) ∙ each_fits memory (values_of kind n bytes) k (value.Bits 0) h (omega arith)

pub values_fit : (memory kind : NcType) (n : ℕ) (bytes : List ℕ) → ((k : ℕ) → k < n → fits memory (value_in kind bytes k) ≡ true) → first_out memory (values_of kind n bytes) ≡ None
values_fit memory kind n bytes h =
    let long = length-map-range_with_len (value_in kind bytes) 0 n in
    none_out memory (values_of kind n bytes) (value.Bits 0) (λ k l. ap (λ (v : Value). fits memory v) (value_at kind n bytes k (value.Bits 0) (omega arith)) ∙ h k (omega arith))

pub value_out : (memory kind : NcType) (n : ℕ) (bytes : List ℕ) (i : ℕ) → i < n → ((k : ℕ) → k < i → fits memory (value_in kind bytes k) ≡ true)
    → fits memory (value_in kind bytes i) ≡ false → first_out memory (values_of kind n bytes) ≡ Some i
value_out memory kind n bytes i l h out =
    let long = length-map-range_with_len (value_in kind bytes) 0 n in
    one_out memory (values_of kind n bytes) (value.Bits 0) i (omega arith) (λ k m. ap (λ (v : Value). fits memory v) (value_at kind n bytes k (value.Bits 0) (omega arith)) ∙ h k m)
    (ap (λ (v : Value). fits memory v) (value_at kind n bytes i (value.Bits 0) l) ∙ out)

pub one_read : {W : Type 0} (kind : NcType) (told : W → Value) (bytes : List ℕ) (into : List W) (k : ℕ) (w : W) → k < length into → told w ≡ value_in kind bytes k
    → map told (take k into) ≡ map (value_in kind bytes) (range_with_len 0 k) → map told (take (k + 1) (set into k w)) ≡ map (value_in kind bytes) (range_with_len 0 (k + 1))
one_read {W} kind told bytes into k w l is before =
    grind (arith, nat_tests, take_more_set into k w l, map-append told (take k into) (w ∷ []), map-range_with_len_more (value_in kind bytes) 0 k k (omega arith))

-- ---- bit patterns are in the range of their type

patterns_fit : (kind : NcType) (ns : List ℕ) → ((i : ℕ) → fits kind (value.Bits (get_or ns i 0)) ≡ true) → first_out kind (patterns ns) ≡ None
patterns_fit kind ns h =
    let long = length-map ns (λ n. value.Bits n) in
    none_out kind (patterns ns) (value.Bits 0)
    (λ k l. subst (λ (v : Value). fits kind v ≡ true) (sym (get_or-map (λ n. value.Bits n) ns k 0 (value.Bits 0) (omega arith))) (h k))

pub floats_fit : (ns : List ℕ) → ((i : ℕ) → get_or ns i 0 < 2 ^ 32) → first_out Float (patterns ns) ≡ None
floats_fit ns h = patterns_fit Float ns (λ i. lt-ltb (get_or ns i 0) (256 ^ 4) (let small = h i in omega arith))

pub doubles_fit : (ns : List ℕ) → ((i : ℕ) → get_or ns i 0 < 2 ^ 64) → first_out Double (patterns ns) ≡ None
doubles_fit ns h = patterns_fit Double ns (λ i. lt-ltb (get_or ns i 0) (256 ^ 8) (let small = h i in omega arith))

byte_in : (bytes : List ℕ) (size at i : ℕ) → ((j : ℕ) → get_or bytes j 0 < 256) → i < size → get_or (take size (drop at bytes)) i 0 < 256
byte_in bytes size at i h l = omega (arith, get_or-take size (drop at bytes) i 0 l ∙ get_or-drop at bytes i 0, h (at + i))

low_32 : (b : List ℕ) → ((i : ℕ) → i < 4 → get_or b i 0 < 256) → from_be_bytes w32 b < 256 ^ 4
low_32 b h = omega (arith, h 0 (omega arith), h 1 (omega arith), h 2 (omega arith), h 3 (omega arith))

low_64 : (b : List ℕ) → ((i : ℕ) → i < 8 → get_or b i 0 < 256) → from_be_bytes w64 b < 256 ^ 8
low_64 b h = grind (arith, nat_tests)

pub read_floats_fit : (n : ℕ) (bytes : List ℕ) → ((i : ℕ) → get_or bytes i 0 < 256) → first_out Float (values_of Float n bytes) ≡ None
read_floats_fit n bytes h =
    values_fit Float Float n bytes
    (λ k l. lt-ltb (from_be_bytes w32 (take 4 (drop (k * 4) bytes))) (256 ^ 4) (low_32 (take 4 (drop (k * 4) bytes)) (λ i m. byte_in bytes 4 (k * 4) i h m)))

pub read_doubles_fit : (n : ℕ) (bytes : List ℕ) → ((i : ℕ) → get_or bytes i 0 < 256) → first_out Double (values_of Double n bytes) ≡ None
read_doubles_fit n bytes h =
    values_fit Double Double n bytes
    (λ k l. lt-ltb (from_be_bytes w64 (take 8 (drop (k * 8) bytes))) (256 ^ 8) (low_64 (take 8 (drop (k * 8) bytes)) (λ i m. byte_in bytes 8 (k * 8) i h m)))
