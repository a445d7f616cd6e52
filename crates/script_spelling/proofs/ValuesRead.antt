-- The words of values and regions that are read spell them.
use Rattle.script_spelling.proofs.Words.{◌≡◌, ◌∙◌, ℕ, zero, suc, ◌<◌, List, [], ◌∷◌, ◌++◌, flat_map, length, Bool, true, not, nat_lt, ◌==◌, Option, Some, None, Ok, refl, sym, ap, subst, append_assoc, append-nil, arith, bytes_eq, codes, NcType, Values, Numbers, Text, Bits, Form, Given, Part, Class, most_parts, Word, Plain, Quoted, Broken, size_of_text, number_of_text, bits_of_text, list_of_text, size, list, within_limits, are_numbers, are_patterns, may_be, number_for, pattern_for, one_value, each_value, sequence_count, sequence, is_term, pattern_sequence, is_pattern_term, pattern_values, text_values, number_values, bits_values, listed_kind, listed_values, values, given_of, given_parts, part, part_list, many_regions, region, SpellsOne, Each, SpellsSequence, SpellsBitSequence, SpellsValues, OfNothing, OfText, OfNumbers, OfBits, OfSequence, OfBitSequence, SpellsForm, SpellsRegion, nat_tests, ◌>>=◌, Result, ScriptKind, reads_as, refuse_if, ended, last_number, last_pattern, not-false}
use Rattle.script_spelling.proofs.Steps.{went, same_ok, carried, tested, step_then, free_then, end_then}
use Rattle.script_spelling.proofs.Places.{bytes_same}
use Rattle.script_spelling.proofs.WordsRead.{WordRead, one_is, size_is, list_is, read_then}
use Rattle.nc_base.specs.declared.errors.ScriptKind.TheVariants as kind
use Rattle.nc_base.specs.declared.request.Form.TheVariants as form
use Rattle.serial_spec.specs.ExternalForm as class

-- ---- values that are written out

one_spelled : {A : Type 0} (f : List ℕ → Option A) (t : Option NcType) (before n : ℕ) (w : Word) (x : A) → f (34 ∷ []) ≡ None → one_value f t before n w ≡ Ok x → SpellsOne f w x
one_spelled f t before n w x none h = grind (arith, nat_tests, went, same_ok, one_is)

pub record EachRead {A : Type 0} (f : List ℕ → Option A) (found : List A) (ws : List Word) (xs : List A) : Type 0 where
  pub more : List A
  pub are : xs ≡ found ++ more
  pub spells : Each f ws more

pub each_on : {A : Type 0} (f : List ℕ → Option A) (found : List A) (w : Word) (ws : List Word) (xs : List A) (x : A) → SpellsOne f w x → EachRead f (found ++ x ∷ []) ws xs → EachRead f found (w ∷ ws) xs
each_on f found w ws xs x one more = record { more = x ∷ more.more; are = more.are ∙ append_assoc found (x ∷ []) more.more; spells = (one, more.spells) }

each_spelled : {A : Type 0} (f : List ℕ → Option A) → f (34 ∷ []) ≡ None → (t : Option NcType) (before : ℕ) (found : List A) (ws : List Word) (xs : List A) → each_value f t before found ws ≡ Ok xs → EachRead f found ws xs
each_spelled f none t before found [] xs h = record { more = []; are = sym (append-nil found ∙ same_ok found xs h); spells = tt }
each_spelled f none t before found (w ∷ ws) xs h =
    let a = carried (one_value f t before (length found) w) (λ x. each_value f t before (found ++ x ∷ []) ws) xs h in
    each_on f found w ws xs a.value (one_spelled f t before (length found) w a.value none a.first) (each_spelled f none t before (found ++ a.value ∷ []) ws xs a.rest)

some_spelled : {A : Type 0} (f : List ℕ → Option A) (w : Word) (ws : List Word) (xs : List A) → Each f (w ∷ ws) xs → 0 < length xs
some_spelled f w ws xs h = grind (arith, nat_tests)

-- ---- sequences

pub record CountRead (suits : Bool) (ws : List Word) (r : ℕ × List Word) : Type 0 where
  pub word : WordRead size_of_text ws r
  pub fits : 0 < r.0 → suits ≡ true

-- N terms by the first of them and the step, and what follows `seq` or `seqx`
abbrev run_by : {A B : Type 0} → (List ℕ → Option A) → (ℕ → A → Bool) → (A → A → ℕ → A) → (A → A → ℕ → B) → ℕ → List Word → Result B ScriptKind
run_by f test end all n ws = do
  a ← (reads_as f kind.BadNumber ws >>= λ x. refuse_if (not (test n x.0)) kind.BadNumber >>= λ _. Ok x)
  b ← reads_as f kind.BadNumber a.1
  _ ← refuse_if (not (test n (end a.0 b.0 n))) kind.BadNumber
  _ ← ended b.1
  Ok (all a.0 b.0 n)

abbrev SpellsRun : {A : Type 0} → (List ℕ → Option A) → Bool → (ℕ → A → Bool) → (A → A → ℕ → A) → (A → A → ℕ → Values) → List ℕ → List Word → Values → Type 0
SpellsRun {A} f suits test end all word ws vs =
    (count first step : List ℕ) × (n : ℕ) × (a b : A) × (Plain word ∷ ws ≡ Plain word ∷ Plain count ∷ Plain first ∷ Plain step ∷ []) × (size_of_text count ≡ Some n) × (f first ≡ Some a) × (f step ≡ Some b)
    × (0 < n → suits ≡ true) × (test n a ≡ true) × (test n (end a b n) ≡ true) × (vs ≡ all a b n)

run_spelled : {A B : Type 0} (f : List ℕ → Option A) (suits : Bool) (test : ℕ → A → Bool) (end : A → A → ℕ → A) (all : A → A → ℕ → B) (made : B → Values) (word : List ℕ) (t : Option NcType) (before : ℕ) (ws : List Word) (vs : Values)
    → f (34 ∷ []) ≡ None → (sequence_count suits t before ws >>= λ n. run_by f test end all n.0 n.1 >>= λ xs. Ok (made xs)) ≡ Ok vs → SpellsRun f suits test end (λ a b n. made (all a b n)) word ws vs
run_spelled {A} f suits test end all made word t before ws vs none h =
    grind (arith, nat_tests, step_then, read_then, free_then, end_then, size_is, same_ok, kind.BadNumber, SpellsRun, run_by)

-- ---- all values

number_words : (t : Option NcType) (before : ℕ) (ws : List Word) (vs : Values) → number_values t before ws ≡ Ok vs → SpellsValues t ws vs
number_words t before ws vs h =
    let a = went (each_value (number_for t) t before [] ws) (λ zs. Ok (Numbers zs)) vs h in
    let each = each_spelled (number_for t) refl t before [] ws a.value a.first in
    OfNumbers a.value (subst (Each (number_for t) ws) (sym each.are) each.spells) (sym (same_ok (Numbers a.value) vs a.rest))

bits_words : (t : Option NcType) (before : ℕ) (w : Word) (ws : List Word) (vs : Values) → bits_values t before (w ∷ ws) ≡ Ok vs → SpellsValues t (w ∷ ws) vs
bits_words t before w ws vs h =
    let a = went (each_value (pattern_for t) t before [] (w ∷ ws)) (λ ns. Ok (Bits ns)) vs h in
    let each = each_spelled (pattern_for t) refl t before [] (w ∷ ws) a.value a.first in
    let spells = subst (Each (pattern_for t) (w ∷ ws)) (sym each.are) each.spells in
    OfBits a.value (some_spelled (pattern_for t) w ws a.value spells) spells (sym (same_ok (Bits a.value) vs a.rest))

listed_words : (c : Class) (t : Option NcType) (before : ℕ) (w : Word) (ws : List Word) (vs : Values) → listed_values c t before (w ∷ ws) ≡ Ok vs → SpellsValues t (w ∷ ws) vs
listed_words class.Text t before w ws vs h = absurd (cc)
listed_words class.Pattern t before w ws vs h = bits_words t before w ws vs h
listed_words class.Signed t before w ws vs h = number_words t before (w ∷ ws) vs h
listed_words class.Unsigned t before w ws vs h = number_words t before (w ∷ ws) vs h

text_words : (t : Option NcType) (before : ℕ) (text : List ℕ) (ws : List Word) (vs : Values) → text_values t before text ws ≡ Ok vs → SpellsValues t (Quoted text ∷ ws) vs
text_words t before text ws vs h =
    free_then _ _ _ vs h (λ may h. step_then (within_limits t before (length text)) _ vs h (λ u room h. end_then ws _ vs h (λ none h.
    OfText text (ap (λ (xs : List Word). Quoted text ∷ xs) none) (not-false _ may) (sym (same_ok (Text text) vs h)))))

pub values_spelled : (t : Option NcType) (before : ℕ) (ws : List Word) (vs : Values) → values t before ws ≡ Ok vs → SpellsValues t ws vs
values_spelled t before [] vs h = OfNothing refl (sym (same_ok (Numbers []) vs h))
values_spelled t before (Broken ∷ ws) vs h = absurd (cc)
values_spelled t before (Quoted text ∷ ws) vs h = text_words t before text ws vs h
values_spelled t before (Plain w ∷ ws) vs h =
    tested (bytes_eq w (codes "seq")) _ _ _ h (λ a k. OfSequence (subst (λ (x : List ℕ). SpellsSequence t (Plain x ∷ ws) vs) (sym (bytes_same w (codes "seq") a)) (run_spelled number_of_text (may_be are_numbers t) (is_term t) last_number sequence Numbers (codes "seq") t before ws vs refl k)))
    (λ a k. tested (bytes_eq w (codes "seqx")) _ _ _ k
    (λ b l. OfBitSequence (subst (λ (x : List ℕ). SpellsBitSequence t (Plain x ∷ ws) vs) (sym (bytes_same w (codes "seqx") b)) (run_spelled bits_of_text (may_be are_patterns t) (is_pattern_term t) last_pattern pattern_sequence pattern_values (codes "seqx") t before ws vs refl l)))
    (λ b. listed_words (listed_kind t w) t before (Plain w) ws vs))

-- ---- regions

-- the words of a region of this form, and what follows them
pub record RegionRead (f : Form) (ws : List Word) (r : Given × List Word) : Type 0 where
  pub own : List Word
  pub are : ws ≡ own ++ r.1
  pub same_form : r.0.form ≡ f
  pub spells : SpellsForm f own r.0

pub record PartsRead (n : ℕ) (found : List Part) (ws : List Word) (r : List Part × List Word) : Type 0 where
  pub own : List Word
  pub are : ws ≡ own ++ r.1
  pub more : List Part
  pub long : length more ≡ n
  pub all : r.0 ≡ found ++ more
  pub spells : Each list_of_text own (flat_map (λ p. p.start ∷ p.count ∷ []) more)

parts_spelled : (n : ℕ) (found : List Part) (ws : List Word) (r : List Part × List Word) → part_list n found ws ≡ Ok r → PartsRead n found ws r
parts_spelled zero found ws r h =
    subst (PartsRead zero found ws) (same_ok (found, ws) r h) (record { own = []; are = refl; more = []; long = refl; all = sym (append-nil found); spells = tt })
parts_spelled (suc n) found ws r h =
    let a = carried (part ws) (λ p. part_list n (found ++ p.0 ∷ []) p.1) r h in
    let s = went (list ws) _ a.value a.first in
    let c = went (list s.value.1) _ a.value s.rest in
    let p : Part = record { start = s.value.0; count = c.value.0 } in
    let same = same_ok (p, c.value.1) a.value c.rest in
    let first = list_is ws s.value s.first in
    let second = list_is s.value.1 c.value c.first in
    let rest : part_list n (found ++ p ∷ []) c.value.1 ≡ Ok r = ap (λ (x : Part × List Word). part_list n (found ++ x.0 ∷ []) x.1) same ∙ a.rest in
    let more = parts_spelled n (found ++ p ∷ []) c.value.1 r rest in
    record {
      own = Plain first.word ∷ Plain second.word ∷ more.own;
      are = first.are ∙ (ap (λ (xs : List Word). Plain first.word ∷ xs) second.are ∙ ap (λ (xs : List Word). Plain first.word ∷ Plain second.word ∷ xs) more.are);
      more = p ∷ more.more;
      long = ap suc more.long;
      all = more.all ∙ append_assoc found (p ∷ []) more.more;
      spells = ((first.word, refl, first.says), ((second.word, refl, second.says), more.spells));
    }

many_spelled : (ws : List Word) (r : Given × List Word) → many_regions ws ≡ Ok r → RegionRead form.Varn ws r
many_spelled ws r h =
    step_then (size ws) _ r h (λ n is h. free_then (n.0 == 0) _ _ r h (λ some h. free_then (nat_lt most_parts n.0) _ _ r h (λ few h. step_then (part_list n.0 [] n.1) _ r h (λ ps told h.
    let count = size_is ws n is in
    let parts = parts_spelled n.0 [] n.1 ps told in
    let long : n.0 ≡ length ps.0 = sym (ap length parts.all ∙ parts.long) in
    subst (RegionRead form.Varn ws) (same_ok (given_parts ps.0, ps.1) r h) (record {
      own = Plain count.word ∷ parts.own;
      are = count.are ∙ ap (λ (xs : List Word). Plain count.word ∷ xs) parts.are;
      same_form = refl;
      spells = (count.word, parts.own, refl, count.says ∙ ap (λ (n : ℕ). Some n) long, subst (λ (ps : List Part). Each list_of_text parts.own (flat_map (λ p. p.start ∷ p.count ∷ []) ps)) (sym parts.all) parts.spells);
    })))))

-- the words of lists of numbers, one after the other
record ListsRead (ns : List (List ℕ)) (ws rest : List Word) : Type 0 where
  own : List Word
  are : ws ≡ own ++ rest
  spells : Each list_of_text own ns

no_list : (ws : List Word) → ListsRead [] ws ws
no_list ws = record { own = []; are = refl; spells = tt }

list_more : (ws rest : List Word) (ns : List (List ℕ)) (r : List ℕ × List Word) → WordRead list_of_text ws r → ListsRead ns r.1 rest → ListsRead (r.0 ∷ ns) ws rest
list_more ws rest ns r s more = record { own = Plain s.word ∷ more.own; are = s.are ∙ ap (λ (xs : List Word). Plain s.word ∷ xs) more.are; spells = ((s.word, refl, s.says), more.spells) }

pub region_spelled : (f : Form) (ws : List Word) (r : Given × List Word) → region f ws ≡ Ok r → RegionRead f ws r
region_spelled form.Var ws r h = subst (RegionRead form.Var ws) (same_ok (given_of form.Var [] [] [] [], ws) r h) (record { own = []; are = refl; same_form = refl; spells = tt })
region_spelled form.Var1 ws r h =
    read_then list_of_text _ ws _ r refl h (λ s w h.
    subst (RegionRead form.Var1 ws) (same_ok (given_of form.Var1 s.0 [] [] [], s.1) r h) (record { own = Plain w.word ∷ []; are = w.are; same_form = refl; spells = ((w.word, refl, w.says), tt) }))
region_spelled form.Vara ws r h =
    read_then list_of_text _ ws _ r refl h (λ s w h. read_then list_of_text _ s.1 _ r refl h (λ c x h.
    let l = list_more ws _ _ s w (list_more s.1 _ _ c x (no_list c.1)) in
    subst (RegionRead form.Vara ws) (same_ok (given_of form.Vara s.0 c.0 [] [], c.1) r h) (record { own = l.own; are = l.are; same_form = refl; spells = l.spells })))
region_spelled form.Vars ws r h =
    read_then list_of_text _ ws _ r refl h (λ s w h. read_then list_of_text _ s.1 _ r refl h (λ c x h. read_then list_of_text _ c.1 _ r refl h (λ d y h.
    let l = list_more ws _ _ s w (list_more s.1 _ _ c x (list_more c.1 _ _ d y (no_list d.1))) in
    subst (RegionRead form.Vars ws) (same_ok (given_of form.Vars s.0 c.0 d.0 [], d.1) r h) (record { own = l.own; are = l.are; same_form = refl; spells = l.spells }))))
region_spelled form.Varm ws r h =
    read_then list_of_text _ ws _ r refl h (λ s w h. read_then list_of_text _ s.1 _ r refl h (λ c x h. read_then list_of_text _ c.1 _ r refl h (λ d y h. read_then list_of_text _ d.1 _ r refl h (λ m z h.
    let l = list_more ws _ _ s w (list_more s.1 _ _ c x (list_more c.1 _ _ d y (list_more d.1 _ _ m z (no_list m.1)))) in
    subst (RegionRead form.Varm ws) (same_ok (given_of form.Varm s.0 c.0 d.0 m.0, m.1) r h) (record { own = l.own; are = l.are; same_form = refl; spells = l.spells })))))
region_spelled form.Varn ws r h = many_spelled ws r h

pub region_of_form : (f : Form) (ws : List Word) (r : Given × List Word) (read : RegionRead f ws r) → SpellsRegion read.own r.0
region_of_form f ws r read = subst (λ (k : Form). SpellsForm k read.own r.0) (sym read.same_form) read.spells
