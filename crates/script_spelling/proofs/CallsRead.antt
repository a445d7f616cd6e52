-- The words of calls that are read spell them, and each rank has the calls of its lines.
use Rattle.script_spelling.proofs.Words.{◌≡◌, ◌∙◌, ℕ, ◌-◌, List, [], ◌∷◌, ◌++◌, take, drop, length, Bool, true, Some, None, option_map, Ok, refl, sym, ap, subst, append-nil, bytes_eq, codes, take-append-drop, cond_some, found_passes, faultless_some, Values, Numbers, Form, PostKind, Iput, Iget, Bput, Choice, Every, Listed, Given, Call, call_word, form_word, kind_word, with_all, Word, Plain, Quoted, Broken, is_word, or_fault, name, whole, values, after_prefix, before_suffix, forms, form_of_text, form_and_all, region, id_of_text, one_id, ids, choice, posted, is_posted, new_id, put_call, get_call, post_values, post_call, behind, plain_call, post_of_text, call_of, Family, Requests, Size, Name, Record, Nothing, Behind, CallRow, call_table, row_of_text, HasNoRegion, IsRow, found_row, made_word, SpellsPosted, SpellsChoice, SpellsPlace, SpellsBehind, SpellsPlain, SpellsCall, some_of_map, arith, nat_tests}
use Rattle.script_spelling.proofs.Steps.{went, same_ok, whole_value, carried, tested, looked, step_then, free_then, end_then}
use Rattle.script_spelling.proofs.Places.{bytes_same}
use Rattle.script_spelling.proofs.WordsRead.{WordRead, one_is, name_is, size_is, read_then, named_then}
use Rattle.script_spelling.proofs.ValuesRead.{EachRead, each_on, values_spelled, region_spelled, region_of_form}
use Rattle.nc_base.specs.declared.errors.ScriptKind.TheVariants as kind
use Rattle.nc_base.specs.declared.request.Call.TheVariants as call

-- ---- the words of calls

prefixed : (prefix w rest : List ℕ) → after_prefix prefix w ≡ Some rest → w ≡ prefix ++ rest
prefixed prefix w rest h = grind (arith, nat_tests, cond_some, take-append-drop (length prefix) w, bytes_same (take (length prefix) w) prefix)

suffixed : (suffix w front : List ℕ) → before_suffix suffix w ≡ Some front → w ≡ front ++ suffix
suffixed suffix w front h = grind (arith, nat_tests, cond_some, take-append-drop (length w - length suffix) w, bytes_same (drop (length w - length suffix) w) suffix)

form_is : (w : List ℕ) (f : Form) → form_of_text w ≡ Some f → w ≡ form_word f
form_is w f h = bytes_same w (form_word f) (found_passes (λ (g : Form). bytes_eq w (form_word g)) forms f h)

with_form : (w : List ℕ) (r : Form × Bool) → form_and_all w ≡ Some r → w ≡ with_all r.1 (form_word r.0)
with_form w r h = grind (arith, nat_tests, codes, some_of_map, form_is, suffixed)

post_word : (w : List ℕ) (r : PostKind × List ℕ) → post_of_text w ≡ Some r → w ≡ kind_word r.0 ++ r.1
post_word w r h = grind (arith, nat_tests, codes, option_map, prefixed, some_of_map)

-- ---- what stands behind them

-- a name and a region, and what follows
pub record PlaceRead (f : Form) (ws : List Word) (n : List ℕ) (g : Given) (rest : List Word) : Type 0 where
  pub place : List Word
  pub are : ws ≡ place ++ rest
  pub same_form : g.form ≡ f
  pub spells : SpellsPlace place n g

place_spelled : (f : Form) (ws : List Word) (n : List ℕ × List Word) (g : Given × List Word) → name ws ≡ Ok n → region f n.1 ≡ Ok g → PlaceRead f ws n.0 g.0 g.1
place_spelled f ws n g h k =
    let named = name_is ws n h in
    let read = region_spelled f n.1 g k in
    record {
      place = Plain n.0 ∷ read.own;
      are = named.are ∙ ap (λ (xs : List Word). Plain n.0 ∷ xs) read.are;
      same_form = read.same_form;
      spells = (read.own, refl, named.named, region_of_form f n.1 g read);
    }

-- a word and the words behind it are those of the call
abbrev IsCall : List ℕ → List Word → Call → Type 0
IsCall w ws c = (w ≡ call_word c) × SpellsCall ws c

put_spelled : (w rest : List ℕ) (all : Bool) (f : Form) (before : ℕ) (ws : List Word) (c : Call) → w ≡ codes "put_" ++ rest → rest ≡ with_all all (form_word f) → put_call all f before ws ≡ Ok c → IsCall w ws c
put_spelled w rest all f before ws c a b h =
    step_then (name ws) _ c h (λ n named h. step_then (region f n.1) _ c h (λ g told h. step_then (values None before g.1) _ c h (λ vs spelt h.
    let place = place_spelled f ws n g named told in
    grind (arith, nat_tests, same_ok, values_spelled, place.same_form, place.place, place.are, place.spells))))

get_spelled : (w rest : List ℕ) (all : Bool) (f : Form) (ws : List Word) (c : Call) → w ≡ codes "get_" ++ rest → rest ≡ with_all all (form_word f) → get_call all f ws ≡ Ok c → IsCall w ws c
get_spelled w rest all f ws c a b h =
    step_then (name ws) _ c h (λ n named h. step_then (region f n.1) _ c h (λ g told h. end_then g.1 _ c h (λ none h.
    let place = place_spelled f ws n g named told in
    grind (arith, nat_tests, append-nil, same_ok, place.are, place.same_form, place.spells))))

posted_spelled : (k : PostKind) (before : ℕ) (ws : List Word) (vs : Values) → post_values k before ws ≡ Ok vs → SpellsPosted k ws vs
posted_spelled Iget before ws vs h = let k = whole_value (Numbers [], ws) vs h in (k.1, sym k.0)
posted_spelled Iput before ws vs h = values_spelled None before ws vs h
posted_spelled Bput before ws vs h = values_spelled None before ws vs h

post_spelled : (w : List ℕ) (k : PostKind) (rest : List ℕ) (posted_before : List ℕ) (f : Form) (before : ℕ) (ws : List Word) (c : Call)
    → w ≡ kind_word k ++ rest → rest ≡ form_word f → post_call k posted_before f before ws ≡ Ok c → IsCall w ws c
post_spelled w k rest posted_before f before ws c a b h =
    step_then (new_id posted_before ws) _ c h (λ i new h. step_then (name i.1) _ c h (λ n named h. step_then (region f n.1) _ c h (λ g told h. step_then (post_values k before g.1) _ c h (λ vs spelt h.
    read_then id_of_text _ ws _ i refl new (λ r said j. free_then (is_posted r.0 posted_before) _ _ i j (λ free j.
    let id = subst (WordRead id_of_text ws) (same_ok r i j) said in
    grind (arith, nat_tests, place_spelled f i.1 n g named told, same_ok (call.Post i.0 k n.0 g.0 vs) c h, posted_spelled k before g.1 vs spelt, id.word, id.are, id.says)))))))

-- ---- calls of no form

ids_spelled : (found : List ℕ) (ws : List Word) (ns : List ℕ) → ids found ws ≡ Ok ns → EachRead id_of_text found ws ns
ids_spelled found [] ns h = record { more = []; are = sym (append-nil found ∙ same_ok found ns h); spells = tt }
ids_spelled found (w ∷ ws) ns h =
    let a = carried (one_id w) (λ x. ids (found ++ x ∷ []) ws) ns h in
    each_on id_of_text found w ws ns a.value (one_is id_of_text kind.BadNumber w a.value refl a.first) (ids_spelled (found ++ a.value ∷ []) ws ns a.rest)

plain_word : (text : List ℕ) (w : Word) → is_word text w ≡ true → w ≡ Plain text
plain_word text (Plain w) h = ap (λ (x : List ℕ). Plain x) (bytes_same w text h)
plain_word text (Quoted t) h = absurd (cc)
plain_word text Broken h = absurd (cc)

choice_spelled : (ws : List Word) (c : Choice) → choice ws ≡ Ok c → SpellsChoice ws c
choice_spelled [] c h = subst (SpellsChoice []) (same_ok (Listed []) c h) tt
choice_spelled (w ∷ ws) c h =
    tested (is_word (codes "all") w) _ _ _ h
    (λ e k.
    let end = whole_value (Every, ws) c k in
    subst (SpellsChoice (w ∷ ws)) end.0 (ap (λ (x : Word). x ∷ ws) (plain_word (codes "all") w e) ∙ ap (λ (xs : List Word). Plain (codes "all") ∷ xs) end.1))
    (λ e k.
    let a = went (ids [] (w ∷ ws)) _ c k in
    grind (arith, nat_tests, ids_spelled [] (w ∷ ws) a.value a.first, same_ok (Listed a.value) c a.rest))

one_word : (w : List ℕ) (ws rest : List Word) → ws ≡ Plain w ∷ rest → rest ≡ [] → ws ≡ Plain w ∷ []
one_word w ws rest a b = a ∙ ap (λ (xs : List Word). Plain w ∷ xs) b

behind_spelled : (f : Family) (ws : List Word) (b : Behind f) → behind f ws ≡ Ok b → SpellsBehind ws f b
behind_spelled Requests ws c h = choice_spelled ws c h
behind_spelled Size ws n h = grind (arith, nat_tests, went, size_is, whole_value, one_word)
behind_spelled Name ws n h = grind (arith, nat_tests, named_then, whole, whole_value, one_word)
behind_spelled Record ws v h = grind (arith, nat_tests, named_then, step_then, size_is, whole_value, one_word)
behind_spelled Nothing ws u h = (whole_value (tt, ws) u h).1

-- a call that a row makes is spelled by what stands behind the row's word
pub made_spelled : (row : CallRow) → IsRow row → (ranks r : ℕ) (b : Behind row.family) (ws : List Word) → SpellsBehind ws row.family b → SpellsPlain ws (row.made ranks r b)
made_spelled row is ranks r b ws h = grind (arith, nat_tests)

pub apart_spelled : (c : Call) (ws : List Word) → HasNoRegion c → SpellsPlain ws c → SpellsCall ws c
apart_spelled c ws apart h = grind (arith, nat_tests)

plain_spelled : (ranks r : ℕ) (w : List ℕ) (ws : List Word) (c : Call) → plain_call ranks r w ws ≡ Ok c → IsCall w ws c
plain_spelled ranks r w ws c h =
    step_then (or_fault kind.UnknownWord (row_of_text w)) _ c h (λ row given h. step_then (behind row.family ws) _ c h (λ b told h.
    let there = faultless_some kind.UnknownWord (row_of_text w) row given in
    let is = found_row w row there in
    let same_word = bytes_same w row.word (found_passes (λ (x : CallRow). bytes_eq w x.word) call_table row there) in
    grind (arith, nat_tests, made_spelled, behind_spelled, same_ok, made_word, apart_spelled)))

pub call_spelled : (ranks r : ℕ) (own : List Call) (before : ℕ) (w : List ℕ) (ws : List Word) (c : Call) → call_of ranks r own before w ws ≡ Ok c → IsCall w ws c
call_spelled ranks r own before w ws c h =
    looked (after_prefix (codes "put_") w) _ _ _ h
    (λ i e. looked (after_prefix (codes "get_") w) _ _ _ e
    (λ j l. looked (post_of_text w) _ _ _ l (λ k. plain_spelled ranks r w ws c)
    (λ p k m.
    let f = went (or_fault kind.UnknownWord (form_of_text p.1)) _ c m in
    post_spelled w p.0 p.1 (posted own) f.value before ws c (post_word w p k) (form_is p.1 f.value (faultless_some kind.UnknownWord (form_of_text p.1) f.value f.first)) f.rest))
    (λ rest j l.
    let f = went (or_fault kind.UnknownWord (form_and_all rest)) _ c l in
    get_spelled w rest f.value.1 f.value.0 ws c (prefixed (codes "get_") w rest j) (with_form rest f.value (faultless_some kind.UnknownWord (form_and_all rest) f.value f.first)) f.rest))
    (λ rest i e.
    let f = went (or_fault kind.UnknownWord (form_and_all rest)) _ c e in
    put_spelled w rest f.value.1 f.value.0 before ws c (prefixed (codes "put_") w rest i) (with_form rest f.value (faultless_some kind.UnknownWord (form_and_all rest) f.value f.first)) f.rest)
