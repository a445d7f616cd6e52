-- Words that spell a lawful call are read as this call.
use Rattle.script_spelling.proofs.Words.{◌≡◌, ◌∙◌, ℕ, ◌+◌, ◌≤◌, List, [], ◌∷◌, ◌++◌, Bool, true, None, Ok, refl, sym, ap, subst, append_assoc, append-nil, codes, and_parts, leb-true, count_of, Values, PostKind, Iput, Iget, Bput, Choice, Listed, Given, Call, most_elements, most_values, is_given, are_values, is_post_of, is_lawful_call, values_in_call, call_word, Word, Plain, size_of_text, size, name, whole, id_of_text, ids, choice, posted, put_call, get_call, post_values, post_call, behind, call_of, Family, Requests, Size, Name, Record, Nothing, Behind, CallRow, HasNoRegion, IsRow, made_word, of_row, Form, form_word, kind_word, with_all, Each, SpellsPosted, SpellsChoice, SpellsPlace, SpellsBehind, SpellsPlain, SpellsCall, arith, nat_tests}
use Rattle.script_spelling.proofs.Steps.{go_on, faultless, word_read, carry_on, by_false}
use Rattle.script_spelling.proofs.Rooms.{HasRoom}
use Rattle.script_spelling.proofs.WordsRead.{name_again}
use Rattle.script_spelling.proofs.CallCounts.{NewId}
use Rattle.script_spelling.proofs.ValuesTold.{other_word, values_told}
use Rattle.script_spelling.proofs.RegionsTold.{region_told}
use Rattle.nc_base.specs.declared.errors.ScriptKind.TheVariants as kind
use Rattle.nc_base.specs.declared.request.Call.TheVariants as call

-- ---- the words of calls

module _ (ranks r : ℕ) (own : List Call) (before : ℕ) (ws : List Word) where
  pub get_word : (all : Bool) (f : Form) → call_of ranks r own before (with_all all (codes "get_" ++ form_word f)) ws ≡ get_call all f ws
  get_word all f = grind (arith, nat_tests)

  pub post_word : (k : PostKind) (f : Form) → call_of ranks r own before (kind_word k ++ form_word f) ws ≡ post_call k (posted own) f before ws
  post_word k f = grind (arith, nat_tests)

-- ---- the values of a call

few_values : (vs : Values) → are_values vs ≡ true → count_of vs ≤ most_elements
few_values vs h = grind (arith, nat_tests, leb-true, and_parts)

room_of : (before : ℕ) (vs : Values) → are_values vs ≡ true → before + count_of vs ≤ most_values → HasRoom None before (count_of vs)
room_of before vs lawful few = record { all = few; own = λ none. few_values vs lawful }

posted_told : (k : PostKind) (before : ℕ) (ws : List Word) (vs : Values) → SpellsPosted k ws vs → is_post_of k vs ≡ true → before + count_of vs ≤ most_values → post_values k before ws ≡ Ok vs
posted_told Iget before ws vs h lawful few = ap (post_values Iget before) h.0 ∙ ap (λ (x : Values). Ok x) (sym h.1)
posted_told Iput before ws vs h lawful few = values_told None before ws vs h (room_of before vs lawful few)
posted_told Bput before ws vs h lawful few = values_told None before ws vs h (room_of before vs lawful few)

-- ---- calls that name a region

put_told : (all : Bool) (n : List ℕ) (g : Given) (before : ℕ) (vs : Values) (ws : List Word) → SpellsCall ws (call.Put all n g vs) → is_given g ≡ true → are_values vs ≡ true → before + count_of vs ≤ most_values
    → put_call all g.form before ws ≡ Ok (call.Put all n g vs)
put_told all n g before vs ws (place, last, are, (own, is, named, spelled), told) given lawful few =
    grind (arith, nat_tests, name_again n (own ++ last) named, region_told g own last spelled given, values_told None before last vs told (room_of before vs lawful few), go_on)

get_told : (all : Bool) (n : List ℕ) (g : Given) (ws : List Word) → SpellsPlace ws n g → is_given g ≡ true → get_call all g.form ws ≡ Ok (call.Get all n g)
get_told all n g ws (own, is, named, spelled) given =
    grind (arith, nat_tests, append-nil own, name_again n (own ++ []) named, region_told g own [] spelled given, go_on)

-- ---- calls of no region

ids_told : (found : List ℕ) (ws : List Word) (ns : List ℕ) → Each id_of_text ws ns → ids found ws ≡ Ok (found ++ ns)
ids_told found [] [] h = ap (λ (xs : List ℕ). Ok xs) (sym (append-nil found))
ids_told found [] (n ∷ ns) h = absurd h
ids_told found (w ∷ ws) [] h = absurd h
ids_told found (w ∷ ws) (n ∷ ns) h = grind (arith, nat_tests, ids_told (found ++ n ∷ []) ws ns h.1, carry_on, faultless, append_assoc)

listed_told : (ws : List Word) (ns : List ℕ) → Each id_of_text ws ns → choice ws ≡ Ok (Listed ns)
listed_told [] [] h = refl
listed_told [] (n ∷ ns) h = absurd h
listed_told (w ∷ ws) [] h = absurd h
listed_told (w ∷ ws) (n ∷ ns) h =
    grind (arith, nat_tests, codes "all", other_word id_of_text h.0.0 (codes "all") n refl h.0.2, ids_told [] (w ∷ ws) (n ∷ ns) h, by_false, go_on)

choice_told : (ws : List Word) (c : Choice) → SpellsChoice ws c → choice ws ≡ Ok c
choice_told ws c h = grind (arith, nat_tests, listed_told)

behind_told : (f : Family) (ws : List Word) (b : Behind f) → SpellsBehind ws f b → behind f ws ≡ Ok b
behind_told Requests ws c h = choice_told ws c h
behind_told Size ws n (w, are, told) = ap (behind Size) are ∙ go_on (size (Plain w ∷ [])) whole (n, []) n (word_read size_of_text kind.BadNumber w n [] told) refl
behind_told Name ws n (are, named) = ap (behind Name) are ∙ go_on (name (Plain n ∷ [])) whole (n, []) n (name_again n [] named) refl
behind_told Record ws (n, k) (w, are, named, told) = grind (arith, nat_tests, go_on, name_again, word_read)
behind_told Nothing ws u h = ap (behind Nothing) h

made_told : (ranks r : ℕ) (own : List Call) (before : ℕ) (row : CallRow) (is : IsRow row) (b : Behind row.family) (ws : List Word) → SpellsPlain ws (row.made ranks r b)
    → call_of ranks r own before (call_word (row.made ranks r b)) ws ≡ Ok (row.made ranks r b)
made_told ranks r own before row is b ws h = grind (arith, nat_tests, made_word, go_on, behind_told)

plain_told : (ranks r : ℕ) (own : List Call) (before : ℕ) (ws : List Word) (c : Call) → HasNoRegion c → is_lawful_call ranks r c ≡ true → SpellsPlain ws c → call_of ranks r own before (call_word c) ws ≡ Ok c
plain_told ranks r own before ws c apart lawful h =
    let o = of_row ranks r c apart lawful in
    subst (λ (x : Call). call_of ranks r own before (call_word x) ws ≡ Ok x) o.same (made_told ranks r own before o.row o.is o.b ws (subst (SpellsPlain ws) (sym o.same) h))

-- ---- any call

pub call_told : (ranks r : ℕ) (own : List Call) (before : ℕ) (c : Call) (ws : List Word) → SpellsCall ws c → is_lawful_call ranks r c ≡ true → NewId own c → before + values_in_call c ≤ most_values
    → call_of ranks r own before (call_word c) ws ≡ Ok c
call_told ranks r own before (call.Put all n g vs) ws h lawful new few = grind (arith, nat_tests, and_parts, put_told all n g before vs ws h)
call_told ranks r own before (call.Get all n g) ws h lawful new few = get_word ranks r own before ws all g.form ∙ get_told all n g ws h lawful
call_told ranks r own before (call.Post id k n g vs) ws h lawful new few = grind (arith, nat_tests, and_parts, post_word ranks r own before ws k g.form, go_on, name_again, region_told, posted_told)
call_told ranks r own before c ws h lawful new few = plain_told ranks r own before ws c tt lawful h
