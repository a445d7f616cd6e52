-- The calls of a script, each as it is read.
use Rattle.script_laws.proofs.Words.{◌≡◌, ℕ, zero, suc, ◌+◌, ◌^◌, ◌<◌, ◌≤◌, List, [], ◌∷◌, ◌++◌, length, Bool, true, false, Some, None, Result, IfOk, IfSome, refl, arith, ◌==◌, codes, option_and_then, length-append, lt-ltb, le-leb, ltb-false, AllByRecursion, each_passes, and_from, each_push, if_some_at, Values, Numbers, Form, Part, PostKind, Iget, Call, count_of, most_values, most_parts, is_size, are_sizes, is_part, has_lists_of, is_given, is_post_of, is_lawful_call, values_in_call, Word, size_of_text, list_of_text, ◌>>=◌, or_fault, size, list, after_prefix, form_and_all, form_of_text, given_of, given_parts, part, part_list, many_regions, region, id_of_post, posted, put_call, get_call, post_values, is_posted, new_id, post_call, plain_call, post_of_text, call_of, size_read, faultless_some, found_row, made_no_values, made_no_post, nat_tests, common_steps}
use Rattle.nc_base.specs.declared.errors.ScriptKind.{ScriptKind}
use Rattle.nc_base.specs.declared.errors.ScriptKind.TheVariants as kind
use Rattle.nc_base.specs.declared.request.Form.TheVariants as form
use Rattle.script_laws.proofs.ListLaws.{all_pass, found_all}
use Rattle.script_laws.proofs.StepLaws.{first_then, then_with, word_then, unless, ok_then, by_some, unless_refused, read_as, whole_line}
use Rattle.script_laws.proofs.ValueLaws.{FitsValues, values_read}

-- ---- sizes and lists of them

size_word : (ws : List Word) → IfOk (size ws) (λ r. r.0 < 2 ^ 63)
size_word ws = read_as size_of_text kind.BadNumber ws (λ n. n < 2 ^ 63) size_read

sizes_read : (w : List ℕ) (ns : List ℕ) → list_of_text w ≡ Some ns → are_sizes ns ≡ true
sizes_read w ns h = grind (arith, nat_tests, option_and_then, if_some_at (λ xs. AllByRecursion (λ n. n < 2 ^ 63) xs), found_all (λ n. n < 2 ^ 63) size_of_text size_read, all_pass is_size (λ n. n < 2 ^ 63) (λ n small. lt-ltb n (2 ^ 63) small) ns)

sizes_then : {B : Type 0} (ws : List Word) (g : List ℕ × List Word → Result B ScriptKind) (P : B → Type 0) → ((r : List ℕ × List Word) → are_sizes r.0 ≡ true → IfOk (g r) P) → IfOk (list ws >>= g) P
sizes_then ws g P h = word_then list_of_text kind.BadNumber ws g P (λ ns. are_sizes ns ≡ true) sizes_read h

-- ---- regions

given_fits : (f : Form) (s c d m : List ℕ) → has_lists_of f (given_of f s c d m) ≡ true → are_sizes s ≡ true → are_sizes c ≡ true → are_sizes d ≡ true → are_sizes m ≡ true
    → is_given (given_of f s c d m) ≡ true
given_fits f s c d m lists starts counts strides steps = grind (arith, nat_tests, and_from)

part_read : (ws : List Word) → IfOk (part ws) (λ r. is_part r.0 ≡ true)
part_read ws = sizes_then ws _ _ (λ s starts. sizes_then s.1 _ _ (λ c counts. and_from _ _ starts counts))

record AreParts (n : ℕ) (ps : List Part) : Type 0 where
  good : AllByRecursion (λ p. is_part p ≡ true) ps
  long : length ps ≡ n

part_list_read : (n total : ℕ) (found : List Part) (ws : List Word) → length found + n ≡ total → AllByRecursion (λ p. is_part p ≡ true) found
    → IfOk (part_list n found ws) (λ r. AreParts total r.0)
part_list_read zero total found ws e h = record { good = h; long = omega arith }
part_list_read (suc n) total found ws e h =
    ok_then (part ws) (λ p. part_list n (found ++ p.0 ∷ []) p.1) _ (λ r. is_part r.0 ≡ true) (part_read ws) (λ p good.
    part_list_read n total (found ++ p.0 ∷ []) p.1 (omega (arith, length-append found (p.0 ∷ []))) (each_push (λ q. is_part q ≡ true) found p.0 h good))

parts_fit : (ps : List Part) (n : ℕ) → AreParts n ps → (n == 0) ≡ false → n ≤ most_parts → is_given (given_parts ps) ≡ true
parts_fit ps n all some few = grind (arith, nat_tests, each_passes is_part ps all.good, le-leb (length ps) most_parts, and_from)

many_read : (ws : List Word) → IfOk (many_regions ws) (λ r. is_given r.0 ≡ true)
many_read ws =
    first_then (size ws) _ _ (λ n _.
    unless _ _ _ _ (λ some. unless _ _ _ _ (λ few.
    then_with (part_list n.0 [] n.1) _ _ (λ r. AreParts n.0 r.0) (part_list_read n.0 n.0 [] n.1 (omega arith) tt) (λ p all. parts_fit p.0 n.0 all some (ltb-false most_parts n.0 few)))))

region_read : (f : Form) (ws : List Word) → IfOk (region f ws) (λ r. is_given r.0 ≡ true)
region_read form.Var ws = refl
region_read form.Var1 ws = sizes_then ws _ _ (λ s starts. given_fits form.Var1 s.0 [] [] [] refl starts refl refl refl)
region_read form.Vara ws = sizes_then ws _ _ (λ s starts. sizes_then s.1 _ _ (λ c counts. given_fits form.Vara s.0 c.0 [] [] refl starts counts refl refl))
region_read form.Vars ws = sizes_then ws _ _ (λ s starts. sizes_then s.1 _ _ (λ c counts. sizes_then c.1 _ _ (λ d strides. given_fits form.Vars s.0 c.0 d.0 [] refl starts counts strides refl)))
region_read form.Varm ws =
    sizes_then ws _ _ (λ s starts. sizes_then s.1 _ _ (λ c counts. sizes_then c.1 _ _ (λ d strides.
    sizes_then d.1 _ _ (λ m steps. given_fits form.Varm s.0 c.0 d.0 m.0 refl starts counts strides steps))))
region_read form.Varn ws = many_read ws

-- ---- calls

-- a call of rank r, one of so many, after its own calls and so many values
pub record FitsCall (ranks r before : ℕ) (own : List Call) (c : Call) : Type 0 where
  pub lawful : is_lawful_call ranks r c ≡ true
  pub few : before + values_in_call c ≤ most_values
  pub fresh : IfSome (id_of_post c) (λ id. is_posted id (posted own) ≡ false)

put_read : (ranks r before : ℕ) (own : List Call) (all : Bool) (f : Form) (ws : List Word) → before ≤ most_values → IfOk (put_call all f before ws) (FitsCall ranks r before own)
put_read ranks r before own all f ws h = grind (arith, common_steps, first_then, then_with, region_read f, values_read None before, FitsValues)

get_read : (ranks r before : ℕ) (own : List Call) (all : Bool) (f : Form) (ws : List Word) → before ≤ most_values → IfOk (get_call all f ws) (FitsCall ranks r before own)
get_read ranks r before own all f ws h = grind (arith, common_steps, first_then, then_with, region_read f)

record FitsPost (k : PostKind) (before : ℕ) (vs : Values) : Type 0 where
  lawful : is_post_of k vs ≡ true
  few : before + count_of vs ≤ most_values

post_values_read : (k : PostKind) (before : ℕ) (ws : List Word) → before ≤ most_values → IfOk (post_values k before ws) (FitsPost k before)
post_values_read Iget before ws h = whole_line (Numbers []) ws (FitsPost Iget before) (record { lawful = refl; few = omega arith })
post_values_read k before ws h = grind (arith, nat_tests, values_read None before ws h)

id_read : (ids : List ℕ) (ws : List Word) → IfOk (new_id ids ws) (λ r. is_posted r.0 ids ≡ false)
id_read ids ws = grind (arith, nat_tests, first_then, then_with, unless_refused)

post_read : (ranks r before : ℕ) (own : List Call) (k : PostKind) (f : Form) (ws : List Word) → before ≤ most_values → IfOk (post_call k (posted own) f before ws) (FitsCall ranks r before own)
post_read ranks r before own k f ws h = grind (arith, common_steps, first_then, then_with, id_read (posted own) ws, region_read f, post_values_read k before)

plain_read : (ranks r before : ℕ) (own : List Call) (w : List ℕ) (ws : List Word) → before ≤ most_values → IfOk (plain_call ranks r w ws) (FitsCall ranks r before own)
plain_read ranks r before own w ws h = grind (arith, nat_tests, first_then, found_row, faultless_some, then_with, size_word, whole_line, lt-ltb, made_no_values, made_no_post)

pub call_read : (ranks r before : ℕ) (own : List Call) (w : List ℕ) (ws : List Word) → before ≤ most_values → IfOk (call_of ranks r own before w ws) (FitsCall ranks r before own)
call_read ranks r before own w ws h =
    by_some (after_prefix (codes "put_") w) _ _ _ (λ rest _. first_then (or_fault kind.UnknownWord (form_and_all rest)) _ _ (λ f _. put_read ranks r before own f.1 f.0 ws h))
    (by_some (after_prefix (codes "get_") w) _ _ _ (λ rest _. first_then (or_fault kind.UnknownWord (form_and_all rest)) _ _ (λ f _. get_read ranks r before own f.1 f.0 ws h))
    (by_some (post_of_text w) _ _ _ (λ k _. first_then (or_fault kind.UnknownWord (form_of_text k.1)) _ _ (λ f _. post_read ranks r before own k.0 f ws h)) (plain_read ranks r before own w ws h)))
