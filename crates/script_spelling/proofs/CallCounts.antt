-- The calls of ranks: how many values they have, and ids that differ; a text by its lines.
use Rattle.script_spelling.proofs.Words.{◌≡◌, ℕ, zero, suc, ◌+◌, ◌≤◌, ◌<◌, List, [], ◌∷◌, ◌++◌, map, length, replicate, true, false, nat_lt, slice_set, Result, Ok, Err, refl, arith, and_parts, ScriptKind, ScriptErr, Call, values_in_call, calls_of, at_line, nat_tests, sum, ◌==◌, None, or_parts, or_from, not-true, filter_map-append, list_any-append, are_different, posted_ids, posted, is_posted, Option, Some, utf8_valid_len, Script, text_lines, significant, script_of_lines, most_bytes, most_lines, Reads, le-ltb, ltb-false, sum_cons, sum_more}
use Rattle.nc_base.specs.declared.request.Call.TheVariants as call

pub sum_later : {A : Type 0} (f : A → ℕ) (xs more : List A) → sum (map f xs) ≤ sum (map f (xs ++ more))
sum_later f [] more = omega arith
sum_later f (x ∷ xs) more = omega (arith, sum_later f xs more, sum_cons f x xs, sum_cons f x (xs ++ more))

abbrev pub count : List Call → ℕ
count cs = sum (map values_in_call cs)

abbrev pub count_all : List (List Call) → ℕ
count_all calls = sum (map (λ own. sum (map values_in_call own)) calls)

pub count_set : (calls : List (List Call)) (r : ℕ) (c : Call) → r < length calls → count_all (slice_set calls r (calls_of r calls ++ c ∷ [])) ≡ count_all calls + values_in_call c
count_set [] r c low = absurd (omega arith)
count_set (own ∷ more) zero c low = omega (arith, sum_more values_in_call own c, sum_cons count own more, sum_cons count (own ++ c ∷ []) more)
count_set (own ∷ more) (suc r) c low =
    omega (arith, count_set more r c (omega arith), sum_cons count own more, sum_cons count own (slice_set more r (calls_of r more ++ c ∷ [])))

pub line_ok : {A : Type 0} (n : ℕ) (r : Result A ScriptKind) (x : A) → at_line n r ≡ Ok x → r ≡ Ok x
line_ok n r x h = grind (arith, nat_tests)

-- the id of a post is none that its rank has posted
abbrev pub NewId : List Call → Call → Type 0
NewId own (call.Post id k n g vs) = is_posted id (posted own) ≡ false
NewId own _ = Unit {0}

pub apart : (ids more : List ℕ) (id : ℕ) → are_different (ids ++ id ∷ more) ≡ true → is_posted id ids ≡ false
apart [] more id h = refl
apart (n ∷ ids) more id h = grind (arith, nat_tests, apart ids more id, and_parts, list_any-append, not-true, or_parts, or_from)

pub new_id : (own cs : List Call) (c : Call) → are_different (posted_ids (own ++ c ∷ cs)) ≡ true → NewId own c
new_id own cs c h = grind (arith, nat_tests, apart, filter_map-append)

pub count_empty : (n : ℕ) → count_all (replicate n []) ≡ 0
count_empty zero = refl
count_empty (suc n) = omega (arith, count_empty n, sum_cons count [] (replicate n []))

abbrev pub finish_by : ℕ → Option ScriptKind → Result (Unit {0}) ScriptErr
finish_by n o = elim o [ None ↦ Ok tt | Some e ↦ Err (record { line = n; kind = e }) ]

-- a text that is read
pub record IsText (text : List ℕ) (script : Script) : Type 0 where
  pub short : length text ≤ most_bytes
  pub few : length (text_lines text) ≤ most_lines
  pub valid : (utf8_valid_len text == length text) ≡ true
  pub told : script_of_lines (length (text_lines text) + 1) (significant text) ≡ Ok script

pub is_text : (text : List ℕ) (script : Script) → Reads text script → IsText text script
is_text text script h = grind (arith, nat_tests, nat_lt, ltb-false)

pub text_again : (text : List ℕ) (script : Script) → length text ≤ most_bytes → (utf8_valid_len text == length text) ≡ true → length (text_lines text) ≤ most_lines
    → script_of_lines (length (text_lines text) + 1) (significant text) ≡ Ok script → Reads text script
text_again text script short valid few told = grind (arith, nat_tests, le-ltb)
