-- Lines that spell the calls of a lawful script are read as its calls.
use Rattle.script_spelling.proofs.Words.{◌≡◌, ◌∙◌, ℕ, zero, suc, ◌+◌, ◌<◌, ◌≤◌, List, [], ◌∷◌, ◌++◌, map, drop, length, Bool, true, false, nat_lt, Some, slice_get, Result, Ok, Err, sym, ap, subst, length-set, arith, bytes_eq, codes, AllZip, list_all, enumerate_from, and_parts, cond-true, lt-ltb, ltb-true, list_all-append, passes_at, first_same, entry_numbered, ScriptKind, Call, most_values, is_lawful_call, values_in_call, posted_ids, are_different, call_word, Word, Plain, Line, begins_rank, digits_value, Called, calls_of, with_call, call_line, call_of, called_after, call_step, data_part, SpellsCall, SpellsCallLine, calls_in, nat_tests, sum_cons}
use Rattle.script_spelling.proofs.Steps.{go_on, by_false}
use Rattle.script_spelling.proofs.Places.{bytes_same}
use Rattle.script_spelling.proofs.CallCounts.{count, count_all, count_set, NewId, new_id, sum_later}
use Rattle.script_spelling.proofs.CallLinesRead.{with_calls, no_more, here, one_first, words_of}
use Rattle.script_spelling.proofs.CallsTold.{call_told}
use Rattle.nc_base.specs.declared.errors.ScriptKind.TheVariants as kind

-- ---- how many values there are

count_with : (more : ℕ → List Call) (a : ℕ) (calls : List (List Call)) → count_all calls ≤ count_all (with_calls more a calls)
count_with more a [] = omega arith
count_with more a (own ∷ calls) =
    omega (arith, count_with more (a + 1) calls, sum_later values_in_call own (more a), sum_cons count own calls, sum_cons count (own ++ more a) (with_calls more (a + 1) calls))

-- ---- what holds of the calls of all ranks, and of those that have been read

pub record LawfulCalls (ranks base : ℕ) (all : List (List Call)) : Type 0 where
  pub each : list_all (λ own. list_all (is_lawful_call ranks own.0) own.1) (enumerate_from 0 all) ≡ true
  pub ids : list_all (λ own. are_different (posted_ids own)) all ≡ true
  pub few : base + count_all all ≤ most_values

-- with those of later lines they are all
pub record Going (ranks base : ℕ) (all : List (List Call)) (later : List (ℕ × Call)) (d : Called) : Type 0 where
  pub calls : with_calls (λ k. calls_in k later) 0 d.calls ≡ all
  pub long : length d.calls ≡ ranks
  pub counted : d.values ≡ base + count_all d.calls

-- a rank's own calls, and those of later lines
own_among : (more : ℕ → List Call) (a r k : ℕ) (calls : List (List Call)) → a + r ≡ k → r < length calls → slice_get (with_calls more a calls) r ≡ Some (calls_of r calls ++ more k)
own_among more a r k [] e low = absurd (omega arith)
own_among more a zero k (own ∷ calls) e low = let same : a ≡ k = omega arith in ap (λ (j : ℕ). Some (own ++ more j)) same
own_among more a (suc r) k (own ∷ calls) e low = own_among more (a + 1) r k calls (omega arith) (omega arith)

-- the next call, between those of its rank
pub record Next (ranks : ℕ) (own : List Call) (r : ℕ) (c : Call) : Type 0 where
  pub lawful : is_lawful_call ranks r c ≡ true
  pub new : NewId own c

next_of : (ranks base r : ℕ) (all : List (List Call)) (own behind : List Call) (c : Call) → LawfulCalls ranks base all → slice_get all r ≡ Some (own ++ c ∷ behind) → Next ranks own r c
next_of ranks base r all own behind c lawful at =
    let same : 0 + r ≡ r = omega arith in
    let each = passes_at (λ x. list_all (is_lawful_call ranks x.0) x.1) (enumerate_from 0 all) lawful.each r (0 + r, own ++ c ∷ behind) (entry_numbered 0 all r (own ++ c ∷ behind) at) in
    let here_each = subst (λ (n : ℕ). list_all (is_lawful_call ranks n) (own ++ c ∷ behind) ≡ true) same each in
    record {
      lawful = (and_parts _ _ (and_parts _ _ (sym (list_all-append (is_lawful_call ranks r) own (c ∷ behind)) ∙ here_each)).1).0;
      new = new_id own behind c (passes_at (λ x. are_different (posted_ids x)) all lawful.ids r (own ++ c ∷ behind) at);
    }

-- ---- a line

no_end : (w : List ℕ) → begins_rank w ≡ true → bytes_eq w (codes "end") ≡ false
no_end w h = grind (arith, nat_tests, bytes_same w (codes "end"))

module _ (ranks base r : ℕ) (all : List (List Call)) (later : List (ℕ × Call)) (c : Call) (d : Called) where
  going_on : r < ranks → Going ranks base all ((r, c) ∷ later) d → Going ranks base all later (with_call r c d)
  going_on low going = grind (arith, nat_tests, one_first, length-set, count_set)

  called_told : (w : List ℕ) (more : List Word) → LawfulCalls ranks base all → Going ranks base all ((r, c) ∷ later) d → r < ranks → begins_rank w ≡ true → digits_value w ≡ r → SpellsCall more c
      → called_after d w (Plain (call_word c) ∷ more) ≡ Ok (with_call r c d)
  called_told w more lawful going low digits same h =
      let own = calls_of r d.calls in
      let later_own = λ (k : ℕ). calls_in k later in
      let at : slice_get all r ≡ Some (own ++ c ∷ later_own r) =
      grind (arith, nat_tests, slice_get, own_among, here, going.calls, d.calls, calls_in) in
      let next = next_of ranks base r all own (later_own r) c lawful at in
      let after = going_on low going in
      let fits : count_all (with_call r c d).calls ≤ count_all all = subst (λ (xs : List (List Call)). count_all (with_call r c d).calls ≤ count_all xs) after.calls (count_with later_own 0 (with_call r c d).calls) in
      let few : d.values + values_in_call c ≤ most_values = omega (arith, fits, after.counted, lawful.few) in
      let read : call_line d r (Plain (call_word c) ∷ more) ≡ Ok c =
      ap (λ (n : ℕ). call_of n r own d.values (call_word c) more) going.long ∙ call_told ranks r own d.values c more h next.lawful next.new few in
      grind (arith, nat_tests, go_on, nat_lt, cond-true, lt-ltb)

abbrev step_by : Called → List Word → Result (Bool × Called) ScriptKind
step_by d ws = elim ws [ [] ↦ Err kind.MissingWord | w ∷ more ↦ call_step d w more ]

step_told : (ranks base r : ℕ) (all : List (List Call)) (later : List (ℕ × Call)) (c : Call) (d : Called) (ws : List Word) → LawfulCalls ranks base all → Going ranks base all ((r, c) ∷ later) d → r < ranks → SpellsCallLine ws (r, c)
    → step_by d ws ≡ Ok (false, with_call r c d)
step_told ranks base r all later c d ws lawful going low (w, more, are, digits, same, h) =
    grind (arith, nat_tests, bytes_eq w (codes "end"), no_end w digits, called_told ranks base r all later c d w more lawful going low digits same h, by_false, codes, go_on)

-- ---- all lines

pub record DataTold (past : ℕ) (d : Called) (lines : List Line) (all : List (List Call)) : Type 0 where
  pub last : ℕ
  pub values : ℕ
  pub read : data_part past d lines ≡ Ok (last, (record { calls = all; values = values }, []))

ended_told : (past ranks base : ℕ) (all : List (List Call)) (l : Line) (d : Called) → words_of l ≡ Plain (codes "end") ∷ [] → Going ranks base all [] d → DataTold past d (l ∷ []) all
ended_told past ranks base all l d e going =
    record {
      last = l.number;
      values = d.values;
      read = grind (arith, nat_tests, no_more 0 d.calls, l.number, d.values, going.calls);
    }

pub data_told : (past ranks base : ℕ) (all : List (List Call)) (own : List (List Word)) (called : List (ℕ × Call)) (lines : List Line) (d : Called) → LawfulCalls ranks base all
    → map words_of lines ≡ own ++ (Plain (codes "end") ∷ []) ∷ [] → AllZip SpellsCallLine own called → list_all (λ c. nat_lt c.0 ranks) called ≡ true → Going ranks base all called d
    → DataTold past d lines all
data_told past ranks base all [] [] [] d lawful e say low going = absurd (cc)
data_told past ranks base all [] [] (l ∷ []) d lawful e say low going = ended_told past ranks base all l d (first_same _ _ _ _ e) going
data_told past ranks base all [] [] (l ∷ m ∷ lines) d lawful e say low going = absurd (cc)
data_told past ranks base all [] (c ∷ called) lines d lawful e say low going = absurd say
data_told past ranks base all (ws ∷ own) [] lines d lawful e say low going = absurd say
data_told past ranks base all (ws ∷ own) (c ∷ called) [] d lawful e say low going = absurd (cc)
data_told past ranks base all (ws ∷ own) ((r, c) ∷ called) (l ∷ lines) d lawful e say low going =
    let both = and_parts (nat_lt r ranks) _ low in
    grind (arith, nat_tests, first_same, step_told ranks base r all called c d ws lawful going (ltb-true r ranks both.0) say.0, data_told past ranks base all own called lines (with_call r c d) lawful (ap (drop 1) e) say.1 both.1, going_on ranks base r all called c d (ltb-true r ranks both.0) going)
