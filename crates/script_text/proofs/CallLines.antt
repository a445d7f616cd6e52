-- The calls of all ranks, printed rank by rank, are read as the same calls.
use Rattle.script_text.proofs.Words.{filter_map-append, all_joined, is_expressible_call, ◌≡◌, ℕ, zero, suc, ◌+◌, ◌≤◌, ◌<◌, List, [], ◌∷◌, ◌++◌, map, length, Bool, true, false, not, nat_lt, refl, ap, append-nil, arith, decimal, list_all, enumerate_from, and_parts, and_from, ne_eqb, Call, call_word, shown_call, Word, Plain, Line, is_comment, is_digit, flat_map-append, nat_tests, AllZip, None, Some, SpellsCall, SpellsCallLine, calls_in, cond, cons_option, is_lawful_call, range_with_len, sym, ◌==◌, lt-ltb, common_steps}
use Rattle.std.proofs.Common.{flat_map}
use Rattle.script_text.proofs.Lines.{is_line, spelled, numbered}
use Rattle.script_text.proofs.Numerals.{decimal_numeral, decimal_plain}
use Rattle.script_text.proofs.PrintedValues.{is_read}
use Rattle.script_text.proofs.CallTokens.{call_tokens, call_spelled, call_plain}
use Rattle.script_text.proofs.PrintedCalls.{call_named, call_shown}
use Rattle.script_spelling.proofs.CallLinesRead.{words_of}
use Rattle.list_laws.proofs.Truth.{either}

-- ---- calls that were read

abbrev pub are_named : List (List Call) → Bool
are_named calls = list_all (list_all is_expressible_call) calls

-- what a line has as its words
abbrev pub are_read : List Line → Bool
are_read lines = list_all (λ (l : Line). list_all is_read (words_of l)) lines

all_said : (wss : List (List Word)) (called : List (ℕ × Call)) → AllZip SpellsCallLine wss called → list_all (list_all is_read) wss ≡ true → list_all (λ (c : ℕ × Call). is_expressible_call c.1) called ≡ true
all_said (ws ∷ wss) ((r, c) ∷ called) ((w, more, are, digits, same, spells), h) read =
    grind (arith, nat_tests, call_named, all_said wss called h, list_all, is_expressible_call)
all_said wss called h read = grind (arith, nat_tests)

in_rank_said : (r : ℕ) (called : List (ℕ × Call)) → list_all (λ (c : ℕ × Call). is_expressible_call c.1) called ≡ true → list_all is_expressible_call (calls_in r called) ≡ true
in_rank_said r [] h = refl
in_rank_said r (c ∷ called) h = grind (arith, nat_tests, in_rank_said r called, and_parts, and_from, cons_option)

ranks_said : (a n : ℕ) (called : List (ℕ × Call)) → list_all (λ (c : ℕ × Call). is_expressible_call c.1) called ≡ true → are_named (map (λ r. calls_in r called) (range_with_len a n)) ≡ true
ranks_said a zero called h = refl
ranks_said a (suc n) called h = and_from _ _ (in_rank_said a called h) (ranks_said (a + 1) n called h)

pub calls_named : (n : ℕ) (wss : List (List Word)) (called : List (ℕ × Call)) → AllZip SpellsCallLine wss called → list_all (list_all is_read) wss ≡ true → are_named (map (λ r. calls_in r called) (range_with_len 0 n)) ≡ true
calls_named n wss called spells read = ranks_said 0 n called (all_said wss called spells read)

-- ---- printed lines of calls

abbrev pub call_tokens_of : ℕ → Call → List Word
call_tokens_of r c = Plain (decimal r) ∷ Plain (call_word c) ∷ call_tokens c

abbrev pub own_lines : ℕ → List Call → List (List Word)
own_lines r cs = map (call_tokens_of r) cs

abbrev pub call_lines : ℕ → List (List Call) → List (List Word)
call_lines r [] = []
call_lines r (own ∷ more) = own_lines r own ++ call_lines (r + 1) more

own_spelled : (r : ℕ) (cs : List Call) → flat_map spelled (own_lines r cs) ≡ flat_map (shown_call r) cs
own_spelled r [] = refl
own_spelled r (c ∷ cs) = grind (arith, nat_tests, own_spelled r cs, decimal, flat_map, call_spelled)

pub calls_spelled : (r : ℕ) (calls : List (List Call)) → flat_map spelled (call_lines r calls) ≡ flat_map (λ p. flat_map (shown_call p.0) p.1) (enumerate_from r calls)
calls_spelled r [] = refl
calls_spelled r (own ∷ more) = grind (arith, nat_tests, calls_spelled (r + 1) more, flat_map-append, flat_map, own_spelled)

-- the calls with their ranks, those of rank r first
abbrev pub called_from : ℕ → List (List Call) → List (ℕ × Call)
called_from r [] = []
called_from r (own ∷ more) = map (λ (c : Call). (r, c)) own ++ called_from (r + 1) more

digits_no_comment : (ds : List ℕ) → 0 < length ds → list_all is_digit ds ≡ true → is_comment (Plain ds) ≡ false
digits_no_comment ds some h = grind (arith, nat_tests, ne_eqb, and_parts)

line_spells : (r : ℕ) (c : Call) → r < 64 → SpellsCall (call_tokens c) c → SpellsCallLine (call_tokens_of r c) (r, c)
line_spells r c low spells = let d = decimal_numeral r (omega arith) in (decimal r, call_tokens c, refl, and_from _ _ (lt-ltb 0 (length (decimal r)) d.some) d.digits, d.value, spells)

-- lines that are cut again, and spell these calls
abbrev pub LinesShown : List (List Word) → List (ℕ × Call) → Type 0
LinesShown wss called = (list_all is_line wss ≡ true) × AllZip SpellsCallLine wss called

own_shown : (ranks r : ℕ) (cs : List Call) → r < 64 → list_all (is_lawful_call ranks r) cs ≡ true → list_all is_expressible_call cs ≡ true → LinesShown (own_lines r cs) (map (λ (c : Call). (r, c)) cs)
own_shown ranks r [] low lawful h = (refl, tt)
own_shown ranks r (c ∷ cs) low lawful h =
    let a = and_parts (is_lawful_call ranks r c) (list_all (is_lawful_call ranks r) cs) lawful in
    grind (arith, nat_tests, call_shown, own_shown ranks r cs low a.1 (and_parts (is_expressible_call c) (list_all is_expressible_call cs) h).1, decimal_numeral, digits_no_comment, decimal_plain, call_plain, and_from, not, decimal, line_spells)

pub zip_joined : {A B : Type 0} (R : A → B → Type 0) (xs : List A) (ys : List B) (more : List A) (last : List B) → AllZip R xs ys → AllZip R more last → AllZip R (xs ++ more) (ys ++ last)
zip_joined R (x ∷ xs) (y ∷ ys) more last h k = (h.0, zip_joined R xs ys more last h.1 k)
zip_joined R xs ys more last h k = grind (arith, nat_tests)

pub calls_shown : (ranks r : ℕ) (calls : List (List Call)) → r + length calls ≤ 64 → list_all (λ own. list_all (is_lawful_call ranks own.0) own.1) (enumerate_from r calls) ≡ true → are_named calls ≡ true
    → LinesShown (call_lines r calls) (called_from r calls)
calls_shown ranks r [] low lawful h = (refl, tt)
calls_shown ranks r (own ∷ more) low lawful h = grind (arith, common_steps, own_shown ranks r own, calls_shown ranks (r + 1) more, all_joined, zip_joined)

-- ---- and they are read again

own_below : (ranks r : ℕ) (cs : List Call) → r < ranks → list_all (λ (c : ℕ × Call). nat_lt c.0 ranks) (map (λ (c : Call). (r, c)) cs) ≡ true
own_below ranks r [] low = refl
own_below ranks r (c ∷ cs) low = and_from _ _ (lt-ltb r ranks low) (own_below ranks r cs low)

pub all_below : (ranks r : ℕ) (calls : List (List Call)) → r + length calls ≤ ranks → list_all (λ (c : ℕ × Call). nat_lt c.0 ranks) (called_from r calls) ≡ true
all_below ranks r [] low = refl
all_below ranks r (own ∷ more) low = all_joined (λ (c : ℕ × Call). nat_lt c.0 ranks) (map (λ (c : Call). (r, c)) own) (called_from (r + 1) more) (own_below ranks r own (omega arith)) (all_below ranks (r + 1) more (omega arith))

own_in : (r k : ℕ) (cs : List Call) → calls_in k (map (λ (c : Call). (r, c)) cs) ≡ cond (r == k) cs []
own_in r k [] = either (λ (cs : List Call). [] ≡ cs) (r == k) [] [] (λ e. refl) (λ e. refl)
own_in r k (c ∷ cs) = grind (arith, nat_tests, own_in r k cs)

rank_in : (r k : ℕ) (own : List Call) (more : List (List Call)) → calls_in k (called_from r (own ∷ more)) ≡ cond (r == k) own [] ++ calls_in k (called_from (r + 1) more)
rank_in r k own more =
    grind (arith, nat_tests, filter_map-append (λ (c : ℕ × Call). cond (c.0 == k) (Some c.1) None) (map (λ (c : Call). (r, c)) own) (called_from (r + 1) more), own_in r k own)

none_in : (r k : ℕ) (calls : List (List Call)) → k < r → calls_in k (called_from r calls) ≡ []
none_in r k [] low = refl
none_in r k (own ∷ more) low = grind (arith, nat_tests, rank_in r k own more, none_in (r + 1) k more)

-- each rank has its calls among them
ranks_in : (f : ℕ → List Call) (r : ℕ) (calls : List (List Call)) → ((k : ℕ) → r ≤ k → f k ≡ calls_in k (called_from r calls)) → map f (range_with_len r (length calls)) ≡ calls
ranks_in f r [] h = refl
ranks_in f r (own ∷ more) h = grind (arith, nat_tests, rank_in, none_in, append-nil, ranks_in f (r + 1) more, range_with_len, calls_in, called_from)

pub words_numbered : (n : ℕ) (wss : List (List Word)) → list_all is_line wss ≡ true → map words_of (numbered n wss) ≡ wss
words_numbered n [] h = refl
words_numbered n ([] ∷ wss) h = absurd (cc)
words_numbered n ((w ∷ ws) ∷ wss) h = ap (λ (xs : List (List Word)). (w ∷ ws) ∷ xs) (words_numbered (n + 1) wss (and_parts (is_line (w ∷ ws)) (list_all is_line wss) h).1)

pub calls_again : (calls : List (List Call)) → calls ≡ map (λ k. calls_in k (called_from 0 calls)) (range_with_len 0 (length calls))
calls_again calls = sym (ranks_in (λ k. calls_in k (called_from 0 calls)) 0 calls (λ k le. refl))
