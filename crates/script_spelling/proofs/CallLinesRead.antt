-- The lines of calls that are read spell them, and each rank has the calls of its lines.
use Rattle.script_spelling.proofs.Words.{◌≡◌, ◌∙◌, ℕ, zero, suc, ◌+◌, ◌<◌, List, [], ◌∷◌, ◌++◌, map, length, replicate, Bool, true, false, cond, nat_lt, ◌==◌, Some, None, slice_set, Ok, refl, sym, ap, subst, append_assoc, append-nil, length-set, arith, bytes_eq, codes, AllZip, cons_option, list_all, range_with_len, and_from, lt-ltb, ltb-true, eq-eqb, ne_eqb, Call, Word, Plain, Quoted, Broken, Line, begins_rank, digits_value, next, Called, calls_of, rank_of_text, with_call, call_line, called_after, at_line, call_step, data_part, SpellsCallLine, calls_in, nat_tests}
use Rattle.script_spelling.proofs.Steps.{went, same_ok, whole_value, tested, carried}
use Rattle.script_spelling.proofs.Places.{bytes_same}
use Rattle.script_spelling.proofs.CallCounts.{line_ok}
use Rattle.script_spelling.proofs.CallsRead.{call_spelled}

-- ---- the calls of each rank, with more

-- each rank from a on has these calls behind its own
abbrev pub with_calls : (ℕ → List Call) → ℕ → List (List Call) → List (List Call)
with_calls more a [] = []
with_calls more a (own ∷ calls) = (own ++ more a) ∷ with_calls more (a + 1) calls

pub no_more : (a : ℕ) (calls : List (List Call)) → calls ≡ with_calls (λ r. []) a calls
no_more a [] = refl
no_more a (own ∷ calls) = ap (λ (xs : List Call). xs ∷ calls) (sym (append-nil own)) ∙ ap (λ (xs : List (List Call)). (own ++ []) ∷ xs) (no_more (a + 1) calls)

pub from_none : (more : ℕ → List Call) (a n : ℕ) → with_calls more a (replicate n []) ≡ map more (range_with_len a n)
from_none more a zero = refl
from_none more a (suc n) = ap (λ (xs : List (List Call)). more a ∷ xs) (from_none more (a + 1) n)

-- a call of this rank goes first
abbrev pub first_of : ℕ → Call → (ℕ → List Call) → ℕ → List Call
first_of r c more k = cons_option (cond (r == k) (Some c) None) (more k)

pub here : (r k : ℕ) (c : Call) (more : ℕ → List Call) → r ≡ k → first_of r c more k ≡ c ∷ more k
here r k c more e = ap (λ (b : Bool). cons_option (cond b (Some c) None) (more k)) (eq-eqb r k e)

all_later : (r a : ℕ) (c : Call) (more : ℕ → List Call) (calls : List (List Call)) → r < a → with_calls more a calls ≡ with_calls (first_of r c more) a calls
all_later r a c more [] low = refl
all_later r a c more (own ∷ calls) low = grind (arith, nat_tests, all_later r (a + 1) c more calls (omega arith))

pub one_first : (more : ℕ → List Call) (a i r : ℕ) (c : Call) (calls : List (List Call)) → a + i ≡ r → with_calls more a (slice_set calls i (calls_of i calls ++ c ∷ [])) ≡ with_calls (first_of r c more) a calls
one_first more a i r c [] e = refl
one_first more a zero r c (own ∷ calls) e = grind (arith, nat_tests, append_assoc, here, all_later)
one_first more a (suc i) r c (own ∷ calls) e = grind (arith, nat_tests, one_first more (a + 1) i r c calls (omega arith), ne_eqb, slice_set)

-- ---- a line

rank_is : (ranks : ℕ) (w : List ℕ) (r : ℕ) → rank_of_text ranks w ≡ Ok r → (begins_rank w ≡ true) × (digits_value w ≡ r) × (r < ranks)
rank_is ranks w r h = grind (arith, nat_tests, nat_lt, same_ok, ltb-true)

-- the words behind a rank spell a call of its
abbrev SpellsRest : List Word → ℕ → Call → Type 0
SpellsRest ws r c = (w : List ℕ) → begins_rank w ≡ true → digits_value w ≡ r → SpellsCallLine (Plain w ∷ ws) (r, c)

rest_spelled : (d : Called) (r : ℕ) (ws : List Word) (c : Call) → call_line d r ws ≡ Ok c → SpellsRest ws r c
rest_spelled d r [] c h w a b = absurd (cc)
rest_spelled d r (Broken ∷ ws) c h w a b = absurd (cc)
rest_spelled d r (Quoted text ∷ ws) c h w a b = absurd (cc)
rest_spelled d r (Plain word ∷ ws) c h w a b = grind (arith, nat_tests, call_spelled (length d.calls) r (calls_of r d.calls) d.values word ws c h)

pub record CallTaken (d : Called) (words : List Word) (next : Called) : Type 0 where
  pub rank : ℕ
  pub call : Call
  pub spells : SpellsCallLine words (rank, call)
  pub low : rank < length d.calls
  pub same : next ≡ with_call rank call d

call_taken : (d : Called) (first : List ℕ) (ws : List Word) (next : Called) → called_after d first ws ≡ Ok next → CallTaken d (Plain first ∷ ws) next
call_taken d first ws next h =
    let a = went (rank_of_text (length d.calls) first) _ next h in
    let b = went (call_line d a.value ws) _ next a.rest in
    grind (arith, nat_tests, rank_is (length d.calls) first a.value a.first, rest_spelled d a.value ws b.value b.first first (rank_is (length d.calls) first a.value a.first).0, same_ok (with_call a.value b.value d) next b.rest)

-- ---- all lines

abbrev pub words_of : Line → List Word
words_of l = l.first ∷ l.rest

-- the lines up to `end`, and the calls of which they tell
pub record CallsRead (d : Called) (lines : List Line) (r : ℕ × (Called × List Line)) : Type 0 where
  pub own : List (List Word)
  pub are : map words_of lines ≡ own ++ (Plain (codes "end") ∷ []) ∷ map words_of r.1.1
  pub called : List (ℕ × Call)
  pub spells : AllZip SpellsCallLine own called
  pub there : list_all (λ c. nat_lt c.0 (length d.calls)) called ≡ true
  pub calls : r.1.0.calls ≡ with_calls (λ k. calls_in k called) 0 d.calls

ended_calls : (d : Called) (l : Line) (lines : List Line) → words_of l ≡ Plain (codes "end") ∷ [] → CallsRead d (l ∷ lines) (l.number, (d, lines))
ended_calls d l lines e = record {
  own = [];
  are = ap (λ (xs : List Word). xs ∷ map words_of lines) e;
  called = [];
  spells = tt;
  there = refl;
  calls = no_more 0 d.calls;
}

more_calls : (d : Called) (l : Line) (lines : List Line) (next : Called) (r : ℕ × (Called × List Line)) → CallTaken d (words_of l) next → CallsRead next lines r → CallsRead d (l ∷ lines) r
more_calls d l lines next r taken more =
    let long : length next.calls ≡ length d.calls = ap (λ (x : Called). length x.calls) taken.same ∙ length-set d.calls taken.rank (calls_of taken.rank d.calls ++ taken.call ∷ []) in
    record {
      own = words_of l ∷ more.own;
      are = ap (λ (xs : List (List Word)). words_of l ∷ xs) more.are;
      called = (taken.rank, taken.call) ∷ more.called;
      spells = (taken.spells, more.spells);
      there = and_from _ _ (lt-ltb taken.rank (length d.calls) taken.low) (subst (λ (n : ℕ). list_all (λ c. nat_lt c.0 n) more.called ≡ true) long more.there);
      calls = grind (arith, nat_tests, one_first, more.calls, more.called, taken.same, taken.rank, taken.call, d.calls, with_calls, calls_in);
    }

-- a line is `end`, or a call is taken
abbrev StepTaken : Called → List Word → Bool × Called → Type 0
StepTaken d words (true, next) = (words ≡ Plain (codes "end") ∷ []) × (next ≡ d)
StepTaken d words (false, next) = CallTaken d words next

step_taken : (d : Called) (w : Word) (ws : List Word) (s : Bool × Called) → call_step d w ws ≡ Ok s → StepTaken d (w ∷ ws) s
step_taken d Broken ws s h = absurd (cc)
step_taken d (Quoted text) ws s h = absurd (cc)
step_taken d (Plain first) ws s h =
    tested (bytes_eq first (codes "end")) _ _ _ h
    (λ e k.
    let end = whole_value ((true, d), ws) s k in
    subst (StepTaken d (Plain first ∷ ws)) end.0 (ap (λ (x : List ℕ). Plain x ∷ ws) (bytes_same first (codes "end") e) ∙ ap (λ (xs : List Word). Plain (codes "end") ∷ xs) end.1, refl))
    (λ e k.
    let a = went (called_after d first ws) _ s k in
    subst (StepTaken d (Plain first ∷ ws)) (same_ok (false, a.value) s a.rest) (call_taken d first ws a.value a.first))

pub calls_read : (past : ℕ) (d : Called) (lines : List Line) (r : ℕ × (Called × List Line)) → data_part past d lines ≡ Ok r → CallsRead d lines r
calls_read past d [] r h = absurd (cc)
calls_read past d (l ∷ lines) r h =
    let a = carried (at_line l.number (call_step d l.first l.rest)) _ r h in
    let told = step_taken d l.first l.rest a.value (line_ok l.number _ a.value a.first) in
    let next = a.value.1 in
    let said = λ (b : Bool) (i : a.value.0 ≡ b). subst (λ (x : Bool). StepTaken d (words_of l) (x, next)) i told in
    tested a.value.0 _ _ _ a.rest
    (λ i k. subst (CallsRead d (l ∷ lines)) (ap (λ (x : Called). (l.number, (x, lines))) (sym (said true i).1) ∙ same_ok (l.number, (next, lines)) r k) (ended_calls d l lines (said true i).0))
    (λ i k. more_calls d l lines next r (said false i) (calls_read past next lines r k))
