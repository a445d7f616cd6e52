use Rattle.serial_spec.proofs.Words.{◌≡◌, ◌≤◌, ◌<◌, ℕ, zero, suc, refl, inl, inr, ◌⊎◌, lit<, arith, List, [], ◌∷◌, length, Bool, true, false, Some, filter, slice_get, nat_lt, ◌==◌, list_all, range_with_len, and_first, if_some_at, no_none_some, Answer, Ok, Meet, Solo, Disk, file_a, whole_then_ends, dataset_a, at, Counted, canon, IsLegal, concerns, marks, answer, Going, setting_of, state_after, HasAnswers, IsTorn, StoodAt, in_step, in_close, between, may_change, eqb-true, ltb-true}
use Rattle.std.specs.Prelude.{◌||◌, ◌&&◌}
use Rattle.serial_spec.proofs.EachBelow.{each_below}
use Rattle.serial_spec.proofs.worked_steps.worked_cut_run.Goals as goal

-- ---- torn files by a test of each byte

either : (old may new : Bool) → (old || (may && new)) ≡ true → (old ≡ true) ⊎ (new ≡ true)
either true may new h = inl refl
either false true new h = inr h
either false false new h = cc

old_alone : (old may new : Bool) → may ≡ false → (old || (may && new)) ≡ true → old ≡ true
old_alone true may new m h = refl
old_alone false true new m h = cc
old_alone false false new m h = cc

abbrev is_torn_byte : List ℕ → List ℕ → List ℕ → List ℕ → ℕ → Bool
is_torn_byte held old new left x = at left x == at old x || (may_change held 4 x && at left x == at new x)

torn_by_test : (held old new left : List ℕ) → length old ≤ length left → length left ≤ length new
    → list_all (is_torn_byte held old new left) (range_with_len 0 (length left)) ≡ true → IsTorn held 4 old new left
torn_by_test held old new left long short tests =
    record { long = long; short = short; changed = changed; kept = kept }
  where
    passes : (x : ℕ) → x < length left → is_torn_byte held old new left x ≡ true
    passes x low = each_below (is_torn_byte held old new left) (length left) tests x low

    told : (x : ℕ) → (at left x == at old x) ≡ true ⊎ (at left x == at new x) ≡ true → (at left x ≡ at old x) ⊎ (at left x ≡ at new x)
    told x (inl e) = inl (eqb-true _ _ e)
    told x (inr e) = inr (eqb-true _ _ e)

    changed : (x : ℕ) → x < length left → may_change held 4 x ≡ true → (at left x ≡ at old x) ⊎ (at left x ≡ at new x)
    changed x low may = told x (either _ (may_change held 4 x) _ (passes x low))

    kept : (x : ℕ) → x < length left → may_change held 4 x ≡ false → at left x ≡ at old x
    kept x low not = eqb-true _ _ (old_alone _ (may_change held 4 x) _ not (passes x low))

-- ---- the second put holds the bytes of the first and the last element

abbrev held : List ℕ
held = 80 ∷ 81 ∷ 82 ∷ 83 ∷ 92 ∷ 93 ∷ 94 ∷ 95 ∷ []

abbrev IsLeftOfPut : List ℕ → Type 0
IsLeftOfPut left = IsTorn held 4 (file_a (1 ∷ 2 ∷ 3 ∷ 4 ∷ [])) (file_a (7 ∷ 2 ∷ 3 ∷ 8 ∷ [])) left

nothing_left : IsLeftOfPut (file_a (1 ∷ 2 ∷ 3 ∷ 4 ∷ []))
nothing_left = torn_by_test _ _ _ _ (omega arith) (omega arith) refl

half_left : IsLeftOfPut (file_a (7 ∷ 2 ∷ 3 ∷ 4 ∷ []))
half_left = torn_by_test _ _ _ _ (omega arith) (omega arith) refl

abbrev first_done : Counted × List Going
first_done = state_after whole_then_ends dataset_a (file_a (0 ∷ 0 ∷ 0 ∷ 0 ∷ [])) (Meet 0 ∷ [])

each_rank : (r : ℕ) → r < 1 → filter (concerns r) (Meet 0 ∷ Meet 1 ∷ []) ≡ marks whole_then_ends.calls r
each_rank zero h = refl
each_rank (suc r) h = absurd (omega (arith, h))

legal : IsLegal whole_then_ends (Meet 0 ∷ Meet 1 ∷ [])
legal = record { known_ranks = refl; each_rank = each_rank }

stood : (left : List ℕ) → IsLeftOfPut left → StoodAt whole_then_ends (setting_of whole_then_ends dataset_a) Disk first_done (Meet 0 ∷ []) left 0
unfolding canon
stood left h = in_step (Meet 1) [] legal (h, inl refl)

all_heard : 1 ≤ 1
all_heard = omega arith

one_answer : (r : ℕ) (g : Going) (own : List Answer) → slice_get first_done.1 r ≡ Some g → slice_get ((answer Ok ∷ []) ∷ []) r ≡ Some own
    → HasAnswers dataset_a Disk g own
unfolding canon
one_answer zero g own e f =
    if_some_at (λ (a : List Answer). HasAnswers dataset_a Disk g a) (slice_get ((answer Ok ∷ []) ∷ []) 0) own f
    (if_some_at (λ (x : Going). HasAnswers dataset_a Disk x (answer Ok ∷ [])) (slice_get first_done.1 0) g e (([], refl), all_heard))
one_answer (suc r) g own e f = no_none_some own f

-- ---- and what it can't leave

left_of_put : (left : List ℕ) → StoodAt whole_then_ends (setting_of whole_then_ends dataset_a) Disk first_done (Meet 0 ∷ []) left 0 → IsLeftOfPut left
unfolding canon
left_of_put left (in_step (Meet k) later may h) = h.0
left_of_put left (in_step (Solo zero n) later may h) = let e = may.each_rank 0 (lit< tt) in absurd cc
left_of_put left (in_step (Solo (suc r) n) later may h) = absurd (omega (arith, ltb-true (suc r) 1 (and_first (nat_lt (suc r) 1) _ may.known_ranks)))
left_of_put left (in_close whole h) = let e = whole.each_rank 0 (lit< tt) in absurd cc
left_of_put left (between later may memory file count) = absurd cc

nine_is_none : ◌≡◌ {A = ℕ} 9 1 ⊎ ◌≡◌ {A = ℕ} 9 7 → ⊥
nine_is_none (inl e) = omega (arith, e)
nine_is_none (inr e) = omega (arith, e)

pub returns : goal.returns
unfolding canon
returns c = record {
  old = record { stood = stood _ nothing_left; each_rank = refl; some_answers = one_answer };
  torn = record { stood = stood _ half_left; each_rank = refl; some_answers = one_answer };
  neither = λ h. nine_is_none ((left_of_put _ h.stood).changed 83 (lit< tt) refl);
  outside = λ h. absurd (omega (arith, (left_of_put _ h.stood).kept 87 (lit< tt) refl));
  answered = λ h. let own = (h.some_answers 0 _ _ refl refl).0 in let e = own.1 in absurd cc;
  unheard = λ h. absurd (omega (arith, (h.some_answers 0 _ _ refl refl).1));
}
