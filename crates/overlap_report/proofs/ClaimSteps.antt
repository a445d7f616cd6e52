-- The claims of a heap, as entries.
use Rattle.overlap_report.proofs.Words.{◌≡◌, ℕ, suc, ◌+◌, ◌-◌, ◌<◌, ◌≤◌, sym, subst, inr, List, [], ◌∷◌, ◌++◌, take, drop, get_or, length, Option, Some, slice_get, Bor, ◌^◌, arith, IsHeap, IsUpperBound, PopsGreatest, IsItemAt, option_copied, IfSome, IfNone, MatchOption, IsPermutation, nat_tests, Owned, In, HaveSame, same_permuted, in_map, map_in, in_extents, Claim, IsPartOfOne, owned_of, entries_of, part_of, claim_cmp, AreFit, StandsBy, Swept, IsTop, take_all, extents, IsInLine, IsByPlace, EndBelow, origins, IsOnceEach, IsResolved, common_steps, at_in}
use Rattle.overlap_report.proofs.SweepSteps.{swept_empty, swept_part, swept_more}
use Rattle.overlap_report.proofs.OriginSteps.{resolved_by}
use Rattle.overlap_report.proofs.KeySteps.{IsNext}

same_entries : (cs ds : List Claim) → IsPermutation cs ds → HaveSame (entries_of cs) (entries_of ds)
same_entries cs ds p = grind (arith, nat_tests, same_permuted cs ds p, map_in owned_of cs, in_map owned_of ds, map_in owned_of ds, in_map owned_of cs)

-- ---- the top

top_in : (cs : List Claim) (t : Claim) → Some t ≡ slice_get cs 0 → In (entries_of cs) (owned_of t)
top_in cs t e = in_map owned_of cs t (at_in cs 0 t (sym e))

-- of all claims of the heap the top stands last
last_of_all : (t : Claim) (cs : List Claim) → IsUpperBound claim_cmp t cs → (q : Owned) → In (entries_of cs) q → StandsBy q (owned_of t)
last_of_all t [] h q m = absurd m
last_of_all t (c ∷ cs) h q xs = grind (arith, nat_tests, last_of_all t cs h.1 q)

pub top_told : (cs : List Claim) (r : Option (Bor Claim)) → IsHeap claim_cmp cs → IsItemAt cs 0 r
    → IfSome r (λ x. IsHeap claim_cmp cs → IsUpperBound claim_cmp x.now cs) → MatchOption (option_copied r) (cs ≡ []) (λ t. IsTop cs t)
top_told cs r heap item greatest = grind (arith, common_steps, last_of_all, claim_cmp)

pub ended_fit : (cs ds : List Claim) (t : Claim) (p : ℕ) → IsPermutation cs (t ∷ ds) → AreFit p (entries_of cs) → AreFit p (entries_of ds)
ended_fit cs ds t p perm fit o m = fit o ((same_entries cs (t ∷ ds) perm).1 o (inr m))

pub ended_swept : (seen out : List Owned) (cs ds : List Claim) (t : Claim) (p : ℕ) → IsPermutation cs (t ∷ ds) → t.at + t.len ≤ p
    → Swept seen out (entries_of cs) p → Swept seen out (entries_of ds) p
ended_swept seen out cs ds t p perm ended s = grind (arith, nat_tests, same_entries cs (t ∷ ds) perm)

pub later_fit : (cs : List Claim) (p q : ℕ) → p ≤ q → AreFit p (entries_of cs) → AreFit q (entries_of cs)
later_fit cs p q h fit o m = let f = fit o m in let l = f.0 in (omega arith, f.1, f.2)

pub top_fit : (cs : List Claim) (t : Claim) (p : ℕ) → IsTop cs t → AreFit p (entries_of cs) → (t.at ≤ p) × (t.at + t.len < 2 ^ 62) × (t.from + t.len < 2 ^ 62)
top_fit cs t p top fit = fit (owned_of t) (top_in cs t (sym top.0))

pub served_swept : (seen out more : List Owned) (cs : List Claim) (t : Claim) (o : Owned) (p end : ℕ) → IsTop cs t → o ≡ part_of (owned_of t) p end → more ≡ out ++ o ∷ []
    → p < end → end ≤ t.at + t.len → Swept seen out (entries_of cs) p → Swept seen more (entries_of cs) end
served_swept seen out more cs t o p end top is added room high s =
    grind (arith, nat_tests, swept_part seen out (entries_of cs) (owned_of t) p end (top_in cs t (sym top.0)) top.1 room high s, top_in cs t (sym top.0))

pub none_swept : (seen out : List Owned) (cs : List Claim) (p stop : ℕ) → cs ≡ [] → p ≤ stop → Swept seen out (entries_of cs) p → Swept seen out (entries_of cs) stop
none_swept seen out cs p stop e h s = grind (arith, nat_tests, swept_empty seen out p stop h)

-- ---- a pop and a push

pub popped_heap : (cs ds : List Claim) (r : Option Claim) → IsHeap claim_cmp cs → IfSome r (λ x. PopsGreatest claim_cmp cs x ds) → IfNone r (ds ≡ cs) → IsHeap claim_cmp ds
popped_heap cs ds r heap pops same = grind (arith, nat_tests)

pub popped_rest : (cs ds : List Claim) (r : Option Claim) (n : ℕ) → IfSome r (λ x. x ≡ get_or cs 0 x) → IfSome r (λ x. IsPermutation cs (x ∷ ds)) → IfNone r (n ≡ 0) → length cs ≡ n
    → (t : Claim) → slice_get cs 0 ≡ Some t → IsPermutation cs (t ∷ ds)
popped_rest cs ds r n top perm none long t e = grind (arith, common_steps, get_or)

pub pushed_fit : (cs ds : List Claim) (t : Claim) (o : Owned) (p : ℕ) → owned_of t ≡ o → IsPermutation (t ∷ cs) ds → o.extent.at ≤ p → o.extent.at + o.extent.len < 2 ^ 62
    → o.from + o.extent.len < 2 ^ 62 → AreFit p (entries_of cs) → AreFit p (entries_of ds)
pushed_fit cs ds t o p is perm low ends found fit q m = grind (arith, nat_tests, (same_entries (t ∷ cs) ds perm).1 q m, fit q)

pub pushed_swept : (seen more out : List Owned) (cs ds : List Claim) (t : Claim) (o : Owned) → IsNext seen more o → owned_of t ≡ o → IsPermutation (t ∷ cs) ds
    → Swept seen out (entries_of cs) o.extent.at → Swept more out (entries_of ds) o.extent.at
pushed_swept seen more out cs ds t o next is perm s =
    grind (arith, nat_tests, swept_more seen more out (entries_of cs) (entries_of ds) o next, same_entries (t ∷ cs) ds perm)

-- ---- the list

pub at_dropped : (list : List Owned) (i : ℕ) (d : Owned) → i < length list → In (drop i list) (get_or list i d)
at_dropped [] i d h = absurd (omega arith)
at_dropped (o ∷ list) i d h = grind (arith, common_steps, at_dropped list i d, drop, get_or)

pub later_begin : (list : List Owned) (i : ℕ) (d o : Owned) → i < length list → IsByPlace (extents list) → In (drop (suc i) list) o → (get_or list i d).extent.at ≤ o.extent.at
later_begin [] i d o h sorted m = absurd (omega arith)
later_begin (p ∷ list) i d o h sorted m = grind (arith, nat_tests, in_extents list o, later_begin list, sorted.0 o.extent)

-- ---- the whole

pub whole_swept : (list out pool : List Owned) (i p : ℕ) → length list ≤ i → Swept (take i list) out pool p → Swept list out pool p
whole_swept list out pool i p h s = subst (λ (os : List Owned). Swept os out pool p) (take_all i list h) s

-- what is given out in the end
pub record IsServed (list out : List Owned) : Type 0 where
  pub resolved : IsResolved list out
  pub parts : (o : Owned) → In out o → IsPartOfOne list o
  pub line : IsInLine (extents out)
  pub held : (o : Owned) → In out o → 1 ≤ o.extent.len
  pub ends : EndBelow (2 ^ 62) (extents out)

pub all_served : (list out pool : List Owned) (top : ℕ) → 2 ^ 62 ≤ top → EndBelow (2 ^ 62) (extents list) → IsOnceEach (origins list) → Swept list out pool top → IsServed list out
all_served list out pool top cap ends once w = record {
  resolved = resolved_by list out once w.won (λ q y m c. w.served q y m (omega (arith, c.1, ends q.extent (in_extents list q m))) c);
  parts = w.parts;
  line = w.line;
  held = λ o m. (w.low o m).1;
  ends = grind (arith, nat_tests, map_in, in_extents, w.low, w.won);
}

pub unchanged_items : (cs ds : List Claim) (n m : ℕ) (r : Option Claim) → IfNone r ((ds ≡ cs) × (m ≡ n)) → IfNone r (ds ≡ cs)
unchanged_items cs ds n m r h = grind (arith, nat_tests)
