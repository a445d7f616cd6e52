-- A call more of a rank.
use Rattle.script_calls.proofs.Words.{◌≡◌, ◌∙◌, ◌<◌, ℕ, ◌+◌, List, [], ◌∷◌, ◌++◌, length, take, get_or, Some, None, append-nil, ap, sym, refl, zero, suc, arith, take_more, one_posted, none_posted, MeetKind, kinds, kind_of_call, filter_map-append, Call, posted, id_of_post, calls_of}

pub posted_more : (own : List Call) (c : Call) (id : ℕ) → id_of_post c ≡ Some id → posted (own ++ c ∷ []) ≡ posted own ++ id ∷ []
posted_more own c id h = filter_map-append id_of_post own (c ∷ []) ∙ ap (λ (more : List ℕ). posted own ++ more) (one_posted c id h)

pub posted_same : (own : List Call) (c : Call) → id_of_post c ≡ None → posted (own ++ c ∷ []) ≡ posted own
posted_same own c h = filter_map-append id_of_post own (c ∷ []) ∙ (ap (λ (more : List ℕ). posted own ++ more) (none_posted c h) ∙ append-nil (posted own))

-- ---- the kinds of collective calls

pub one_kind : (c : Call) (k : MeetKind) → kind_of_call c ≡ Some k → kinds (c ∷ []) ≡ k ∷ []
one_kind c k h = rw h refl

pub no_kind : (c : Call) → kind_of_call c ≡ None → kinds (c ∷ []) ≡ []
no_kind c h = rw h refl

pub kinds_more : (calls : List Call) (i : ℕ) (d : Call) → i < length calls → kinds (take (i + 1) calls) ≡ kinds (take i calls) ++ kinds (get_or calls i d ∷ [])
kinds_more calls i d h = ap kinds (take_more calls i d h) ∙ filter_map-append kind_of_call (take i calls) (get_or calls i d ∷ [])

-- ---- the calls of one rank among those of all

pub found_own : (calls : List (List Call)) (r : ℕ) (own : List Call) → own ≡ get_or calls r own → r < length calls → calls_of r calls ≡ own
found_own [] r own at h = absurd (omega arith)
found_own (x ∷ calls) zero own at h = sym at
found_own (x ∷ calls) (suc r) own at h = found_own calls r own at (omega arith)
