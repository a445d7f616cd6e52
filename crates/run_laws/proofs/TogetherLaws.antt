-- What a rank on its way has at its next call, and that all ranks meet and end together.
use Rattle.run_laws.proofs.Words.{◌≡◌, ℕ, ◌+◌, ◌^◌, ◌<◌, ◌≤◌, ◌≢◌, refl, ◌∙◌, List, [], ◌∷◌, ◌++◌, length, drop, true, Option, Some, None, arith, length-drop, append-nil, list_all-append, nat_tests, slice_get, filter, list_all, and_from, eqb-true, entry_below, first_same, none_of_test, and_first, and_second, Call, Script, Mark, Meet, MeetKind, Offer, Open, Going, kinds, marks, concerns, is_of_rank_below, IsLegal, is_lawful, is_lawful_call, most_calls, most_parts, IsFresh, IsShare, posts_held, meetings, kinds_of, Waits, IsOnWay}
use Rattle.nc_base.specs.declared.request.Call.TheVariants as call
use Rattle.nc_base.specs.declared.step.OfferKind.TheVariants as offer
use Rattle.serial_spec.specs.RankMachine as machine
use Rattle.run_laws.proofs.CallLaws.{Keeps}
use Rattle.run_laws.proofs.LawfulLaws.{ranks_lawful}
use Rattle.run_laws.proofs.WayLaws.{kind_some, calls_long}

-- ---- the next call

pub none_waits : (m : Option Open) → Waits m None → m ≡ None
none_waits m h = grind (arith, nat_tests)

pub call_fresh : (script : Script) (order : List Mark) (r : ℕ) (s : Going) (c : Call) (calls : List Call) → IsOnWay script order r s None → s.calls ≡ c ∷ calls
    → IsFresh s.rank c
call_fresh script order r s c calls w e = grind (arith, nat_tests, none_of_test, and_first)

pub call_lawful : (script : Script) (order : List Mark) (r : ℕ) (s : Going) (c : Call) (calls : List Call) → IsOnWay script order r s None → s.calls ≡ c ∷ calls
    → is_lawful_call script.ranks r c ≡ true
call_lawful script order r s c calls w e = grind (arith, nat_tests, and_first)

pub call_share : (script : Script) (order : List Mark) (r : ℕ) (s : Going) (c : Call) (calls : List Call) → is_lawful script ≡ true → r < script.ranks
    → IsOnWay script order r s None → s.calls ≡ c ∷ calls → IsShare c
call_share script order r s c calls h l w e =
    grind (arith, nat_tests, ranks_lawful script h, call_lawful script order r s c calls w e, eqb-true, and_second, and_first)

pub call_number : (script : Script) (order : List Mark) (r : ℕ) (s : Going) (c : Call) (calls : List Call) → IsOnWay script order r s None → s.calls ≡ c ∷ calls
    → length s.answers < most_calls
call_number script order r s c calls w e = grind (arith, nat_tests, calls_long, w.few)

pub call_posts : (script : Script) (order : List Mark) (r : ℕ) (s : Going) (c : Call) (calls : List Call) → IsOnWay script order r s None → s.calls ≡ c ∷ calls
    → posts_held s.rank + most_parts ≤ 2 ^ 30
call_posts script order r s c calls w e = grind (arith, nat_tests, call_number, w.posts, posts_held)

pub call_waits : (script : Script) (order : List Mark) (r : ℕ) (s : Going) (o : Offer) → IsOnWay script order r s (Some o) → Keeps s.rank.«open» o
call_waits script order r s o w = grind (arith, nat_tests)

-- ---- all together

-- the kinds that are left to a rank which holds the offer of a meeting
holds : (script : Script) (order : List Mark) (r : ℕ) (s : Going) (o : Offer) → IsOnWay script order r s (Some o)
    → (kind : MeetKind) × ((o.kind ≡ offer.Meet kind) × (kind ∷ kinds s.calls ≡ drop (meetings order) (kinds_of script)))
holds script order r s o w = grind (arith, nat_tests, kind_some)

pub together_all : (script : Script) (order : List Mark) (r q : ℕ) (s t : Going) (o : Offer) → IsOnWay script order r s (Some o) → IsOnWay script order q t None
    → t.calls ≢ []
together_all script order r q s t o w v = grind (arith, nat_tests, holds)

pub together_kind : (script : Script) (order : List Mark) (r q : ℕ) (s t : Going) (o p : Offer) → IsOnWay script order r s (Some o) → IsOnWay script order q t (Some p)
    → p.kind ≡ o.kind
together_kind script order r q s t o p w v = grind (arith, nat_tests, holds, first_same)

dropped : {X : Type 0} (k : ℕ) (xs : List X) (x : X) (ys : List X) → x ∷ ys ≡ drop k xs → k < length xs
dropped k xs x ys e = grind (arith, nat_tests, length-drop k xs)

pub together_number : (script : Script) (order : List Mark) (r : ℕ) (s : Going) (o : Offer) → is_lawful script ≡ true → IsOnWay script order r s (Some o)
    → meetings order < most_calls
together_number script order r s o l w =
    grind (arith, nat_tests, holds script order r s o w, dropped (meetings order) (kinds_of script) (holds script order r s o w).0 (kinds s.calls), ranks_lawful script l)

-- ---- a legal order

pub all_more : (ranks : ℕ) (order : List Mark) (m : Mark) → is_of_rank_below ranks m ≡ true → list_all (is_of_rank_below ranks) order ≡ true
    → list_all (is_of_rank_below ranks) (order ++ m ∷ []) ≡ true
all_more ranks order m e h = list_all-append (is_of_rank_below ranks) order (m ∷ []) ∙ and_from _ _ h (and_from _ true e refl)

pub meeting_of_known : (ranks k : ℕ) (order : List Mark) → list_all (is_of_rank_below ranks) order ≡ true
    → list_all (is_of_rank_below ranks) (order ++ Meet k ∷ []) ≡ true
meeting_of_known ranks k order h = all_more ranks order (Meet k) refl h

at_end : (script : Script) (order : List Mark) (r : ℕ) (s : Going) → IsOnWay script order r s None → s.calls ≡ [] → filter (concerns r) order ≡ marks script.calls r
at_end script order r s w e = grind (arith, nat_tests, append-nil)

pub order_legal : (script : Script) (order : List Mark) (ss : List Going) → length ss ≡ script.ranks → list_all (is_of_rank_below script.ranks) order ≡ true
    → ((r : ℕ) (s : Going) → slice_get ss r ≡ Some s → IsOnWay script order r s None × (s.calls ≡ [])) → IsLegal script order
order_legal script order ss e known f = record { known_ranks = known; each_rank = λ r l. grind (arith, nat_tests, entry_below ss r, at_end script order r) }
