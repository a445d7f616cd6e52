-- A rank on its way: how it begins, how its calls and its replies change what is left to it, and what others leave as it was.
use Rattle.run_laws.proofs.Words.{◌≡◌, ℕ, suc, ◌+◌, ◌≤◌, ◌≢◌, refl, sym, ◌∙◌, ap, subst, List, [], ◌∷◌, ◌++◌, length, drop, Bool, true, false, not, cond, ◌&&◌, Option, Some, None, arith, append_assoc, append-nil, sum_by-append, filter-append, eq-eqb, and_from, eqb-true, eqb_tells, slice_get, ◌==◌, filter, is_some, list_all, list_any, cons_option, and_first, and_second, Header, Call, Answer, Script, Mark, Meet, Solo, MeetKind, Offer, Reply, Open, Posted, step, hear, Going, first_going, kinds, marks_from, concerns, kind_of_call, kind_of_meeting, mode_after, is_collective, is_data, is_meeting, is_lawful, most_parts, are_different, posted_ids, id_posted, posts_held, answered, asking, is_solo_of, meetings, mode_heard, kind_of_offer, kinds_of, AreNew, IsOnWay, long_push, nat_tests}
use Rattle.nc_base.specs.declared.step.OfferKind.TheVariants as offer
use Rattle.nc_base.specs.declared.step.Want.TheVariants as want
use Rattle.serial_spec.specs.RankMachine as machine
use Rattle.run_laws.proofs.CallLaws.{Frees, is_free, is_other, says_at, heard_at}
use Rattle.run_laws.proofs.LawfulLaws.{own_lawful}

-- ---- the marks of an order

filter_one : (r : ℕ) (order : List Mark) (m : Mark) → concerns r m ≡ true → filter (concerns r) (order ++ m ∷ []) ≡ filter (concerns r) order ++ m ∷ []
filter_one r order m e = grind (arith, nat_tests, filter-append)

meetings_more : (order more : List Mark) (n : ℕ) → meetings more ≡ n → meetings (order ++ more) ≡ meetings order + n
meetings_more order more n e = sum_by-append (λ (m : Mark). cond (is_meeting m) 1 0) order more ∙ ap (λ (k : ℕ). meetings order + k) e

pub meetings_met : (order : List Mark) (k : ℕ) → meetings (order ++ Meet k ∷ []) ≡ suc (meetings order)
meetings_met order k = let e = meetings_more order (Meet k ∷ []) 1 refl in omega arith

meetings_same : (order more : List Mark) → meetings more ≡ 0 → meetings (order ++ more) ≡ meetings order
meetings_same order more e = let f = meetings_more order more 0 e in omega arith

-- ---- one step of the marks and kinds that are left

pub kinds_skip : (c : Call) (calls : List Call) → kind_of_call c ≡ None → kinds (c ∷ calls) ≡ kinds calls
kinds_skip c calls e = ap (λ (m : Option MeetKind). cons_option m (kinds calls)) e

pub kinds_take : (c : Call) (calls : List Call) (kind : MeetKind) → kind_of_call c ≡ Some kind → kinds (c ∷ calls) ≡ kind ∷ kinds calls
kinds_take c calls kind e = ap (λ (m : Option MeetKind). cons_option m (kinds calls)) e

pub marks_meet : (q n k : ℕ) (ind : Bool) (c : Call) (calls : List Call) → is_collective c ≡ true
    → marks_from q n k ind (c ∷ calls) ≡ Meet k ∷ marks_from q (suc n) (suc k) (mode_after ind c) calls
marks_meet q n k ind c calls e = rw (e, marks_from) refl

pub marks_alone : (q n k : ℕ) (ind : Bool) (c : Call) (calls : List Call) → is_collective c ≡ false → (ind && is_data c) ≡ false
    → marks_from q n k ind (c ∷ calls) ≡ marks_from q (suc n) k ind calls
marks_alone q n k ind c calls e f = rw (e, marks_from) (rw f refl)

pub marks_solo : (q n k : ℕ) (ind : Bool) (c : Call) (calls : List Call) → is_collective c ≡ false → (ind && is_data c) ≡ true
    → marks_from q n k ind (c ∷ calls) ≡ Solo q n ∷ marks_from q (suc n) k ind calls
marks_solo q n k ind c calls e f = rw (e, marks_from) (rw f refl)

pub mode_alone : (ind : Bool) (c : Call) → kind_of_call c ≡ None → mode_after ind c ≡ ind
mode_alone ind c e = grind (arith, nat_tests)

-- ---- ids of its own

still_free : (r r' : machine.Rank) (n : Option ℕ) (ids : List ℕ) → ((id : ℕ) → is_other n id ≡ true → is_free r.posted id ≡ true → is_free r'.posted id ≡ true)
    → list_all (is_other n) ids ≡ true → list_all (is_free r.posted) ids ≡ true → list_all (is_free r'.posted) ids ≡ true
still_free r r' n [] f o h = refl
still_free r r' n (id ∷ ids) f o h =
    grind (arith, nat_tests, still_free r r' n ids f (and_second (is_other n id) _ o) (and_second (is_free r.posted id) _ h), and_from, and_first, and_second)

all_other : (n : ℕ) (ids : List ℕ) → not (list_any (λ m. m == n) ids) ≡ true → list_all (is_other (Some n)) ids ≡ true
all_other n [] h = refl
all_other n (m ∷ ids) h = grind (arith, nat_tests, all_other n ids)

none_other : (test : ℕ → Bool) → ((id : ℕ) → test id ≡ true) → (ids : List ℕ) → list_all test ids ≡ true
none_other test f [] = refl
none_other test f (id ∷ ids) = and_from _ _ (f id) (none_other test f ids)

abbrev New : machine.Rank → List ℕ → Type 0
New r ids = (are_different ids ≡ true) × (list_all (is_free r.posted) ids ≡ true)

new_next : (r r' : machine.Rank) (n : Option ℕ) (ids : List ℕ) → ((id : ℕ) → is_other n id ≡ true → is_free r.posted id ≡ true → is_free r'.posted id ≡ true)
    → New r (cons_option n ids) → New r' ids
new_next r r' None ids f w = (w.0, still_free r r' None ids f (none_other (is_other None) (λ id. refl) ids) w.1)
new_next r r' (Some n) ids f w = grind (arith, nat_tests, still_free r r' (Some n) ids f, all_other n ids, and_first, and_second (is_free r.posted n))

are_new : (s : Going) (r' : machine.Rank) (c : Call) (calls : List Call) → AreNew s → s.calls ≡ c ∷ calls → Frees s.rank c r' → New r' (posted_ids calls)
are_new s r' c calls w e f = grind (arith, nat_tests, new_next s.rank r' (id_posted c) (posted_ids calls) f)

new_as : (r r' : machine.Rank) (ids : List ℕ) → r'.posted ≡ r.posted → New r ids → New r' ids
new_as r r' ids e w = (w.0, subst (λ (ps : List Posted). list_all (is_free ps) ids ≡ true) (sym e) w.1)

-- ---- counts

pub calls_long : (s : Going) (c : Call) (calls : List Call) → s.calls ≡ c ∷ calls → length s.calls ≡ suc (length calls)
calls_long s c calls e = ap (λ (cs : List Call). length cs) e ∙ (omega arith)

-- ---- the beginning

pub way_begins : (script : Script) (header : Header) (r : ℕ) (own : List Call) → is_lawful script ≡ true → slice_get script.calls r ≡ Some own
    → IsOnWay script [] r (first_going header own) None
way_begins script header r own h e =
    grind (arith, nat_tests, own_lawful script r own h e, none_other (is_free []) (λ id. refl) (posted_ids own))

-- ---- its own calls

pub way_answers : (script : Script) (order : List Mark) (r : ℕ) (header : Header) (s : Going) (next : machine.Rank) (a : Answer) (c : Call) (calls : List Call)
    → IsOnWay script order r s None → s.calls ≡ c ∷ calls → (next, want.Answered a) ≡ step header s.rank c → posts_held next ≤ posts_held s.rank + most_parts
    → IsOnWay script order r (answered s next a calls) None
way_answers script order r header s next a c calls w e f p =
    let says = says_at header s.rank c (next, want.Answered a) f in
    grind (arith, nat_tests, says, are_new s next c calls w.new e says.frees, long_push s.answers a, kinds_skip c calls says.kind, w.few, w.posts, p, marks_alone, and_second, calls_long s c calls e)

mode_with : (r : machine.Rank) (w : Open) → r.«open» ≡ Some w → mode_heard r ≡ w.independent
mode_with r w e = ap (λ (m : Option Open). elim m [ None ↦ r.independent | Some o ↦ o.independent ]) e

pub way_meets : (script : Script) (order : List Mark) (r : ℕ) (header : Header) (s : Going) (next : machine.Rank) (o : Offer) (c : Call) (calls : List Call)
    → IsOnWay script order r s None → s.calls ≡ c ∷ calls → (next, want.Meet o) ≡ step header s.rank c → posts_held next ≤ posts_held s.rank + most_parts
    → IsOnWay script order r (asking s next calls) (Some o)
way_meets script order r header s next o c calls w e f p =
    let says = says_at header s.rank c (next, want.Meet o) f in
    grind (arith, nat_tests, says, are_new s next c calls w.new e (says.asking).frees, w.few, w.posts, p, mode_with, marks_meet, kinds_take, and_second, calls_long s c calls e)

-- ---- replies

held_same : (r r' : machine.Rank) (n : ℕ) → r'.posted ≡ r.posted → posts_held r ≤ n → posts_held r' ≤ n
held_same r r' n e h = subst (λ (m : ℕ). m ≤ n) (ap (λ (ps : List Posted). posts_held (record r { posted = ps })) (sym e)) h

pub way_solo : (script : Script) (order : List Mark) (r : ℕ) (header : Header) (s : Going) (next heard : machine.Rank) (o : Offer) (reply : Reply) (a : Answer) (c : Call)
    (calls : List Call) → IsOnWay script order r s None → s.calls ≡ c ∷ calls → (next, want.Solo o) ≡ step header s.rank c
    → posts_held next ≤ posts_held s.rank + most_parts → (heard, a) ≡ hear header next reply
    → IsOnWay script (order ++ Solo r (length s.answers) ∷ []) r (answered s heard a calls) None
way_solo script order r header s next heard o reply a c calls w e f p g =
    let says = says_at header s.rank c (next, want.Solo o) f in
    let hears = heard_at header next heard reply a says.asking.open_with says.asking.is_open g in
    let new = new_as next heard (posted_ids calls) hears.posted (are_new s next c calls w.new e says.asking.frees) in
    let long = long_push s.answers a in
    let mode : heard.independent ≡ s.rank.independent = hears.mode ∙ says.asking.mode ∙ mode_alone s.rank.independent c says.kind in
    let same = meetings_same order (Solo r (length s.answers) ∷ []) refl in
    let done = filter_one r order (Solo r (length s.answers)) (eq-eqb r r refl) in
    let left = marks_solo r (length s.answers) (meetings order) s.rank.independent c calls says.alone says.solo in
    grind (arith, nat_tests, long, mode, same, done, left, append_assoc, e, w.marks, kinds_skip c calls says.kind, w.kinds, hears, and_second, w.lawful, new, calls_long s c calls e, w.few, p, w.posts, held_same next heard)

drop_next : {X : Type 0} (k : ℕ) (xs ys : List X) (x : X) → x ∷ xs ≡ drop k ys → xs ≡ drop (suc k) ys
drop_next (suc k) xs (y ∷ ys) x e = drop_next k xs ys x e
drop_next n xs m x e = cc

-- the offer of a meeting is of a kind
pub kind_some : (o : Offer) → is_some (kind_of_meeting o.kind) ≡ true → (kind : MeetKind) × ((o.kind ≡ offer.Meet kind) × (kind_of_offer o ≡ kind ∷ []))
kind_some o e = grind (arith, nat_tests)

pub way_hears : (script : Script) (order : List Mark) (r : ℕ) (header : Header) (s : Going) (heard : machine.Rank) (o : Offer) (reply : Reply) (a : Answer)
    → IsOnWay script order r s (Some o) → (heard, a) ≡ hear header s.rank reply
    → IsOnWay script (order ++ Meet (meetings order) ∷ []) r (answered s heard a s.calls) None
way_hears script order r header s heard o reply a w g =
    let was : (v : Open) × (s.rank.«open» ≡ Some v) = grind (arith, nat_tests, w.waits) in
    let hears = heard_at header s.rank heard reply a was.0 was.1 g in
    let new = new_as s.rank heard (posted_ids s.calls) hears.posted (w.new.different, w.new.fresh) in
    let long = long_push s.answers a in
    let mode : heard.independent ≡ mode_heard s.rank = hears.mode ∙ sym (mode_with s.rank was.0 was.1) in
    let next = meetings_met order (meetings order) in
    let kind = kind_some o w.meets in
    let done = filter_one r order (Meet (meetings order)) refl in
    grind (arith, nat_tests, long, mode, next, done, append_assoc, w, hears, new, drop_next, kind.1.1, drop, kinds_of, held_same s.rank heard)

-- ---- the solo steps of others

pub one_of : (q n : ℕ) → list_all (is_solo_of q) (Solo q n ∷ []) ≡ true
one_of q n = and_from (q == q) true (eq-eqb q q refl) refl

pub others_filter : (q r : ℕ) (more : List Mark) → q ≢ r → list_all (is_solo_of q) more ≡ true → filter (concerns r) more ≡ []
others_filter q r [] n h = refl
others_filter q r (Meet k ∷ more) n h = cc
others_filter q r (Solo p m ∷ more) n h = grind (arith, nat_tests, others_filter q r more n (and_second (p == q) _ h), eqb-true, and_first, eqb_tells, and_second)

pub others_meetings : (q : ℕ) (more : List Mark) → list_all (is_solo_of q) more ≡ true → meetings more ≡ 0
others_meetings q [] h = refl
others_meetings q (Meet k ∷ more) h = cc
others_meetings q (Solo p m ∷ more) h = others_meetings q more (and_second (p == q) _ h)

pub way_others : (script : Script) (order more : List Mark) (r q : ℕ) (s : Going) (held : Option Offer) → q ≢ r → list_all (is_solo_of q) more ≡ true
    → IsOnWay script order r s held → IsOnWay script (order ++ more) r s held
way_others script order more r q s held n h w =
    grind (arith, nat_tests, others_filter q r more n h, meetings_same order more (others_meetings q more h), others_meetings q more h, filter-append, append-nil)

pub way_beside : (script : Script) (order : List Mark) (r q n : ℕ) (s : Going) (held : Option Offer) → q ≢ r → IsOnWay script order r s held
    → IsOnWay script (order ++ Solo q n ∷ []) r s held
way_beside script order r q n s held f w = way_others script order (Solo q n ∷ []) r q s held f (one_of q n) w
