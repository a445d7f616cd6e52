-- An order that a script's ranks have begun can be gone on with to one of its histories: the ranks meet as often, one as the other.
use Rattle.join_laws.proofs.Words.{and_from, ◌≡◌, ℕ, zero, suc, ◌+◌, ◌-◌, ◌<◌, ◌≤◌, refl, sym, ◌∙◌, ap, inl, inr, subst, eqb_tells, List, [], ◌∷◌, ◌++◌, length, Bool, true, false, cond, Option, Some, None, arith, append_assoc, filter-append, sum_by-cons, nat_tests, filter, is_some, nat_lt, list_all, Call, Script, Mark, Meet, Solo, MeetKind, kinds, marks, marks_from, concerns, is_of_rank_below, kind_of_call, mode_after, is_collective, IsLegal, is_meeting, is_lawful, is_solo_of, meetings, kinds_of, own_lawful, ranks_lawful, and_first, and_second, equal_itself, others_filter, all_joined, append-nil, entry_below, ltb-true, ltb-false, eqb-true}
use Rattle.list_laws.proofs.Truth.{holds_or_not}

-- ---- what is left to a rank: its own steps, and n meetings from the k-th on

abbrev pub IsRest : ℕ → ℕ → ℕ → List Mark → Type 0
IsRest r k zero xs = list_all (is_solo_of r) xs ≡ true
IsRest r k (suc n) xs =
    (solos : List Mark) × (later : List Mark) × (xs ≡ solos ++ Meet k ∷ later) × (list_all (is_solo_of r) solos ≡ true) × IsRest r (suc k) n later

rest_solo : (r k n : ℕ) (m : Mark) (xs : List Mark) → is_solo_of r m ≡ true → IsRest r k n xs → IsRest r k n (m ∷ xs)
rest_solo r k zero m xs e h = and_from _ _ e h
rest_solo r k (suc n) m xs e h = (m ∷ h.0, h.1, ap (λ (ys : List Mark). m ∷ ys) h.2, and_from _ _ e h.3, h.4)

pub collective_kind : (c : Call) → is_collective c ≡ is_some (kind_of_call c)
collective_kind c = grind (arith, nat_tests)

marks_rest : (r c k : ℕ) (ind : Bool) (calls : List Call) → IsRest r k (length (kinds calls)) (marks_from r c k ind calls)
marks_rest r c k ind [] = refl
marks_rest r c k ind (x ∷ calls) =
    let others = marks_rest r (suc c) k ind calls in
    let own = rest_solo r k (length (kinds calls)) (Solo r c) (marks_from r (suc c) k ind calls) (equal_itself r) others in
    let met : IsRest r k (suc (length (kinds calls))) (Meet k ∷ marks_from r (suc c) (suc k) (mode_after ind x) calls) =
    ([], marks_from r (suc c) (suc k) (mode_after ind x) calls, refl, refl, marks_rest r (suc c) (suc k) (mode_after ind x) calls) in
    grind (arith, nat_tests, collective_kind x, own, met)

-- ---- what is left after some of it

meetings_solo : (r : ℕ) (m : Mark) (p : List Mark) → is_solo_of r m ≡ true → meetings (m ∷ p) ≡ meetings p
meetings_solo r m p e = grind (arith, nat_tests)

meetings_meet : (k : ℕ) (p : List Mark) → meetings (Meet k ∷ p) ≡ 1 + meetings p
meetings_meet k p = sum_by-cons (λ (m : Mark). cond (is_meeting m) 1 0) (Meet k) p

abbrev Left : ℕ → ℕ → ℕ → ℕ → List Mark → Type 0
Left r k n met rest = (m : ℕ) × (met + m ≡ n) × IsRest r (k + met) m rest

rest_after : (p rest : List Mark) (r k n : ℕ) → IsRest r k n (p ++ rest) → Left r k n (meetings p) rest
rest_after [] rest r k n h = (n, omega arith, (let e : k ≡ k + 0 = omega arith in subst (λ (j : ℕ). IsRest r j n rest) e h))
rest_after (m ∷ p) rest r k zero h = grind (arith, nat_tests, rest_after p rest r k zero (and_second (is_solo_of r m) _ h), meetings_solo, and_first, and_second)
rest_after (m ∷ p) rest r k (suc n) ([], later, e, all, h) = grind (arith, nat_tests, rest_after p rest r (suc k) n, meetings_meet k p)
rest_after (m ∷ p) rest r k (suc n) (s ∷ solos, later, e, all, h) = grind (arith, nat_tests, rest_after p rest r k (suc n), meetings_solo r m p, and_first, and_second (is_solo_of r s))

-- ---- the ranks' own steps, one rank after another

own_kept : (r : ℕ) (xs : List Mark) → list_all (is_solo_of r) xs ≡ true → filter (concerns r) xs ≡ xs
own_kept r [] h = refl
own_kept r (m ∷ xs) h = grind (arith, nat_tests, own_kept r xs (and_second (is_solo_of r m) _ h), and_first (is_solo_of r m) _ h)

own_known : (s ranks : ℕ) (xs : List Mark) → s < ranks → list_all (is_solo_of s) xs ≡ true → list_all (is_of_rank_below ranks) xs ≡ true
own_known s ranks [] l h = refl
own_known s ranks (m ∷ xs) l h = grind (arith, nat_tests, own_known s ranks xs l (and_second (is_solo_of s m) _ h), eqb-true, and_first (is_solo_of s m) _ h, and_from)

record AreSolos (m ranks : ℕ) (fronts : ℕ → List Mark) : Type 0 where
  pub all : List Mark
  pub known : list_all (is_of_rank_below ranks) all ≡ true
  pub own : (r : ℕ) → r < m → filter (concerns r) all ≡ fronts r
  pub others : (r : ℕ) → m ≤ r → filter (concerns r) all ≡ []

solos_of : (m ranks : ℕ) (fronts : ℕ → List Mark) → ((r : ℕ) → list_all (is_solo_of r) (fronts r) ≡ true) → m ≤ ranks → AreSolos m ranks fronts
solos_of zero ranks fronts h l = record { all = []; known = refl; own = λ r k. absurd (omega arith); others = λ r k. refl }
solos_of (suc m) ranks fronts h l =
    let s = solos_of m ranks fronts h (omega arith) in
    let none : (r : ℕ) → (m ≡ r → ⊥) → filter (concerns r) (fronts m) ≡ [] = λ r n. others_filter m r (fronts m) n (h m) in
    record {
      all = s.all ++ fronts m;
      known = all_joined (is_of_rank_below ranks) s.all (fronts m) s.known (own_known m ranks (fronts m) (omega arith) (h m));
      own = λ r k. grind (arith, nat_tests, eqb_tells r m, filter-append (concerns r) s.all (fronts m), s.own r, s.others r, none r, own_kept m (fronts m) (h m), append-nil);
      others = λ r k. filter-append (concerns r) s.all (fronts m) ∙ (λ i. s.others r (omega arith) i ++ none r (λ e. absurd (omega arith)) i);
    }

-- ---- all that is left

record AreLast (ranks : ℕ) (rests : ℕ → List Mark) : Type 0 where
  pub later : List Mark
  pub known : list_all (is_of_rank_below ranks) later ≡ true
  pub own : (r : ℕ) → r < ranks → filter (concerns r) later ≡ rests r

last_of : (n k ranks : ℕ) (rests : ℕ → List Mark) → ((r : ℕ) → IsRest r k n (rests r)) → AreLast ranks rests
last_of zero k ranks rests h = grind (arith, nat_tests, solos_of ranks ranks rests h (omega arith))
last_of (suc n) k ranks rests h =
    let s = solos_of ranks ranks (λ r. (h r).0) (λ r. (h r).3) (omega arith) in
    let l = last_of n (suc k) ranks (λ r. (h r).1) (λ r. (h r).4) in
    record {
      later = s.all ++ Meet k ∷ l.later;
      known = all_joined (is_of_rank_below ranks) s.all (Meet k ∷ l.later) s.known l.known;
      own = λ r low. filter-append (concerns r) s.all (Meet k ∷ l.later)
          ∙ (λ i. s.own r low i ++ Meet k ∷ l.own r low i) ∙ sym (h r).2;
    }

-- ---- an order that was begun

meetings_kept : (r : ℕ) (order : List Mark) → meetings (filter (concerns r) order) ≡ meetings order
meetings_kept r [] = refl
meetings_kept r (m ∷ order) =
    grind (arith, nat_tests, meetings_kept r order, sum_by-cons (λ (m : Mark). cond (is_meeting m) 1 0) m order, sum_by-cons (λ (m : Mark). cond (is_meeting m) 1 0) m (filter (concerns r) order))

-- as many meetings, and nothing else
filler : (r k n : ℕ) → (xs : List Mark) × IsRest r k n xs
filler r k zero = ([], refl)
filler r k (suc n) = let f = filler r (suc k) n in (Meet k ∷ f.0, ([], f.0, refl, refl, f.1))

record HasRest (script : Script) (order : List Mark) (r : ℕ) : Type 0 where
  pub rest : List Mark
  pub is_rest : IsRest r (meetings order) (length (kinds_of script) - meetings order) rest
  pub whole : r < script.ranks → filter (concerns r) order ++ rest ≡ marks script.calls r

rest_of : (script : Script) (order : List Mark) (r : ℕ) → is_lawful script ≡ true
    → (r < script.ranks → (rest : List Mark) × (filter (concerns r) order ++ rest ≡ marks script.calls r)) → HasRest script order r
rest_of script order r lawful each = elim (holds_or_not (nat_lt r script.ranks)) [
  | inl e ↦
      (let low : r < script.ranks = ltb-true _ _ e in
      let given = each low in
      let long = (ranks_lawful script lawful).one_each in
      let own = entry_below script.calls r (omega arith) in
      let whole : IsRest r 0 (length (kinds_of script)) (filter (concerns r) order ++ given.0) =
      subst (λ (xs : List Mark). IsRest r 0 (length (kinds_of script)) xs)
      (sym (given.1 ∙ ap (λ (o : Option (List Call)). elim o [ None ↦ [] | Some calls ↦ marks_from r 0 0 false calls ]) own.1))
      (subst (λ (ks : List MeetKind). IsRest r 0 (length ks) (marks_from r 0 0 false own.0)) (own_lawful script r own.0 lawful own.1).agreed (marks_rest r 0 0 false own.0)) in
      let l = rest_after (filter (concerns r) order) given.0 r 0 (length (kinds_of script)) whole in
      let same = meetings_kept r order in
      let sum = l.1 in
      let place : 0 + meetings (filter (concerns r) order) ≡ meetings order = omega arith in
      let many : l.0 ≡ length (kinds_of script) - meetings order = omega arith in
      record { rest = given.0; is_rest = subst (λ (v : ℕ × ℕ). IsRest r v.0 v.1 given.0) (λ i. (place i, many i)) l.2; whole = λ h. given.1 })
  | inr e ↦
      (let high : script.ranks ≤ r = ltb-false _ _ e in
      let f = filler r (meetings order) (length (kinds_of script) - meetings order) in
      record { rest = f.0; is_rest = f.1; whole = λ h. absurd (omega arith) })
]

pub completed : (script : Script) (order : List Mark) → is_lawful script ≡ true → list_all (is_of_rank_below script.ranks) order ≡ true
    → ((r : ℕ) → r < script.ranks → (rest : List Mark) × (filter (concerns r) order ++ rest ≡ marks script.calls r))
    → (later : List Mark) × IsLegal script (order ++ later)
completed script order lawful known each =
    let rest = λ (r : ℕ). rest_of script order r lawful (each r) in
    let l = last_of (length (kinds_of script) - meetings order) (meetings order) script.ranks (λ r. (rest r).rest) (λ r. (rest r).is_rest) in (
      l.later,
      record {
        known_ranks = all_joined (is_of_rank_below script.ranks) order l.later known l.known;
        each_rank = λ r low. grind (arith, nat_tests, filter-append (concerns r) order l.later, l.own r low, (rest r).whole low);
      },
    )

-- the next mark may be named
pub completed_by : (script : Script) (order : List Mark) (m : Mark) → is_lawful script ≡ true → list_all (is_of_rank_below script.ranks) (order ++ m ∷ []) ≡ true
    → ((r : ℕ) → r < script.ranks → (rest : List Mark) × (filter (concerns r) (order ++ m ∷ []) ++ rest ≡ marks script.calls r))
    → (later : List Mark) × IsLegal script (order ++ m ∷ later)
completed_by script order m lawful known each =
    grind (arith, nat_tests, completed script (order ++ m ∷ []) lawful known each, append_assoc order (m ∷ []) (completed script (order ++ m ∷ []) lawful known each).0)
