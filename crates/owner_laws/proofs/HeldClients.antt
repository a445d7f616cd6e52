-- What the owner holds of each number is what the arrivals tell.
use Rattle.owner_laws.proofs.Words.{◌≡◌, ℕ, zero, suc, ◌+◌, ◌<◌, refl, sym, ◌∙◌, ap, inl, inr, ◌⊎◌, List, [], ◌∷◌, ◌++◌, length, set, max, Bool, true, false, Option, Some, None, arith, append-nil, filter-append, filter_map-append, nat_tests, same_Some, slice_get_within, slice_get, filter_map, ◌==◌, option_and_then, list_any, range_with_len, option_or, entry_below, entry_set, entry_set_other, MeetKind, Offer, RankItem, Owner, differs, Event, holds, kind_held, left_behind, left_by, needed_now, offers_held, Client, Setting, Arrival, kind_of_meeting, Puts, are_left_behind, brought, ends, has_fewer, has_left, kind_waiting, last, meeting_offers, puts_brought, waiting, waits, no_need, none_last}
use Rattle.serial_spec.specs.Owner as owner
use Rattle.join_laws.proofs.StepLaws.{Free}
use Rattle.list_laws.proofs.Optional.{some_or_none}
use Rattle.list_laws.proofs.Ranges.{none_in_range}

-- an entry of a list in which one was set: it is that one, or as before
pub set_cases : {X : Type 0} (xs : List X) (r q : ℕ) (x y : X) → slice_get (set xs r x) q ≡ Some y → ((q ≡ r) × (y ≡ x)) ⊎ (((r == q) ≡ false) × (slice_get xs q ≡ Some y))
set_cases [] r q x y e = cc
set_cases (z ∷ xs) zero zero x y e = inl (refl, cc)
set_cases (z ∷ xs) zero (suc q) x y e = inr (grind (arith, nat_tests), e)
set_cases (z ∷ xs) (suc r) zero x y e = inr (grind (arith, nat_tests), e)
set_cases (z ∷ xs) (suc r) (suc q) x y e = grind (arith, nat_tests, set_cases xs r q x y e)

-- ---- what numbers brought, with one arrival more

abbrev pub one_or_none : {A : Type 0} → Option A → List A
one_or_none None = []
one_or_none (Some x) = x ∷ []

brought_both : {A : Type 0} (f : RankItem → Option A) (q : ℕ) (a b : List Arrival) → brought f q (a ++ b) ≡ brought f q a ++ brought f q b
brought_both f q a b = rw (filter-append, filter_map-append) refl

pub brought_here : {A : Type 0} (f : RankItem → Option A) (r : ℕ) (i : RankItem) (before : List Arrival) → brought f r (before ++ (r, i) ∷ []) ≡ brought f r before ++ one_or_none (f i)
brought_here f r i before = grind (arith, nat_tests, brought_both f r before ((r, i) ∷ []))

pub brought_other : {A : Type 0} (f : RankItem → Option A) (q r : ℕ) (i : RankItem) (before : List Arrival) → (q ≡ r → ⊥) → brought f q (before ++ (r, i) ∷ []) ≡ brought f q before
brought_other f q r i before n = grind (arith, nat_tests, brought_both f q before ((r, i) ∷ []), append-nil (brought f q before))

last_both : {A : Type 0} (xs ys : List A) → last (xs ++ ys) ≡ option_or (last ys) (last xs)
last_both [] ys = none_last (last ys)
last_both (x ∷ xs) ys = grind (arith, nat_tests, last_both xs ys)

pub last_here : {A : Type 0} (f : RankItem → Option A) (r : ℕ) (i : RankItem) (before : List Arrival) → last (brought f r (before ++ (r, i) ∷ [])) ≡ option_or (f i) (last (brought f r before))
last_here f r i before = grind (arith, nat_tests, brought_here f r i before, last_both (brought f r before) (one_or_none (f i)))

-- ---- what the owner holds

abbrev pub one_if : Option Offer → ℕ
one_if None = 0
one_if (Some o) = 1

-- a number whose client is this one
pub record OfNumber (before : List Arrival) (met q : ℕ) (x : Client) : Type 0 where
  pub count : length (meeting_offers q before) ≡ met + one_if x.held
  pub held : (o : Offer) → x.held ≡ Some o → last (meeting_offers q before) ≡ Some o
  pub ended : x.ended ≡ last (ends q before)

pub record Kept (ranks : ℕ) (before : List Arrival) (d : Owner) : Type 0 where
  pub long : length d.clients ≡ ranks
  pub some_free : Free d.clients
  pub each : (q : ℕ) (x : Client) → slice_get d.clients q ≡ Some x → OfNumber before d.met q x

-- tests over the clients are tests over the numbers
any_numbers : (p : Client → Bool) (f : ℕ → Bool) (clients : List Client) (a : ℕ) → ((q : ℕ) (x : Client) → slice_get clients q ≡ Some x → p x ≡ f (a + q))
    → list_any p clients ≡ list_any f (range_with_len a (length clients))
any_numbers p f [] a h = refl
any_numbers p f (x ∷ clients) a h =
    let first = h 0 x refl in
    grind (arith, nat_tests, any_numbers p f clients (a + 1) (λ q y g. let z : a + suc q ≡ (a + 1) + q = omega arith in h (suc q) y g ∙ ap f z))

-- some number passes, or none
any_one : (f : ℕ → Bool) (a n k : ℕ) → k < n → f (a + k) ≡ true → list_any f (range_with_len a n) ≡ true
any_one f a zero k l e = absurd (omega arith)
any_one f a (suc n) zero l e = grind (arith, nat_tests)
any_one f a (suc n) (suc k) l e = grind (arith, nat_tests, any_one f (a + 1) n k)

module _ (ranks : ℕ) (before : List Arrival) (d : Owner) (kept : Kept ranks before d) where
  -- it waits where it is held
  pub waits_is : (q : ℕ) (x : Client) → slice_get d.clients q ≡ Some x → waits ranks before q ≡ holds x
  waits_is q x e = by (some_or_none x.held)
    where
      mine : OfNumber before d.met q x
      mine = kept.each q x e

      by : (x.held ≡ None) ⊎ ((o : Offer) × (x.held ≡ Some o)) → waits ranks before q ≡ holds x
      by (inl f) = rw f (none_in_range (has_fewer before q) 0 ranks (λ k l. let p = entry_below d.clients k (rw kept.long l) in fewest k (one_if p.0.held) (kept.each k p.0 p.1).count))
        where
          fewest : (k n : ℕ) → length (meeting_offers k before) ≡ d.met + n → has_fewer before q (0 + k) ≡ false
          fewest k n c = let own = mine.count in grind (arith, nat_tests)
      by (inr (o, f)) =
          let free = kept.some_free in
          let its = (kept.each free.number free.free free.at_free).count in
          let own = mine.count in
          let below = slice_get_within d.clients free.number free.free free.at_free in
          let none = free.is_free in
          let fewer : has_fewer before q (0 + free.number) ≡ true = grind (arith, nat_tests) in
          rw f (any_one (has_fewer before q) 0 ranks free.number (rw kept.long at below) fewer)

  waiting_is : (q : ℕ) (x : Client) → slice_get d.clients q ≡ Some x → waiting ranks before q ≡ x.held
  waiting_is q x e = let own = kept.each q x e in grind (arith, nat_tests, waits_is q x e, some_or_none x.held)

  pub numbers_any : (p : Client → Bool) (f : ℕ → Bool) → ((q : ℕ) (x : Client) → slice_get d.clients q ≡ Some x → p x ≡ f q) → list_any p d.clients ≡ list_any f (range_with_len 0 ranks)
  numbers_any p f h = grind (arith, nat_tests, any_numbers p f d.clients 0)

  pub left_is : left_behind d.clients ≡ are_left_behind ranks before
  left_is =
      let a = numbers_any owner.has_left (has_left ranks before) (λ q x e. λ i. left_by (sym (waiting_is q x e) i) ((kept.each q x e).ended i)) in
      grind (arith, nat_tests, numbers_any, holds, waits_is, waits)

  pub kinds_are : (k : Option MeetKind) → list_any (λ y. differs (kind_held y) k) d.clients ≡ list_any (λ q. differs (kind_waiting ranks before q) k) (range_with_len 0 ranks)
  kinds_are k = numbers_any (λ y. differs (kind_held y) k) (λ q. differs (kind_waiting ranks before q) k)
      (λ q x e. ap (λ (m : Option Offer). differs (option_and_then (λ o. kind_of_meeting o.kind) m) k) (sym (waiting_is q x e)))

-- ---- one arrival

pub record Next (s : Setting) (ranks : ℕ) (before : List Arrival) (d : Owner) (r : ℕ) (i : RankItem) (e : Event) : Type 0 where
  pub kept : Kept ranks (before ++ (r, i) ∷ []) e.owner
  pub reached : e.owner.reached ≡ max d.reached (needed_now s (puts_brought ranks before (r, i)))

pub nothing_reached : (s : Setting) (n : ℕ) (puts : Puts) → puts ≡ [] → n ≡ max n (needed_now s puts)
nothing_reached s n puts e = let none : needed_now s puts ≡ 0 = ap (λ (ps : Puts). needed_now s ps) e ∙ no_need s in omega arith

-- a client that holds as much as before
pub free_set : (clients : List Client) (r : ℕ) (x y : Client) → slice_get clients r ≡ Some x → y.held ≡ x.held → Free clients → Free (set clients r y)
free_set clients r x y at e f = grind (arith, nat_tests, entry_set, entry_set_other)

pub some_holds : (clients : List Client) (r : ℕ) (x : Client) → slice_get clients r ≡ Some x → holds x ≡ true → list_any holds clients ≡ true
some_holds [] r x e h = cc
some_holds (y ∷ clients) zero x e h = grind (arith, nat_tests, same_Some)
some_holds (y ∷ clients) (suc r) x e h = grind (arith, nat_tests, some_holds clients r x e h)

-- the offers that all hold
pub held_all : (clients : List Client) (f : ℕ → Option Offer) (a : ℕ) → ((q : ℕ) (x : Client) → slice_get clients q ≡ Some x → x.held ≡ f (a + q))
    → offers_held clients ≡ filter_map f (range_with_len a (length clients))
held_all [] f a h = refl
held_all (x ∷ clients) f a h =
    let first = h 0 x refl in
    grind (arith, nat_tests, held_all clients f (a + 1) (λ q y e. let z : a + suc q ≡ (a + 1) + q = omega arith in h (suc q) y e ∙ ap f z))
