-- The steps of a run: the offers of its ranks, the replies to them, and the ranks that have heard.
use Rattle.reference.proofs.Words.{◌≡◌, ℕ, zero, suc, ◌-◌, ◌<◌, ◌≤◌, refl, sym, ◌∙◌, ap, subst, inl, inr, List, [], ◌∷◌, length, map, max, set, Option, Some, length-set, arith, nat_tests, map-set, same_Some, slice_get-map, slice_get, zip, flat_map, IfSome, enumerate_from, entry_set, entry_set_other, Header, Offer, Reply, Counted, Setting, meeting, needs, puts_of, solo, told, record_limit, In, wanted, DoesFit, hears, offers_of, counted, IsRight, less_max, meeting_fits, solo_fits, meeting_within, replied, replies_long, at_in, heard, step_to, arrived, going_of, HasGone, IsAsked, IsWaiting, MayGoOn, all_arrived, AllHear, AreWaiting, DoFit, HasHeard, HaveHeard, Heard, HeardOne, Runner, some_limit}
use Rattle.reference.proofs.MeetSteps.{needs_low, own_right, puts_right}
use Rattle.nc_base.specs.declared.step.Mark.TheVariants as mark

-- ---- the offers that ranks hold

pub record Holds (header : Header) (runner : Runner) : Type 0 where
  pub offer : Offer
  pub is : runner.held ≡ Some offer
  pub asked : IsAsked header runner.rank.state offer

pub holds_one : (header : Header) (runner : Runner) → IsWaiting header runner → Holds header runner
holds_one header runner w = grind (arith, nat_tests)

-- the rank's offer is the one that it waits with
pub held_asked : (header : Header) (runner : Runner) (o : Offer) → IsWaiting header runner → runner.held ≡ Some o → IsAsked header runner.rank.state o
held_asked header runner o w e = grind (arith, nat_tests)

first_offer : (runner : Runner) (runners : List Runner) (o : Offer) → runner.held ≡ Some o → offers_of (all_arrived (runner ∷ runners)) ≡ o ∷ offers_of (all_arrived runners)
first_offer runner runners o e = ap (λ (m : Option Offer). offers_of ((going_of runner, m) ∷ all_arrived runners)) e

pub offers_long : (header : Header) (runners : List Runner) → AreWaiting header runners → length (offers_of (all_arrived runners)) ≡ length runners
offers_long header [] all = refl
offers_long header (runner ∷ runners) all =
    let h = holds_one header runner (all 0 runner refl) in
    let e = ap (λ (os : List Offer). length os) (first_offer runner runners h.offer h.is) in
    let again = offers_long header runners (λ r x f. all (suc r) x f) in
    omega arith

pub offer_at : (header : Header) (runners : List Runner) (r : ℕ) (runner : Runner) (o : Offer) → AreWaiting header runners → slice_get runners r ≡ Some runner → runner.held ≡ Some o
    → slice_get (offers_of (all_arrived runners)) r ≡ Some o
offer_at header [] r runner o all e f = absurd cc
offer_at header (x ∷ runners) zero runner o all e f = grind (arith, nat_tests)
offer_at header (x ∷ runners) (suc r) runner o all e f =
    let h = holds_one header x (all 0 x refl) in
    ap (λ (os : List Offer). slice_get os (suc r)) (first_offer x runners h.offer h.is) ∙ offer_at header runners r runner o (λ q y g. all (suc q) y g) e f

pub record Offered (header : Header) (o : Offer) : Type 0 where
  pub right : IsRight header o
  pub low : o.known < record_limit header.version

asked_offer : (header : Header) (runner : Runner) (o : Offer) → IsAsked header runner.rank.state o → runner.rank.state.known < record_limit header.version → Offered header o
asked_offer header runner o asked low = grind (arith, nat_tests)

pub runner_offer : (header : Header) (runner : Runner) (o : Offer) → IsWaiting header runner → runner.held ≡ Some o → Offered header o
runner_offer header runner o w e = asked_offer header runner o (held_asked header runner o w e) w.low

pub offered_in : (header : Header) (runners : List Runner) (o : Offer) → AreWaiting header runners → In (offers_of (all_arrived runners)) o → Offered header o
offered_in header [] o all m = absurd m
offered_in header (runner ∷ runners) o all m =
    let h = holds_one header runner (all 0 runner refl) in
    let others = offered_in header runners o (λ r x f. all (suc r) x f) in
    elim (subst (λ (os : List Offer). In os o) (first_offer runner runners h.offer h.is) m) [
      | inl e ↦ subst (λ (p : Offer). Offered header p) e (asked_offer header runner h.offer h.asked (all 0 runner refl).low)
      | inr n ↦ others n
    ]

-- ---- counts

less_step : (n m limit : ℕ) → 0 < limit → n ≤ max (limit - 1) m → m < limit → n < limit
less_step n m limit some h l = omega arith

last_below : (n limit : ℕ) → n < limit → n ≤ limit - 1
last_below n limit h = omega arith

pub meeting_low : (s : Setting) (offers : List Offer) (c : Counted) → c.records < record_limit s.header.version
    → ((o : Offer) → In offers o → Offered s.header o) → (meeting s offers c).0.records < record_limit s.header.version
meeting_low s offers c low all =
    let limit = record_limit s.header.version in
    let puts = flat_map puts_of (enumerate_from 0 offers) in
    less_step _ (needs s puts (told s puts)) limit (some_limit s.header.version)
    (meeting_within s offers c (limit - 1) (last_below c.records limit low) (λ q o e. last_below o.known limit (all o (at_in offers q o e)).low))
    (needs_low s puts (told s puts) (λ p m. puts_right s.header 0 offers p (λ o n. (all o n).right) m))

pub solo_low : (s : Setting) (rank : ℕ) (o : Offer) (c : Counted) → Offered s.header o → (solo s rank o c).1.records < record_limit s.header.version
solo_low s rank o c h =
    let puts = puts_of (rank, o) in
    grind (arith, nat_tests, less_max o.known (needs s puts (told s puts)) (record_limit s.header.version) h.low, told s puts, needs_low s puts (told s puts), own_right s.header rank o)

-- ---- replies

pub hears_fit : (header : Header) (runner : Runner) (o : Offer) (y : Reply) → IsWaiting header runner → runner.held ≡ Some o → DoesFit header o y
    → IfSome runner.rank.state.«open» (λ w. map (λ b. length b) y.got ≡ map (wanted runner.rank.header) w.gets)
hears_fit header runner o y w e fit = grind (arith, nat_tests)

pub may_hear : (header : Header) (runner : Runner) (y : Reply) → IsWaiting header runner → MayGoOn (hears runner.rank.header (going_of runner) y)
may_hear header runner y w = subst (λ (h : Header). MayGoOn (hears h (going_of runner) y)) (sym w.of_header) (w.ready y)

pub replies_fit : (s : Setting) (runners : List Runner) (c : Counted) (replies : List Reply) → AreWaiting s.header runners → replies ≡ (meeting s (offers_of (all_arrived runners)) c).1
    → DoFit s.header runners replies
replies_fit s runners c replies all e r runner o y f g h =
    meeting_fits s (offers_of (all_arrived runners)) c r o y (offer_at s.header runners r runner o all f g) (ap (λ (ys : List Reply). slice_get ys r) (sym e) ∙ h)

-- ---- the ranks that have heard

pub heard_all : (header : Header) (before now : List Runner) (replies : List Reply) → AllHear header replies before now → length replies ≡ length before
    → all_arrived now ≡ map (heard header) (zip (all_arrived before) replies)
heard_all header [] [] replies all l = refl
heard_all header (a ∷ before) (b ∷ now) (y ∷ replies) all l =
    let e = all.long in
    let own = (all.each 0 a b y refl refl refl).gone.arrived in
    let rest = heard_all header before now replies (record { long = omega arith; each = λ r c d z f g h. all.each (suc r) c d z f g h }) (omega arith) in
    λ i. own i ∷ rest i
heard_all header before now replies all l = let e = all.long in absurd (omega arith)

pub meeting_step : (s : Setting) (before now : List Runner) (replies : List Reply) (old file : List ℕ) (was records k : ℕ) → AreWaiting s.header before
    → file ≡ (meeting s (offers_of (all_arrived before)) (counted old was)).0.file → records ≡ (meeting s (offers_of (all_arrived before)) (counted old was)).0.records
    → replies ≡ (meeting s (offers_of (all_arrived before)) (counted old was)).1 → AllHear s.header replies before now
    → (counted file records, all_arrived now) ≡ step_to s (counted old was, all_arrived before) (mark.Meet k)
meeting_step s before now replies old file was records k waiting f n y all =
    grind (arith, nat_tests, replies_long s (offers_of (all_arrived before)) (counted old was), offers_long s.header before waiting, heard_all)

-- each has heard a reply whose count the header can have
pub have_heard : (s : Setting) (before now : List Runner) (replies : List Reply) (c : Counted) → AreWaiting s.header before → c.records < record_limit s.header.version
    → replies ≡ (meeting s (offers_of (all_arrived before)) c).1 → AllHear s.header replies before now → HaveHeard s.header before now
have_heard s before now replies c waiting low y all = record {
  long = all.long;
  each = λ r a b e f.
      let offers = offers_of (all_arrived before) in
      let h = holds_one s.header a (waiting r a e) in
      let x = replied s offers c r h.offer (offer_at s.header before r a h.offer waiting e h.is) in
      record {
        reply = x.reply;
        low = subst (λ (n : ℕ). n < record_limit s.header.version) (sym x.records) (meeting_low s offers c low (λ o m. offered_in s.header before o waiting m));
        heard = all.each r a b x.reply e f (ap (λ (ys : List Reply). slice_get ys r) y ∙ x.is);
      };
}

-- what a rank heard, under the same header
pub heard_by : (header : Header) (a b : Runner) (y : Reply) → a.rank.header ≡ header → b.rank.header ≡ a.rank.header
    → HasGone a.rank.header (hears a.rank.header (going_of a) y) (going_of b) b.held → Heard header y a b
heard_by header a b y e f gone = grind (arith, nat_tests)

pub has_heard : (header : Header) (rank : ℕ) (before : List Runner) (a b : Runner) → slice_get before rank ≡ Some a → HeardOne header a b → HasHeard header rank before (set before rank b)
has_heard header rank before a b e one = grind (arith, nat_tests, length-set, same_Some, entry_set, entry_set_other)

-- the reply to a step alone
pub own_reply : (s : Setting) (rank : ℕ) (o : Offer) (file : List ℕ) (a b : Runner) (y : Reply) → Offered s.header o → y ≡ (solo s rank o (counted file 0)).1 → Heard s.header y a b → HeardOne s.header a b
own_reply s rank o file a b y offered e heard = grind (arith, nat_tests, solo_low s rank o (counted file 0) offered)

pub own_fits : (s : Setting) (rank : ℕ) (o : Offer) (file : List ℕ) (runner : Runner) (y : Reply) → IsWaiting s.header runner → runner.held ≡ Some o → y ≡ (solo s rank o (counted file 0)).1
    → IfSome runner.rank.state.«open» (λ w. map (λ b. length b) y.got ≡ map (wanted runner.rank.header) w.gets)
own_fits s rank o file runner y w e f = grind (arith, nat_tests, solo_fits s rank o (counted file 0), hears_fit)

pub alone_step : (s : Setting) (before : List Runner) (a b : Runner) (o : Offer) (y : Reply) (old file : List ℕ) (records rank n : ℕ) → slice_get before rank ≡ Some a → a.held ≡ Some o
    → file ≡ (solo s rank o (counted old 0)).0.file → y ≡ (solo s rank o (counted old 0)).1 → Heard s.header y a b
    → (counted file records, all_arrived (set before rank b)) ≡ step_to s (counted old records, all_arrived before) (mark.Solo rank n)
alone_step s before a b o y old file records rank n e h f g heard = grind (arith, nat_tests, slice_get-map, set, map-set)
