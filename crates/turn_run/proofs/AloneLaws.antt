-- A rank that goes from one offer to the next by itself.
use Rattle.turn_run.proofs.Words.{◌≡◌, ℕ, sym, ◌∙◌, ap, subst, List, [], ◌∷◌, ◌++◌, length, map, set, drop, true, max, Option, Some, None, append_assoc, set-set, slice_get, is_some, IfSome, Header, Call, Answer, Post, Hints, Script, Mark, Solo, DiskCall, Offer, Reply, after, with_end, Setting, Counted, puts_of, solo, told, needed_now, solo_calls, Open, wanted, Going, advance, hears, counted, is_solo_of, IsOnWay, AsksAlone, hears_keeps, solo_keeps, IsAsked, asking, between, calls_of, going_of, HasHeard, IsPlaced, IsRunner, solo_to, step_calls, step_to, Arrived, IsLike, gots_long, solo_like, arrived, stage, HasGone, IsGrownBy, Leads, LeadsAlike, rank_stage, Runner, entry_set, set_own, one_of, all_joined, offer_of, calls_at, arith, nat_tests, common_steps}
use Rattle.nc_base.specs.declared.step.OfferKind.TheVariants as offer
use Rattle.turn_run.proofs.RunnerLaws.{advance_ended}
use Rattle.turn_run.proofs.StageLaws.{led_none, led_then}
use Rattle.list_laws.proofs.Common.{some_or_none}

-- ---- a runner, by the offer that it holds

pub arrived_free : (header : Header) (own : List Call) (runner : Runner) → runner.held ≡ None → arrived header own runner ≡ advance header (between own runner)
arrived_free header own runner e = ap (λ (m : Option Offer). elim m [ None ↦ advance header (between own runner) | Some o ↦ (asking own runner, Some o) ]) e

pub arrived_held : (header : Header) (own : List Call) (runner : Runner) (o : Offer) → runner.held ≡ Some o → arrived header own runner ≡ (asking own runner, Some o)
arrived_held header own runner o e = ap (λ (m : Option Offer). elim m [ None ↦ advance header (between own runner) | Some o ↦ (asking own runner, Some o) ]) e

pub going_free : (own : List Call) (runner : Runner) → runner.held ≡ None → going_of own runner ≡ between own runner
going_free own runner e = ap (λ (m : Option Offer). elim m [ None ↦ between own runner | Some o ↦ asking own runner ]) e

pub going_held : (own : List Call) (runner : Runner) (o : Offer) → runner.held ≡ Some o → going_of own runner ≡ asking own runner
going_held own runner o e = ap (λ (m : Option Offer). elim m [ None ↦ between own runner | Some o ↦ asking own runner ]) e

-- going through its calls leads to no other offer
pub arrived_gone : (header : Header) (own : List Call) (old new : Runner) → old.held ≡ None → advance header (between own old) ≡ (going_of own new, new.held)
    → (new.held ≡ None → drop (length new.answers) own ≡ []) → arrived header own old ≡ arrived header own new
arrived_gone header own old new free gone ended = grind (arith, nat_tests, arrived_free, some_or_none, going_free, advance_ended, going_held, arrived_held, arrived)

-- ---- one solo step

pub call_alone : (hints : Hints) (s : Setting) (r n : ℕ) (c : Counted) (ranks : List Arrived) (t : Going) (o : Offer) → slice_get ranks r ≡ Some (t, Some o)
    → step_calls hints s (c, ranks) (Solo r n) ≡ solo_calls hints s r o c
call_alone hints s r n c ranks t o e = ap (λ (m : Option Arrived). calls_at hints s r c (offer_of m)) e

pub step_at : (s : Setting) (r n : ℕ) (c : Counted) (ranks : List Arrived) (t : Going) (o : Offer) → slice_get ranks r ≡ Some (t, Some o)
    → step_to s (c, ranks) (Solo r n) ≡ ((solo s r o c).0, set ranks r (advance s.header (hears s.header t (solo s r o c).1)))
step_at s r n c ranks t o e = ap (λ (m : Option Arrived). elim m [ None ↦ (c, ranks) | Some a ↦ solo_to s r c ranks a ]) e

pub alone_led : (hints : Hints) (s : Setting) (r n : ℕ) (held left : Option (List ℕ)) (calls made : Option (List DiskCall)) (t : Going) (o : Offer) (reply : Reply) (to : Arrived)
    → IfSome held (λ file. reply ≡ (solo s r o (counted file 0)).1) → left ≡ after (λ file. (solo s r o (counted file 0)).0.file) held
    → IfSome held (λ file. made ≡ with_end calls (solo_calls hints s r o (counted file 0))) → to ≡ advance s.header (hears s.header t reply)
    → (records : ℕ) (ranks : List Arrived) → slice_get ranks r ≡ Some (t, Some o)
    → Leads hints s (Solo r n ∷ []) (stage held calls records ranks) (stage left made records (set ranks r to))
alone_led hints s r n None left calls made t o reply to heard bytes over up records ranks e = tt
alone_led hints s r n (Some file) left calls made t o reply to heard bytes over up records ranks e =
    grind (arith, common_steps, told, step_at s r n (counted file records) ranks t o e, call_alone hints s r n (counted file records) ranks t o e)

-- over any file
pub alone_alike : (s : Setting) (r n : ℕ) (t : Going) (o : Offer) (reply : Reply) (to : Arrived) → reply.pair ≡ told s (puts_of (r, o))
    → reply.records ≡ max o.known (needed_now s (puts_of (r, o))) → map (λ (blob : List ℕ). length blob) reply.got ≡ map (wanted s.header) o.batch.gets
    → to ≡ advance s.header (hears s.header t reply)
    → (records : ℕ) (ranks : List Arrived) → slice_get ranks r ≡ Some (t, Some o) → LeadsAlike s (Solo r n ∷ []) records ranks records (set ranks r to)
alone_alike s r n t o reply to pair count fits up records ranks e stand w = subst (λ (a : Arrived). IsLike (step_to s stand (Solo r n)) records (set ranks r a)) (sym up)
    (solo_like s _ _ n _ _ _ _ reply w e (record { pair = sym pair; records = sym count; lengths = gots_long s (solo s r o stand.0).0.file o.batch.gets ∙ sym fits }))

-- ---- a rank's own steps, one after another

pub gone_same : (hints : Hints) (s : Setting) (r : ℕ) (order : List Mark) (held : Option (List ℕ)) (calls : Option (List DiskCall)) (from to : Arrived) → from ≡ to
    → HasGone hints s r (rank_stage order held calls from) (rank_stage order held calls to)
gone_same hints s r order held calls from to e = grind (arith, common_steps, set_own, led_none)

pub gone_then : (now : List Mark) {hints : Hints} {s : Setting} {r : ℕ} {before later : List Mark} {held left last : Option (List ℕ)} {calls made done : Option (List DiskCall)} {from mid to : Arrived}
    → HasGone hints s r (rank_stage before held calls from) (rank_stage now left made mid) → HasGone hints s r (rank_stage now left made mid) (rank_stage later last done to)
    → HasGone hints s r (rank_stage before held calls from) (rank_stage later last done to)
gone_then now {hints} {s} {r} {before} {held} {left} {last} {calls} {made} {done} {from} {mid} {to} first second = record {
  more = first.more ++ second.more;
  grown = second.grown ∙ ap (λ (ms : List Mark). ms ++ second.more) first.grown ∙ append_assoc before first.more second.more;
  own = all_joined (is_solo_of r) first.more second.more first.own second.own;
  led = λ records ranks g. led_then hints s first.more second.more (stage held calls records ranks) (stage left made records (set ranks r mid)) (stage last done records (set ranks r to)) (first.led records ranks g)
      (subst (λ (others : List Arrived). Leads hints s second.more (stage left made records (set ranks r mid)) (stage last done records others)) (set-set ranks r mid to) (second.led records (set ranks r mid) (entry_set ranks r from mid g)));
  alike = λ records ranks g. subst (λ (others : List Arrived). LeadsAlike s (first.more ++ second.more) records ranks records others) (set-set ranks r mid to)
      (λ stand w. grind (arith, common_steps, first.alike records ranks g stand w, second.alike records (set ranks r mid) (entry_set ranks r from mid g)));
}

pub grown_then : (r : ℕ) (before now later : List Mark) → IsGrownBy r before now → IsGrownBy r now later → IsGrownBy r before later
grown_then r before now later first second = grind (arith, common_steps, all_joined (is_solo_of r) first.more second.more first.own second.own)

pub grown_one : (r n : ℕ) (before now : List Mark) → now ≡ before ++ Solo r n ∷ [] → IsGrownBy r before now
grown_one r n before now e = record { more = Solo r n ∷ []; grown = e; own = one_of r n }

pub gone_grown : (hints : Hints) (s : Setting) (r : ℕ) (before now : List Mark) (held left : Option (List ℕ)) (calls made : Option (List DiskCall)) (from to : Arrived)
    → HasGone hints s r (rank_stage before held calls from) (rank_stage now left made to) → IsGrownBy r before now
gone_grown hints s r before now held left calls made from to h = record { more = h.more; grown = h.grown; own = h.own }

-- ---- the reply to a solo step

pub alone_waits : (script : Script) (header : Header) (order : List Mark) (r : ℕ) (s : Going) (o : Offer) → AsksAlone script header order r s o
    → (is_some s.rank.«open» ≡ true) × IfSome s.rank.«open» (λ w. w.gets ≡ o.batch.gets)
alone_waits script header order r s o asks = (solo_keeps header asks.before s.rank asks.call o asks.step).1.1.1

pub fits_open : (m : Option Open) (header same : Header) (gets : List Post) (got : List (List ℕ)) → same ≡ header → IfSome m (λ w. w.gets ≡ gets)
    → map (λ (blob : List ℕ). length blob) got ≡ map (wanted header) gets → IfSome m (λ w. map (λ (blob : List ℕ). length blob) got ≡ map (wanted same) w.gets)
fits_open m header same gets got e h f = grind (arith, nat_tests)

pub heard_known : (before now : Runner) (reply : Reply) → is_some before.rank.state.«open» ≡ true → HasHeard before now reply
    → now.rank.state.known ≡ max before.rank.state.known reply.records
heard_known before now reply e h = (hears_keeps before.rank.header before.rank.state now.rank.state reply h.answer e h.heard).0

pub order_is : (r n : ℕ) (answers : List Answer) (before now : List Mark) → now ≡ before ++ Solo r n ∷ [] → n ≡ length answers → now ≡ before ++ Solo r (length answers) ∷ []
order_is r n answers before now e f = e ∙ ap (λ (k : ℕ). before ++ Solo r k ∷ []) f

-- ---- a runner that has gone on through its calls

pub went_runner : (script : Script) (header : Header) (order : List Mark) (r : ℕ) (own : List Call) (new : Runner) → own ≡ calls_of script r → new.rank.header ≡ header
    → IsPlaced script header order r (going_of own new) new.held → IfSome new.held (IsAsked header new.rank.state.known) → IsRunner script header order r new
went_runner script header order r own new e h p a = grind (arith, nat_tests)

pub taken_asks : (header : Header) (own : List Call) (a b : Runner) (o : Offer) → a.held ≡ Some o → b.rank ≡ a.rank → b.answers ≡ a.answers → (asking own b, Some o) ≡ arrived header own a
taken_asks header own a b o e f h = grind (arith, nat_tests, arrived_held header own a o e)

-- it went on to that offer
pub asks_on : (header : Header) (own all : List Call) (old new taken : Runner) (o : Offer) → own ≡ all → old.held ≡ None → advance header (between own old) ≡ (going_of own new, new.held)
    → (new.held ≡ None → drop (length new.answers) own ≡ []) → new.held ≡ Some o → taken.rank ≡ new.rank → taken.answers ≡ new.answers → (asking all taken, Some o) ≡ arrived header all old
asks_on header own all old new taken o e free went ended held rank answers = grind (arith, nat_tests, taken_asks, arrived_gone, asking, arrived)

pub same_runner : (a b : Runner) → b.rank ≡ a.rank → b.answers ≡ a.answers → b.held ≡ a.held → b ≡ a
same_runner a b e f h = λ i. record { rank = e i; answers = f i; held = h i }

pub alone_asks : (script : Script) (header : Header) (order : List Mark) (r : ℕ) (own : List Call) (runner : Runner) (o : Offer) → runner.held ≡ Some o → o.kind ≡ offer.Solo
    → IsPlaced script header order r (going_of own runner) runner.held → AsksAlone script header order r (asking own runner) o
alone_asks script header order r own runner o e k w = grind (arith, nat_tests, going_held own runner o e)

-- its offer was taken
pub taken_alone : (script : Script) (header : Header) (order : List Mark) (r : ℕ) (own all : List Call) (runner taken : Runner) (o : Offer) → own ≡ all → runner.held ≡ Some o → o.kind ≡ offer.Solo
    → taken.rank ≡ runner.rank → taken.answers ≡ runner.answers → IsPlaced script header order r (going_of own runner) runner.held → AsksAlone script header order r (asking all taken) o
taken_alone script header order r own all runner taken o e held kind rank answers placed =
    grind (arith, nat_tests, arrived_held, taken_asks, alone_asks, asking, going_of)

pub way_free : (script : Script) (header : Header) (order : List Mark) (r : ℕ) (own : List Call) (runner : Runner) → runner.held ≡ None
    → IsPlaced script header order r (going_of own runner) runner.held → IsOnWay script order r (between own runner) None
way_free script header order r own runner e w = grind (arith, nat_tests, going_free own runner e)
