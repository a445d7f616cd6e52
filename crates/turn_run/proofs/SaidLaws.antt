-- The answers of ranks that a fault cut off.
use Rattle.turn_run.proofs.Words.{inl, inr, IfSome_then, ◌≡◌, ℕ, suc, ◌<◌, ◌≤◌, ◌≢◌, refl, sym, ◌∙◌, ap, subst, List, [], ◌∷◌, ◌++◌, length, map, set, Option, Some, None, append_assoc, arith, nat_tests, append-nil, append_cancel_left, filter-append, same_Some, slice_get_within, slice_get, fold, filter, Answer, Header, Call, Hints, Script, DiskCall, Mark, Meet, Solo, Offer, Reply, StepErr, Memory, Setting, Counted, solo, concerns, Going, advance, after_mark, hears, Begins, HasAnswers, counted, Arrived, Stand, step_to, point, HasSaid, SaysAt, AllSay, HasReached, HaveAnswers, all_between, between, calls_of, AreFree, HasArrived, Stage, IsLed, HasGone, HasLed, IsGrownBy, arrived, arrived_all, stage, rank_stage, Runner, if_some_at, entry_set, entry_set_other, entry_map, gone_up, arrival_steps, common_steps}
use Rattle.run_laws.proofs.WayLaws.{others_filter as solos_beside}
use Rattle.turn_run.proofs.AloneLaws.{arrived_free, arrived_held, step_at}
use Rattle.turn_run.proofs.RunnerLaws.{advance_ended, answers_begin}
use Rattle.turn_run.proofs.StageLaws.{some_each, gone_beside}
use Rattle.turn_run.proofs.TurnEnds.{get_between}
use Rattle.turn_run.proofs.TurnSteps.{arrived_at, calls_there, set_each}
use Rattle.list_laws.proofs.Std.{cases_lt}
use Rattle.list_laws.proofs.Common.{some_or_none}

-- ---- one rank

pub said_here : (fault : StepErr) (a : Arrived) (answers : List Answer) → answers ≡ a.0.answers → HasSaid fault a answers
said_here fault a answers e = record { begins = ([], append-nil answers ∙ e); all = λ d. let l = ap (λ (xs : List Answer). length xs) e in omega arith }

pub said_part : (fault : StepErr) (a : Arrived) (answers : List Answer) → fault ≡ Memory → Begins answers a.0.answers → HasSaid fault a answers
said_part fault a answers memory b = grind (arith, nat_tests)

-- where it heard its last reply
pub begins_up : (header : Header) (g : Going) → Begins g.answers (advance header g).0.answers
begins_up header g = answers_begin header g.rank g.answers g.calls

pub begins_heard : (header : Header) (t : Going) (reply : Reply) → Begins t.answers (advance header (hears header t reply)).0.answers
begins_heard header t reply = grind (arith, common_steps, begins_up header (hears header t reply))

pub said_up : (header : Header) (fault : StepErr) (g : Going) (answers : List Answer) → HasSaid fault (advance header g) answers → HasAnswers header fault g answers
said_up header fault g answers h = grind (arith, common_steps, begins_up header g, h.begins, h.all)

said_between : (header : Header) (fault : StepErr) (g : Going) (answers : List Answer) → answers ≡ g.answers → HasAnswers header fault g answers
said_between header fault g answers e = grind (arith, nat_tests, begins_up header g)

pub arrived_said : (header : Header) (own : List Call) (runner : Runner) → HasArrived own runner → (arrived header own runner).0.answers ≡ runner.answers
arrived_said header own runner h = grind (arith, nat_tests, some_or_none, arrived_free, advance_ended, arrived_held, arrived)

pub says_here : (r : ℕ) (fault : StepErr) (answers : List Answer) (from : Arrived) (c : Counted) (ranks : List Arrived) → slice_get ranks r ≡ Some from → HasSaid fault from answers
    → SaysAt r fault answers (c, ranks)
says_here r fault answers from c ranks e h a g = subst (λ (x : Arrived). HasSaid fault x answers) (same_Some from a (sym e ∙ g)) h

-- the answers of a rank that went on through its calls, and was cut off
pub part_arrived : (header : Header) (own all : List Call) (old : Runner) (answers : List Answer) → own ≡ all → old.held ≡ None
    → (rest : List Answer) × (answers ++ rest ≡ (advance header (between own old)).0.answers) → Begins answers (arrived header all old).0.answers
part_arrived header own all old answers e free (rest, h) = grind (arith, nat_tests, arrived_free, arrived, between)

-- ---- steps before

pub reached_here : (P : Stand → Type 0) (s : Setting) (before now : List Mark) (held : Option (List ℕ)) (records : ℕ) (ranks : List Arrived) → now ≡ before → ((c : Counted) → P (c, ranks))
    → HasReached P s (point before held records) ranks now
reached_here P s before now held records ranks e h = record { more = []; grown = e ∙ sym (append-nil before); ends = some_each held (λ file there. h (counted file records)) }

pub reached_then : (P : Stand → Type 0) (mid : List Mark) {hints : Hints} {s : Setting} {before now : List Mark} {a b : Stage}
    → HasLed hints s before mid a b → HasReached P s (point mid b.held b.records) b.ranks now → HasReached P s (point before a.held a.records) a.ranks now
reached_then P mid {hints} {s} {before} {now} {a} {b} led h =
    grind (arith, common_steps, if_some_at (λ (f : List ℕ). P (fold (step_to s) (counted f b.records, b.ranks) h.more)) b.held)

pub gone_reached : (P : Stand → Type 0) (mid : List Mark) {hints : Hints} {s : Setting} {r : ℕ} {before now : List Mark} {held left : Option (List ℕ)} {calls made : Option (List DiskCall)} {from to : Arrived}
    → HasGone hints s r (rank_stage before held calls from) (rank_stage mid left made to)
    → ((records : ℕ) (ranks : List Arrived) → slice_get ranks r ≡ Some to → HasReached P s (point mid left records) ranks now)
    → (records : ℕ) (ranks : List Arrived) → slice_get ranks r ≡ Some from → HasReached P s (point before held records) ranks now
gone_reached P mid {r} {from} {to} g next records ranks e = reached_then P mid (gone_beside g records ranks e) (next records (set ranks r to) (entry_set ranks r from to e))

-- a solo step was done, and its reply was not heard
pub reached_unheard : (s : Setting) (fault : StepErr) (r n : ℕ) (before now : List Mark) (held : Option (List ℕ)) (t : Going) (o : Offer) (answers : List Answer) → fault ≡ Memory
    → now ≡ before ++ Solo r n ∷ [] → answers ≡ t.answers
    → (records : ℕ) (ranks : List Arrived) → slice_get ranks r ≡ Some (t, Some o) → HasReached (SaysAt r fault answers) s (point before held records) ranks now
reached_unheard s fault r n before now held t o answers memory grown e records ranks there = record {
  more = Solo r n ∷ [];
  grown = grown;
  ends = some_each held (λ file is.
      let c = counted file records in let reply = (solo s r o c).1 in let up = advance s.header (hears s.header t reply) in
      let said = said_part fault up answers memory (subst (λ (xs : List Answer). Begins xs up.0.answers) (sym e) (begins_heard s.header t reply)) in
      subst (λ (stand : Stand). SaysAt r fault answers stand) (sym (step_at s r n c ranks t o there))
      (says_here r fault answers up (solo s r o c).0 (set ranks r up) (entry_set ranks r (t, Some o) up there) said));
}

-- ---- the ranks that no mark concerns

-- of steps that leave what is seen of rank r, where they are of another one
beside : {X G : Type 0} (step : X → Mark → X) (see : X → G) (r : ℕ) (more : List Mark) (x : X) → ((x : X) (q n : ℕ) → q ≢ r → see (step x (Solo q n)) ≡ see x) → filter (concerns r) more ≡ []
    → see (fold step x more) ≡ see x
beside step see r [] x one e = refl
beside step see r (Meet k ∷ more) x one e = absurd cc
beside {X} step see r (Solo q n ∷ more) x one e = grind (arith, nat_tests, beside step see r more)

marks_beside : (s : Setting) (r : ℕ) (more : List Mark) (stand : Stand) → filter (concerns r) more ≡ [] → slice_get (fold (step_to s) stand more).1 r ≡ slice_get stand.1 r
marks_beside s r more stand e = beside (step_to s) (λ (x : Stand). slice_get x.1 r) r more stand (λ x q n ne. grind (arith, nat_tests, some_or_none (slice_get x.1 q), entry_set_other x.1 q r)) e

goings_beside : (s : Setting) (r : ℕ) (more : List Mark) (state : Counted × List Going) → filter (concerns r) more ≡ []
    → slice_get (fold (after_mark s) state more).1 r ≡ slice_get state.1 r
goings_beside s r more state e =
    beside (after_mark s) (λ (x : Counted × List Going). slice_get x.1 r) r more state (λ x q n ne. grind (arith, nat_tests, some_or_none (slice_get x.1 q), entry_set_other x.1 q r)) e

none_added : (r : ℕ) (before now more : List Mark) → now ≡ before ++ more → filter (concerns r) now ≡ filter (concerns r) before → filter (concerns r) more ≡ []
none_added r before now more e f = grind (arith, nat_tests, append_cancel_left (filter (concerns r) before) (filter (concerns r) more) [], filter-append (concerns r) before more, append-nil (filter (concerns r) before))

pub grown_beside : (q r : ℕ) (before now : List Mark) → q ≢ r → IsGrownBy q before now → filter (concerns r) now ≡ filter (concerns r) before
grown_beside q r before now n g = grind (arith, common_steps, filter-append (concerns r) before g.more, solos_beside q r g.more n g.own)

-- ---- the ranks of the serial run

pub up_after : (s : Setting) (c : Counted) (goings : List Going) (ranks : List Arrived) (order : List Mark) → map (advance s.header) goings ≡ ranks
    → gone_up s (fold (after_mark s) (c, goings) order) ≡ fold (step_to s) (c, ranks) order
up_after s c goings ranks order e = sym (arrival_steps s (c, goings) order) ∙ ap (λ (rs : List Arrived). fold (step_to s) (c, rs) order) e

pub have_reached : (s : Setting) (fault : StepErr) (before now : List Mark) (held : Option (List ℕ)) (records : ℕ) (goings : List Going) (ranks : List Arrived) (runners : List Runner)
    → map (advance s.header) goings ≡ ranks → HasReached (AllSay fault runners) s (point before held records) ranks now → HaveAnswers s fault (point before held records) goings now runners
have_reached s fault before now held records goings ranks runners e h = record {
  more = h.more;
  grown = h.grown;
  said = IfSome_then held h.ends (λ file k r g runner f there.
      grind (arith, nat_tests, k r runner there, said_up s.header fault g runner.answers, up_after s (counted file records) goings ranks h.more e, entry_map (advance s.header) (fold (after_mark s) (counted file records, goings) h.more).1 r g f));
}

-- those that hold no offer wait where they heard their last reply
pub between_up : (header : Header) (calls : List (List Call)) (runners : List Runner) → AreFree runners → map (advance header) (all_between calls runners) ≡ arrived_all header calls runners
between_up header (own ∷ calls) (runner ∷ runners) f =
    let first : advance header (between own runner) ≡ arrived header own runner = sym (arrived_free header own runner (f 0 runner refl)) in
    grind (arith, common_steps, between_up header calls runners (λ r s e. f (suc r) s e))
between_up header calls runners f = refl

-- ---- ranks that go on one after another

-- one was cut off: those before it have arrived, and those after it wait where they were
pub answers_cut : (script : Script) (fault : StepErr) (n : ℕ) (before mid now : List Mark) (first runners : List Runner) (was new : Runner) (s : Setting)
    (held left : Option (List ℕ)) (calls made : Option (List DiskCall)) (records : ℕ) → length script.calls ≡ length runners → AreFree first → slice_get runners n ≡ Some was
    → HasLed script.hints s before mid (stage held calls records (arrived_all s.header script.calls first)) (stage left made records (arrived_all s.header script.calls runners))
    → IsGrownBy n mid now → ((r : ℕ) → n ≤ r → filter (concerns r) mid ≡ filter (concerns r) before)
    → ((r : ℕ) (runner : Runner) → r < n → slice_get runners r ≡ Some runner → HasArrived (calls_of script r) runner)
    → ((r : ℕ) → n ≤ r → slice_get runners r ≡ slice_get first r)
    → HasReached (SaysAt n fault new.answers) s (point mid left records) (arrived_all s.header script.calls runners) now
    → HaveAnswers s fault (point before held records) (all_between script.calls first) now (set runners n new)
answers_cut script fault n before mid now first runners was new s held left calls made records long free there led grown others come same reached = record {
  more = led.more ++ reached.more;
  grown = reached.grown ∙ ap (λ (ms : List Mark). ms ++ reached.more) led.grown ∙ append_assoc before led.more reached.more;
  said = some_each held (λ file is.
      let goings = all_between script.calls first in let ranks = arrived_all s.header script.calls runners in let more = led.more ++ reached.more in
      let l = if_some_at (λ (f : List ℕ). IsLed script.hints s led.more f (stage held calls records (arrived_all s.header script.calls first)) (stage left made records ranks)) held file is led.led in
      let says = if_some_at (λ (f : List ℕ). SaysAt n fault new.answers (fold (step_to s) (counted f records, ranks) reached.more)) left l.left l.told reached.ends in
      let last = (fold (after_mark s) (counted file records, goings) more).1 in let stand : Stand = fold (step_to s) (counted l.left records, ranks) reached.more in
      let up : map (advance s.header) last ≡ stand.1 =
      grind (arith, common_steps, up_after s (counted file records) goings (arrived_all s.header script.calls first) more (between_up s.header script.calls first free), l.state) in
      let gets : (r : ℕ) (g : Going) → slice_get last r ≡ Some g → slice_get stand.1 r ≡ Some (advance s.header g) =
      λ r g f. ap (λ (rs : List Arrived). slice_get rs r) (sym up) ∙ entry_map (advance s.header) last r g f in
      let none : (r : ℕ) → n ≢ r → filter (concerns r) reached.more ≡ [] = λ r ne. none_added r mid now reached.more reached.grown (grown_beside n r mid now ne grown) in
      let other : (r : ℕ) (x : Runner) → n ≢ r → slice_get runners r ≡ Some x → (g : Going) → slice_get last r ≡ Some g → HasAnswers s.header fault g x.answers =
      λ r x ne here g f. elim (cases_lt r n) [
        | inl below ↦
            let beside = marks_beside s r reached.more (counted l.left records, ranks) (none r ne) in
            said_up s.header fault g x.answers (said_here fault (advance s.header g) x.answers
            (grind (arith, nat_tests, gets r g f, beside, arrived_at script s.header runners r x long here, arrived_said s.header (calls_of script r) x (come r x below here))))
        | inr past ↦
            let within = slice_get_within runners r x here in
            let beside = goings_beside s r more (counted file records, goings) (grind (arith, common_steps, none r ne, none_added r before mid led.more led.grown (others r past))) in
            let from = get_between script.calls first r (calls_of script r) x (calls_there script r (omega arith)) (sym (same r past) ∙ here) in
            said_between s.header fault g x.answers (grind (arith, nat_tests, beside, from))
      ] in
      λ r g runner f k. set_each (λ (q : ℕ) (x : Runner). (h : Going) → slice_get last q ≡ Some h → HasAnswers s.header fault h x.answers) runners n was new there
      (λ h e. said_up s.header fault h new.answers (says (advance s.header h) (gets n h e))) other r runner k g f);
}
