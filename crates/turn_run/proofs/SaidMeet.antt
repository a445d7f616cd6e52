-- The answers of the ranks of a meeting, also where it was cut off.
use Rattle.turn_run.proofs.Words.{◌≡◌, ℕ, ◌<◌, ◌≤◌, sym, ◌∙◌, ap, subst, inl, inr, ◌⊎◌, List, [], ◌∷◌, ◌++◌, length, map, set, true, Option, Some, arith, append_cancel_left, same_Some, slice_get_within, slice_get, fold, zip, IfSome, Pair, Header, Batch, Call, Hints, Script, Mark, Meet, Offer, Reply, StepErr, Memory, Setting, Counted, meeting, Going, advance, after_mark, hears, offers_of, Begins, counted, Arrived, Stand, heard, point, HasSaid, AllSay, HasReached, AreAnswers, HaveAnswers, HaveHeardInPart, KeepAnswers, all_between, asking, between, calls_of, reply_of, AreFreed, HasHeard, HaveArrived, AreRunners, Stage, IsLed, HasLed, arrived, arrived_all, stand_of, Runner, if_some_at, entry_below, entry_map, gone_up, is_lawful, ranks_lawful, setting_of, nat_tests, common_steps}
use Rattle.turn_run.proofs.AloneLaws.{arrived_held}
use Rattle.turn_run.proofs.MeetDone.{heard_before}
use Rattle.turn_run.proofs.MeetOffers.{meets_at}
use Rattle.turn_run.proofs.MeetStep.{between_done, replies_of, HasGiven, HaveDone, IsTaken}
use Rattle.turn_run.proofs.SaidLaws.{arrived_said, begins_heard, begins_up, reached_here, said_here, said_part, up_after}
use Rattle.turn_run.proofs.RunnerLaws.{heard_runner}
use Rattle.turn_run.proofs.StageLaws.{some_each}
use Rattle.turn_run.proofs.TurnSteps.{arrived_at, set_each}
use Rattle.list_laws.proofs.Common.{entry_zip}

-- ---- before its step is done

pub all_say_here : (script : Script) (header : Header) (fault : StepErr) (runners now : List Runner) (c : Counted) → length script.calls ≡ length runners → length now ≡ length runners
    → HaveArrived script runners → KeepAnswers runners now → AllSay fault now (c, arrived_all header script.calls runners)
all_say_here script header fault runners now c long same come kept r b k a g =
    let within : r < length runners = (let l = slice_get_within now r b k in omega arith) in
    grind (arith, nat_tests, entry_below runners r within, arrived_at script header runners r (entry_below runners r within).0 long (entry_below runners r within).1, said_here fault a b.answers, arrived_said header (calls_of script r) (entry_below runners r within).0)

pub all_reached_here : {script : Script} {header : Header} {len : ℕ} {fault : StepErr} {before now_order : List Mark} {held : Option (List ℕ)} {records : ℕ} {runners : List Runner} (now : List Runner)
    → is_lawful script ≡ true → AreRunners script header len before runners → length now ≡ length runners → HaveArrived script runners → KeepAnswers runners now → now_order ≡ before
    → HasReached (AllSay fault now) (setting_of script header) (point before held records) (arrived_all header script.calls runners) now_order
all_reached_here {script} {header} {fault} {before} {now_order} {held} {records} {runners} now lawful all same come kept e =
    reached_here (AllSay fault now) (setting_of script header) before now_order held records (arrived_all header script.calls runners) e
    (λ n. all_say_here script header fault runners now n ((ranks_lawful script lawful).one_each ∙ sym all.all) same come kept)

pub keep_own : (runners : List Runner) → KeepAnswers runners runners
keep_own runners r a b e f = ap (λ (x : Runner). x.answers) (sym (same_Some a b (sym e ∙ f)))

-- of those before one element it is known, and those after it are as they were
at_part : (P : ℕ → Runner → Runner → Type 0) (old now : List Runner) (i : ℕ) (was new : Runner) → slice_get now i ≡ Some was
    → ((r : ℕ) (a b : Runner) → r < i → slice_get old r ≡ Some a → slice_get now r ≡ Some b → P r a b) → ((r : ℕ) → i ≤ r → slice_get now r ≡ slice_get old r) → new.answers ≡ was.answers
    → ((r : ℕ) (a b : Runner) → b.answers ≡ a.answers → P r a b) → (r : ℕ) (a b : Runner) → slice_get old r ≡ Some a → slice_get (set now i new) r ≡ Some b → P r a b
at_part P old now i was new there before left same kept r a b g h =
    set_each (λ (q : ℕ) (x : Runner). (y : Runner) → slice_get old q ≡ Some y → P q y x) now i was new there
    (λ y e. kept i y new (same ∙ ap (λ (x : Runner). x.answers) (same_Some was y (sym there ∙ left i (omega arith) ∙ e)))) (grind (arith, common_steps)) r b h a g

pub keep_part : (old now : List Runner) (i : ℕ) (was new : Runner) → slice_get now i ≡ Some was
    → ((r : ℕ) (a b : Runner) → r < i → slice_get old r ≡ Some a → slice_get now r ≡ Some b → b.answers ≡ a.answers)
    → ((r : ℕ) → i ≤ r → slice_get now r ≡ slice_get old r) → new.answers ≡ was.answers → KeepAnswers old (set now i new)
keep_part old now i was new there before left same = at_part (λ r a b. b.answers ≡ a.answers) old now i was new there before left same (λ r a b e. e)

-- ---- some have heard

said_in_part : (header : Header) (fault : StepErr) (own : List Call) (a b : Runner) (o : Offer) (reply : Reply) → fault ≡ Memory → a.held ≡ Some o → a.rank.header ≡ header
    → (b.answers ≡ a.answers) ⊎ HasHeard a b reply → HasSaid fault (heard header (arrived header own a, reply)) b.answers
said_in_part header fault own a b o reply memory held same part =
    let up : advance header (hears header (asking own a) reply) ≡ heard header (arrived header own a, reply) =
    ap (λ (x : Arrived). heard header (x, reply)) (sym (arrived_held header own a o held)) in
    said_part fault (heard header (arrived header own a, reply)) b.answers memory (subst (λ (x : Arrived). Begins b.answers x.0.answers) up (elim part [
      | inl e ↦ rw (e) (begins_heard header (asking own a) reply)
      | inr h ↦ subst (λ (g : Going). Begins b.answers (advance header g).0.answers) (heard_runner header own a b reply same h) (begins_up header (between own b))
    ]))

pub heard_part : (pair : Option Pair) (n : ℕ) (table : List (List (List ℕ))) (old now : List Runner) (i : ℕ) (was new : Runner) → slice_get now i ≡ Some was
    → ((r : ℕ) (a b : Runner) (blobs : List (List ℕ)) → r < i → slice_get old r ≡ Some a → slice_get now r ≡ Some b → slice_get table r ≡ Some blobs → HasHeard a b (reply_of pair n blobs))
    → ((r : ℕ) → i ≤ r → slice_get now r ≡ slice_get old r) → new.answers ≡ was.answers → HaveHeardInPart pair n table old (set now i new)
heard_part pair n table old now i was new there before left same r a b blobs g h t =
    at_part (λ q x y. (row : List (List ℕ)) → slice_get table q ≡ Some row → (y.answers ≡ x.answers) ⊎ HasHeard x y (reply_of pair n row)) old now i was new there
    (λ q x y k u v row w. inr (before q x y row k u v w)) left same (λ q x y e row w. inl e) r a b g h blobs t

pub part_of_freed : (pair : Option Pair) (n : ℕ) (table : List (List (List ℕ))) (runners mid now : List Runner) → length mid ≡ length runners → AreFreed runners mid → HaveHeardInPart pair n table mid now
    → HaveHeardInPart pair n table runners now
part_of_freed pair n table runners mid now long freed part r a b blobs e g t =
    let m = entry_below mid r (let l = slice_get_within runners r a e in omega arith) in
    grind (arith, nat_tests, heard_before m.0 a b (reply_of pair n blobs) (freed.each r a m.0 e m.1).rank)

pub reached_deaf : {script : Script} {header : Header} {len : ℕ} {fault : StepErr} {order now_order : List Mark} {runners : List Runner} (now : List Runner) {batches : List Batch} {known r n : ℕ} (k : ℕ) {s : Setting}
    {held left : Option (List ℕ)} {pair : Option Pair} {table : List (List (List ℕ))} → s.header ≡ header → fault ≡ Memory → now_order ≡ order ++ Meet k ∷ []
    → length now ≡ length runners → length table ≡ length runners → AreRunners script header len order runners → HaveArrived script runners
    → IsTaken script.calls runners batches known → HasGiven s batches known r n held left pair table → HaveHeardInPart pair n table runners now
    → HasReached (AllSay fault now) s (point order held r) (arrived_all s.header script.calls runners) now_order
reached_deaf {script} {header} {fault} {runners} now {batches} {known} {r} {n} k {s} {held} {left} {pair} {table} of_header memory grown m w all come t given part = record {
  more = Meet k ∷ [];
  grown = grown;
  ends = some_each held (λ file there q x h a g.
      let b = rw there at given in
      let within : q < length runners = (let i = slice_get_within now q x h in omega arith) in
      let was = entry_below runners q within in
      let row = entry_below table q (omega arith) in let o = meets_at all t.hold come q was.0 was.1 in
      let is : heard s.header (arrived s.header (calls_of script q) was.0, reply_of pair n row.0) ≡ a =
      same_Some _ a (sym (entry_map (heard s.header) _ q _ (entry_zip (arrived_all s.header script.calls runners) (map (reply_of pair n) table) q _ (reply_of pair n row.0)
      (arrived_at script s.header runners q was.0 t.long was.1) (entry_map (reply_of pair n) table q row.0 row.1)))
      ∙ ap (λ (ys : List Reply). slice_get (map (heard s.header) (zip (arrived_all s.header script.calls runners) ys)) q) (sym (replies_of t b)) ∙ g) in
      subst (λ (y : Arrived). HasSaid fault y x.answers) is
      (said_in_part s.header fault (calls_of script q) was.0 x o.0 (reply_of pair n row.0) memory o.1.held (o.1.of_header ∙ sym of_header) (part q was.0 x row.0 was.1 h row.1)));
}

-- ---- all have heard

pub meeting_between : {s : Setting} {calls : List (List Call)} {runners now : List Runner} {batches : List Batch} {known r n : ℕ} (k : ℕ) {held left : Option (List ℕ)} {pair : Option Pair}
    {table : List (List (List ℕ))} → IsTaken calls runners batches known → HaveDone s.header pair n runners now table → HasGiven s batches known r n held left pair table
    → (goings : List Going) → map (advance s.header) goings ≡ arrived_all s.header calls runners
    → IfSome held (λ file. (after_mark s (counted file r, goings) (Meet k)).1 ≡ all_between calls now)
meeting_between {s} {calls} {runners} {now} {r} {n} k {held} {pair} {table} t d given goings up = some_each held (λ file there.
    let b = rw there at given in
    (λ i. map (λ p. hears s.header p.0.0 p.1) (zip (up i) (meeting s (offers_of (up i)) (counted file r)).1))
    ∙ (λ i. map (λ p. hears s.header p.0.0 p.1) (zip (arrived_all s.header calls runners) (replies_of t b i))) ∙ between_done s.header pair n calls runners now table d)

-- ---- steps before

pub answers_after : (hints : Hints) (s : Setting) (fault : StepErr) (before order now_order later : List Mark) (k : ℕ) (a b c : Stage) (goings bs : List Going) (runners : List Runner)
    → HasLed hints s before order a b → HasLed hints s order now_order b c → now_order ≡ order ++ Meet k ∷ [] → map (advance s.header) goings ≡ a.ranks
    → ((gs : List Going) → map (advance s.header) gs ≡ b.ranks → IfSome b.held (λ file. (after_mark s (counted file b.records, gs) (Meet k)).1 ≡ bs))
    → HaveAnswers s fault (point now_order c.held c.records) bs later runners → HaveAnswers s fault (point before a.held a.records) goings later runners
answers_after hints s fault before order now_order later k a b c goings bs runners first second e up step h = record {
  more = (first.more ++ second.more) ++ h.more;
  grown = grind (arith, common_steps, h.grown, second.grown, first.grown);
  said = some_each a.held (λ file there.
      let l = if_some_at (λ (f : List ℕ). IsLed hints s first.more f a b) a.held file there first.led in
      let m = if_some_at (λ (f : List ℕ). IsLed hints s second.more f b c) b.held l.left l.told second.led in
      let state = fold (after_mark s) (counted file a.records, goings) first.more in
      let stand : gone_up s state ≡ stand_of l.left b = up_after s (counted file a.records) goings a.ranks first.more up ∙ l.state in
      let one : second.more ≡ Meet k ∷ [] = append_cancel_left order second.more (Meet k ∷ []) (sym second.grown ∙ e) in
      let same : (after_mark s (counted l.left b.records, state.1) (Meet k)).1 ≡ bs =
      if_some_at (λ (f : List ℕ). (after_mark s (counted f b.records, state.1) (Meet k)).1 ≡ bs) b.held l.left l.told (step state.1 (ap (λ (x : Stand). x.1) stand)) in
      let done : fold (after_mark s) state (Meet k ∷ []) ≡ (counted m.left c.records, bs) =
      grind (arith, nat_tests, up_after s state.0 state.1 b.ranks (Meet k ∷ []), m.state) in
      subst (λ (gs : List Going). AreAnswers s.header fault gs runners) (grind (arith, common_steps, done, one))
      (if_some_at (λ (f : List ℕ). AreAnswers s.header fault (fold (after_mark s) (counted f c.records, bs) h.more).1 runners) c.held m.left m.told h.said));
}
