-- What is told of steps, one after another, and of a whole run.
use Rattle.turn_run.proofs.Words.{IfSome_then, ◌≡◌, ◌+◌, ℕ, refl, sym, ◌∙◌, ap, subst, List, [], ◌∷◌, ◌++◌, length, map, max, replicate, set, take, true, Option, Some, append_assoc, length-append, arith, append_cancel_left, map-append, slice_get, fold, enumerate_from, Header, Batch, Call, Hints, Script, DiskCall, Mark, Meet, Solo, Offer, with_end, needed_now, Counted, Setting, is_lawful, told_of, Going, after_mark, first_state, setting_of, counted, puts_in, step_to, Arrived, Stand, point, arrived_all, stand_of, HasGone, HasLed, IsLed, Stage, rank_stage, first_runner, counts_along, told_marks, told_over, HasTold, HasToldMore, Runner, entry_set, with_end-with_end, with_end-nil, gone_up, arrival_step, if_some_at, take-append_seam, nat_tests, common_steps}
use Rattle.turn_run.proofs.CutLaws.{solo_at}
use Rattle.turn_run.proofs.StageLaws.{some_each, gone_beside}
use Rattle.turn_run.proofs.MeetStep.{meet_at, met_count, IsTaken}
use Rattle.turn_run.proofs.TurnRuns.{first_stage}

-- ---- nothing, and one step

pub told_none : (s : Setting) (held : Option (List ℕ)) (records : ℕ) (ranks : List Arrived) (before now : List Mark) (told heard : Option (List (Mark × ℕ)))
    → now ≡ before → heard ≡ told → HasToldMore s (point before held records) ranks now told heard
told_none s held records ranks before now told heard e f =
    grind (arith, common_steps, with_end-nil (told_marks told), some_each held (λ file there. f ∙ sym (with_end-nil told)), with_end-nil told)

pub marks_ended : (told : Option (List (Mark × ℕ))) (more : List (Mark × ℕ)) → told_marks (with_end told more) ≡ with_end (told_marks told) (map (λ t. t.0) more)
marks_ended told more = grind (arith, nat_tests, map-append)

told_one : (s : Setting) (m : Mark) (count : ℕ) (held : Option (List ℕ)) (records : ℕ) (ranks : List Arrived) (before now : List Mark) (told heard : Option (List (Mark × ℕ)))
    → now ≡ before ++ m ∷ [] → heard ≡ with_end told ((m, count) ∷ []) → ((file : List ℕ) → (step_to s (counted file records, ranks) m).0.records ≡ count)
    → HasToldMore s (point before held records) ranks now told heard
told_one s m count held records ranks before now told heard e f after = grind (arith, nat_tests, marks_ended, some_each, point, with_end)

-- a solo step, which leaves the count of the file
pub told_alone : (s : Setting) (r n : ℕ) (held : Option (List ℕ)) (records : ℕ) (before now : List Mark) (told heard : Option (List (Mark × ℕ))) (t : Going) (o : Offer)
    → now ≡ before ++ Solo r n ∷ [] → heard ≡ with_end told ((Solo r n, records) ∷ [])
    → (ranks : List Arrived) → slice_get ranks r ≡ Some (t, Some o) → HasToldMore s (point before held records) ranks now told heard
told_alone s r n held records before now told heard t o e f ranks at = grind (arith, nat_tests, told_one, solo_at, point, counted)

pub told_meeting : {s : Setting} (k : ℕ) {held : Option (List ℕ)} {calls : List (List Call)} {runners : List Runner} {batches : List Batch} {known r n : ℕ} {before now : List Mark}
    {told heard : Option (List (Mark × ℕ))} → IsTaken calls runners batches known → now ≡ before ++ Meet k ∷ [] → heard ≡ with_end told ((Meet k, n) ∷ [])
    → n ≡ max r (max (needed_now s (puts_in batches)) known) → HasToldMore s (point before held r) (arrived_all s.header calls runners) now told heard
told_meeting {s} k {held} {calls} {runners} {batches} {known} {r} {n} {before} {now} {told} {heard} t e f count =
    told_one s (Meet k) n held r (arrived_all s.header calls runners) before now told heard e f (λ file. grind (arith, nat_tests, met_count s batches known file r, meet_at s k (counted file r) t))

-- ---- steps one after another

told_split : (s : Setting) (stand : Stand) (marks more : List Mark) → told_over s stand (marks ++ more) ≡ told_over s stand marks ++ told_over s (fold (step_to s) stand marks) more
told_split s stand [] more = refl
told_split s stand (m ∷ marks) more = grind (arith, nat_tests, told_split s (step_to s stand m) marks more)

pub told_then : (hints : Hints) (s : Setting) (before now later : List Mark) (a b : Stage) (told heard last : Option (List (Mark × ℕ)))
    → HasToldMore s (point before a.held a.records) a.ranks now told heard → HasLed hints s before now a b → HasToldMore s (point now b.held b.records) b.ranks later heard last
    → HasToldMore s (point before a.held a.records) a.ranks later told last
told_then hints s before now later a b told heard last first led second = record {
  more = first.more ++ second.more;
  grown = second.grown ∙ ap (λ (ms : List Mark). ms ++ second.more) first.grown ∙ append_assoc before first.more second.more;
  marks = second.marks ∙ ap (λ (ms : Option (List Mark)). with_end ms second.more) first.marks ∙ with_end-with_end (told_marks told) first.more second.more;
  counts = some_each a.held (λ file there.
      let l = if_some_at (λ (f : List ℕ). IsLed hints s led.more f a b) a.held file there led.led in
      let front = told_over s (stand_of file a) first.more in
      let state : fold (step_to s) (stand_of file a) first.more ≡ stand_of l.left b =
      subst (λ (ms : List Mark). fold (step_to s) (stand_of file a) ms ≡ stand_of l.left b) (append_cancel_left before led.more first.more (sym led.grown ∙ first.grown)) l.state in
      grind (arith, nat_tests, if_some_at, with_end-with_end told front (told_over s (stand_of l.left b) second.more), told_split s (stand_of file a) first.more second.more, b.held, l.told, second.counts, a.held, first.counts, with_end, told_over, stand_of));
}

-- one rank's steps, and then others of it
pub told_gone : (now : List Mark) {hints : Hints} {s : Setting} {r records : ℕ} {before later : List Mark} {held left : Option (List ℕ)} {calls made : Option (List DiskCall)} {from to asks : Arrived}
    {told heard last : Option (List (Mark × ℕ))} → HasGone hints s r (rank_stage before held calls from) (rank_stage now left made to)
    → ((ranks : List Arrived) → slice_get ranks r ≡ Some from → HasToldMore s (point before held records) ranks now told heard) → asks ≡ to
    → ((ranks : List Arrived) → slice_get ranks r ≡ Some asks → HasToldMore s (point now left records) ranks later heard last)
    → (ranks : List Arrived) → slice_get ranks r ≡ Some from → HasToldMore s (point before held records) ranks later told last
told_gone now {r} {records} {from} {to} gone first e second ranks at =
    told_then _ _ _ now _ _ _ _ _ _ (first ranks at) (gone_beside gone records ranks at) (second (set ranks r to) (entry_set ranks r from to at ∙ ap (λ (a : Arrived). Some a) (sym e)))

-- ---- a whole run

-- each mark of a list with the count after it, by its place and by steps
along : {U : Type 0} (step : U → Mark → U) (count : U → ℕ) (u : U) (first rest : List Mark) (n : ℕ) → n ≡ length first
    → map (λ (p : ℕ × Mark). (p.1, count (fold step u (take (p.0 + 1) (first ++ rest))))) (enumerate_from n rest) ≡ counts_along step count (fold step u first) rest
along step count u first [] n e = refl
along {U} step count u first (m ∷ rest) n e = grind (arith, common_steps, take-append_seam (first ++ m ∷ []) rest, append_assoc first (m ∷ []) rest, length-append first (m ∷ []), along step count u (first ++ m ∷ []) rest (n + 1))

-- by the steps of the serial run
pub told_along : (script : Script) (header : Header) (file : List ℕ) (order : List Mark)
    → told_of script header file order ≡ counts_along (after_mark (setting_of script header)) (λ u. u.0.records) (first_state header file script.calls) order
told_along script header file order = along (after_mark (setting_of script header)) (λ u. u.0.records) (first_state header file script.calls) [] order 0 refl

counts_up : (s : Setting) (state : Counted × List Going) (order : List Mark) → counts_along (after_mark s) (λ u. u.0.records) state order ≡ told_over s (gone_up s state) order
counts_up s state [] = refl
counts_up s state (m ∷ order) = grind (arith, nat_tests, arrival_step s state m, counts_up s (after_mark s state m) order)

-- before the first step
pub told_nothing : (script : Script) (header : Header) (held : Option (List ℕ)) (told : Option (List (Mark × ℕ))) (order : List Mark) → order ≡ [] → HasTold script header held told told order
told_nothing script header held told order e = grind (arith, nat_tests, with_end-nil, some_each, told_marks)

pub told_whole : (script : Script) (header : Header) (held : Option (List ℕ)) (records : ℕ) (runners : List Runner) (none made order : List Mark) (told heard : Option (List (Mark × ℕ)))
    → is_lawful script ≡ true → records ≡ header.records → runners ≡ replicate script.ranks (first_runner header records) → none ≡ [] → order ≡ made
    → HasToldMore (setting_of script header) (point none held records) (arrived_all header script.calls runners) made told heard → HasTold script header held told heard order
told_whole script header held records runners none made order told heard lawful e first n o h =
    let same : h.more ≡ order = grind (arith, nat_tests, h.grown) in record {
      marks = h.marks ∙ ap (λ (ms : List Mark). with_end (told_marks told) ms) same;
      counts = IfSome_then held h.counts (λ file k. k ∙ ap (λ (ts : List (Mark × ℕ)). with_end told ts)
          (grind (arith, common_steps, first_stage script header records runners lawful e first file, told_along script header file order, counts_up (setting_of script header) (first_state header file script.calls) order)));
    }
