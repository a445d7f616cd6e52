-- A run in turn as a whole: its meetings, and then the end by the ends of its ranks.
use Rattle.turn_run.proofs.Words.{IfSome_then, ◌≡◌, ℕ, ◌≤◌, refl, sym, ◌∙◌, ap, subst, inl, inr, ◌⊎◌, List, [], length, map, max, replicate, true, Option, Some, None, Result, Ok, Err, length-map, IfSome, OnOk, result_err, byte_len, map_map, Header, RankEnd, RankStop, RunEnd, ServeEnd, Script, DiskCall, Mark, StepErr, Rose, with_end, BothTold, rose_before, run_calls, raised, count_width, IsLegal, is_lawful, is_sound, End, serial_from, setting_of, IsCutRun, IsTorn, as_setting, counted, all_calls_over, ended_from, ranks_lawful, point, contents_of, seen, HasBegun, IsCount, HasStopped, IsNext, most_known_of, runner_end, EndedAt, HasClosed, IsRun, AreRunners, all_between, AllSay, HaveAnswers, arrived_all, first_runner, Runner, blank, AreAlikeEnds, same_beside, le_two, arith, nat_tests, common_steps}
use Rattle.nc_base.specs.declared.step.StepErr.TheVariants as fault
use Rattle.serial_spec.specs.RankMachine as machine
use Rattle.turn_run.specs.RankEnds.EndedAt.{as_left, in_close as in_closing}
use Rattle.turn_run.proofs.CutEnds.{same_cause, unbegun_run}
use Rattle.turn_run.proofs.CutRuns.{cut_answers, cut_rows, cut_run, no_answers, no_rows, stood_first, stood_as, stood_before, stood_closing, stood_led, Stood}
use Rattle.turn_run.proofs.EndedLaws.{Closing, EndOfCut}
use Rattle.turn_run.proofs.SaidLaws.{between_up, have_reached, reached_here, reached_then}
use Rattle.turn_run.proofs.SaidMeet.{all_say_here, keep_own}
use Rattle.turn_run.proofs.TurnCauses.{rose_later}
use Rattle.turn_run.proofs.TurnEnds.{are_over, ended_legal}
use Rattle.turn_run.proofs.TurnKnown.{ends_known, most_known, most_rise, rise_sound}
use Rattle.turn_run.proofs.TurnRuns.{alike_ended, calls_from_first, first_free, none_begun, run_ended, serial_from_first, told_end, IsClosed, IsThrough}
use Rattle.list_laws.proofs.Common.{some_or_none}

-- ---- how it went

pub ok_there : {T E P : Type 0} (result : Result T E) → OnOk result P → result_err result ≡ None → P
ok_there (Ok x) h none = h
ok_there (Err e) h none = absurd cc

pub err_there : {T E : Type 0} (result : Result T E) (e : E) → result_err result ≡ Some e → result ≡ Err e
err_there (Ok x) e is = absurd cc
err_there (Err x) e is = cc

-- the run was stopped before its first step
pub stopped_first : (script : Script) (header : Header) (held : Option (List ℕ)) (done : Option (List DiskCall)) (faults records : ℕ) (end : RunEnd) → is_lawful script ≡ true → records ≡ header.records
    → end.order ≡ [] → end.fault ≡ Some fault.Memory → end.answers ≡ [] → end.pending ≡ [] → IsRun script header (seen held done faults) (seen held done faults) records end
stopped_first script header held done faults records end lawful count none memory empty none_pending =
    unbegun_run script header held done faults held done records end memory (subst (λ (ms : List Mark). HasBegun script ms) (sym none) (none_begun script)) (λ e is.
    grind (arith, common_steps, same_cause fault.Memory e (sym memory ∙ is), cut_run script header e end.order held held records end.answers (no_rows script e end.answers (sym (same_cause fault.Memory e (sym memory ∙ is))) empty), no_rows script e end.answers (sym (same_cause fault.Memory e (sym memory ∙ is))) empty, no_answers script header e end.order, stood_first script header e end.order held held records records lawful (sym (same_cause fault.Memory e (sym memory ∙ is))) none)) none_pending

-- what is told of the meetings
pub record HasMet (script : Script) (header : Header) (len : ℕ) (before : List Mark) (served : ServeEnd) (held : Option (List ℕ)) (calls : Option (List DiskCall)) (faults records : ℕ) (first : List Runner)
    (left : Option (List ℕ)) (made : Option (List DiskCall)) (failed count : ℕ) (last : List Runner) : Type 0 where
  pub through : served.fault ≡ None → IsThrough script header len before served.order held calls records first left made count last
  pub cut : (e : StepErr) → served.fault ≡ Some e
      → HasStopped (IsNext script served.order) (setting_of script header) e (point before held records) (arrived_all header script.calls first) (point served.order left count)
  pub answered : (e : StepErr) → served.fault ≡ Some e → HaveAnswers (setting_of script header) e (point before held records) (all_between script.calls first) served.order last
  pub begun : HasBegun script served.order
  pub long : length last ≡ length script.calls
  pub cause : served.fault ≡ Some fault.Disk → Rose faults failed
  pub later : faults ≤ failed

-- the counts that the ranks know are such that the header can have
pub known_sound : (script : Script) (header : Header) (len count : ℕ) (order : List Mark) (why : RankStop) (last : List Runner) (ends : List RankEnd) → is_sound header ≡ true → IsCount header len count
    → AreRunners script header len order last → ends ≡ map (runner_end why) last → is_sound (record header { records = most_known_of ends }) ≡ true
known_sound script header len count order why last ends sound h a are =
    grind (arith, nat_tests, ends_known why last, rise_sound header len count (most_known last) sound h (most_rise header len last a.known), most_rise header len last a.known)

module _ (script : Script) (header : Header) (len : ℕ) (before : List Mark) (served : ServeEnd) (held : Option (List ℕ)) (calls : Option (List DiskCall)) (faults records : ℕ) (first : List Runner)
    (left : Option (List ℕ)) (made : Option (List DiskCall)) (failed count : ℕ) (last : List Runner) (why : RankStop) (ends : List RankEnd)
    (lawful : is_lawful script ≡ true) (same_count : records ≡ header.records) (all : first ≡ replicate script.ranks (first_runner header records)) (none : before ≡ [])
    (ends_are : ends ≡ map (runner_end why) last) (h : HasMet script header len before served held calls faults records first left made failed count last) where
  known_is : most_known_of ends ≡ most_known last
  known_is = ap (λ (es : List RankEnd). most_known_of es) ends_are ∙ ends_known why last

  answers_are : map (λ end. end.answers) ends ≡ map (λ runner. runner.answers) last
  answers_are = ap (λ (es : List RankEnd). map (λ (end : RankEnd). end.answers) es) ends_are ∙ map_map (λ (end : RankEnd). end.answers) (runner_end why) last

  pending_are : map (λ end. end.pending) ends ≡ map (λ runner. machine.pending runner.rank.state) last
  pending_are = ap (λ (es : List RankEnd). map (λ (end : RankEnd). end.pending) es) ends_are ∙ map_map (λ (end : RankEnd). end.pending) (runner_end why) last

  -- ---- with a fault

  all_said : (e : StepErr) → IsThrough script header len before served.order held calls records first left made count last
      → HaveAnswers (setting_of script header) e (point before held records) (all_between script.calls first) served.order last
  all_said e t = have_reached (setting_of script header) e before served.order held records (all_between script.calls first) (arrived_all header script.calls first) last
      (between_up header script.calls first (first_free header script.ranks records first all))
      (reached_then (AllSay e last) served.order t.led
      (reached_here (AllSay e last) (setting_of script header) served.order served.order left count (arrived_all header script.calls last) refl
      (λ n. all_say_here script header e last last n ((ranks_lawful script lawful).one_each ∙ sym t.runners.all) refl t.arrived (keep_own last))))

  -- the answers may be those of a fault before it
  abbrev Said : StepErr → Type 0
  Said e = (x : StepErr) × (((e ≡ x) ⊎ (e ≡ fault.Memory)) × HaveAnswers (setting_of script header) x (point before held records) (all_between script.calls first) served.order last)

  said_at : (e : StepErr) (now : Option (List ℕ)) (total : ℕ) → EndedAt header ends served.fault e (contents_of left count) (contents_of now total) → Said e
  said_at e now total (in_closing no_fault whole torn k) = (e, (inl refl, all_said e (h.through no_fault)))
  said_at e now total (as_left which l k) = elim (some_or_none served.fault) [
    | inl f ↦ (e, (inl refl, all_said e (h.through f)))
    | inr x ↦ (x.0, (grind (arith, nat_tests, which, x.1), h.answered x.0 x.1))
  ]

  stood_of : (e : StepErr) (now : Option (List ℕ)) (total : ℕ) → EndedAt header ends served.fault e (contents_of left count) (contents_of now total) → Stood script header e served.order held now total
  stood_of e now total (in_closing no_fault whole torn which) =
      let t = h.through no_fault in
      stood_closing script header e records first before served.order held lawful same_count all none h.begun last now ((ranks_lawful script lawful).one_each ∙ sym t.runners.all) (are_over script last t.free t.arrived)
      (ended_legal script header len served.order last lawful t.runners t.free t.arrived) t.led
      (subst (λ (n : ℕ). BothTold (λ old bytes. IsTorn [] (byte_len (count_width header.version)) old (raised (as_setting header) (counted old count) n).file bytes) left now) known_is torn)
      (subst (λ (n : ℕ). (total ≡ count) ⊎ (total ≡ max count n)) known_is which)
  stood_of e now total (as_left which l k) = rw (l, k) (elim (some_or_none served.fault) [
    | inl f ↦ stood_led script header e records first before served.order held lawful same_count all none h.begun last (grind (arith, nat_tests, which, f)) (h.through f).led
    | inr x ↦ IfSome_then held (stood_before script header x.0 records first before served.order held lawful same_count all none h.begun (h.cut x.0 x.1)) (λ file k.
        (k.0, k.1, stood_as (grind (arith, nat_tests, which, x.1)) k.2))
  ])

  cut_in_turn : (e : StepErr) (now : Option (List ℕ)) (total : ℕ) (end : RunEnd) → EndOfCut header ends served e left count now total end
      → IfSome held (λ file. (bytes : List ℕ) × (now ≡ Some bytes) × IsCutRun script header file e end.order bytes total end.answers)
  cut_in_turn e now total end c =
      subst (λ (ms : List Mark). IfSome held (λ file. (bytes : List ℕ) × (now ≡ Some bytes) × IsCutRun script header file e ms bytes total end.answers)) (sym c.order)
      (cut_run script header e served.order held now total end.answers (cut_rows script e (map (λ runner. runner.answers) last) end.answers (length-map last (λ (runner : Runner). runner.answers) ∙ h.long) (λ disk. c.kept disk ∙ answers_are) rows)
      (λ file there. cut_answers script header e said.0 records first last before served.order file end.answers lawful same_count all none said.1.0
      (subst (λ (m : Option (List ℕ)). HaveAnswers (setting_of script header) said.0 (point before m records) (all_between script.calls first) served.order last) there said.1.1) rows)
      (stood_of e now total c.at))
    where
      said : Said e
      said = said_at e now total c.at

      rows : (end.answers ≡ map (λ runner. runner.answers) last) ⊎ (end.answers ≡ [])
      rows = grind (arith, nat_tests, c.rows, answers_are)

  -- ---- the run

  pub run_in_turn : (now : Option (List ℕ)) (later : Option (List DiskCall)) (risen total : ℕ) (end : RunEnd) → Closing header ends served left made failed count now later risen total end
      → ((e : StepErr) → end.fault ≡ Some e → EndOfCut header ends served e left count now total end) → IsRun script header (seen held calls faults) (seen now later risen) total end
  run_in_turn now later risen total end c cut = record {
    legal = λ good. let t = h.through (c.went good).0 in subst (λ (ms : List Mark). IsLegal script ms) (sym c.order) (ended_legal script header len served.order last lawful t.runners t.free t.arrived);
    bytes = λ good. IfSome_then held (closed_so good) (λ file k. k.bytes ∙ ap (λ (x : End). Some x.bytes) (serial file));
    records = λ good file. (alike_so good file).records;
    answers = λ good. IfSome_then held (closed_so good) (λ file k. c.answers good ∙ answers_are ∙ k.answers ∙ ap (λ (x : End). x.answers) (serial file));
    alike = λ good file. ap (map (map blank)) (c.answers good ∙ answers_are) ∙ (alike_so good file).answers;
    pending = λ good file. c.pending good ∙ pending_are ∙ (alike_so good file).pending;
    calls = λ good. IfSome_then held (closed_so good) (λ file k. k.calls ∙ ap (λ (cs : List DiskCall). with_end calls cs) (device file));
    sound = c.sound;
    begun = subst (λ (ms : List Mark). HasBegun script ms) (sym c.order) h.begun;
    fault = grind (arith, nat_tests, some_or_none, rose_before, rose_later, c.cause, h.cause, c.first, c.later);
    later = le_two faults failed risen h.later c.later;
    cut = λ e is. cut_in_turn e now total end (cut e is);
    none_pending = c.none_pending;
  }
    where
      serial : (file : List ℕ) → ended_from (setting_of script header) (counted file records, arrived_all header script.calls first) served.order ≡ serial_from script header file end.order
      serial file = serial_from_first script header records first lawful same_count all file served.order ∙ ap (λ (ms : List Mark). serial_from script header file ms) (sym c.order)

      device : (file : List ℕ) → all_calls_over script.hints (setting_of script header) (counted file records, arrived_all header script.calls first) served.order ≡ run_calls script header file end.order
      device file = calls_from_first script header records first lawful same_count all file served.order ∙ ap (λ (ms : List Mark). run_calls script header file ms) (sym c.order)

      closing : end.fault ≡ None → HasClosed header (most_known last) (contents_of left count) (contents_of now total) made later
      closing good = subst (λ (n : ℕ). HasClosed header n (contents_of left count) (contents_of now total) made later) known_is (c.closed good)

      closed_so : end.fault ≡ None
          → IfSome held (λ file. IsClosed script.hints (setting_of script header) (counted file records, arrived_all header script.calls first) served.order calls now later total last)
      closed_so good = run_ended lawful none (h.through (c.went good).0) (closing good)

      alike_so : end.fault ≡ None → (file : List ℕ) → AreAlikeEnds (told_end total last) (serial_from script header file end.order)
      alike_so good file =
          let ranks = arrived_all header script.calls first in
          subst (λ (x : End). AreAlikeEnds (told_end total last) x) (serial file)
          (alike_ended lawful none (h.through (c.went good).0) (closing good) (counted file records, ranks) (record { records = refl; beside = same_beside ranks }))
