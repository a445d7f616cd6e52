-- A run in turn that was cut off, from its first stage on.
use Rattle.turn_run.proofs.Words.{IfSome_then, ◌≡◌, ℕ, refl, sym, ◌∙◌, ap, subst, inl, inr, ◌⊎◌, List, [], ◌++◌, length, map, true, Option, Some, None, arith, replicate, slice_get, fold, IfSome, length-replicate, byte_len, Answer, Header, Script, DiskCall, Mark, StepErr, after, BothTold, Setting, Counted, raised, count_width, IsLegal, is_lawful, Going, advance, after_mark, first_state, setting_of, state_after, IsTorn, StoodAt, IsCutRun, HasAnswers, HasAnswersOfEach, bytes_of_mark, as_setting, counted, torn_by, completed, point, HasBegun, StopsAt, HasStopped, IsNext, bytes_at, in_step, Stand, step_to, HasLed, arrived_all, stage, all_between, HaveAnswers, first_runner, Runner, entry_map, map_map, entry_map_none, mapped_entry, raised_grows, gone_up, arrival_step, arrival_steps, raised_records, max, nat_tests, common_steps}
use Rattle.nc_base.specs.declared.step.StepErr.TheVariants as fault
use Rattle.serial_spec.specs.RankMachine as machine
use Rattle.serial_spec.specs.Torn.StoodAt.{in_step as stood_step, in_close as stood_close, between as stood_between}
use Rattle.turn_run.specs.Cuts.StopsAt.{between}
use Rattle.turn_run.proofs.CutMeet.{raised_kept}
use Rattle.turn_run.proofs.StageLaws.{some_each}
use Rattle.turn_run.proofs.TurnEnds.{AreOver, map_ended}
use Rattle.turn_run.proofs.TurnKnown.{most_known}
use Rattle.turn_run.proofs.TurnRuns.{first_goings, first_stage, none_begun}
use Rattle.list_laws.proofs.Common.{some_or_none}

-- ---- the close

-- the close was done, and there was no memory for the end
pub raised_torn : (header : Header) (held now : Option (List ℕ)) (count n : ℕ) → now ≡ after (λ file. (raised (as_setting header) (counted file count) n).file) held
    → BothTold (λ old bytes. IsTorn [] (byte_len (count_width header.version)) old (raised (as_setting header) (counted old count) n).file bytes) held now
raised_torn header None now count n e = e
raised_torn header (Some old) now count n e =
    (_, e, grind (arith, nat_tests, torn_by, raised_grows (as_setting header) (counted old count) n, raised_kept (as_setting header) (counted old count) n))

-- ---- by the serial run

bytes_up : (s : Setting) (goings : List Going) (m : Mark) → bytes_at s (map (advance s.header) goings) m ≡ bytes_of_mark s goings m
bytes_up s goings m = grind (arith, nat_tests, some_or_none, entry_map_none, entry_map, bytes_at)

-- ---- where a whole run stood that was cut off

abbrev pub Stood : Script → Header → StepErr → List Mark → Option (List ℕ) → Option (List ℕ) → ℕ → Type 0
Stood script header e order held left count =
    IfSome held (λ file. (bytes : List ℕ) × (left ≡ Some bytes) × StoodAt script (setting_of script header) e (state_after script header file order) order bytes count)

module _ (script : Script) (header : Header) (e : StepErr) (records : ℕ) (first : List Runner) (before order : List Mark) (held : Option (List ℕ)) (lawful : is_lawful script ≡ true)
    (same_count : records ≡ header.records) (all : first ≡ replicate script.ranks (first_runner header records)) (none : before ≡ []) (begun : HasBegun script order) where
  abbrev s : Setting
  s = setting_of script header

  -- its ranks have gone up to their next offers
  up : (file : List ℕ) (more : List Mark) → order ≡ before ++ more
      → fold (step_to s) (counted file records, arrived_all header script.calls first) more ≡ gone_up s (state_after script header file order)
  up file more grown =
      grind (arith, nat_tests, first_stage script header records first lawful same_count all file, arrival_steps s (first_state header file script.calls) order)

  may_follow : (later : List Mark) × IsLegal script (order ++ later)
  may_follow = completed script order lawful begun.known_ranks begun.each_rank

  -- before the close
  pub stood_before : {left : Option (List ℕ)} {count : ℕ} → HasStopped (IsNext script order) s e (point before held records) (arrived_all header script.calls first) (point order left count)
      → Stood script header e order held left count
  stood_before {count} h = IfSome_then held h.ends (λ file k.
      let state = state_after script header file order in (
        k.0,
        k.1,
        elim (subst (λ (stand : Stand). StopsAt (IsNext script order) s e stand k.0 count) (up file h.more h.grown) k.2) [
          | in_step m next l ↦ stood_step m next.0 next.1 (grind (arith, nat_tests, bytes_up s state.1 m, arrival_step s state m))
          | between memory l k ↦ stood_between may_follow.0 may_follow.1 memory l k
        ],
      ))

  -- no memory was left once all steps were done
  pub stood_led : (last : List Runner) {calls made : Option (List DiskCall)} {left : Option (List ℕ)} {count : ℕ} → e ≡ fault.Memory
      → HasLed script.hints s before order (stage held calls records (arrived_all header script.calls first)) (stage left made count (arrived_all header script.calls last))
      → Stood script header e order held left count
  stood_led last {count} memory h = IfSome_then held h.led (λ file l.
      let at : counted l.left count ≡ (state_after script header file order).0 = ap (λ (stand : Stand). stand.0) (sym l.state ∙ up file h.more h.grown) in
      (l.left, l.told, stood_between may_follow.0 may_follow.1 memory (ap (λ (c : Counted). c.file) at) (ap (λ (c : Counted). c.records) at)))

  -- in the close
  pub stood_closing : (last : List Runner) (now : Option (List ℕ)) {calls made : Option (List DiskCall)} {left : Option (List ℕ)} {count total : ℕ} → length script.calls ≡ length last → AreOver script.calls last → IsLegal script order
      → HasLed script.hints s before order (stage held calls records (arrived_all header script.calls first)) (stage left made count (arrived_all header script.calls last))
      → BothTold (λ old bytes. IsTorn [] (byte_len (count_width header.version)) old (raised (as_setting header) (counted old count) (most_known last)).file bytes) left now
      → (total ≡ count) ⊎ (total ≡ max count (most_known last)) → Stood script header e order held now total
  stood_closing last now {count} {total} long over legal h torn which = IfSome_then held h.led (λ file l.
      grind (arith, common_steps, raised (as_setting header), up file h.more h.grown, map_ended (λ rank answers. rank.known) header script.calls last long over, map_map, raised_records s (counted l.left count) (most_known last)))

-- want of memory may follow another fault
pub stood_as : {script : Script} {s : Setting} {x e : StepErr} {state : Counted × List Going} {order : List Mark} {left : List ℕ} {records : ℕ} → (x ≡ e) ⊎ (e ≡ fault.Memory)
    → StoodAt script s x state order left records → StoodAt script s e state order left records
stood_as which (stood_step m later legal l) = stood_step m later legal l
stood_as which (stood_close legal l) = stood_close legal l
stood_as which (stood_between later legal memory l k) = stood_between later legal (grind (arith, nat_tests, which, memory)) l k

-- nothing was begun
pub stood_first : (script : Script) (header : Header) (e : StepErr) (order : List Mark) (held left : Option (List ℕ)) (records count : ℕ) → is_lawful script ≡ true → e ≡ fault.Memory → order ≡ []
    → left ≡ held → count ≡ records → records ≡ header.records → Stood script header e order held left count
stood_first script header e order held left records count lawful memory none l k first = some_each held (λ file there. (
  file,
  l ∙ there,
  let b = none_begun script in let c = completed script [] lawful b.known_ranks b.each_rank in
      rw (none) (stood_between c.0 c.1 memory refl (k ∙ first)),
))

pub no_answers : (script : Script) (header : Header) (e : StepErr) (order : List Mark) (file : List ℕ) (answers : List (List Answer)) → answers ≡ []
    → (r : ℕ) (g : Going) (own : List Answer) → slice_get (state_after script header file order).1 r ≡ Some g → slice_get answers r ≡ Some own → HasAnswers header e g own
no_answers script header e order file answers none r g own at is = let row : ◌≡◌ {A = Option (List Answer)} None (Some own) = ap (λ (table : List (List Answer)). slice_get table r) (sym none) ∙ is in absurd cc

-- the answers that are left
pub cut_answers : (script : Script) (header : Header) (e x : StepErr) (records : ℕ) (first last : List Runner) (before order : List Mark) (file : List ℕ) (answers : List (List Answer))
    → is_lawful script ≡ true → records ≡ header.records → first ≡ replicate script.ranks (first_runner header records) → before ≡ [] → (e ≡ x) ⊎ (e ≡ fault.Memory)
    → HaveAnswers (setting_of script header) x (point before (Some file) records) (all_between script.calls first) order last → (answers ≡ map (λ runner. runner.answers) last) ⊎ (answers ≡ [])
    → (r : ℕ) (g : Going) (own : List Answer) → slice_get (state_after script header file order).1 r ≡ Some g → slice_get answers r ≡ Some own → HasAnswers header e g own
cut_answers script header e x records first last before order file answers lawful count all none which h are r g own at is =
    let state : fold (after_mark (setting_of script header)) (counted file records, all_between script.calls first) h.more ≡ state_after script header file order =
    grind (arith, nat_tests, first_goings script header records first lawful count all) in
    elim are [
      | inl q ↦
          let runner = mapped_entry (λ (runner : Runner). runner.answers) last r own (ap (λ (table : List (List Answer)). slice_get table r) (sym q) ∙ is) in
          let said : HasAnswers header x g runner.0.answers = h.said r g runner.0 (ap (λ (st : Counted × List Going). slice_get st.1 r) state ∙ at) runner.1.0 in
          grind (arith, nat_tests, which, said, runner.1.1)
      | inr q ↦ no_answers script header e order file answers q r g own at is
    ]

-- as many rows as ranks
pub cut_rows : (script : Script) (e : StepErr) (table answers : List (List Answer)) → length table ≡ length script.calls → (e ≡ fault.Disk → answers ≡ table) → (answers ≡ table) ⊎ (answers ≡ [])
    → HasAnswersOfEach e script answers
cut_rows script e table answers long disk are = grind (arith, nat_tests, disk, are)

-- of a run that stood there, with these answers
pub cut_run : (script : Script) (header : Header) (e : StepErr) (order : List Mark) (held left : Option (List ℕ)) (count : ℕ) (answers : List (List Answer)) → HasAnswersOfEach e script answers
    → ((file : List ℕ) → held ≡ Some file → (r : ℕ) (g : Going) (own : List Answer) → slice_get (state_after script header file order).1 r ≡ Some g → slice_get answers r ≡ Some own → HasAnswers header e g own)
    → Stood script header e order held left count → IfSome held (λ file. (bytes : List ℕ) × (left ≡ Some bytes) × IsCutRun script header file e order bytes count answers)
cut_run script header e order None left count answers rows some h = tt
cut_run script header e order (Some file) left count answers rows some h = (h.0, h.1, record { stood = h.2; each_rank = rows; some_answers = some file refl })

pub first_long : (script : Script) → length script.calls ≡ script.ranks → (header : Header) (records : ℕ) (runners last : List Runner) → runners ≡ replicate script.ranks (first_runner header records) → length last ≡ length runners
    → length last ≡ length script.calls
first_long script one header records runners last e l = l ∙ ap (λ (ss : List Runner). length ss) e ∙ length-replicate script.ranks (first_runner header records) ∙ sym one

pub no_rows : (script : Script) (e : StepErr) (answers : List (List Answer)) → e ≡ fault.Memory → answers ≡ [] → HasAnswersOfEach e script answers
no_rows script e answers memory none = grind (arith, nat_tests)
