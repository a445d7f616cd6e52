-- The first and the last stage of a run.
use Rattle.turn_run.proofs.Words.{IfSome_then, ◌≡◌, ℕ, ◌≤◌, refl, sym, ◌∙◌, ap, subst, List, [], ◌∷◌, ◌++◌, length, map, replicate, max, true, Option, Some, arith, length-replicate, fold, IfSome, Answer, Header, Call, Hints, Script, DiskCall, Mark, with_end, run_calls, Setting, raised, header_len, is_sound, marks, is_lawful, end_of, greatest, End, first_going, first_state, serial_from, setting_of, close_by, counted, blank, AreAlikeEnds, IsLike, close_alike, ranks_lawful, way_begins, contents_of, HasBegun, IsCount, all_between, calls_of, AreFree, AreRunners, HaveArrived, step_to, Arrived, Stand, all_calls_over, ended_from, arrived_all, stage, HasLed, Leads, HasClosed, first_runner, Runner, slice_get_within, raised_records, with_end-with_end, entry_replicate, gone_up, serial_of_arrivals, calls_of_arrivals, first_up, nat_tests, common_steps}
use Rattle.serial_spec.specs.RankMachine as machine
use Rattle.turn_run.proofs.TurnKnown.{most_known}
use Rattle.turn_run.proofs.TurnEnds.{are_over, map_ended}
use Rattle.turn_run.proofs.TurnSteps.{calls_there}
use Rattle.turn_run.proofs.SaidLaws.{between_up}

-- ---- before the first step

pub none_begun : (script : Script) → HasBegun script []
none_begun script = record { known_ranks = refl; each_rank = λ r l. (marks script.calls r, refl) }

pub first_count : (header : Header) (len records : ℕ) → is_sound header ≡ true → records ≡ header.records → end_of header (header_len header) header.records ≤ len
    → IsCount header len records
first_count header len records h e l = subst (λ (n : ℕ). IsCount header len n) (sym e) (record { sound = h; long = l })

pub first_runners : (script : Script) (header : Header) (len records : ℕ) (runners : List Runner) → is_lawful script ≡ true → is_sound header ≡ true → records ≡ header.records
    → end_of header (header_len header) header.records ≤ len → runners ≡ replicate script.ranks (first_runner header records) → AreRunners script header len [] runners
first_runners script header len records runners lawful sound e l s = subst (λ (ss : List Runner). AreRunners script header len [] ss) (sym s) (record {
  all = length-replicate script.ranks (first_runner header records);
  known_ranks = refl;
  each = λ r runner f.
      let within = slice_get_within (replicate script.ranks (first_runner header records)) r runner f in
      grind (arith, common_steps, entry_replicate script.ranks r (first_runner header records) runner f, length-replicate script.ranks (first_runner header records), way_begins script header r (calls_of script r) lawful, calls_there script r, ranks_lawful script lawful);
  known = λ r runner f.
      grind (arith, common_steps, entry_replicate script.ranks r (first_runner header records) runner f, first_count header len records sound e l);
})

pub first_free : (header : Header) (ranks records : ℕ) (runners : List Runner) → runners ≡ replicate ranks (first_runner header records) → AreFree runners
first_free header ranks records runners s r runner f = grind (arith, nat_tests, entry_replicate, first_runner)

goings_first : (header : Header) (records : ℕ) (calls : List (List Call)) → records ≡ header.records
    → all_between calls (replicate (length calls) (first_runner header records)) ≡ map (first_going header) calls
goings_first header records [] e = refl
goings_first header records (own ∷ calls) e = grind (arith, nat_tests, goings_first header records calls e)

module _ (script : Script) (header : Header) (records : ℕ) (runners : List Runner) (lawful : is_lawful script ≡ true) (same_count : records ≡ header.records)
    (first : runners ≡ replicate script.ranks (first_runner header records)) where
  pub first_goings : all_between script.calls runners ≡ map (first_going header) script.calls
  first_goings = grind (arith, nat_tests, ranks_lawful, goings_first, all_between, first_runner)

  pub first_stage : (file : List ℕ) → (counted file records, arrived_all header script.calls runners) ≡ gone_up (setting_of script header) (first_state header file script.calls)
  first_stage file = grind (arith, nat_tests, between_up header script.calls runners (first_free header script.ranks records runners first), first_goings)

  -- the run is that of the script
  pub serial_from_first : (file : List ℕ) (order : List Mark) → ended_from (setting_of script header) (counted file records, arrived_all header script.calls runners) order ≡ serial_from script header file order
  serial_from_first file order =
      grind (arith, nat_tests, first_stage file, serial_of_arrivals script header file order, first_up header (setting_of script header) file script.calls)

  pub calls_from_first : (file : List ℕ) (order : List Mark)
      → all_calls_over script.hints (setting_of script header) (counted file records, arrived_all header script.calls runners) order ≡ run_calls script header file order
  calls_from_first file order =
      grind (arith, nat_tests, first_stage file, calls_of_arrivals script header file order, first_up header (setting_of script header) file script.calls)

-- ---- the close

-- the end of a run, where it was closed
pub record IsClosed (hints : Hints) (s : Setting) (stand : Stand) (order : List Mark) (begun : Option (List DiskCall)) (held : Option (List ℕ))
    (made : Option (List DiskCall)) (count : ℕ) (runners : List Runner) : Type 0 where
  pub bytes : held ≡ Some (ended_from s stand order).bytes
  pub records : count ≡ (ended_from s stand order).records
  pub answers : map (λ runner. runner.answers) runners ≡ (ended_from s stand order).answers
  pub pending : map (λ runner. machine.pending runner.rank.state) runners ≡ (ended_from s stand order).pending
  pub calls : made ≡ with_end begun (all_calls_over hints s stand order)

-- what the runners of a run that was closed have, for an end over any file
abbrev pub told_end : ℕ → List Runner → End
told_end count runners =
    record { bytes = []; records = count; answers = map (λ runner. runner.answers) runners; pending = map (λ runner. machine.pending runner.rank.state) runners }

-- all ranks have made their calls
pub record IsThrough (script : Script) (header : Header) (len : ℕ) (before order : List Mark) (held : Option (List ℕ)) (calls : Option (List DiskCall)) (records : ℕ) (first : List Runner)
    (left : Option (List ℕ)) (made : Option (List DiskCall)) (count : ℕ) (last : List Runner) : Type 0 where
  pub runners : AreRunners script header len order last
  pub free : AreFree last
  pub arrived : HaveArrived script last
  pub led : HasLed script.hints (setting_of script header) before order (stage held calls records (arrived_all header script.calls first)) (stage left made count (arrived_all header script.calls last))

module _ {script : Script} {header : Header} {len : ℕ} {before order : List Mark} {held : Option (List ℕ)} {calls : Option (List DiskCall)} {records : ℕ} {first : List Runner} {left : Option (List ℕ)}
    {made : Option (List DiskCall)} {count : ℕ} {last : List Runner} {now : Option (List ℕ)} {later : Option (List DiskCall)} {total : ℕ} (lawful : is_lawful script ≡ true) (none : before ≡ [])
    (t : IsThrough script header len before order held calls records first left made count last) (r : HasClosed header (most_known last) (contents_of left count) (contents_of now total) made later) where
  long : length script.calls ≡ length last
  long = (ranks_lawful script lawful).one_each ∙ sym t.runners.all

  all : t.led.more ≡ order
  all = sym (t.led.grown ∙ ap (λ (ms : List Mark). ms ++ t.led.more) none)

  ends_have : {X : Type 0} (f : machine.Rank → List Answer → X)
      → map (λ g. f g.rank g.answers) (map (λ a. a.0) (arrived_all header script.calls last)) ≡ map (λ runner. f runner.rank.state runner.answers) last
  ends_have f = map_ended f header script.calls last long (are_over script last t.free t.arrived)

  known_last : greatest (map (λ g. g.rank.known) (map (λ (a : Arrived). a.0) (arrived_all header script.calls last))) ≡ most_known last
  known_last = ap greatest (ends_have (λ (rank : machine.Rank) (answers : List Answer). rank.known))

  -- and the file was closed
  pub run_ended : IfSome held (λ file. IsClosed script.hints (setting_of script header) (counted file records, arrived_all header script.calls first) order calls now later total last)
  run_ended =
      let a = stage held calls records (arrived_all header script.calls first) in let b = stage left made count (arrived_all header script.calls last) in
      IfSome_then held (subst (λ (ms : List Mark). Leads script.hints (setting_of script header) ms a b) all t.led.led) (λ file led.
      let s = setting_of script header in
      grind (arith, common_steps, raised s (counted led.left count), raised_records s (counted led.left count) (most_known last), known_last, ends_have (λ (rank : machine.Rank) (answers : List Answer). answers), ends_have (λ (rank : machine.Rank) (answers : List Answer). machine.pending rank), with_end-with_end))

  pub alike_ended : (stand : Stand) → IsLike stand records (arrived_all header script.calls first) → AreAlikeEnds (told_end total last) (ended_from (setting_of script header) stand order)
  alike_ended stand like =
      let s = setting_of script header in let ends = map (λ (x : Arrived). x.0) (arrived_all header script.calls last) in
      let near : IsLike (fold (step_to s) stand order) count (arrived_all header script.calls last) =
      subst (λ (ms : List Mark). IsLike (fold (step_to s) stand ms) count (arrived_all header script.calls last)) all (t.led.alike stand like) in
      let alike = close_alike s (fold (step_to s) stand order) (counted [] count) (arrived_all header script.calls last) near in
      let count_is : (close_by s (counted [] count) ends).records ≡ max count (most_known last) =
      ap (λ (n : ℕ). (raised s (counted [] count) n).records) known_last ∙ raised_records s (counted [] count) (most_known last) in
      record {
        records = r.count ∙ sym count_is ∙ sym alike.records;
        answers = ap (map (map blank)) (sym (ends_have (λ rank answers. answers))) ∙ sym alike.answers;
        pending = sym (ends_have (λ rank answers. machine.pending rank)) ∙ sym alike.pending;
      }
