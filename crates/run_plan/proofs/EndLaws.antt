-- The end of a plan.
use Rattle.run_plan.proofs.Words.{◌≡◌, ℕ, refl, sym, ◌∙◌, ap, List, [], ◌++◌, length, map, max, true, Option, nat_lt, replicate, Answer, Header, Extent, Script, DiskCall, run_calls, store_records, raised, greatest, is_lawful, close_by, serial_from, setting_of, End, raised_records, map_map, counted, rises, blank, AreAlikeEnds, IsLike, close_alike, same_beside, first_stand, Arrived, Stand, first_up, ranks_lawful, count_call, StepPlan, AreFree, AreRunners, HaveArrived, arrived_all, first_runner, Runner, are_over, ended_legal, map_ended, AreOver, most_known, calls_from_first, first_stage, serial_from_first, told_end, calls_in, order_in, plan_stage, AreStepsOf, HasPlannedAll, without_values, HasEnded, IsPlanOf, RunPlan, Progress, arith, nat_tests}
use Rattle.serial_spec.specs.RankMachine as machine
use Rattle.run_plan.proofs.NearLaws.{same_without_values}

-- what is known of the end of a run that the plan follows
pub record IsEnding (script : Script) (header : Header) (file : List ℕ) (steps : List StepPlan) (calls : List DiskCall) (end : End) : Type 0 where
  pub calls_are : calls ≡ run_calls script header file (order_in steps)
  pub each : AreStepsOf script.hints (setting_of script header) (first_stand header file script.calls) steps
  pub alike : AreAlikeEnds end (serial_from script header file (order_in steps))

-- ranks that have ended beside those of the plan
ranks_end : (script : Script) (header : Header) (count : ℕ) (last : List Runner) (stand : Stand) → length script.calls ≡ length last → AreOver script.calls last
    → IsLike stand count (arrived_all header script.calls last)
    → AreAlikeEnds (told_end (max count (most_known last)) last) (close_by (setting_of script header) stand.0 (map (λ (a : Arrived). a.0) stand.1))
ranks_end script header count last stand each over like =
    let s = setting_of script header in
    let ends = map (λ (a : Arrived). a.0) (arrived_all header script.calls last) in
    let alike = close_alike s stand (counted [] count) (arrived_all header script.calls last) like in
    let known : greatest (map (λ g. g.rank.known) ends) ≡ most_known last =
    ap greatest (map_ended (λ (rank : machine.Rank) (answers : List Answer). rank.known) header script.calls last each over) in
    let count_is : (close_by s (counted [] count) ends).records ≡ max count (most_known last) =
    ap (λ (n : ℕ). (raised s (counted [] count) n).records) known ∙ raised_records s (counted [] count) (most_known last) in
    record {
      records = sym count_is ∙ sym alike.records;
      answers = ap (map (map blank)) (sym (map_ended (λ (rank : machine.Rank) (answers : List Answer). answers) header script.calls last each over)) ∙ sym alike.answers;
      pending = sym (map_ended (λ (rank : machine.Rank) (answers : List Answer). machine.pending rank) header script.calls last each over) ∙ sym alike.pending;
    }

-- the first stand of a run is that of its runners
first_is : (script : Script) (header : Header) (file : List ℕ) (first : List Runner) → is_lawful script ≡ true → first ≡ replicate script.ranks (first_runner header header.records)
    → (counted file header.records, arrived_all header script.calls first) ≡ first_stand header file script.calls
first_is script header file first lawful firsts =
    let s = setting_of script header in
    first_stage script header header.records first lawful refl firsts file ∙ sym (first_up header s file script.calls refl)

pub plan_ends : (script : Script) (header : Header) (file : List ℕ) (steps : List StepPlan) (size later count : ℕ) (close : Option Extent) (first last : List Runner)
    → is_lawful script ≡ true → length file ≡ size → first ≡ replicate script.ranks (first_runner header header.records) → length script.calls ≡ length last → AreOver script.calls last
    → HasPlannedAll script.hints (setting_of script header) [] steps (plan_stage size header.records (arrived_all header script.calls first))
    (plan_stage later count (arrived_all header script.calls last))
    → count_call close ≡ store_records (setting_of script header) (nat_lt count (most_known last))
    → IsEnding script header file steps (calls_in steps ++ count_call close) (told_end (max count (most_known last)) last)
plan_ends script header file steps size later count close first last lawful long firsts each over planned closes =
    grind (
      arith,
      nat_tests,
      same_beside (arrived_all header script.calls first),
      ranks_end script header count last,
      rises count (most_known last),
      calls_from_first script header header.records first lawful,
      first_is script header file first lawful firsts,
      told_end (max count (most_known last)) last,
      serial_from_first script header header.records first lawful,
    )

-- a plan whose meetings are all held, with its close
pub are_planned : (script : Script) (header : Header) (size : ℕ) (before : List StepPlan) (opening : List DiskCall) (at : Progress) (first last : List Runner) (plan : RunPlan) → is_lawful script ≡ true
    → first ≡ replicate script.ranks (first_runner header header.records) → before ≡ [] → AreRunners script header at.size (order_in at.steps) last → AreFree last → HaveArrived script last
    → HasPlannedAll script.hints (setting_of script header) before at.steps (plan_stage size header.records (arrived_all header script.calls first)) (plan_stage at.size at.records (arrived_all header script.calls last))
    → HasEnded header opening at last plan → IsPlanOf script header size plan
are_planned script header size before opening at first last plan lawful firsts none runners free arrived planned end = record {
  legal = rw end.steps (ended_legal script header at.size (order_in at.steps) last lawful runners free arrived);
  calls = λ file long. (ending file long).calls_are;
  each = λ file long. (ending file long).each;
  records = λ file long. end.records ∙ (ending file long).alike.records;
  answers = λ file long. end.answers ∙ sym (map_map (map without_values) (λ (runner : Runner). runner.answers) last)
      ∙ same_without_values (map (λ (runner : Runner). runner.answers) last) (serial_from script header file (order_in plan.steps)).answers (ending file long).alike.answers;
  pending = λ file long. end.pending ∙ (ending file long).alike.pending;
}
  where
    each : length script.calls ≡ length last
    each = (ranks_lawful script lawful).one_each ∙ sym runners.all

    ending : (file : List ℕ) → length file ≡ size → IsEnding script header file plan.steps (calls_in plan.steps ++ count_call plan.close) (told_end (max at.records (most_known last)) last)
    ending file long =
        rw end.steps
        (plan_ends script header file at.steps size at.size at.records plan.close first last lawful long firsts each (are_over script last free arrived) (rw none at planned) end.close)
