-- A meeting that is planned.
use Rattle.run_plan.proofs.Words.{◌≡◌, ℕ, ◌≤◌, refl, sym, subst, List, [], ◌∷◌, ◌++◌, length, max, true, Option, arith, flat_map, nat_lt, Pair, Batch, Call, Hints, Meet, collective_windows, get_bytes, loads, put_calls, store_records, after_puts, end_for, told, Counted, Setting, needed_now, is_sound, raised_records, counted, gets_in, puts_in, ArePuts, offers_beside, count_call, file_calls, grow_call, windows_in, FilePlan, StepPlan, arrived_all, held_offers, met, Runner, met_calls_are, met_is, offers_are, meeting_callers, plan_stage, Follows, HasPlannedAll, IsMeetingPlan, FitsGets, HaveDone, IsTaken, meeting_alike, nat_tests}
use Rattle.window_plan.specs.Windows as window
use Rattle.run_plan.proofs.CallerLaws.{callers_beside}
use Rattle.run_plan.proofs.FileLengths.{puts_long, raised_long}

-- ---- the file after it

met_records : (s : Setting) (batches : List Batch) (known r n : ℕ) (c : Counted) → n ≡ max r (max (needed_now s (puts_in batches)) known) → c.records ≡ r → n ≡ (met s batches known c).records
met_records s batches known r n c count same = grind (arith, nat_tests, told, raised_records, met, puts_in)

met_long : (s : Setting) (batches : List Batch) (known size later : ℕ) (c : Counted) → is_sound s.header ≡ true → ArePuts s.header (puts_in batches) → end_for s 0 ≤ size
    → later ≡ max size (end_for s (needed_now s (puts_in batches))) → length c.file ≡ size → length (met s batches known c).file ≡ later
met_long s batches known size later c sound are long grows same =
    grind (
      arith,
      nat_tests,
      told s (puts_in batches),
      puts_long s (puts_in batches) c.file sound are,
      raised_long s (counted (after_puts s (puts_in batches) (told s (puts_in batches)) c.file) c.records),
    )

-- ---- the step

pub meeting_planned : (hints : Hints) (s : Setting) (steps : List StepPlan) (calls : List (List Call)) (runners now : List Runner) (batches : List Batch) (known r n k size later : ℕ)
    (pair : Option Pair) (table : List (List (List ℕ))) (step : StepPlan)
    → is_sound s.header ≡ true → ArePuts s.header (puts_in batches) → end_for s 0 ≤ size
    → IsTaken calls runners batches known → HaveDone s.header pair n runners now table → pair ≡ told s (puts_in batches)
    → n ≡ max r (max (needed_now s (puts_in batches)) known) → FitsGets s.header batches table
    → step.mark ≡ Meet k → later ≡ max size (end_for s (needed_now s (puts_in batches)))
    → file_calls step.file ≡ put_calls s (collective_windows hints) (puts_in batches) size ++ store_records s (nat_lt r n) ++ flat_map loads (collective_windows hints (get_bytes s (gets_in batches)))
    → IsMeetingPlan s.header hints batches step.file → step.callers ≡ meeting_callers runners
    → HasPlannedAll hints s steps (steps ++ step ∷ []) (plan_stage size r (arrived_all s.header calls runners)) (plan_stage later n (arrived_all s.header calls now))
meeting_planned hints s steps calls runners now batches known r n k size later pair table step sound are long t d p count rows mark grows device plan callers =
    let same : step ≡ record step { mark = Meet k } = λ i. record step { mark = mark i } in
    record {
      more = step ∷ [];
      grown = refl;
      led = subst (λ (x : StepPlan). Follows hints s (x ∷ []) (plan_stage size r (arrived_all s.header calls runners)) (plan_stage later n (arrived_all s.header calls now))) (sym same) follow;
    }
  where
    follow : Follows hints s (record step { mark = Meet k } ∷ []) (plan_stage size r (arrived_all s.header calls runners)) (plan_stage later n (arrived_all s.header calls now))
    follow (c, ps) beside =
        grind (
          arith,
          nat_tests,
          offers_beside ps (arrived_all s.header calls runners) beside.like.beside,
          offers_are s.header calls runners t.long t.hold,
          met_is s (held_offers runners) batches known c t.offered t.most,
          met_records s batches known r n c count beside.like.records,
          met_long s batches known size later c sound are long grows beside.long,
          meeting_alike s k t d p count rows (c, ps) beside.like,
          met_calls_are hints s (held_offers runners) batches known c t.offered t.most,
          callers_beside s.header calls runners ps t.long t.hold beside.like.beside,
        )

-- the calls of the step, by those of its puts, of its count and of its gets
pub meet_device : (hints : Hints) (s : Setting) (batches : List Batch) (size r n : ℕ) (file : FilePlan)
    → grow_call file.grow ++ flat_map window.put_calls (windows_in file.puts.domains) ≡ put_calls s (collective_windows hints) (puts_in batches) size
    → count_call file.count ≡ store_records s (nat_lt r n)
    → flat_map window.get_calls (windows_in file.gets.domains) ≡ flat_map loads (collective_windows hints (get_bytes s (gets_in batches)))
    → file_calls file ≡ put_calls s (collective_windows hints) (puts_in batches) size ++ store_records s (nat_lt r n) ++ flat_map loads (collective_windows hints (get_bytes s (gets_in batches)))
meet_device hints s batches size r n file puts count gets = λ i. puts i ++ count i ++ gets i
