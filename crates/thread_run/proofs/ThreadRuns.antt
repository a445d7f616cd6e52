-- A run on threads without a fault is the serial run of its order.
use Rattle.thread_run.proofs.Words.{◌≡◌, ℕ, ◌+◌, sym, ◌∙◌, ap, subst, List, [], ◌++◌, map, max, true, Option, Some, arith, slice_get, nat_lt, enumerate_from, same_Some, Header, Call, RankEnd, Script, Mark, OwnerItem, Owner, run_calls, store_records, raised, is_sound, Arrival, IsLegal, IsJoined, back_of, close_by, opening_owner, rank_ends, run_of, is_lawful, greatest, rank_end, Going, first_going, serial_from, setting_of, as_setting, counted, blank, AreNear, end_alike, lawful_agrees, whole_run, HasFinished, AreSingle, owner_calls, IsDone, IsDoneSo, passed, most_known_of, NoneBroke, map_map, rows_same, raised_records, nat_tests}
use Rattle.serial_spec.specs.RankMachine as machine
use Rattle.serial_spec.specs.SerialEnd.{End}
use Rattle.thread_run.proofs.ThreadTies.{Told, finished_of, joined, low_rank, own_of, puts, takes, took_all}
use Rattle.thread_run.proofs.ThreadWhole.{calls_all, known_sound, single_all}

-- what is told of the run, whether its bytes are told or not
pub record Finished (script : Script) (header : Header) (arrivals : List Arrival) (ends : List RankEnd) (order : List Mark) : Type 0 where
  pub legal : IsLegal script order
  pub sound : is_sound (record header { records = most_known_of ends }) ≡ true
  pub single : AreSingle arrivals

-- from these bytes
pub record FinishedSo (script : Script) (header : Header) (arrivals : List Arrival) (ends : List RankEnd) (order : List Mark) (file : List ℕ) (owner : Owner) : Type 0 where
  pub bytes : (raised (as_setting header) (counted owner.state.file owner.state.records) (most_known_of ends)).file ≡ (serial_from script header file order).bytes
  pub answers : map (λ end. end.answers) ends ≡ (serial_from script header file order).answers
  pub calls : run_calls script header file order
      ≡ owner_calls script.hints (setting_of script header) (opening_owner script header file) arrivals
      ++ store_records (setting_of script header) (nat_lt owner.state.records (serial_from script header file order).records)

-- whatever they are
pub record FinishedAlike (script : Script) (header : Header) (ends : List RankEnd) (order : List Mark) (file : List ℕ) (owner : Owner) : Type 0 where
  pub records : max owner.state.records (most_known_of ends) ≡ (serial_from script header file order).records
  pub answers : map (map blank) (map (λ end. end.answers) ends) ≡ map (map blank) (serial_from script header file order).answers
  pub pending : map (λ end. end.pending) ends ≡ (serial_from script header file order).pending

module _ {script : Script} {header : Header} {arrivals : List Arrival} {given : ℕ → List OwnerItem} {ends : List RankEnd} (t : Told script header arrivals given ends) (sound : is_sound header ≡ true) (lawful : is_lawful script ≡ true)
    (order : List Mark) (stranger : Option ℕ) (whole : NoneBroke ends) (done : (file : List ℕ) → IsDone (setting_of script header) (opening_owner script header file) (passed arrivals script.ranks given) order stranger) where
  joined_at : (file : List ℕ) → IsJoined script header file arrivals
  joined_at file = joined t (lawful_agrees script lawful) whole file (done file).given

  -- ---- the ends

  -- one rank's end, by what came back to it
  each_end : {X : Type 0} (f : RankEnd → X) (h : Going → X) (back : ℕ → List OwnerItem)
      → ((r : ℕ) (own : List Call) (e : slice_get script.calls r ≡ Some own) → f (own_of t r own e).end ≡ h (rank_end header (first_going header own) (back r)))
      → map f ends ≡ map h (map (λ p. rank_end header (first_going header p.1) (back p.0)) (enumerate_from 0 script.calls))
  each_end f h back k =
      rows_same f (λ (p : ℕ × List Call). h (rank_end header (first_going header p.1) (back p.0))) ends script.calls 0 (t.long ∙ sym t.calls)
      (λ r end own a e.
      let o = own_of t r own e in
      let same : r ≡ 0 + r = omega arith in
      ap f (same_Some end o.end (sym a ∙ o.at_end)) ∙ k r own e ∙ ap (λ (q : ℕ). h (rank_end header (first_going header own) (back q))) same)
      ∙ sym (map_map h (λ (p : ℕ × List Call). rank_end header (first_going header p.1) (back p.0)) (enumerate_from 0 script.calls))

  fin : (file : List ℕ) (r : ℕ) (own : List Call) (e : slice_get script.calls r ≡ Some own) → HasFinished header own (puts t r) (takes t r) (own_of t r own e).end
  fin file r own e = finished_of t (lawful_agrees script lawful) whole file (done file).given r own e

  -- the end of a rank, but for the values that its gets gave
  end_near : (file : List ℕ) (r : ℕ) (own : List Call) → slice_get script.calls r ≡ Some own
      → AreNear (rank_end header (first_going header own) (takes t r)) (rank_end header (first_going header own) (back_of script header file arrivals r))
  end_near file r own e =
      let took = took_all t (lawful_agrees script lawful) whole file (done file).given r own e in
      subst (λ (v : List OwnerItem). AreNear (rank_end header (first_going header own) v) (rank_end header (first_going header own) (back_of script header file arrivals r))) (sym took)
      (end_alike header (first_going header own) (given r) (back_of script header file arrivals r) ((done file).given r (low_rank t r own e)))

  known_is : (file : List ℕ) → most_known_of ends ≡ greatest (map (λ g. g.rank.known) (rank_ends script header file arrivals))
  known_is file = ap greatest (each_end (λ end. end.known) (λ g. g.rank.known) (back_of script header file arrivals)
      (λ r own e. (fin file r own e).known ∙ ap (λ (k : machine.Rank). k.known) (end_near file r own e).rank))

  pub finished : Finished script header arrivals ends order
  finished = record {
    legal = subst (λ (ms : List Mark). IsLegal script ms) (sym (done []).order) (whole_run script header [] arrivals sound lawful (joined_at [])).legal;
    sound = subst (λ (n : ℕ). is_sound (record header { records = n }) ≡ true) (sym (known_is [])) (known_sound script header [] arrivals sound lawful (joined_at []));
    single = single_all script header [] arrivals sound lawful (joined_at []);
  }

  last : (file : List ℕ) → serial_from script header file order ≡ close_by (setting_of script header) (run_of script header file arrivals).owner.state (rank_ends script header file arrivals)
  last file = ap (λ (ms : List Mark). serial_from script header file ms) (done file).order ∙ (whole_run script header file arrivals sound lawful (joined_at file)).ends

  pub finished_alike : (file : List ℕ) → FinishedAlike script header ends order file (run_of script header file arrivals).owner
  finished_alike file = record {
    records = ap (λ (n : ℕ). max (run_of script header file arrivals).owner.state.records n) (known_is file)
        ∙ sym (raised_records (setting_of script header) (run_of script header file arrivals).owner.state (greatest (map (λ g. g.rank.known) (rank_ends script header file arrivals)))) ∙ sym (ap (λ (e : End). e.records) (last file));
    answers = map_map (map blank) (λ (end : RankEnd). end.answers) ends
        ∙ each_end (λ end. map blank end.answers) (λ g. map blank g.answers) (back_of script header file arrivals)
        (λ r own e. ap (map blank) (fin file r own e).answers ∙ (end_near file r own e).answers)
        ∙ sym (map_map (map blank) (λ (g : Going). g.answers) (rank_ends script header file arrivals)) ∙ sym (ap (λ (e : End). map (map blank) e.answers) (last file));
    pending = each_end (λ end. end.pending) (λ g. machine.pending g.rank) (back_of script header file arrivals)
        (λ r own e. (fin file r own e).pending ∙ ap (λ (k : machine.Rank). machine.pending k) (end_near file r own e).rank) ∙ sym (ap (λ (e : End). e.pending) (last file));
  }

  pub finished_so : (file : List ℕ) (told : Option (List ℕ)) (records : ℕ)
      → IsDoneSo (setting_of script header) (opening_owner script header file) (passed arrivals script.ranks given) told records
      → FinishedSo script header arrivals ends order file (run_of script header file arrivals).owner
  finished_so file told records so =
      let state = (run_of script header file arrivals).owner.state in
      let same : order ≡ (run_of script header file arrivals).marks = (done file).order in
      let back : (r : ℕ) (own : List Call) → slice_get script.calls r ≡ Some own → takes t r ≡ back_of script header file arrivals r =
      λ r own e. took_all t (lawful_agrees script lawful) whole file (done file).given r own e ∙ so.given r (low_rank t r own e) in
      record {
        bytes = ap (λ (n : ℕ). (raised (as_setting header) (counted state.file state.records) n).file) (known_is file) ∙ sym (ap (λ (e : End). e.bytes) (last file));
        answers = each_end (λ end. end.answers) (λ g. g.answers) (back_of script header file arrivals)
            (λ r own e. (fin file r own e).answers ∙ ap (λ (v : List OwnerItem). (rank_end header (first_going header own) v).answers) (back r own e)) ∙ sym (ap (λ (e : End). e.answers) (last file));
        calls = grind (arith, nat_tests, same, calls_all script header file arrivals sound lawful (joined_at file), joined_at file);
      }
