-- A run on threads, from what the owner tells and what the close tells.
use Rattle.thread_run.proofs.Words.{◌≡◌, ℕ, sym, ◌∙◌, ap, subst, inl, inr, List, [], ◌++◌, map, max, true, Option, Some, None, nat_lt, IfSome, Header, RankEnd, RunEnd, ServeEnd, Script, DiskCall, Mark, OwnerItem, StepErr, after, with_end, run_calls, store_records, raised, is_sound, Arrival, IsLegal, opening_owner, run_of, is_lawful, serial_from, setting_of, as_setting, counted, seen, HasBegun, HasCut, IsRun, owner_calls, IsDone, IsDoneSo, passed, NoneBroke, most_known_of, Closing, rose_later, blank, with_end-with_end, rose_before, some_or_none, le_two, arith, nat_tests, append-nil, length}
use Rattle.nc_base.specs.declared.step.StepErr.TheVariants as fault
use Rattle.thread_run.proofs.ThreadRuns.{Finished, FinishedAlike, FinishedSo, finished, finished_alike, finished_so}
use Rattle.thread_run.proofs.ThreadTies.{Told, begun, OwnerSide}

if_both : {X : Type 0} {P Q R : X → Type 0} (m : Option X) → IfSome m P → IfSome m Q → ((x : X) → P x → Q x → R x) → IfSome m R
if_both m p q f = grind (arith, nat_tests)

module _ {script : Script} {header : Header} {arrivals : List Arrival} {given : ℕ → List OwnerItem} {ends : List RankEnd} (t : Told script header arrivals given ends)
    (sound : is_sound header ≡ true) (lawful : is_lawful script ≡ true) where
  -- the owner's order begins one of the script's
  pub order_begun : {held : Option (List ℕ)} {calls : Option (List DiskCall)} {faults : ℕ} {told : Option (List (Mark × ℕ))} {left : Option (List ℕ)} {made : Option (List DiskCall)} {failed records : ℕ}
      {heard : Option (List (Mark × ℕ))} {end : ServeEnd} → OwnerSide script header arrivals given script.ranks (length script.calls) held calls faults told left made failed records heard end → HasBegun script end.order
  order_begun {end} o = elim (some_or_none end.fault) [
    | inl none ↦ subst (λ (ms : List Mark). HasBegun script ms) (sym (o.done none []).order) (begun t [] arrivals [] (sym (append-nil arrivals)) lawful)
    | inr w ↦ (let h = o.cut_off w.0 w.1 in subst (λ (ms : List Mark). HasBegun script ms) (sym (h.cut_off []).order) (begun t [] h.first h.later h.all lawful))
  ]

  pub known_sound : (end : ServeEnd) → ((file : List ℕ) → IsDone (setting_of script header) (opening_owner script header file) (passed arrivals script.ranks given) end.order end.stranger)
      → NoneBroke ends → is_sound (record header { records = most_known_of ends }) ≡ true
  known_sound end done whole = (finished t sound lawful end.order end.stranger whole done).sound

  pub run_all : {held : Option (List ℕ)} {calls : Option (List DiskCall)} {faults : ℕ} {told : Option (List (Mark × ℕ))} {held' : Option (List ℕ)} {calls' : Option (List DiskCall)} {faults' count : ℕ}
      {heard : Option (List (Mark × ℕ))} {before : ServeEnd} {left : Option (List ℕ)} {made : Option (List DiskCall)} {failed records : ℕ} {end : RunEnd}
      → OwnerSide script header arrivals given script.ranks (length script.calls) held calls faults told held' calls' faults' count heard before → Closing header ends before held' calls' faults' count left made failed records end
      → HasCut script header held left records end → IsRun script header (seen held calls faults) (seen left made failed) records end
  run_all {held} {calls} {faults} {held'} {calls'} {faults'} {count} {before} {left} {failed} {records} {end} o c cut_off = record {
    legal = λ none. subst (λ (ms : List Mark). IsLegal script ms) (sym c.order) (fin none).legal;
    bytes = λ none. if_both held (o.bytes (c.went none).0) (o.bytes (c.went none).0) (λ file so more.
        (c.closed none).bytes ∙ ap (λ (m : Option (List ℕ)). after (λ f. (raised (as_setting header) (counted f count) (most_known_of ends)).file) m) so.told
        ∙ (λ i. Some (raised (as_setting header) (counted (run_of script header file arrivals).owner.state.file (so.records i)) (most_known_of ends)).file)
        ∙ ap (λ (f : List ℕ). Some f) (fin_so none file so).bytes ∙ ap (λ (ms : List Mark). Some (serial_from script header file ms).bytes) (sym c.order));
    records = λ none file.
        (c.closed none).count ∙ ap (λ (n : ℕ). max n (most_known_of ends)) (o.counts (c.went none).0 file)
        ∙ (fin_alike none file).records ∙ ap (λ (ms : List Mark). (serial_from script header file ms).records) (sym c.order);
    answers = λ none. if_both held (o.bytes (c.went none).0) (o.bytes (c.went none).0) (λ file so more.
        c.answers none ∙ (fin_so none file so).answers ∙ ap (λ (ms : List Mark). (serial_from script header file ms).answers) (sym c.order));
    alike = λ none file.
        ap (map (map blank)) (c.answers none) ∙ (fin_alike none file).answers ∙ ap (λ (ms : List Mark). map (map blank) (serial_from script header file ms).answers) (sym c.order);
    pending = λ none file. c.pending none ∙ (fin_alike none file).pending ∙ ap (λ (ms : List Mark). (serial_from script header file ms).pending) (sym c.order);
    calls = λ none. if_both held (o.bytes (c.went none).0) (o.device (c.went none).0 (fin none).single) (λ file so made_so.
        (c.closed none).device ∙ ap (λ (m : Option (List DiskCall)). with_end m (store_records (as_setting header) (nat_lt count records))) made_so
        ∙ with_end-with_end calls (owner_calls script.hints (setting_of script header) (opening_owner script header file) arrivals) (store_records (setting_of script header) (nat_lt count records))
        ∙ (λ i. with_end calls (owner_calls script.hints (setting_of script header) (opening_owner script header file) arrivals
        ++ store_records (setting_of script header) (nat_lt (so.records i) (counts none file so i))))
        ∙ ap (λ (cs : List DiskCall). with_end calls cs) (sym (fin_so none file so).calls) ∙ ap (λ (ms : List Mark). with_end calls (run_calls script header file ms)) (sym c.order));
    sound = c.sound;
    begun = subst (λ (ms : List Mark). HasBegun script ms) (sym c.order) (order_begun o);
    fault = λ disk. elim (some_or_none before.fault) [
      | inl none ↦ rose_before faults faults' failed o.later (c.cause none disk)
      | inr w ↦ rose_later faults faults' failed (o.cause (w.1 ∙ ap (λ (x : StepErr). Some x) (c.first w.0 w.1 disk))) c.later
    ];
    later = le_two faults faults' failed o.later c.later;
    cut = cut_off;
    none_pending = c.none_pending;
  }
    where
      fin : end.fault ≡ None → Finished script header arrivals ends before.order
      fin none = finished t sound lawful before.order before.stranger (c.went none).1 (o.done (c.went none).0)

      fin_alike : end.fault ≡ None → (file : List ℕ) → FinishedAlike script header ends before.order file (run_of script header file arrivals).owner
      fin_alike none file = finished_alike t sound lawful before.order before.stranger (c.went none).1 (o.done (c.went none).0) file

      fin_so : end.fault ≡ None → (file : List ℕ) → IsDoneSo (setting_of script header) (opening_owner script header file) (passed arrivals script.ranks given) held' count
          → FinishedSo script header arrivals ends before.order file (run_of script header file arrivals).owner
      fin_so none file so = finished_so t sound lawful before.order before.stranger (c.went none).1 (o.done (c.went none).0) file held' count so

      counts : end.fault ≡ None → (file : List ℕ) → IsDoneSo (setting_of script header) (opening_owner script header file) (passed arrivals script.ranks given) held' count
          → records ≡ (serial_from script header file before.order).records
      counts none file so = (c.closed none).count ∙ ap (λ (n : ℕ). max n (most_known_of ends)) so.records ∙ (fin_alike none file).records
