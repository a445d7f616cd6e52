-- What is done of a script is a run that ended well.
use Rattle.ncmpi_cli.proofs.Words.{◌≡◌, ℕ, List, [], ◌++◌, map, Option, Some, None, refl, sym, ap, subst, IfSome, Header, RunEnd, Script, DiskCall, Mark, after, with_end, all_calls, run_calls, End, serial_from, run_text, watch_text, HasBegun, IsRun, AreAlikeEnds, seen, DiskSeen, file_at_start, HaveBegun, Ran, text_of, watched_text, with_counts, Seen, Asks, first_calls, IsReady, arith, nat_tests}

-- ---- a file that is told

after_told : (P : List ℕ → Type 0) (change : List ℕ → List ℕ) (held : Option (List ℕ)) → IfSome (after change held) P → IfSome held (λ file. P (change file))
after_told P change None h = tt
after_told P change (Some file) h = h

-- what is so of the file when the ranks begin
pub at_start : (P : List ℕ → Type 0) (script : Script) (header : Header) (held held_mid : Option (List ℕ)) (calls calls_mid : Option (List DiskCall))
    → (ready : IsReady script header held held_mid calls calls_mid) → IfSome held_mid P → IfSome held (λ file. P (file_at_start script ready.old header file))
at_start P script header held held_mid calls calls_mid ready h = grind (arith, nat_tests, after_told P)

joined : (calls before : Option (List DiskCall)) (opening run : List DiskCall) → calls ≡ after (λ _. opening) before
    → with_end calls run ≡ after (λ _. opening ++ run) before
joined calls None opening run e = ap (λ (c : Option (List DiskCall)). with_end c run) e
joined calls (Some old) opening run e = ap (λ (c : Option (List DiskCall)). with_end c run) e

-- the device calls before the ranks begin, and theirs
pub all_told : (script : Script) (old header : Header) (held : Option (List ℕ)) (calls calls_mid calls_now : Option (List DiskCall)) (order : List Mark)
    → IfSome held (λ file. calls_mid ≡ after (λ _. first_calls script old header file) calls)
    → IfSome held (λ file. calls_now ≡ with_end calls_mid (run_calls script header (file_at_start script old header file) order))
    → IfSome held (λ file. calls_now ≡ after (λ _. all_calls script old header file order) calls)
all_told script old header None calls calls_mid calls_now order opened made = tt
all_told script old header (Some file) calls calls_mid calls_now order opened made = grind (arith, nat_tests, joined, after)

-- nothing is told of readings where nobody read
abbrev no_readings : List (List (ℕ × ℕ))
no_readings = []

pub nobody_read : (held : Option (List ℕ)) → IfSome held (λ file. no_readings ≡ [])
nobody_read None = tt
nobody_read (Some file) = refl

-- the text of a run that had no fault
told_lines : (script : Script) (header : Header) (held : Option (List ℕ)) (records : ℕ) (end : RunEnd) (readings : List (List ℕ)) (pairs : List (List (ℕ × ℕ)))
    → IfSome held (λ file. records ≡ (serial_from script header file end.order).records)
    → IfSome held (λ file. end.answers ≡ (serial_from script header file end.order).answers)
    → IfSome held (λ file. end.pending ≡ (serial_from script header file end.order).pending)
    → IfSome held (λ file. pairs ≡ map (with_counts script header file end.order) readings)
    → IfSome held (λ file. run_text script (record header { records = records }) end.order end.answers end.pending ++ watch_text pairs
    ≡ text_of script header end.order (serial_from script header file end.order) ++ watched_text script header file end.order readings)
told_lines script header None records end readings pairs r a p w = tt
told_lines script header (Some file) records end readings pairs r a p w =
    λ i. run_text script (record header { records = r i }) end.order (a i) (p i) ++ watch_text (w i)

-- for any file, and so for one that is told
pub if_any : {P : List ℕ → Type 0} (held : Option (List ℕ)) → ((file : List ℕ) → P file) → IfSome held P
if_any None all = tt
if_any (Some file) all = all file

-- what is told of a run that had no fault, but for the values that gets gave
abbrev pub told_end : ℕ → RunEnd → End
told_end records end = record { bytes = []; records = records; answers = end.answers; pending = end.pending }

pub any_end : (script : Script) (header : Header) (old new : DiskSeen) (records : ℕ) (end : RunEnd) → IsRun script header old new records end → end.fault ≡ None
    → (file : List ℕ) → AreAlikeEnds (told_end records end) (serial_from script header file end.order)
any_end script header old new records end run whole file = grind (arith, nat_tests)

-- ---- the run

unfoldable pub have_begun : (script : Script) (header : Header) (before now : Seen) (held_mid : Option (List ℕ)) (calls_mid : Option (List DiskCall)) (order end_order : List Mark)
    → Asks before.left script → IsReady script header before.output.held held_mid before.output.calls calls_mid → now.left ≡ after (λ _. []) before.left
    → order ≡ end_order → HasBegun script end_order → HaveBegun before now order
have_begun script header before now held_mid calls_mid order end_order asks ready taken same begun = record {
  start = record {
    script = script;
    old = ready.old;
    header = header;
    file = ready.file;
    asks = asks;
    taken = taken;
    held = ready.held;
    heads = ready.heads;
    faultless = ready.faultless;
  };
  steps = subst (λ (o : List Mark). HasBegun script o) (sym same) begun;
}

-- a run without a fault, on a dataset that was made ready
pub ran : (script : Script) (header : Header) (before now : Seen) (held_mid : Option (List ℕ)) (calls_mid : Option (List DiskCall)) (faults failed records : ℕ) (end : RunEnd)
    (order : List Mark) (readings end_readings : List (List ℕ)) (pairs : List (List (ℕ × ℕ)))
    → Asks before.left script → IsReady script header before.output.held held_mid before.output.calls calls_mid → now.left ≡ after (λ _. []) before.left
    → IsRun script header (seen held_mid calls_mid faults) (seen now.output.held now.output.calls failed) records end → end.fault ≡ None
    → order ≡ end.order → readings ≡ end_readings
    → IfSome held_mid (λ file. pairs ≡ map (with_counts script header file end.order) end_readings)
    → Ran before now order readings (run_text script (record header { records = records }) end.order end.answers end.pending ++ watch_text pairs)
ran script header before now held_mid calls_mid faults failed records end order readings end_readings pairs asks ready taken run whole same same_readings watched =
    let text : List ℕ = run_text script (record header { records = records }) end.order end.answers end.pending ++ watch_text pairs in
    rw (same, same_readings)
    (record {
      script = script;
      old = ready.old;
      header = header;
      file = ready.file;
      reads = asks;
      taken = taken;
      held = ready.held;
      heads = ready.heads;
      legal = run.legal whole;
      bytes = grind (arith, nat_tests, at_start);
      calls = grind (arith, nat_tests, all_told, at_start, ready.calls, run.calls, with_end);
      tells = record {
        end = told_end records end;
        alike = grind (arith, nat_tests, any_end, ready.old, seen, file_at_start);
        lines = watch_text pairs;
        whole = refl;
      };
      lines = at_start (λ file. text ≡ text_of script header end.order (serial_from script header file end.order) ++ watched_text script header file end.order end_readings)
          script header before.output.held held_mid before.output.calls calls_mid ready
          (told_lines script header held_mid records end end_readings pairs (if_any held_mid (run.records whole)) (run.answers whole) (if_any held_mid (run.pending whole)) watched);
    })
