-- A run of a made script.
use Rattle.ncmpi_cli.proofs.Words.{◌≡◌, ℕ, ◌≤◌, true, List, [], length, Option, None, ◌⊎◌, refl, sym, ap, ap₂, subst, ◌∙◌, arith, nat_tests, IfSome_then, IfSome, some_not_none, Header, RunEnd, Script, DiskCall, Mark, after, with_end, all_calls, run_calls, IsLegal, End, serial_from, HasBegun, IsRun, seen, has_counts, made_script, summary_text, header_line, layout_line, redef_line, made_counted, made_lawful, made_laid, new_end, RanMade, script_made, summed, end_of_run, file_at_start, Output, created_header, IsKept, TellsDataset, IsReady, IsOfDataset, line_of, status_of, Stop, file-kept, header-kept, ◌==◌}
use Rattle.dataset_start.specs.declared.stop.Stop.TheVariants as stops
use Rattle.ncmpi_cli.proofs.Statuses.{by_cause, IsTold}
use Rattle.ncmpi_cli.proofs.Ran.{all_told, any_end, at_start, told_end}

-- ---- what is so of the script

module _ (seed size : ℕ) where
  pub made_is : made_script seed size ≡ script_made seed size
  unfolding script_made
  made_is = refl

  pub made_kept : size ≤ 64 → IsKept (script_made seed size)
  unfolding script_made
  made_kept few = record { lawful = made_lawful seed size few; whole = refl; unplaced = λ _. refl; writable = λ _. refl }

  pub made_counts : has_counts (script_made seed size) ≡ true
  unfolding script_made
  made_counts = made_counted seed size

  pub made_fresh : (script_made seed size).fresh ≡ true
  unfolding script_made
  made_fresh = refl

  pub made_alone : (length (script_made seed size).extra == 0) ≡ true
  unfolding script_made
  made_alone = refl

  -- nothing is told of its layout
  no_line : (held : Option (List ℕ)) (line : List ℕ) → TellsDataset (script_made seed size) held line → ⊥
  unfolding script_made
  no_line held line t = let told = t.created made_fresh in some_not_none told.0 _ told.1.0 made_laid

  pub never_told : (script : Script) (held : Option (List ℕ)) (stop : Stop) → script ≡ script_made seed size
      → (status_of stop ≡ 4 → IfSome (line_of stop) (TellsDataset script held)) → status_of stop ≡ 4 → ⊥
  never_told script held (stops.Header e) is bad s = no_line held (header_line e) (subst (λ (x : Script). TellsDataset x held (header_line e)) is (bad s))
  never_told script held (stops.Layout e) is bad s = no_line held (layout_line e) (subst (λ (x : Script). TellsDataset x held (layout_line e)) is (bad s))
  never_told script held (stops.Redefinition e) is bad s = no_line held (redef_line e) (subst (λ (x : Script). TellsDataset x held (redef_line e)) is (bad s))
  never_told script held stop is bad s = absurd (omega (arith, s))

-- ---- the run of a made script

-- what a run with this header comes to, summed up
abbrev sums : ℕ → ℕ → Script → Header → List Mark → End → List ℕ
sums seed size script header order end = summary_text seed size script (record header { records = end.records }) order end.answers

-- the headers of a created dataset to which nothing is added are its first one
one_end : (script : Script) (old header : Header) (order : List Mark) → (length script.extra == 0) ≡ true → old ≡ created_header script → header ≡ created_header script
    → (file : List ℕ) → end_of_run script old header file order ≡ new_end script file order
one_end script old header order alone old_is header_is file = grind (arith, nat_tests, file-kept, end_of_run, new_end, created_header)

pub made_ran : (seed size : ℕ) (script : Script) (header : Header) (before now : Output) (held_mid : Option (List ℕ)) (calls_mid : Option (List DiskCall)) (faults failed records : ℕ)
    (end : RunEnd) (order : List Mark) → script ≡ script_made seed size → IsReady script header before.held held_mid before.calls calls_mid → order ≡ end.order
    → IsRun script header (seen held_mid calls_mid faults) (seen now.held now.calls failed) records end → end.fault ≡ None
    → RanMade seed size before now order (summary_text seed size script (record header { records = records }) end.order end.answers)
made_ran seed size script header before now held_mid calls_mid faults failed records end order is ready same run whole =
    let alone : (length script.extra == 0) ≡ true = ap (λ (s : Script). length s.extra == 0) is ∙ made_alone seed size in
    let old_is : ready.old ≡ created_header script = ready.heads.created (ap (λ (s : Script). s.fresh) is ∙ made_fresh seed size) in
    let header_is : header ≡ created_header script = ready.heads.made ∙ header-kept script ready.old alone ∙ old_is in
    let one : (file : List ℕ) → end_of_run script ready.old header file end.order ≡ new_end script file end.order =
    one_end script ready.old header end.order alone old_is header_is in
    let text : List ℕ = summary_text seed size script (record header { records = records }) end.order end.answers in
    let last : End = told_end records end in
    subst (λ (o : List Mark). RanMade seed size before now o text) (sym same)
    (record {
      legal = subst (λ (s : Script). IsLegal s end.order) is (run.legal whole);
      bytes = grind (arith, nat_tests, at_start);
      calls = subst (λ (s : Script). IfSome before.held (λ file. now.calls ≡ after (λ _. all_calls s (created_header s) (created_header s) file end.order) before.calls)) is
          (IfSome_then before.held
          (all_told script ready.old header before.held before.calls calls_mid now.calls end.order ready.calls
          (at_start (λ file. now.calls ≡ with_end calls_mid (run_calls script header file end.order)) script header before.held held_mid before.calls calls_mid ready (run.calls whole)))
          (λ file d. d ∙ ap₂ (λ (o h : Header). after (λ _. all_calls script o h file end.order) before.calls) old_is header_is));
      sums = record {
        end = last;
        alike = grind (arith, nat_tests, any_end, end.order, ready.old, new_end, seen, file_at_start);
        whole = subst (λ (s : Script). text ≡ summed seed size s end.order last) is
            (ap (λ (h : Header). summary_text seed size script (record h { records = records }) end.order end.answers) header_is);
      };
      lines = subst (λ (s : Script). IfSome before.held (λ file. text ≡ summed seed size s end.order (new_end s file end.order))) is
          (IfSome_then before.held
          (at_start (λ file. text ≡ sums seed size script header end.order (serial_from script header file end.order)) script header before.held held_mid before.calls calls_mid ready
          (IfSome_then held_mid (run.answers whole) (λ file a i. summary_text seed size script (record header { records = run.records whole file i }) end.order (a i))))
          (λ file t. t ∙ ap₂ (λ (h : Header) (e : End). sums seed size script h end.order e) header_is (one file)));
    })

pub made_begins : (seed size : ℕ) (script : Script) (order end_order : List Mark) → script ≡ script_made seed size → order ≡ end_order → HasBegun script end_order
    → HasBegun (script_made seed size) order
made_begins seed size script order end_order is same h = grind (arith, nat_tests)

pub made_begins_none : (seed size : ℕ) (order : List Mark) → order ≡ [] → HasBegun (script_made seed size) order
made_begins_none seed size order e =
    subst (λ (o : List Mark). HasBegun (script_made seed size) o) (sym e) (record { known_ranks = refl; each_rank = λ q h. (_, refl) })

-- where nothing is at fault before the ranks begin, memory is wanting
pub made_wants : (stop : Stop) (status : ℕ) → IsTold stop status → IsOfDataset stop → (status_of stop ≡ 4 → ⊥) → (stop ≡ stops.Disk → ⊥)
    → (status ≡ 0) ⊎ (status ≡ 8)
made_wants stop status told only laid still = grind (arith, nat_tests, by_cause)
