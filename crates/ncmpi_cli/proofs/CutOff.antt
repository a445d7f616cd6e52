-- A run that a fault cut off.
use Rattle.ncmpi_cli.proofs.Words.{◌≡◌, ℕ, ◌==◌, true, List, [], length, Option, Some, inl, inr, sym, ap, subst, ◌∙◌, IfSome, IfSome_then, Header, RunEnd, Script, DiskCall, Mark, StepErr, after, BothTold, IsCutRun, HasBegun, HasCut, IsCutFile, IsMadeUnready, MadeCutOff, WasCutOff, script_made, file_at_start, Output, Seen, Asks, IsNotReady, IsReady, IsUnready, not_laid, header-kept, arith, nat_tests}
use Rattle.ncmpi_cli.proofs.Made.{made_alone, made_fresh}
use Rattle.ncmpi_cli.proofs.Ran.{at_start, have_begun}

-- the file, where it is told
pub cut_file : (fault : StepErr) (script : Script) (header : Header) (held held_mid held_now : Option (List ℕ)) (calls calls_mid : Option (List DiskCall))
    (order : List Mark) (count : ℕ) (end : RunEnd) → (ready : IsReady script header held held_mid calls calls_mid)
    → order ≡ end.order → end.fault ≡ Some fault → HasCut script header held_mid held_now count end
    → IfSome held (λ file. IsCutFile script header fault (file_at_start script ready.old header file) held_now order)
cut_file fault script header held held_mid held_now calls calls_mid order count end ready same failed cut =
    at_start (λ file. IsCutFile script header fault file held_now order) script header held held_mid calls calls_mid ready
    (IfSome_then held_mid (cut fault failed) (λ file own. record {
      left = own.0;
      records = count;
      answers = end.answers;
      held = own.1;
      cut = subst (λ (o : List Mark). IsCutRun script header file fault o own.0 count end.answers) (sym same) own.2;
    }))

pub cut_off : (fault : StepErr) (script : Script) (header : Header) (before now : Seen) (held_mid : Option (List ℕ)) (calls_mid : Option (List DiskCall))
    (order : List Mark) (count : ℕ) (end : RunEnd) → Asks before.left script → IsReady script header before.output.held held_mid before.output.calls calls_mid
    → now.left ≡ after (λ _. []) before.left → order ≡ end.order → HasBegun script end.order → end.fault ≡ Some fault
    → HasCut script header held_mid now.output.held count end → WasCutOff fault before now order
unfolding have_begun
cut_off fault script header before now held_mid calls_mid order count end asks ready taken same begun failed cut = record {
  begun = have_begun script header before now held_mid calls_mid order end.order asks ready taken same begun;
  cut = cut_file fault script header before.output.held held_mid now.output.held before.output.calls calls_mid order count end ready same failed cut;
}

-- ---- a made script

module _ (seed size : ℕ) where
  -- nothing was done
  pub made_unready : (held now : Option (List ℕ)) → now ≡ held → IsMadeUnready seed size held now
  made_unready held now e = grind (arith, nat_tests, not_laid, made_fresh, script_made)

  pub unready_made : (script : Script) (held now : Option (List ℕ)) → script ≡ script_made seed size → IsUnready script held now → IsMadeUnready seed size held now
  unready_made script held now is (inl e) = made_unready held now e
  unready_made script held now is (inr p) = subst (λ (s : Script). BothTold (IsNotReady s) held now) is p.left

  pub made_cut : (fault : StepErr) (script : Script) (header : Header) (before now : Output) (held_mid : Option (List ℕ)) (calls_mid : Option (List DiskCall))
      (order : List Mark) (count : ℕ) (end : RunEnd) → script ≡ script_made seed size → IsReady script header before.held held_mid before.calls calls_mid
      → order ≡ end.order → end.fault ≡ Some fault → HasCut script header held_mid now.held count end → MadeCutOff seed size fault before now order
  made_cut fault script header before now held_mid calls_mid order count end is ready same failed cut =
      let alone : (length script.extra == 0) ≡ true = ap (λ (s : Script). length s.extra == 0) is ∙ made_alone seed size in
      grind (arith, nat_tests, made_fresh seed size, header-kept script ready.old alone, cut_file fault script header before.held held_mid now.held before.calls calls_mid order count end ready same)
