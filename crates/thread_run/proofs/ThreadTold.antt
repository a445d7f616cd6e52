-- What a run on threads told, from what the owner tells.
use Rattle.thread_run.proofs.Words.{inl, inr, some_or_none, ◌≡◌, ℕ, sym, ◌∙◌, ap, subst, List, [], true, Option, Some, Header, RankEnd, ServeEnd, Script, Mark, OwnerItem, with_end, is_sound, Arrival, opening_owner, is_lawful, told_of, setting_of, point, told_marks, HasTold, owner_told, HasCutService, IsDoneSo, passed, marks_ended, some_each, if_some_at, DiskCall, length}
use Rattle.thread_run.proofs.TellLaws.{marks_along, same_told}
use Rattle.thread_run.proofs.ServiceCut.{service_cut, service_done, Service}
use Rattle.thread_run.proofs.ThreadCut.{ranks_are, told_is}
use Rattle.thread_run.proofs.ThreadTies.{Told, OwnerSide}

module _ {script : Script} {header : Header} {arrivals : List Arrival} {given : ℕ → List OwnerItem} {ends : List RankEnd} (t : Told script header arrivals given ends) (sound : is_sound header ≡ true) (lawful : is_lawful script ≡ true)
    {held : Option (List ℕ)} {calls : Option (List DiskCall)} {faults : ℕ} {told : Option (List (Mark × ℕ))} {left : Option (List ℕ)} {made : Option (List DiskCall)}
    {failed count : ℕ} {heard : Option (List (Mark × ℕ))} {before : ServeEnd} (o : OwnerSide script header arrivals given script.ranks (length script.calls) held calls faults told left made failed count heard before) where
  -- with the counts, where the bytes are told
  run_counts : (file : List ℕ) → held ≡ Some file → heard ≡ with_end told (told_of script header file before.order)
  run_counts file there =
      let s = setting_of script header in let d = opening_owner script header file in let a = o.told_along file in
      let h : Service s d script.ranks arrivals given before.order = elim (some_or_none before.fault) [
        | inl none ↦
            (let so = if_some_at (λ (f : List ℕ). IsDoneSo s (opening_owner script header f) (passed arrivals script.ranks given) left count) held file there (o.bytes none) in
            (service_done script.hints s d script.ranks arrivals given before.order (o.done none file).order so.given).0)
        | inr w ↦
            service_cut s d script.ranks count w.0 arrivals given before.order left (ranks_are t sound lawful file)
            (if_some_at (λ (f : List ℕ). HasCutService s w.0 (opening_owner script header f) (passed arrivals script.ranks given) (point before.order left count)) held file there (o.cut w.0 w.1))
      ] in
      a.heard
      ∙ ap (λ (more : List (Mark × ℕ)). with_end told more)
      (same_told s a.first a.later h.first h.later d (sym a.all ∙ h.all) a.none_strange h.none (sym a.order ∙ h.order_is) ∙ told_is t sound lawful file h)

  pub run_told : (order : List Mark) → order ≡ before.order → HasTold script header held told heard order
  run_told order same =
      let a = o.told_along [] in let d = opening_owner script header [] in
      subst (λ (ms : List Mark). HasTold script header held told heard ms) (sym same) (record {
        marks = ap told_marks a.heard ∙ marks_ended told (owner_told (setting_of script header) d a.first)
            ∙ ap (λ (ms : List Mark). with_end (told_marks told) ms) (marks_along (setting_of script header) a.first d ∙ sym a.order);
        counts = some_each held run_counts;
      })
