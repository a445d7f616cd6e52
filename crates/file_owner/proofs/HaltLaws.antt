-- The owner takes one item after another, and stops at last.
use Rattle.file_owner.proofs.Words.{◌≡◌, ℕ, suc, ◌<◌, ◌≤◌, refl, sym, ◌∙◌, ap, subst, List, [], ◌∷◌, ◌++◌, length, replicate, Bool, true, false, Option, None, arith, append-nil, length-replicate, slice_get, same_Some, Header, Hints, DiskCall, Mark, OwnerItem, RankItem, StepErr, Rose, End, Receiver, free_client, is_strange, stop_held, stops, Client, Setting, Arrival, IsCount, of_fault, HasFinished, HasHaltCause, HasHalted, HasSeenAll, HasServed, taken_from, stopped_with, owner_at, opening_standing, standing_at, Grows, HasDone, IsSteady, Standing, held_stops, stops_for, AllHaveEnded, HaveEnded, Halt, IsFaultAt, entry_replicate, nat_tests}
use Rattle.nc_base.specs.declared.step.StepErr.TheVariants as fault
use Rattle.file_owner.specs.declared.owner.Owner.{Owner as Held}
use Rattle.file_owner.specs.declared.service.Halt.TheVariants as halt
use Rattle.file_owner.proofs.RefusedSteps.{fault_none}
use Rattle.file_owner.proofs.AlikeLaws.{lines_as, lines_none}
use Rattle.file_owner.proofs.RunLaws.{run_more, run_none}
use Rattle.file_owner.proofs.StopLaws.{more_none, more_one}

-- what one take and the step at it tell
pub record HasTakenOne (mid now : Receiver RankItem) (left end : List Bool) (a : Arrival) : Type 0 where
  pub items : now.items ≡ mid.items ++ a ∷ []
  pub senders : now.senders ≡ mid.senders
  pub of : now.of ≡ mid.of
  pub low : a.0 < mid.senders
  pub noted : (arrivals : List Arrival) → HaveEnded left arrivals → HaveEnded end (arrivals ++ a ∷ [])

pub served_more : (hints : Hints) (s : Setting) (old mid now : Receiver RankItem) (left end : List Bool) (before x y : Standing) (a : Arrival) → HasServed hints s (taken_from old mid left) before x → HasTakenOne mid now left end a
    → ((file : List ℕ) → is_strange s (owner_at x file) a ≡ false) → HasDone hints s a x y → HasServed hints s (taken_from old now end) before y
served_more hints s old mid now left end before x y a h t fit done =
    grind (arith, nat_tests, more_one old mid now h.more a h.taken t.items t.senders t.of t.low, run_more hints s before x y h.more a h.run fit done)

-- ---- where it stops

pub halt_ended : (hints : Hints) (s : Setting) (old mid : Receiver RankItem) (left : List Bool) (before x : Standing) (lines : List (End OwnerItem)) → HasServed hints s (taken_from old mid left) before x
    → Grows x.lines (held_stops x.clients) lines → AllHaveEnded old.senders left → HasHalted hints s (taken_from old mid left) before (stopped_with x.records x.told x.calls x.order x.heard lines) halt.Ended
halt_ended hints s old mid left before x lines h g all = grind (arith, nat_tests, append-nil, lines_as)

pub halt_strange : (hints : Hints) (s : Setting) (old mid now : Receiver RankItem) (left end : List Bool) (before x : Standing) (number : ℕ) (item : RankItem) (last : List (End OwnerItem))
    → HasServed hints s (taken_from old mid left) before x → HasTakenOne mid now left end (number, item) → ((file : List ℕ) → is_strange s (owner_at x file) (number, item) ≡ true)
    → Grows x.lines (λ q. held_stops x.clients q ++ stops_for ((number, item) ∷ []) q) last
    → HasHalted hints s (taken_from old now end) before (stopped_with x.records x.told x.calls x.order x.heard last) (halt.Stranger number)
halt_strange hints s old mid now left end before x number item last h t strange g =
    grind (arith, nat_tests, more_one old mid now h.more (number, item) h.taken t.items t.senders t.of t.low)

pub halt_fault : (hints : Hints) (s : Setting) (old mid now : Receiver RankItem) (left end : List Bool) (before x : Standing) (a : Arrival) (e : StepErr) (n : ℕ) (held : Option (List ℕ)) (made : Option (List DiskCall))
    (marks : List Mark) (heard : Option (List (Mark × ℕ))) (last : List (End OwnerItem)) → HasServed hints s (taken_from old mid left) before x → HasTakenOne mid now left end a → marks ≡ x.order → heard ≡ x.heard → Grows x.lines (stops (owner_at x []) (a ∷ [])) last
    → IsFaultAt s e x (a ∷ []) n held → HasHalted hints s (taken_from old now end) before (stopped_with n held made marks heard last) (halt.Fault e)
halt_fault hints s old mid now left end before x a e n held made marks heard last h t m k g at =
    grind (arith, nat_tests, more_one old mid now h.more a h.taken t.items t.senders t.of t.low)

-- ---- at the beginning

none_held : (n q : ℕ) → stop_held (slice_get (replicate n free_client) q) ≡ []
none_held (suc n) (suc q) = none_held n q
none_held _ _ = refl

pub halt_none : (hints : Hints) (s : Setting) (old : Receiver RankItem) (flags : List Bool) (e : StepErr) (senders n : ℕ) (held : Option (List ℕ)) (made : Option (List DiskCall)) (marks : List Mark)
    (heard : Option (List (Mark × ℕ))) (lines : List (End OwnerItem)) → HaveEnded flags [] → e ≡ fault.Memory → marks ≡ []
    → HasHalted hints s (taken_from old old flags) (opening_standing senders n held made heard lines) (stopped_with n held made marks heard lines) (halt.Fault e)
halt_none hints s old flags e senders n held made marks heard lines h memory none =
    grind (
      arith,
      nat_tests,
      more_none old,
      run_none hints s (opening_standing senders n held made heard lines),
      lines_none lines lines refl,
      fault_none s e (opening_standing senders n held made heard lines) n held memory refl refl,
      lines_as,
      append-nil,
      none_held,
    )

pub opening_steady : (header : Header) (len senders n : ℕ) (held : Option (List ℕ)) (made : Option (List DiskCall)) (heard : Option (List (Mark × ℕ))) (lines : List (End OwnerItem)) → senders ≤ 64 → length lines ≡ senders
    → IsCount header len n → IsSteady header len (opening_standing senders n held made heard lines)
opening_steady header len senders n held made heard lines few long count = record {
  few = subst (λ (k : ℕ). k ≤ 64) (sym (length-replicate senders free_client)) few;
  one_each = long ∙ sym (length-replicate senders free_client);
  count = count;
  reached = count;
  below = omega arith;
  held = λ r x o e f. let free = entry_replicate senders r free_client x e in let none : x.held ≡ None = ap (λ (y : Client). y.held) free in absurd cc;
  same = λ r q x y o p e g f k. let free = entry_replicate senders r free_client x e in let none : x.held ≡ None = ap (λ (y : Client). y.held) free in absurd cc;
}

-- ---- what still comes

pub finish_ended : (old : Receiver RankItem) (lines : List (End OwnerItem)) (flags : List Bool) (h : Halt) → h ≡ halt.Ended → HasSeenAll old.senders flags h → HasFinished (taken_from old old flags) lines lines flags h
finish_ended old lines flags h e all = grind (arith, nat_tests, more_none, lines_none, append-nil)

-- no fault is told where there was none
pub no_cause : (before now : ℕ) (h : Halt) → of_fault h ≡ None → before ≤ now → HasHaltCause before now h
no_cause before now h none l = record { later = l; failed = λ e. absurd cc }

pub fault_cause : (before mid now : ℕ) (e : StepErr) → before ≤ mid → mid ≤ now → (e ≡ fault.Disk → Rose mid now) → HasHaltCause before now (halt.Fault e)
fault_cause before mid now e l k h = grind (arith, nat_tests, same_Some)

-- ---- a new owner

pub opened_is : (d : Held) (senders k n : ℕ) (held : Option (List ℕ)) (made : Option (List DiskCall)) (heard : Option (List (Mark × ℕ))) (lines : List (End OwnerItem)) → d.clients.items ≡ replicate k free_client
    → k ≡ senders → d.met ≡ 0 → d.reached ≡ n → d.order ≡ [] → standing_at d n held made heard lines ≡ opening_standing senders n held made heard lines
opened_is d senders k n held made heard lines clients count met reached order = grind (arith, nat_tests)
