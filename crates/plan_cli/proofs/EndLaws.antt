-- The end of a plan that is asked for.
use Rattle.plan_cli.proofs.Words.{nat_tests, ◌≡◌, ◌<◌, ℕ, List, None, inl, inr, ◌⊎◌, sym, ◌∙◌, take, arith, IfSome, with_end, Script, Asks, most_taken, TakesAtMost, IsFaultless, status_of, Stop, HasEnded, line_of, Planned, DatasetFailed, GivesLine, Seen, SinkFailed, SourceFailed, IsStoppedBy, Wanted, not_mislaid, not_unread, not_wrong}
use Rattle.plan_cli.proofs.EarlyEnds as early

-- what is so of the stop's status, or of want of memory
by_status : (stop : Stop) (status n : ℕ) → (status ≡ status_of stop) ⊎ (status ≡ 8) → (status_of stop ≡ n) ⊎ (status_of stop ≡ 8) → (status ≡ n) ⊎ (status ≡ 8)
by_status stop status n told h = grind (arith, nat_tests)

-- at a status that is not 8 the stop is the cause
at_status : {Q : Type 0} (stop : Stop) (status n : ℕ) → n < 8 → (status ≡ status_of stop) ⊎ (status ≡ 8) → status ≡ n → (status ≡ status_of stop → status_of stop ≡ n → Q) → Q
at_status stop status n few (inl e) s h = h e (sym e ∙ s)
at_status stop status n few (inr e) s h = absurd (omega (arith, e, s, few))

pub stopped : (wanted : Wanted) (before now : Seen) (Untouched : Type 0) (stop : Stop) (status : ℕ)
    → IsStoppedBy before.left before.held wanted.dataset Untouched (SourceFailed before now) (DatasetFailed before now) stop
    → (wanted.dataset ≡ None → before.held ≡ None) → TakesAtMost most_taken before.left now.left → (status ≡ status_of stop) ⊎ (status ≡ 8)
    → (status ≡ status_of stop → IfSome (line_of stop) (GivesLine before.sink_faults now.sink_faults before.given now.given))
    → HasEnded wanted before now Untouched status
stopped wanted before now Untouched stop status w unheld few told gives =
    let held = before.held in
    let named = wanted.dataset in
    let Source : Type 0 = SourceFailed before now in
    let Dataset : Type 0 = DatasetFailed before now in
    let gives_line : List ℕ → Type 0 = GivesLine before.sink_faults now.sink_faults before.given now.given in
    record {
      well = λ s. at_status stop status 0 (omega arith) told s (λ _ x. absurd ((early.not_given stop).0 x));
      cut = λ s. at_status stop status 6 (omega arith) told s (λ _ x. absurd ((early.not_given stop).1 x));
      taken = few;
      script = λ s. at_status stop status 3 (omega arith) told s (λ e x. early.script_told held named Untouched Source Dataset gives_line before.left stop w (gives e) x);
      dataset = λ s. at_status stop status 4 (omega arith) told s (λ e x. early.dataset_told held named Untouched Source Dataset gives_line before.left stop w (gives e) x);
      unread = λ s. at_status stop status 7 (omega arith) told s (λ _ x. early.unread held named Untouched Source Dataset before.left stop w x);
      refused = λ f source. by_status stop status 3 told (early.refused held named Untouched Source Dataset before.left stop w f source);
      mislaid = λ a source. by_status stop status 4 told (early.mislaid held named Untouched Source Dataset before.left stop w a source);
      faulty = λ a source dataset. by_status stop status 4 told (early.faulty held named Untouched Source Dataset before.left stop w unheld a source dataset);
      complete = λ a source _ dataset. by_status stop status 0 told (inr (early.wants_memory held named Untouched Source Dataset before.left stop w unheld a source dataset));
    }

-- no other status
no_other : {Q : Type 0} (status n : ℕ) → (status ≡ 0) ⊎ (status ≡ 6) → status ≡ n → (n ≡ 0 → ⊥) → (n ≡ 6 → ⊥) → Q
no_other status n ended s a b = absurd (grind (arith, nat_tests))

-- the text was given, whole or in front, of a script with whose dataset nothing is wrong
pub given : (wanted : Wanted) (before now : Seen) (Untouched : Type 0) (status : ℕ) (text : List ℕ) (script : Script) → Asks before.left script
    → IsFaultless script before.held → Planned wanted.json before.left now.left before.held text → TakesAtMost most_taken before.left now.left
    → (status ≡ 0) ⊎ (status ≡ 6) → (status ≡ 0 → now.given ≡ with_end before.given text)
    → (status ≡ 6 → (n : ℕ) × (now.given ≡ with_end before.given (take n text))) → (status ≡ 6 → SinkFailed before now) → HasEnded wanted before now Untouched status
given wanted before now Untouched status text script asks faultless p few ended whole front sink = record {
  well = λ s. record { text = text; planned = p; given = whole s };
  cut = λ s. record { text = text; count = (front s).0; planned = p; given = (front s).1 };
  taken = few;
  script = λ s. no_other status 3 ended s (λ x. omega (arith, x)) (λ x. omega (arith, x));
  dataset = λ s. no_other status 4 ended s (λ x. omega (arith, x)) (λ x. omega (arith, x));
  unread = λ s. no_other status 7 ended s (λ x. omega (arith, x)) (λ x. omega (arith, x));
  refused = λ f _. not_unread before.left script asks f;
  mislaid = λ a _. not_mislaid before.left before.held script asks faultless a;
  faulty = λ a _ _. not_wrong before.left before.held script asks faultless a;
  complete = λ _ _ s _. early.whole status ended (λ x. s (sink x));
}
