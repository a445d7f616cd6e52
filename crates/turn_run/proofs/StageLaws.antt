-- Stages: steps one after another.
use Rattle.turn_run.proofs.Words.{◌≡◌, ℕ, refl, sym, ◌∙◌, ap, List, [], ◌++◌, Option, Some, None, append_assoc, append-nil, IfSome, Hints, Mark, DiskCall, Setting, Arrived, stage, HasLed, IsLed, Leads, Stage, with_end-with_end, with_end-nil, if_some_at, HasGone, rank_stage, set, slice_get, arith, common_steps}
use Rattle.run_laws.proofs.ArrivalLaws.{calls_split}

-- ---- steps one after another

pub some_each : {X : Type 0} (m : Option X) {P : X → Type 0} → ((x : X) → m ≡ Some x → P x) → IfSome m P
some_each None f = tt
some_each (Some x) f = f x refl

pub led_none : (hints : Hints) (s : Setting) (a : Stage) → Leads hints s [] a a
led_none hints s a = some_each a.held (λ file there. record { left = file; told = there; state = refl; calls = sym (with_end-nil a.calls) })

pub led_then : (hints : Hints) (s : Setting) (marks more : List Mark) (a b c : Stage) → Leads hints s marks a b → Leads hints s more b c → Leads hints s (marks ++ more) a c
led_then hints s marks more a b c first second =
    grind (arith, common_steps, if_some_at (λ (x : List ℕ). IsLed hints s more x b c) b.held, with_end-with_end, calls_split)

pub has_led_none : (hints : Hints) (s : Setting) (order : List Mark) (a : Stage) → HasLed hints s order order a a
has_led_none hints s order a = record { more = []; grown = sym (append-nil order); led = led_none hints s a; alike = λ stand w. w }

pub has_led_then : (hints : Hints) (s : Setting) (before now later : List Mark) (a b c : Stage) → HasLed hints s before now a b → HasLed hints s now later b c → HasLed hints s before later a c
has_led_then hints s before now later a b c first second = record {
  more = first.more ++ second.more;
  grown = second.grown ∙ ap (λ (ms : List Mark). ms ++ second.more) first.grown ∙ append_assoc before first.more second.more;
  led = led_then hints s first.more second.more a b c first.led second.led;
  alike = λ stand w. grind (arith, common_steps, first.alike stand w, second.alike);
}

-- those of one rank, whatever ranks stand beside it
pub gone_beside : {hints : Hints} {s : Setting} {r : ℕ} {before now : List Mark} {held left : Option (List ℕ)} {calls made : Option (List DiskCall)} {from to : Arrived}
    → HasGone hints s r (rank_stage before held calls from) (rank_stage now left made to) → (records : ℕ) (ranks : List Arrived) → slice_get ranks r ≡ Some from
    → HasLed hints s before now (stage held calls records ranks) (stage left made records (set ranks r to))
gone_beside g records ranks e = record { more = g.more; grown = g.grown; led = g.led records ranks e; alike = g.alike records ranks e }
