-- What the calls of a board give.
use Rattle.run_watch.proofs.Words.{◌≡◌, ◌+◌, ◌++◌, ◌∷◌, ℕ, false, List, [], length, fold, All, Result, is_err, IsOk, MatchResult, Option, Some, refl, ap, ◌∙◌, length-append, arith, All-push, Mark, last_count, Heard, Shown, summary, with_pair, TellsMore, Shows, nat_tests}

pub ok_of : {A E : Type 0} (r : Result A E) (P : Type 0) (Q : E → Type 0) → false ≡ is_err r → MatchResult r (λ _. P) Q → P
ok_of r P Q e h = grind (arith, nat_tests)

pub done : {A E : Type 0} (r : Result A E) (P Q : Type 0) → IsOk r → MatchResult r (λ _. P) (λ _. Q) → P
done r P Q ok h = grind (arith, nat_tests)

-- of what waits the last is shown
pub last_shown : (x next y : Shown) (waiting : List Shown) → waiting ≡ y ∷ [] → next ≡ fold (λ (a b : Shown). b) x waiting → next ≡ y
last_shown x next y waiting e is = is ∙ ap (λ (m : List Shown). fold (λ (a b : Shown). b) x m) e

pub none_shown : (x next : Shown) (waiting : List Shown) → waiting ≡ [] → next ≡ fold (λ (a b : Shown). b) x waiting → next ≡ x
none_shown x next waiting e is = is ∙ ap (λ (m : List Shown). fold (λ (a b : Shown). b) x m) e

last_count-snoc : (opening : ℕ) (l : List (Mark × ℕ)) (mark : Mark) (records : ℕ) → last_count opening (l ++ (mark, records) ∷ []) ≡ records
last_count-snoc opening [] mark records = refl
last_count-snoc opening (t ∷ l) mark records = last_count-snoc t.1 l mark records

abbrev pub shown : ℕ → ℕ → Mark → Shown
shown steps records mark = record { summary = record { steps = steps; records = records }; last = Some mark }

pub summed : (told : Heard) (mark : Mark) (steps records : ℕ) → steps ≡ length told.pairs + 1 → (shown steps records mark).summary ≡ summary (with_pair told mark records)
summed told mark steps records e = grind (arith, nat_tests, length-append, last_count-snoc, shown, summary, with_pair)

-- what the board has heard once this is shown
pub told_more : (told : Heard) (now : Option Heard) (y : Shown) (steps records : ℕ) (mark : Mark) → y ≡ shown steps records mark → TellsMore (Some told) y now → now ≡ Some (with_pair told mark records)
told_more told now y steps records mark e h = h mark (ap (λ (z : Shown). z.last) e) ∙ ap (λ (z : Shown). Some (with_pair told mark z.summary.records)) e

pub opened_push : (first : Heard) (views : List Heard) (view : Heard) → All (λ v. v ≡ first) views → view ≡ first → All (λ v. v ≡ first) (views ++ view ∷ [])
opened_push first = All-push (λ (v : Heard). v ≡ first)

-- a board that shows one pair more than before, where this pair was pushed
pub pushed : (before now : Heard) (mark : Mark) (records : ℕ) (pairs : List (Mark × ℕ)) (heard : Option Heard) (x : Shown) (waiting : List Shown) → before ≡ now
    → pairs ≡ now.pairs ++ (mark, records) ∷ [] → Shows (with_pair before mark records) heard x waiting → Shows (record { opening = now.opening; pairs = pairs }) heard x waiting
pushed before now mark records pairs heard x waiting same more shows = grind (arith, nat_tests)
