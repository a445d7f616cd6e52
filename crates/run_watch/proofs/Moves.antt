-- Each step of an end keeps the rule of a board.
use Rattle.run_watch.proofs.Words.{◌≡◌, ℕ, List, [], ◌∷◌, length, set, Option, Some, None, All, zero, suc, sym, refl, ap, ◌∙◌, subst, append_assoc, length-append, arith, All-nil, All-cons, All-head, All-tail, All-push, All-set, All-weaker, set_else, Turns, TurnsAt, Forks, Merges, Mark, Summary, Heard, Shown, summary, opened, with_pair, IsBeginning, HeardOf, Keeps, Reads, TellsMore, append-nil, nat_tests}
use mathlib.Core.List.{IsPrefix}
use mathlib.Core.Option.{some, some-ne-none, some-injective}
use lib.ListN.{get_elem?}

abbrev Pairs : Type 0
Pairs = List (Mark × ℕ)

-- what each end has heard, one end has
at_seat : {V : Type 0} (P : V → Type 0) (ends : List V) (seat : ℕ) (v : V) → All P ends → get_elem? ends seat ≡ some v → P v
at_seat P [] seat v all e = absurd (some-ne-none v (sym e))
at_seat P (x ∷ xs) zero v all e = subst P (some-injective x v e) (All-head P x xs all)
at_seat P (x ∷ xs) (suc n) v all e = at_seat P xs n v (All-tail P x xs all) e

none_left : (l : Pairs) → length l ≡ 0 → l ≡ []
none_left [] e = refl
none_left (x ∷ xs) e = absurd (omega (arith, e))

whole_list : (l m : Pairs) → IsPrefix l m → length l ≡ length m → l ≡ m
whole_list l m p e = grind (arith, nat_tests, length-append, append-nil, none_left, Pairs)

-- a beginning with as many steps is the whole
pub whole : (early late : Heard) → IsBeginning early late → length early.pairs ≡ length late.pairs → early ≡ late
whole early late begins e = grind (arith, nat_tests, whole_list early.pairs late.pairs begins.1 e)

pub itself : (told : Heard) → IsBeginning told told
itself told = (refl, ([], append-nil told.pairs))

-- a beginning of this is one of what is told then
goes_on : (early told : Heard) (mark : Mark) (records : ℕ) → IsBeginning early told → IsBeginning early (with_pair told mark records)
goes_on early told mark records begins = grind (arith, nat_tests, append_assoc early.pairs begins.1.0 ((mark, records) ∷ []))

heard_of_more : (told : Heard) (mark : Mark) (records : ℕ) (heard : Option Heard) → HeardOf told heard → HeardOf (with_pair told mark records) heard
heard_of_more told mark records None h = h
heard_of_more told mark records (Some early) h = goes_on early told mark records h

-- the writer is made
pub begins : (x : Shown) (records : ℕ) → x.summary ≡ summary (opened records) → Keeps x (None ∷ [])
begins x records is = (opened records, is, All-cons (HeardOf (opened records)) None [] tt (All-nil (HeardOf (opened records))))

-- an end reads what is shown
pub reads_at : (seat : ℕ) (v : Option Heard) (x y : Shown) → y.summary ≡ x.summary → TurnsAt Keeps seat v x y (λ v x y w. Reads v y w)
reads_at seat v x y same ends h at =
    let mine : HeardOf h.0 v = at_seat (HeardOf h.0) ends seat v h.2 at in
    (Some h.0, (h.0, same ∙ h.1, All-set (HeardOf h.0) ends seat (Some h.0) (itself h.0) h.2), (h.0, refl, same ∙ h.1, mine))

pub reads : (seat : ℕ) (v : Option Heard) → Turns Keeps seat v (λ x. x) (λ v x y w. Reads v y w)
reads seat v x = reads_at seat v x x refl

-- the board shows one pair more
pub tells : (seat : ℕ) (told : Heard) (x y : Shown) (mark : Mark) → x.summary ≡ summary told → y.last ≡ Some mark → y.summary ≡ summary (with_pair told mark y.summary.records)
    → TurnsAt Keeps seat (Some told) x y (λ v x y w. TellsMore v y w)
tells seat told x y mark is last next ends h at =
    let mine : IsBeginning told h.0 = at_seat (HeardOf h.0) ends seat (Some told) h.2 at in
    let all : told ≡ h.0 = whole told h.0 mine (ap (λ (s : Summary). s.steps) (sym is ∙ h.1)) in
    let more : Heard = with_pair told mark y.summary.records in
    let each : All (HeardOf told) ends = subst (λ (t : Heard). All (HeardOf t) ends) (sym all) h.2 in
    let later : All (HeardOf more) ends = All-weaker (HeardOf told) (HeardOf more) (heard_of_more told mark y.summary.records) ends each in (
      Some more,
      (more, next, All-set (HeardOf more) ends seat (Some more) (itself more) later),
      λ m e. ap (λ (k : Mark). Some (with_pair told k y.summary.records)) (let f : mark ≡ m = cc in f),
    )

-- a note is cut off
pub forks : (seat : ℕ) (v : Option Heard) → Forks Keeps seat v v v
forks seat v x ends h at =
    let P = HeardOf h.0 in
    let mine : P v = at_seat P ends seat v h.2 at in
    (h.0, h.1, All-push P (set ends seat v) v (All-set P ends seat v mine h.2) mine)

-- a new reader is given it
pub merges : (seat : ℕ) (v : Option Heard) (other : ℕ) (w : Option Heard) → Merges Keeps seat v other w w None
merges seat v other w x ends h at apart there =
    let P = HeardOf h.0 in
    let theirs : P w = at_seat P ends other w h.2 (sym (set_else ends seat other w apart) ∙ there) in
    (h.0, h.1, All-set P (set ends seat w) other None tt (All-set P ends seat w theirs h.2))
