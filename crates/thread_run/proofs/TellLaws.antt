-- What the owner tells along arrivals: the marks of its steps, each with the count that the serial run has after it.
use Rattle.thread_run.proofs.Words.{holds_or_not, inl, inr, length, length-map, map-id, map_map, nil_from_length, ◌≡◌, ℕ, refl, sym, ◌∙◌, ap, ◌⊎◌, List, [], ◌∷◌, ◌++◌, map, set, false, None, append_cancel_left, map-append, fold, Mark, Owner, event, is_strange, served, Counted, Setting, Arrival, Going, after_mark, served_on, stranger_on, counts_along, owner_told, each_told, stops_at, told_on, told_stop, arith, nat_tests}
use Rattle.nc_base.specs.declared.step.OfferKind.TheVariants as offer
use Rattle.nc_base.specs.declared.step.RankItem.TheVariants as item

-- ---- the marks alone

first_each : (n : ℕ) (marks : List Mark) → map (λ (t : Mark × ℕ). t.0) (map (λ (m : Mark). (m, n)) marks) ≡ marks
first_each n marks = map_map (λ (t : Mark × ℕ). t.0) (λ (m : Mark). (m, n)) marks ∙ map-id marks

pub marks_along : (s : Setting) (arrivals : List Arrival) (d : Owner) → map (λ (t : Mark × ℕ). t.0) (owner_told s d arrivals) ≡ (served s d arrivals).marks
marks_along s [] d = refl
marks_along s (a ∷ rest) d = elim (holds_or_not (is_strange s d a)) [
  | inl e ↦ ap (λ (told : List (Mark × ℕ)). map (λ (t : Mark × ℕ). t.0) told) (told_stop s d a rest e) ∙ sym (stops_at s d a rest e).marks
  | inr e ↦
      ap (λ (told : List (Mark × ℕ)). map (λ (t : Mark × ℕ). t.0) told) (told_on s d a rest e)
      ∙ map-append (λ (t : Mark × ℕ). t.0) (each_told (event s d a)) (owner_told s (event s d a).owner rest)
      ∙ (λ i. first_each (event s d a).owner.state.records (event s d a).marks i ++ marks_along s rest (event s d a).owner i) ∙ sym (served_on s d a rest e).marks
]

-- ---- wherever among the arrivals the steps of an order were done, they are told alike

none_told : (s : Setting) (d : Owner) (arrivals : List Arrival) → (served s d arrivals).marks ≡ [] → owner_told s d arrivals ≡ []
none_told s d arrivals e =
    nil_from_length (owner_told s d arrivals) (sym (length-map (owner_told s d arrivals) (λ (t : Mark × ℕ). t.0)) ∙ ap (λ (ms : List Mark). length ms) (marks_along s arrivals d ∙ e))

pub same_told : (s : Setting) (first later more rest : List Arrival) (d : Owner) → first ++ later ≡ more ++ rest → (served s d first).stranger ≡ None → (served s d more).stranger ≡ None
    → (served s d first).marks ≡ (served s d more).marks → owner_told s d first ≡ owner_told s d more
same_told s [] later more rest d e none free marks = sym (none_told s d more (sym marks))
same_told s (a ∷ first) later [] rest d e none free marks = none_told s d (a ∷ first) marks
same_told s (a ∷ first) later (b ∷ more) rest d e none free marks =
    grind (arith, nat_tests, same_told s first later more rest (event s d a).owner, stranger_on, served_on, told_on, append_cancel_left)

-- ---- the counts, by the steps of the serial run

abbrev pub count_of : Counted × List Going → ℕ
count_of u = u.0.records

along_two : (s : Setting) (u : Counted × List Going) (a b : List Mark)
    → counts_along (after_mark s) count_of u (a ++ b) ≡ counts_along (after_mark s) count_of u a ++ counts_along (after_mark s) count_of (fold (after_mark s) u a) b
along_two s u [] b = refl
along_two s u (m ∷ a) b = ap (λ (told : List (Mark × ℕ)). (m, count_of (after_mark s u m)) ∷ told) (along_two s (after_mark s u m) a b)

-- an arrival brings one mark at most
abbrev IsOne : List Mark → Type 0
IsOne marks = (marks ≡ []) ⊎ ((m : Mark) × (marks ≡ m ∷ []))

event_one : (s : Setting) (d : Owner) (a : Arrival) → IsOne (event s d a).marks
unfolding event
event_one s d a = grind (arith, nat_tests, set)

-- from one arrival to the next
pub tells_more : (s : Setting) (d : Owner) (goings after : List Going) (a : Arrival) (rest : List Arrival) → is_strange s d a ≡ false
    → fold (after_mark s) (d.state, goings) (event s d a).marks ≡ ((event s d a).owner.state, after)
    → owner_told s (event s d a).owner rest ≡ counts_along (after_mark s) count_of ((event s d a).owner.state, after) (served s (event s d a).owner rest).marks
    → owner_told s d (a ∷ rest) ≡ counts_along (after_mark s) count_of (d.state, goings) (served s d (a ∷ rest)).marks
tells_more s d goings after a rest e folded later = grind (arith, nat_tests, event_one, told_on, along_two, served_on)
