-- The part of a run on threads that was done when a fault cut it off, from what the owner tells.
use Rattle.thread_run.proofs.Words.{point, ◌≡◌, ℕ, ◌<◌, refl, sym, ◌∙◌, ap, List, [], ◌∷◌, ◌++◌, length, replicate, Bool, true, false, Option, None, arith, append-nil, slice_get, filter, Hints, Mark, OwnerItem, Stop, StepErr, Owner, event, given_along, is_strange, own_items, owed, served, stops, Setting, Arrival, is_offer, passed, HasCutService, owed_stop, served_on, goes_on, stops_at, nat_tests}
use Rattle.file_owner.proofs.StopLaws.{only_stops}

-- ---- the part of a run that was done

-- what came before the first strange arrival, or before the fault
pub record Service (s : Setting) (d : Owner) (ranks : ℕ) (arrivals : List Arrival) (given : ℕ → List OwnerItem) (order : List Mark) : Type 0 where
  pub first : List Arrival
  pub later : List Arrival
  pub all : arrivals ≡ first ++ later
  pub none : (served s d first).stranger ≡ None
  pub order_is : order ≡ (served s d first).marks
  pub gives : (q : ℕ) → q < ranks → (k : ℕ) × (given q ≡ given_along s d first q ++ replicate k Stop)

unfoldable pub service_cut : (s : Setting) (d : Owner) (ranks n : ℕ) (e : StepErr) (arrivals : List Arrival) (given : ℕ → List OwnerItem) (order : List Mark) (held : Option (List ℕ)) → ranks ≡ length d.clients
    → HasCutService s e d (passed arrivals ranks given) (point order held n) → Service s d ranks arrivals given order
service_cut s d ranks n e arrivals given order held long h = record {
  first = h.first;
  later = h.later;
  all = h.all;
  none = h.service.no_stranger;
  order_is = h.service.in_order;
  gives = λ q l.
      let low : q < length d.clients = omega arith in
      let g = h.service.gives q low in
      (g.stopped, g.whole ∙ ap (λ (items : List OwnerItem). items ++ replicate g.stopped Stop) (sym (append-nil g.replies) ∙ ap (λ (items : List OwnerItem). g.replies ++ items) (sym (h.all_heard q low)) ∙ g.begins));
}

-- without a fault
record Front (s : Setting) (d : Owner) (arrivals : List Arrival) : Type 0 where
  first : List Arrival
  later : List Arrival
  all : arrivals ≡ first ++ later
  none : (served s d first).stranger ≡ None
  marks : (served s d arrivals).marks ≡ (served s d first).marks
  owner : (served s d arrivals).owner ≡ (served s d first).owner
  owes : (q : ℕ) → owed s (served s d first).owner later q ≡ stops (served s d first).owner later q

front : (s : Setting) (arrivals : List Arrival) (d : Owner) → Front s d arrivals
front s [] d = record { first = []; later = []; all = refl; none = refl; marks = refl; owner = refl; owes = λ q. refl }
front s (a ∷ rest) d = by (is_strange s d a) refl (front s rest (event s d a).owner)
  where
    by : (v : Bool) → is_strange s d a ≡ v → Front s (event s d a).owner rest → Front s d (a ∷ rest)
    by true f again = grind (arith, nat_tests, stops_at s d a rest f, owed_stop)
    by false f again =
        let long = served_on s d a rest f in
        let short = served_on s d a again.first f in
        record {
          first = a ∷ again.first;
          later = again.later;
          all = ap (λ (xs : List Arrival). a ∷ xs) again.all;
          none = short.stranger ∙ again.none;
          marks = long.marks ∙ ap (λ (ms : List Mark). (event s d a).marks ++ ms) again.marks ∙ sym short.marks;
          owner = long.owner ∙ again.owner ∙ sym short.owner;
          owes = λ q. ap (λ (e : Owner). owed s e again.later q) short.owner ∙ again.owes q ∙ ap (λ (e : Owner). stops e again.later q) (sym short.owner);
        }

pub service_done : (hints : Hints) (s : Setting) (d : Owner) (ranks : ℕ) (arrivals : List Arrival) (given : ℕ → List OwnerItem) (order : List Mark) → order ≡ (served s d arrivals).marks
    → ((q : ℕ) → q < ranks → given q ≡ owed s d arrivals q) → (h : Service s d ranks arrivals given order) × ((served s d h.first).owner ≡ (served s d arrivals).owner)
service_done hints s d ranks arrivals given order e owes =
    let f = front s arrivals d in
    let on = goes_on hints s d f.first f.later f.none in (
      record {
        first = f.first;
        later = f.later;
        all = f.all;
        none = f.none;
        order_is = e ∙ f.marks;
        gives = λ q l.
            let k = only_stops (slice_get (served s d f.first).owner.clients q) (filter is_offer (own_items q f.later)) in grind (arith, nat_tests);
      },
      sym f.owner,
    )
