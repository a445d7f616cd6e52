-- Each move on an inbox keeps its rule.
use Rattle.ruled_line.proofs.Words.{◌≡◌, ◌≢◌, ◌<◌, ◌≤◌, ◌+◌, ℕ, true, cond, eqb, List, [], ◌∷◌, ◌++◌, length, set, sym, refl, ap, ◌∙◌, subst, append_assoc, length-append, lt_of_not-le, eq-eqb, ne_eqb, arith, no_false, Pushes, Pops, Forks, Merges, Learns, InboxView, sender_view, receiver_view, met_view, idle_view, FitsInbox, InboxHolds, items_under, nat_tests}
use mathlib.Core.Option.{some}
use lib.ListN.{get_elem?}
use Rattle.ruled_line.proofs.Views.{Each, each_alone, each_set, each_more}
use Rattle.ruled_line.proofs.ItemsUnder.{items_under-append, items_under-push_same, items_under-push_other, length-items_under, items_under-some, items_under-none}

-- the seats, once one number has another
reseated : (ℕ → ℕ) → ℕ → ℕ → ℕ → ℕ
reseated seat_of number seat p = cond (eqb p number) seat (seat_of p)

reseated-here : (seat_of : ℕ → ℕ) (number seat : ℕ) → reseated seat_of number seat number ≡ seat
unfolding reseated
reseated-here seat_of number seat = ap (λ b. cond b seat (seat_of number)) (eq-eqb number number refl)

reseated-else : (seat_of : ℕ → ℕ) (number seat p : ℕ) → p ≢ number → reseated seat_of number seat p ≡ seat_of p
unfolding reseated
reseated-else seat_of number seat p apart = ap (λ b. cond b seat (seat_of p)) (ne_eqb p number apart)

module _ {T : Type 0} where
  idle_fits : (seat_of : ℕ → ℕ) (reader room given : ℕ) (taken items : List (ℕ × T)) (seat : ℕ) → FitsInbox seat_of reader room given taken items seat idle_view
  idle_fits seat_of reader room given taken items seat = ((λ p. no_false p), λ p. no_false p)

  pub begins : InboxHolds {T = T} [] (receiver_view 0 0 [] ∷ [])
  begins = ((λ p. p), 0, 0, 0, [], omega arith, (λ number _. refl), each_alone (FitsInbox (λ p. p) 0 0 0 [] []) (receiver_view 0 0 []) ((λ p. no_false p), λ _. (refl, refl, refl, refl)))

  pub sends : (n seat : ℕ) (v : InboxView T) (x : ℕ × T) → v.puts ≡ true → v.number ≡ x.0 → v.room ≡ n → Pushes InboxHolds n seat v x (λ w. w ≡ sender_view v.number v.room (v.put ++ x.1 ∷ []))
  sends n seat v x may number room items views short h here = let w : InboxView T = sender_view v.number v.room (v.put ++ x.1 ∷ []) in let mine = (h.7 seat v here).0 may in
      let long : length items + 1 ≤ h.2 = omega (arith, mine.3, room, short) in
      let below : x.0 < h.3 = subst (λ (k : ℕ). k < h.3) number mine.1 in
      let F = FitsInbox h.0 h.1 h.2 h.3 h.4 (items ++ x ∷ []) in (
        w,
        (
          h.0,
          h.1,
          h.2,
          h.3,
          h.4,
          omega (arith, length-append items (x ∷ []), long),
          (λ p le. items_under-push_other p x h.4 items (λ (e : x.0 ≡ p). omega (arith, e, below, le)) ∙ h.6 p le),
          each_set F views seat w
              ((λ _. (mine.0, mine.1, ap (λ l. l ++ x.1 ∷ []) mine.2 ∙ subst (λ (k : ℕ). items_under k (h.4 ++ items) ++ x.1 ∷ [] ≡ items_under k (h.4 ++ (items ++ x ∷ []))) (sym number) (sym (items_under-push_same x h.4 items)), mine.3)), λ p. no_false p)
              (λ j u other e. let theirs = h.7 j u e in grind (arith, nat_tests, items_under-push_other, theirs.0, x.0, h.0, mine.0, theirs.1)),
        ),
        refl,
      )

  pub receives : (seat : ℕ) (v : InboxView T) → v.takes ≡ true → Pops InboxHolds seat v (λ x w. (x.0 < v.given) × (w ≡ receiver_view v.given v.room (v.taken ++ x ∷ [])))
  receives seat v may x items views h here = let w : InboxView T = receiver_view v.given v.room (v.taken ++ x ∷ []) in let mine = (h.7 seat v here).1 may in
      let same : h.4 ++ (x ∷ items) ≡ (h.4 ++ x ∷ []) ++ items = sym (append_assoc h.4 (x ∷ []) items) in
      let below : x.0 < h.3 = lt_of_not-le (λ (le : h.3 ≤ x.0). items_under-some x h.4 items (h.6 x.0 le)) in
      let fewer : length items + 1 ≤ h.2 = omega (arith, h.5) in
      let F = FitsInbox h.0 h.1 h.2 h.3 (h.4 ++ x ∷ []) items in (
        w,
        (
          h.0,
          h.1,
          h.2,
          h.3,
          h.4 ++ x ∷ [],
          omega (arith, fewer),
          (λ p le. ap (λ l. items_under p l) (sym same) ∙ h.6 p le),
          each_set F views seat w ((λ p. no_false p), λ _. (mine.0, ap (λ l. l ++ x ∷ []) mine.1, mine.2, mine.3))
              (λ j u other e. let theirs = h.7 j u e in grind (arith, nat_tests, theirs.0, u.number, theirs.1, mine.0, items_under)),
        ),
        (subst (λ (k : ℕ). x.0 < k) (sym mine.2) below, refl),
      )

  -- before a number is given, the end that takes learns the room
  pub opens : (seat : ℕ) (v : InboxView T) (room : ℕ) → v ≡ receiver_view 0 0 [] → Forks InboxHolds seat v (receiver_view 0 room v.taken) idle_view
  opens seat v room is items views h here = let l : InboxView T = receiver_view 0 room v.taken in let mine = (h.7 seat v here).1 (ap (λ (y : InboxView T). y.takes) is) in let vs : List (InboxView T) = set views seat l in
      let given : 0 ≡ h.3 = sym (ap (λ (y : InboxView T). y.given) is) ∙ mine.2 in
      let none : length (h.4 ++ items) ≡ 0 = items_under-none (h.4 ++ items) (λ p. h.6 p (omega (arith, given))) in
      let empty : length items ≡ 0 = omega (arith, none, length-append h.4 items) in
      let F = FitsInbox h.0 h.1 room 0 h.4 items in (
        h.0,
        h.1,
        room,
        0,
        h.4,
        omega (arith, empty),
        (λ p le. h.6 p (omega (arith, given, le))),
        each_more F vs idle_view (idle_fits h.0 h.1 room 0 h.4 items (length vs))
            (each_set F views seat l ((λ p. no_false p), λ _. (mine.0, mine.1, refl, refl))
            (λ j u other e. let theirs = h.7 j u e in grind (arith, nat_tests, theirs.0, theirs.1, mine.0))),
      )

  -- the end that takes gives the next number
  pub gives : (seat : ℕ) (v : InboxView T) → v.takes ≡ true → Forks InboxHolds seat v (receiver_view (v.given + 1) v.room v.taken) (sender_view v.given v.room [])
  gives seat v may items views h here = let l : InboxView T = receiver_view (v.given + 1) v.room v.taken in let r : InboxView T = sender_view v.given v.room [] in let mine = (h.7 seat v here).1 may in let vs : List (InboxView T) = set views seat l in
      let seat_of = reseated h.0 h.3 (length vs) in
      let F = FitsInbox seat_of h.1 h.2 (h.3 + 1) h.4 items in (
        seat_of,
        h.1,
        h.2,
        h.3 + 1,
        h.4,
        h.5,
        (λ p le. h.6 p (omega (arith, le))),
        each_more F vs r (
          (λ _. (
            ap seat_of mine.2 ∙ reseated-here h.0 h.3 (length vs),
            omega (arith, mine.2),
            sym (h.6 h.3 (omega arith)) ∙ ap (λ k. items_under k (h.4 ++ items)) (sym mine.2),
            mine.3,
          )),
          λ p. no_false p,
        )
            (each_set F views seat l ((λ p. no_false p), λ _. (mine.0, mine.1, ap (λ k. k + 1) mine.2, mine.3))
            (λ j u other e. let theirs = h.7 j u e in grind (arith, nat_tests, reseated-else, theirs.0, theirs.1, mine.0))),
      )

  -- the end that takes meets a sender
  pub meets : (seat : ℕ) (v : InboxView T) (other : ℕ) (w : InboxView T) → v.takes ≡ true → w.puts ≡ true → Merges InboxHolds seat v other w (met_view v w) idle_view
  meets seat v other w may puts items views h here two there = let both : InboxView T = met_view v w in let mine = (h.7 seat v here).1 may in let vs : List (InboxView T) = set views seat both in
      let was : Each (λ j y. j ≡ other → y ≡ w → get_elem? views other ≡ some w) vs = each_set (λ j y. j ≡ other → y ≡ w → get_elem? views other ≡ some w) views seat both (λ p _. absurd (two (sym p)))
      (λ j y apart e p q. subst (λ (z : ℕ × InboxView T). get_elem? views z.0 ≡ some z.1) (λ i. (p i, q i)) e) in
      let theirs = (h.7 other w (was other w there refl refl)).0 puts in
      let seat_of = reseated h.0 w.number seat in
      let F = FitsInbox seat_of h.1 h.2 h.3 h.4 items in
      let Now : ℕ → InboxView T → Type 0 = λ j y. j ≢ other → F j y in
      let now : Each Now vs = each_set Now views seat both (λ _. ((λ _. (reseated-here h.0 w.number seat, theirs.1, theirs.2, mine.3)), λ _. mine))
      (λ j y _ e apart. let t = h.7 j y e in grind (arith, nat_tests, reseated-else, t.0, theirs.0, t.1)) in
      (seat_of, h.1, h.2, h.3, h.4, h.5, h.6, each_set F vs other idle_view (idle_fits seat_of h.1 h.2 h.3 h.4 items other) (λ j y apart e. now j y e apart))

  pub learns : (seat : ℕ) (v : InboxView T) → v.puts ≡ true → v.takes ≡ true
      → Learns InboxHolds seat v (λ items. (v.number < v.given) × (v.put ≡ items_under v.number v.taken ++ items_under v.number items) × (length (items_under v.number items) ≤ v.room))
  learns seat v puts takes items views h here = let a = (h.7 seat v here).0 puts in let b = (h.7 seat v here).1 takes in grind (arith, nat_tests, items_under-append, length-items_under, b.2, a.1, a.2, b.1, h.5, b.3, items_under)
