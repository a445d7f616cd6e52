-- Each move on a line keeps its rule.
use Rattle.ruled_line.proofs.Words.{◌≡◌, ◌≢◌, ◌≤◌, ◌+◌, ℕ, true, false, List, [], ◌∷◌, ◌++◌, length, set, sym, refl, ap, ◌∙◌, subst, append_assoc, length-append, arith, no_false, Pushes, Pops, Forks, Merges, Learns, LineView, line_view, FitsLine, LineHolds, nat_tests}
use mathlib.Core.Option.{some}
use lib.ListN.{get_elem?}
use Rattle.ruled_line.proofs.Views.{Each, each_alone, each_set, each_more}

module _ {T : Type 0} where
  pub begins : LineHolds {T = T} [] (line_view true true 0 [] [] ∷ [])
  begins = (0, 0, 0, [], [], refl, omega arith, each_alone (FitsLine 0 0 0 [] []) (line_view true true 0 [] []) ((λ _. (refl, refl, refl)), λ _. (refl, refl)))

  pub puts : (n end : ℕ) (v : LineView T) (x : T) → v.puts ≡ true → v.room ≡ n → Pushes LineHolds n end v x (λ w. w ≡ line_view v.puts v.takes v.room (v.put ++ x ∷ []) v.taken)
  puts n end v x may room items views short h at = let w : LineView T = line_view v.puts v.takes v.room (v.put ++ x ∷ []) v.taken in let mine = h.7 end v at in let put = h.3 ++ x ∷ [] in
      let here = mine.0 may in
      let long : length items + 1 ≤ h.2 = omega (arith, here.2, room, short) in (
        w,
        (
          h.0,
          h.1,
          h.2,
          put,
          h.4,
          ap (λ l. l ++ x ∷ []) h.5 ∙ append_assoc h.4 items (x ∷ []),
          omega (arith, length-append items (x ∷ []), long),
          each_set (FitsLine h.0 h.1 h.2 put h.4) views end w ((λ _. (here.0, ap (λ l. l ++ x ∷ []) here.1, here.2)), mine.1)
              (λ j u other e. ((λ p. absurd (other (((h.7 j u e).0 p).0 ∙ sym here.0))), (h.7 j u e).1)),
        ),
        refl,
      )

  pub takes : (end : ℕ) (v : LineView T) → v.takes ≡ true → Pops LineHolds end v (λ x w. w ≡ line_view v.puts v.takes v.room v.put (v.taken ++ x ∷ []))
  takes end v may x items views h at = let w : LineView T = line_view v.puts v.takes v.room v.put (v.taken ++ x ∷ []) in let mine = h.7 end v at in let taken = h.4 ++ x ∷ [] in
      let here = mine.1 may in
      let less : length items + 1 ≤ h.2 = omega (arith, h.6) in (
        w,
        (
          h.0,
          h.1,
          h.2,
          h.3,
          taken,
          h.5 ∙ sym (append_assoc h.4 (x ∷ []) items),
          omega (arith, less),
          each_set (FitsLine h.0 h.1 h.2 h.3 taken) views end w (mine.0, λ _. (here.0, ap (λ l. l ++ x ∷ []) here.1))
              (λ j u other e. ((h.7 j u e).0, λ p. absurd (other (((h.7 j u e).1 p).0 ∙ sym here.0)))),
        ),
        refl,
      )

  -- the pass that nothing was done with is cut in two, and the end that puts gets the room
  pub forks : (end : ℕ) (v : LineView T) (room : ℕ) → v ≡ line_view true true 0 [] [] → Forks LineHolds end v (line_view true false room v.put []) (line_view false true 0 [] v.taken)
  forks end v room is items views h at = let l : LineView T = line_view true false room v.put [] in let r : LineView T = line_view false true 0 [] v.taken in let mine = h.7 end v at in let vs : List (LineView T) = set views end l in
      let here = mine.0 (ap (λ (y : LineView T). y.puts) is) in let there = mine.1 (ap (λ (y : LineView T). y.takes) is) in
      let none : length h.3 ≡ 0 = ap (λ (y : List T). length y) (sym here.1 ∙ ap (λ (y : LineView T). y.put) is) in
      let empty : length items ≡ 0 = omega (arith, ap (λ (y : List T). length y) h.5, length-append h.4 items, none) in
      let F = FitsLine h.0 (length vs) room h.3 h.4 in (
        h.0,
        length vs,
        room,
        h.3,
        h.4,
        h.5,
        omega (arith, empty),
        each_more F vs r ((λ p. no_false p), λ _. (refl, there.1))
            (each_set F views end l ((λ _. (here.0, here.1, refl)), λ p. no_false p)
            (λ j u other e. ((λ p. absurd (other (((h.7 j u e).0 p).0 ∙ sym here.0))), λ p. absurd (other (((h.7 j u e).1 p).0 ∙ sym there.0))))),
      )

  pub merges : (end : ℕ) (v : LineView T) (other : ℕ) (u : LineView T) → v.puts ≡ true → u.takes ≡ true → Merges LineHolds end v other u (line_view true true v.room v.put u.taken) (line_view false false 0 [] [])
  merges end v other u a b items views h at two at' = let both : LineView T = line_view true true v.room v.put u.taken in let mine = (h.7 end v at).0 a in let vs : List (LineView T) = set views end both in
      let Now : ℕ → LineView T → Type 0 = λ j y. j ≢ other → FitsLine h.0 end h.2 h.3 h.4 j y in
      let was : Each (λ j y. j ≡ other → y ≡ u → get_elem? views other ≡ some u) vs = each_set (λ j y. j ≡ other → y ≡ u → get_elem? views other ≡ some u) views end both (λ p _. absurd (two (sym p)))
      (λ j y apart e p q. subst (λ (z : ℕ × LineView T). get_elem? views z.0 ≡ some z.1) (λ i. (p i, q i)) e) in
      grind (arith, nat_tests, each_set Now views end both, each_set (FitsLine h.0 end h.2 h.3 h.4) vs other (line_view false false 0 [] []), no_false, h.7, h.5, h.6)

  pub learns : (end : ℕ) (v : LineView T) → v.puts ≡ true → v.takes ≡ true → Learns LineHolds end v (λ items. (v.put ≡ v.taken ++ items) × (length items ≤ v.room))
  learns end v a b items views h at = grind (arith, nat_tests)
