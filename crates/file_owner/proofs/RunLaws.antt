-- What can be seen of an owner, arrival after arrival.
use Rattle.file_owner.proofs.Words.{◌≡◌, ℕ, refl, sym, ◌∙◌, ap, inl, List, [], ◌∷◌, ◌++◌, false, Option, Some, None, append_assoc, arith, append-nil, Hints, DiskCall, Mark, OwnerItem, with_end, Setting, Arrival, Owner, Event, event, given_along, is_strange, served, served_on, alike_two, owner_at, owner_calls, owner_told, each_told, event_calls, AreSingle, GoesSo, HasDone, HasRun, HoldSingle, IsSingle, Standing, with_end-with_end, with_end-nil, nat_tests, IfSome_then, if_some_at, in_left, in_right, given_on}
use Rattle.file_owner.proofs.AlikeLaws.{alike_by, lines_none, lines_twice}
use Rattle.file_owner.proofs.OwnerRuns.{calls_on, goes_on, told_on}

pub run_none : (hints : Hints) (s : Setting) (x : Standing) → HasRun hints s [] x x
run_none hints s x = grind (arith, nat_tests, lines_none x.lines x.lines refl, append-nil x.order, with_end-nil x.heard, with_end-nil x.calls)

-- ---- one arrival more

single_front : (first : List Arrival) (a : Arrival) → AreSingle (first ++ a ∷ []) → AreSingle first
single_front first a h b i = h b (in_left first (a ∷ []) b i)

single_last : (first : List Arrival) (a : Arrival) → AreSingle (first ++ a ∷ []) → IsSingle a.1
single_last first a h = h a (in_right first (a ∷ []) a (inl refl))

-- whatever bytes the file had, along the arrivals so far and the next one
record GoesOnBy (hints : Hints) (s : Setting) (d : Owner) (first : List Arrival) (a : Arrival) : Type 0 where
  owner : (served s d (first ++ a ∷ [])).owner ≡ (event s (served s d first).owner a).owner
  marks : (served s d (first ++ a ∷ [])).marks ≡ (served s d first).marks ++ (event s (served s d first).owner a).marks
  stranger : (served s d (first ++ a ∷ [])).stranger ≡ None
  given : (q : ℕ) → given_along s d (first ++ a ∷ []) q ≡ given_along s d first q ++ (event s (served s d first).owner a).given q
  calls : owner_calls hints s d (first ++ a ∷ []) ≡ owner_calls hints s d first ++ event_calls hints s (served s d first).owner a
  told : owner_told s d (first ++ a ∷ []) ≡ owner_told s d first ++ each_told (event s (served s d first).owner a)

goes_by : (hints : Hints) (s : Setting) (d : Owner) (first : List Arrival) (a : Arrival) → (served s d first).stranger ≡ None → is_strange s (served s d first).owner a ≡ false
    → GoesOnBy hints s d first a
goes_by hints s d first a none fit =
    let last = (served s d first).owner in
    let g = goes_on hints s d first (a ∷ []) none in
    let one = served_on s last a [] fit in
    record {
      owner = g.owner ∙ one.owner;
      marks = g.marks ∙ ap (λ (m : List Mark). (served s d first).marks ++ m) (one.marks ∙ append-nil (event s last a).marks);
      stranger = g.stranger ∙ one.stranger;
      given = λ q. g.given q ∙ ap (λ (m : List OwnerItem). given_along s d first q ++ m) (given_on s last a [] q fit ∙ append-nil ((event s last a).given q));
      calls = g.calls ∙ ap (λ (m : List DiskCall). owner_calls hints s d first ++ m) (calls_on hints s last a [] fit ∙ append-nil (event_calls hints s last a));
      told = g.told ∙ ap (λ (m : List (Mark × ℕ)). owner_told s d first ++ m) (told_on s last a [] fit ∙ append-nil (each_told (event s last a)));
    }

pub run_more : (hints : Hints) (s : Setting) (before mid now : Standing) (first : List Arrival) (a : Arrival) → HasRun hints s first before mid
    → ((file : List ℕ) → is_strange s (owner_at mid file) a ≡ false) → HasDone hints s a mid now → HasRun hints s (first ++ a ∷ []) before now
run_more hints s before mid now first a r fit m =
    let there : (file : List ℕ) → (served s (owner_at before file) first).owner ≡ owner_at mid (served s (owner_at before file) first).owner.state.file = λ file. (r.moved.alike file).owner in
    let by : (file : List ℕ) → GoesOnBy hints s (owner_at before file) first a =
    λ file. goes_by hints s (owner_at before file) first a (r.none_strange file) (ap (λ (d : Owner). is_strange s d a) (there file) ∙ fit (served s (owner_at before file) first).owner.state.file) in
    let same_long = r.moved.lines.long in
    record {
      moved = record {
        more = λ q. r.moved.more q ++ m.more q;
        lines = lines_twice before.lines mid.lines now.lines r.moved.more m.more r.moved.lines m.lines;
        alike = λ file.
            let f = r.moved.alike file in
            let b = (served s (owner_at before file) first).owner.state.file in
            let g = m.alike b in
            let on = by file in
            let to = ap (λ (d : Owner). event s d a) (there file) in
            let here = on.owner ∙ ap (λ (e : Event). e.owner) to in
            record {
              owner = here ∙ g.owner ∙ ap (λ (d : Owner). owner_at now d.state.file) (sym here);
              marks = g.marks ∙ ap (λ (ms : List Mark). ms ++ (event s (owner_at mid b) a).marks) f.marks
                  ∙ append_assoc before.order (served s (owner_at before file) first).marks (event s (owner_at mid b) a).marks
                  ∙ ap (λ (ms : List Mark). before.order ++ ms) (ap (λ (e : Event). (served s (owner_at before file) first).marks ++ e.marks) (sym to) ∙ sym on.marks);
              heard = g.heard ∙ ap (λ (told : Option (List (Mark × ℕ))). with_end told (each_told (event s (owner_at mid b) a))) f.heard
                  ∙ with_end-with_end before.heard (owner_told s (owner_at before file) first) (each_told (event s (owner_at mid b) a))
                  ∙ ap (λ (told : List (Mark × ℕ)). with_end before.heard told) (ap (λ (e : Event). owner_told s (owner_at before file) first ++ each_told e) (sym to) ∙ sym on.told);
              given = λ q l.
                  alike_by (r.moved.more q ++ m.more q) (r.moved.more q ++ m.more q) (given_along s (owner_at before file) first q ++ (event s (owner_at mid b) a).given q)
                  (given_along s (owner_at before file) (first ++ a ∷ []) q) refl
                  (on.given q ∙ ap (λ (e : Event). given_along s (owner_at before file) first q ++ e.given q) to)
                  (alike_two (r.moved.more q) (given_along s (owner_at before file) first q) (m.more q) ((event s (owner_at mid b) a).given q) (f.given q l) (g.given q (omega (arith, same_long))));
            };
        exact = IfSome_then before.told r.moved.exact (λ file h.
            let b = (served s (owner_at before file) first).owner.state.file in
            let to = ap (λ (d : Owner). event s d a) (there file) in
            let g = if_some_at (λ (x : List ℕ). GoesSo (HoldSingle mid.clients × IsSingle a.1) (event s (owner_at mid x) a) (event_calls hints s (owner_at mid x) a) m.more mid now) mid.told b h.told m.exact in
            record {
              told = g.told ∙ ap (λ (ev : Event). Some ev.owner.state.file) (sym to) ∙ ap (λ (d : Owner). Some d.state.file) (sym (by file).owner);
              given = λ q l.
                  (λ i. h.given q l i ++ g.given q (omega (arith, same_long)) i)
                  ∙ ap (λ (ev : Event). given_along s (owner_at before file) first q ++ ev.given q) (sym to) ∙ sym ((by file).given q);
              calls = λ c.
                  let own : HoldSingle before.clients × AreSingle first = (c.0, single_front first a c.1) in
                  g.calls (r.moved.single own, single_last first a c.1)
                  ∙ ap (λ (cs : Option (List DiskCall)). with_end cs (event_calls hints s (owner_at mid b) a)) (h.calls own)
                  ∙ with_end-with_end before.calls (owner_calls hints s (owner_at before file) first) (event_calls hints s (owner_at mid b) a)
                  ∙ ap (λ (d : Owner). with_end before.calls (owner_calls hints s (owner_at before file) first ++ event_calls hints s d a)) (sym (there file))
                  ∙ ap (λ (cs : List DiskCall). with_end before.calls cs) (sym (by file).calls);
            });
        single = λ h. m.single (r.moved.single (h.0, single_front first a h.1), single_last first a h.1);
      };
      none_strange = λ file. (by file).stranger;
    }
