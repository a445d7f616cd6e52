-- One window of a loop over all windows.
use Rattle.data_sieving.proofs.Words.{Bool, ◌≡◌, ℕ, ◌+◌, ◌^◌, ◌≤◌, subst, List, [], length, Option, arith, IfSome, flat_map, at_in, In, Owned, Post, DiskCall, Window, after, with_end, BothTold, overlays, write_cells, moved_down, told_of, clips, extents, IsByPlace, EndBelow, IsBetween, IsBegun, store_calls, told_window, source_of, AreFilled, put_cells, entry_windows, LieOn, IsPast, AreLeft, LieAcross, IsNext, HasDone, windows_from, entries_from, entries_within, nat_tests, with_end-with_end, append_assoc, common_steps, no_calls}
use Rattle.data_sieving.proofs.WindowSteps.{window_bytes, next_told, windows_next, all_windows, no_window}
use Rattle.data_sieving.proofs.CallSteps.{done_begun}
use Rattle.data_sieving.proofs.PutSteps.{AreCells, file_to, file_step, to_begin, to_end, mixed_to, held_refused}
use Rattle.data_sieving.proofs.ReachSteps.{hull_low, hull_high}

-- ---- the walk

pub none_carried : (carried : List Owned) → carried ≡ [] → LieAcross 0 carried
none_carried carried none = λ o m. absurd (subst (λ (l : List Owned). In l o) none m)

pub walk_ready : (list left : List Owned) (size : ℕ) → list ≡ left → IsByPlace (extents list) → EndBelow (2 ^ 62) (extents list) → AreFilled list → 1 ≤ size → AreLeft left 0 size
walk_ready list left size all sorted ends filled some =
    subst (λ (l : List Owned). AreLeft l 0 size) all
    (record { sorted = sorted; ends = ends; filled = filled; next = λ o g. (let f = filled o (at_in list 0 o g) in omega arith); some = some })

-- ---- the calls

pub calls_begin : (f : List ℕ → List DiskCall) (size : ℕ) (list : List Owned) (old : Option (List DiskCall))
    → HasDone (flat_map f (entry_windows size list)) (flat_map f (windows_from size 0 list)) old old
calls_begin f size list old = record { done = []; told = no_calls old; whole = grind (arith, nat_tests, all_windows) }

module _ {left : List Owned} {place size : ℕ} {w : Window} {served : List Owned} {stop : ℕ} (list : List Owned) (p : IsPast place list left) (l : AreLeft left place size)
    (n : IsNext left place size w served stop) where
  pub calls_more : (calls : ℕ × ℕ × Bool → List DiskCall) (plan : List DiskCall) (old mid now : Option (List DiskCall)) → now ≡ with_end mid (calls (told_window w))
      → HasDone plan (flat_map (λ ws. calls (told_of ws)) (windows_from size place list)) old mid → HasDone plan (flat_map (λ ws. calls (told_of ws)) (windows_from size stop list)) old now
  calls_more calls plan old mid now e h = grind (arith, nat_tests, window_bytes left place size w, windows_next list l n p, next_told l n, with_end-with_end, append_assoc)

  pub stores_begun : (plan : List DiskCall) (old mid now : Option (List DiskCall)) → IsBegun (store_calls (told_window w)) mid now
      → HasDone plan (flat_map overlays (windows_from size place list)) old mid → IsBegun plan old now
  stores_begun plan old mid now b h =
      done_begun plan (store_calls (told_window w)) (flat_map overlays (windows_from size stop list)) old mid now
      (grind (arith, common_steps, next_told l n, windows_next list l n p)) b

pub calls_end : (f : List ℕ → List DiskCall) (size place : ℕ) (list left : List Owned) (plan : List DiskCall) (old now : Option (List DiskCall)) → left ≡ []
    → IsPast place list left → HasDone plan (flat_map f (windows_from size place list)) old now → now ≡ with_end old plan
calls_end f size place list left plan old now none p h = grind (arith, nat_tests, no_window, with_end, flat_map, common_steps)

-- ---- the bytes of puts

are_cells : (posts : List Post) (list : List Owned) (base n : ℕ) → LieOn base n list → AreCells base n (put_cells posts list)
are_cells posts list base n on = grind (arith, nat_tests, entries_from (source_of posts) list base, entries_within (source_of posts) list (base + n))

pub put_begin : (held : Option (List ℕ)) (posts : List Post) (list : List Owned) (base n : ℕ) → IfSome held (λ b. length b ≡ n) → LieOn base n list
    → held ≡ after (λ file. file_to base 0 (put_cells posts list) file) held
put_begin held posts list base n told on = grind (arith, nat_tests, to_begin, are_cells)

module _ (posts : List Post) (list : List Owned) {left : List Owned} {place size : ℕ} {w : Window} {served : List Owned} {stop : ℕ} (base here n : ℕ) (on : LieOn base n list) (same : here ≡ base)
    (p : IsPast place list left) (k : IsNext left place size w served stop) where
  abbrev pub over : ℕ → List ℕ → List ℕ
  over from file = write_cells file (moved_down from (clips w.hull.at (w.hull.at + w.hull.len) (put_cells posts served)))

  abbrev upto : ℕ → List ℕ → List ℕ
  upto to file = file_to base to (put_cells posts list) file

  step : (file : List ℕ) → length file ≡ n → over base (upto place file) ≡ upto stop file
  step file long = file_step (source_of posts) list p k base n file (are_cells posts list base n on) (hull_low k list base n on p) (hull_high k list base n on p) long

  pub put_more : (held mid now : Option (List ℕ)) → IfSome held (λ b. length b ≡ n) → mid ≡ after (λ file. file_to base place (put_cells posts list) file) held → now ≡ after (over here) mid
      → now ≡ after (λ file. file_to base stop (put_cells posts list) file) held
  put_more held mid now told e f = grind (arith, nat_tests, step)

  pub put_refused : (held mid now : Option (List ℕ)) → IfSome held (λ b. length b ≡ n) → mid ≡ after (λ file. file_to base place (put_cells posts list) file) held
      → BothTold (λ old left. IsBetween old (over here old) left) mid now → BothTold (λ old left. IsBetween old (write_cells old (moved_down base (put_cells posts list))) left) held now
  put_refused held mid now told e f =
      let mixed : (at : ℕ) (file : List ℕ) → length file ≡ n → IsBetween file (write_cells file (moved_down base (put_cells posts list))) (upto at file) = λ at file.
      mixed_to base at n (put_cells posts list) file (are_cells posts list base n on) in
      held_refused held mid now n (upto place) (over base) (upto stop) (λ file. write_cells file (moved_down base (put_cells posts list))) told step (mixed place) (mixed stop)
      e (subst (λ (b : ℕ). BothTold (λ old left. IsBetween old (over b old) left) mid now) same f)

pub put_end : (held now : Option (List ℕ)) (posts : List Post) (list left : List Owned) (place base n : ℕ) → IfSome held (λ b. length b ≡ n) → LieOn base n list
    → left ≡ [] → IsPast place list left → now ≡ after (λ file. file_to base place (put_cells posts list) file) held
    → now ≡ after (λ file. write_cells file (moved_down base (put_cells posts list))) held
put_end held now posts list left place base n told on none p e = grind (arith, nat_tests, to_end (source_of posts) list left base place n, are_cells posts list base n on)
