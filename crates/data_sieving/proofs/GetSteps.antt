-- Entries that are read window by window, each into its blob: before the first window, one window more, after the last.
use Rattle.data_sieving.proofs.Words.{◌≡◌, ℕ, ◌+◌, ◌≤◌, inl, inr, sym, ◌∙◌, ap, List, [], ◌++◌, length, Option, Some, None, IfSome, LieOn, arith, fold-append, some_or_none, ◌==◌, in_filter, filter_in, equal_true, Owned, Window, written, said_at, said_by, IsOneValued, Cell, write_cells, In, same_said, said_is, said_in_any_order, append_within, said_by_joined, says_left, says_right, says_cases, in_either, of_slot, HasGot, FitBlobs, HaveOnePlace, blob_at, places_of, IsCovered, IsPast, IsNext, HasGotPart, past_covered, past_all, past_kept, parts_got, IsRead, got_says, says_got, read_as, read_once, parts_within, whole_parts, nat_tests, eqb-true, common_steps, part_in, map}
use Rattle.data_sieving.proofs.ReachSteps.{served_in}

-- ---- the entries of a slot

in_slot : (k : ℕ) (list : List Owned) (o : Owned) → In (of_slot k list) o → In list o × (o.slot ≡ k)
in_slot k list o m = let r = filter_in (λ (q : Owned). q.slot == k) list o m in (r.0, eqb-true _ _ r.1)

fit_slot : (k : ℕ) (blobs : List (List ℕ)) (list : List Owned) → FitBlobs blobs list → (o : Owned) → In (of_slot k list) o → o.from + o.extent.len ≤ length (blob_at blobs k)
fit_slot k blobs list fit o m = grind (arith, nat_tests, in_slot)

-- ---- one window more

module _ (base : ℕ) (file : List ℕ) (list : List Owned) {left : List Owned} {place size : ℕ} {w : Window} {served : List Owned} {stop : ℕ} (on : (o : Owned) → In list o → base ≤ o.extent.at)
    (p : IsPast place list left) (n : IsNext left place size w served stop) where
  -- what is read of the entries of a slot up to a place, and in the window
  abbrev upto : ℕ → ℕ → List Cell
  upto to k = parts_got base file 0 to (of_slot k list)

  abbrev here : ℕ → List Cell
  here k = parts_got base file w.hull.at (w.hull.at + w.hull.len) (of_slot k served)

  slot_on : (k : ℕ) (o : Owned) → In (of_slot k list) o → base ≤ o.extent.at
  slot_on k o m = on o (in_slot k list o m).0

  served_slot : (k : ℕ) (o : Owned) → In (of_slot k served) o → In (of_slot k list) o
  served_slot k o m = grind (arith, nat_tests, in_slot k served o m, in_filter, equal_true, served_in place stop list left served o p n.front)

  in_window : (k x v : ℕ) (r : IsRead base file 0 stop (of_slot k list) x v) → place ≤ r.place → IsRead base file w.hull.at (w.hull.at + w.hull.len) (of_slot k served) x v
  in_window k x v r l =
      let m = in_slot k list r.by r.inside in
      let b : In served r.by = grind (arith, nat_tests, in_either served n.front.rest r.by, n.front.joined, past_kept place list left r.by p m.0, n.front.later r.by, l, r.high, r.begin, r.end) in
      let c : IsCovered list r.place = record { by = r.by; inside = m.0; low = r.begin; high = r.end } in
      let d : IsCovered served r.place = record { by = r.by; inside = b; low = r.begin; high = r.end } in
      grind (arith, nat_tests, read_as base file 0 stop w.hull.at (w.hull.at + w.hull.len) (of_slot k list) (of_slot k served) x v r, past_covered place list left r.place p l c, in_filter, equal_true r.by.slot k m.1, n.least, n.hull.each, r.high)

  slot_said : (k y : ℕ) → IsOneValued (places_of (of_slot k list)) → said_at (said_by (upto stop k)) y ≡ said_at (said_by (upto place k ++ here k)) y
  slot_said k y once =
      let before : List (ℕ × ℕ) = said_by (upto place k) in
      let later : List (ℕ × ℕ) = said_by (here k) in
      let joined : said_by (upto place k ++ here k) ≡ said_by (upto place k) ++ said_by (here k) = said_by_joined (upto place k) (here k) in
      let on_served : (o : Owned) → In (of_slot k served) o → base ≤ o.extent.at = λ o m. slot_on k o (served_slot k o m) in
      said_in_any_order (said_by (upto stop k)) (said_by (upto place k ++ here k)) (read_once base file 0 stop (of_slot k list) (slot_on k) once)
      (λ x v h.
      let r = got_says base file 0 stop (of_slot k list) x v (slot_on k) h in
      grind (arith, nat_tests, says_left (said_by (upto place k)) (said_by (here k)) x v, says_right (said_by (upto place k)) (said_by (here k)) x v, says_got base file 0 place (of_slot k list) x v (slot_on k), says_got base file w.hull.at (w.hull.at + w.hull.len) (of_slot k served) x v on_served, read_as base file 0 stop 0 place (of_slot k list) (of_slot k list) x v r, in_window k x v r, r.inside))
      (λ x v h.
      grind (arith, nat_tests, says_cases (said_by (upto place k)) (said_by (here k)) x v, got_says base file 0 place (of_slot k list) x v (slot_on k), got_says base file w.hull.at (w.hull.at + w.hull.len) (of_slot k served) x v on_served, read_as base file 0 place 0 stop (of_slot k list) (of_slot k list) x v, read_as base file w.hull.at (w.hull.at + w.hull.len) 0 stop (of_slot k served) (of_slot k list) x v, says_got base file 0 stop (of_slot k list) x v (slot_on k), served_slot k, n.from, n.hull.some, n.hull.short))
      y

  -- blobs with what lies below a place
  pub got_step : (old mid now : List (List ℕ)) → HaveOnePlace list → FitBlobs old list → HasGotPart (0, place) base file list old mid
      → HasGotPart (w.hull.at, w.hull.at + w.hull.len) base file served mid now → HasGotPart (0, stop) base file list old now
  got_step old mid now once fit g h k =
      h k
      ∙ ap (λ (b : List ℕ). write_cells b (here k)) (g k)
      ∙ sym (fold-append (λ f cell. written f cell.0 cell.1) (blob_at old k) (upto place k) (here k))
      ∙ same_said (upto place k ++ here k) (upto stop k) (blob_at old k)
      (grind (arith, common_steps, append_within (upto place k) (here k) (length (blob_at old k)) (parts_within base file 0 place (length (blob_at old k)) (of_slot k list) (fit_slot k old list fit)), parts_within base file 0 place (length (blob_at old k)) (of_slot k list) (fit_slot k old list fit), fit_slot k old list fit, parts_within base file w.hull.at (w.hull.at + w.hull.len) (length (blob_at old k)) (of_slot k served) (λ o m. fit_slot k old list fit o (served_slot k o m)), served_slot k))
      (parts_within base file 0 stop (length (blob_at old k)) (of_slot k list) (fit_slot k old list fit))
      (λ y. sym (slot_said k y (once k)))

-- ---- before the first window, and after the last

pub got_none : (held : Option (List ℕ)) (base n : ℕ) (list : List Owned) (blobs : List (List ℕ)) → LieOn base n list → FitBlobs blobs list
    → IfSome held (λ file. HasGotPart (0, 0) base file list blobs blobs)
got_none None base n list blobs on fit = tt
got_none (Some file) base n list blobs on fit = λ k.
    same_said [] (parts_got base file 0 0 (of_slot k list)) (blob_at blobs k) tt
    (parts_within base file 0 0 (length (blob_at blobs k)) (of_slot k list) (fit_slot k blobs list fit))
    (λ x. sym (elim (some_or_none (said_at (said_by (parts_got base file 0 0 (of_slot k list))) x)) [
      | inl e ↦ e
      | inr (v, e) ↦ absurd (let r = got_says base file 0 0 (of_slot k list) x v (λ o m. (on o (in_slot k list o m).0).0) (said_is _ x v e) in let l = r.high in omega arith)
    ]))

pub got_all : (held : Option (List ℕ)) (base : ℕ) (list left : List Owned) (place : ℕ) (old now : List (List ℕ)) → left ≡ [] → IsPast place list left
    → IfSome held (λ file. HasGotPart (0, place) base file list old now) → IfSome held (λ file. HasGot base file list old now)
got_all held base list left place old now none p got =
    let all : (k : ℕ) → map (λ o. part_in 0 place o) (of_slot k list) ≡ of_slot k list = λ k. whole_parts place (of_slot k list) (λ o m. past_all place list left o none p (in_slot k list o m).0) in
    grind (arith, common_steps, all)
