-- What the elements of old and added variables read in a redefined file.
use Rattle.whole_run_laws.proofs.Words.{◌≡◌, ℕ, ◌+◌, ◌<◌, ◌≤◌, refl, sym, ◌∙◌, ap, subst, List, length, map, take, replicate, Some, arith, slice_get, get_or-replicate, length-replicate, same_Some, slice_get_within, Header, Var, Extra, size_of, val, read, canon, header_len, lengths, AreApart, IsElementBelow, IsIndex, place, redefined, IsRedefined, KeepsVars, Moves, redefined_keeps, elements_apart, elements_past_header, redefined_is, element_inside, index_is_element, known_of, element_value, IsCounted, IsRedefinition, nat_tests}
use Rattle.whole_run_laws.proofs.FilledFile.{read_all}
use Rattle.serial_spec.proofs.AddedLaws.{records_stay}

-- ---- an accepted redefinition

module _ (old new : Header) (extras : List Extra) (a : IsRedefinition old extras new) where
  pub keeps : KeepsVars old new
  keeps = subst (KeepsVars old) (sym a.made) (redefined_keeps old extras a.old_sound)

  same_count : new.records ≡ old.records
  same_count = ap (λ (h : Header). h.records) a.made ∙ records_stay old extras

  record IsKept (v w : Var) : Type 0 where
    kind : w.kind ≡ v.kind
    lens : lengths new w ≡ lengths old v

  kept : (k : ℕ) (v w : Var) → slice_get old.vars k ≡ Some v → slice_get new.vars k ≡ Some w → IsKept v w
  kept k v w h g = grind (arith, nat_tests, keeps k v h, same_Some (keeps k v h).0 w (sym (keeps k v h).1 ∙ g))

  still : (k : ℕ) (v w : Var) (index : List ℕ) → slice_get old.vars k ≡ Some v → slice_get new.vars k ≡ Some w → IsCounted old v index
      → IsElementBelow new w old.records index
  still k v w index h g i = grind (arith, nat_tests, index_is_element new k w old.records index a.new_sound g, kept k v w h g)

  pub counted_still : (k : ℕ) (v w : Var) (index : List ℕ) → slice_get old.vars k ≡ Some v → slice_get new.vars k ≡ Some w → IsCounted old v index → IsCounted new w index
  counted_still k v w index h g i = grind (arith, nat_tests, same_count, kept)

  module _ (file : List ℕ) where
    is : IsRedefined old new file (redefined file old new)
    is = redefined_is file old new a.new_sound keeps

    pub old_reads : (k : ℕ) (v w : Var) (index : List ℕ) → slice_get old.vars k ≡ Some v → slice_get new.vars k ≡ Some w → IsCounted old v index
        → element_value new w index (redefined file old new) ≡ element_value old v index file
    old_reads k v w index h g i =
        let kind = (kept k v w h g).kind in
        (λ t. val (kind t) (read (redefined file old new) (place new w index) (size_of (kind t))))
        ∙ ap (val v.kind) (is.moved (place old v index) (place new w index) (size_of v.kind) (k, v, w, index, h, g, i, refl, refl, refl))

    -- no old element holds a byte of an added one
    apart_from_old : (k : ℕ) (w : Var) (index : List ℕ) (i : ℕ) → length old.vars ≤ k → slice_get new.vars k ≡ Some w → IsElementBelow new w old.records index
        → i < size_of w.kind → (from to size : ℕ) → Moves old new from to size → AreApart to size (place new w index + i) 1
    apart_from_old k w index i later g e l from to size (j, x, y, other, f, d, o, p, q, r) =
        let below : j < length old.vars = slice_get_within old.vars j x f in
        let kind = (kept j x y f d).kind in
        let same : size ≡ size_of y.kind = r ∙ ap size_of (sym kind) in
        let apart = elements_apart new j k y w other index a.new_sound d g (still j x y other f d o).0 e.0 (λ same. absurd (omega (arith, below, later, same.0))) in
        grind (arith, nat_tests, same, apart, l, q)

    pub added_zero : (k : ℕ) (w : Var) (index : List ℕ) → length old.vars ≤ k → slice_get new.vars k ≡ Some w → IsCounted new w index
        → read (redefined file old new) (place new w index) (size_of w.kind) ≡ replicate (size_of w.kind) 0
    added_zero k w index later g h =
        let size = size_of w.kind in
        let zeros : List ℕ = replicate size 0 in
        let long : length zeros ≡ size = length-replicate {A = ℕ} size 0 in
        let e : IsElementBelow new w old.records index =
        index_is_element new k w old.records index a.new_sound g (subst (λ (n : ℕ). IsIndex (map (known_of n) (lengths new w)) index) same_count h) in
        let low = elements_past_header new k w index a.new_sound g e.0 in
        let high = element_inside new (header_len new) old.records k w index g e in
        read_all (redefined file old new) zeros (place new w index) size (sym long) (λ i l.
        let inside : i < size = omega (arith, l, long) in
        is.bare (place new w index + i) (omega (arith, low)) (omega (arith, high, inside)) (apart_from_old k w index i later g e inside)
        ∙ sym (get_or-replicate {A = ℕ} size i 0 0 inside))

    pub header_first : take (header_len new) (redefined file old new) ≡ canon new
    header_first = is.head
