-- The redefined file has the new header, each old element at its new place, and zeros between.
use Rattle.serial_spec.proofs.Words.{◌≡◌, ℕ, suc, ◌+◌, ◌-◌, ◌<◌, ◌≤◌, max, refl, sym, inr, List, [], ◌∷◌, ◌++◌, length, map, drop, replicate, get_or, true, Some, length-append, arith, common_steps, fold-append, same_number_lists, length-take, get_or-take, get_or-append_right, get_or-drop, length-replicate, length-drop, AllByRecursion, flat_map, fold, zip, slice_get, each_map, each_flat_map, each_weaker, entry_zip, Header, Var, at, read, size_of, lengths, end_of, place, row, IsIndex, IsElementBelow, AreApart, canon, header_len, is_sound, known_lengths, all_indices, moved, redefined, Moves, KeepsVars, IsRedefined, said_at, byte_or, Cell, write_cells, said_by, nat_tests, In}
use Rattle.std.proofs.lemmas.List.Folds.{fold-map}
use Rattle.serial_spec.proofs.ApartLaws.{elements_apart, elements_past_header}
use Rattle.serial_spec.proofs.ElementLaws.{coordinates_at}
use Rattle.serial_spec.proofs.SaidLaws.{cells_said}
use Rattle.serial_spec.proofs.RoomLaws.{index_is_element, element_inside}
use Rattle.serial_spec.proofs.AcceptLaws.{coordinates_all}
use Rattle.serial_spec.proofs.CellLaws.{same_index, IsOrApart, said_of, unsaid, cells_within, read_long, read_at, read_same}
use Rattle.serial_spec.proofs.MemberLaws.{in_map, in_flat, at_in}

-- ---- the file before the elements are moved

-- the header, zeros up to the end, and what stands past it
abbrev blank_of : List ℕ → ℕ → List ℕ → List ℕ
blank_of head end file = head ++ replicate (end - length head) 0 ++ drop end file

-- ---- the elements as cells

abbrev cell_at : Header → Header → List ℕ → Var → Var → List ℕ → Cell
cell_at old new file v w index = (place new w index, read file (place old v index) (size_of v.kind))

abbrev cells_of : Header → Header → List ℕ → Var × Var → List Cell
cells_of old new file p = map (cell_at old new file p.0 p.1) (all_indices old p.0)

abbrev all_cells : Header → Header → List ℕ → List Cell
all_cells old new file = flat_map (cells_of old new file) (zip old.vars new.vars)

moved_cells : (old new : Header) (file into : List ℕ) (vs : List (Var × Var)) → fold (moved old new file) into vs ≡ write_cells into (flat_map (cells_of old new file) vs)
moved_cells old new file into [] = refl
moved_cells old new file into (p ∷ vs) = grind (arith, nat_tests, moved_cells old new file (moved old new file into p) vs, fold-map, fold-append)

-- ---- what holds of all cells

all_zip : (P : Var × Var → Type 0) (olds news : List Var) → ((k : ℕ) (v w : Var) → slice_get olds k ≡ Some v → slice_get news k ≡ Some w → P (v, w))
    → AllByRecursion P (zip olds news)
all_zip P (v ∷ olds) (w ∷ news) f = (f 0 v w refl refl, all_zip P olds news (λ k x y h g. f (suc k) x y h g))
all_zip _ _ _ f = tt

each_cell : (old new : Header) (file : List ℕ) (Q : Cell → Type 0)
    → ((k : ℕ) (v w : Var) (index : List ℕ) → slice_get old.vars k ≡ Some v → slice_get new.vars k ≡ Some w → IsIndex (known_lengths old v old.records) index
    → Q (cell_at old new file v w index))
    → AllByRecursion Q (all_cells old new file)
each_cell old new file Q f =
    each_flat_map Q (cells_of old new file) (zip old.vars new.vars)
    (grind (arith, common_steps, all_zip (λ p. AllByRecursion Q (cells_of old new file p)) old.vars new.vars, each_map, each_weaker, coordinates_all))

has_cell : (old new : Header) (file : List ℕ) (k : ℕ) (v w : Var) (index : List ℕ) → slice_get old.vars k ≡ Some v → slice_get new.vars k ≡ Some w
    → IsIndex (known_lengths old v old.records) index → In (all_cells old new file) (cell_at old new file v w index)
has_cell old new file k v w index h g i =
    in_flat (cells_of old new file) (zip old.vars new.vars) (v, w) (cell_at old new file v w index) (at_in (zip old.vars new.vars) k (v, w) (entry_zip old.vars new.vars k v w h g))
    (grind (arith, nat_tests, in_map (cell_at old new file v w) (all_indices old v) index, at_in (all_indices old v) (row (known_lengths old v old.records) index) index, coordinates_at (known_lengths old v old.records) index i))

-- ---- the law

record Kept (old new : Header) (k : ℕ) (v w : Var) : Type 0 where
  kind : w.kind ≡ v.kind
  lens : lengths new w ≡ lengths old v

kept : (old new : Header) → KeepsVars old new → (k : ℕ) (v w : Var) → slice_get old.vars k ≡ Some v → slice_get new.vars k ≡ Some w → Kept old new k v w
kept old new keeps k v w h g = grind (arith, nat_tests)

-- an index of the old variable is one of the new
still : (old new : Header) (k : ℕ) (v w : Var) (n : ℕ) (index : List ℕ) → is_sound new ≡ true → slice_get new.vars k ≡ Some w → Kept old new k v w
    → IsIndex (known_lengths old v n) index → IsElementBelow new w n index
still old new k v w n index sound g a i = grind (arith, nat_tests, index_is_element new k w n index sound g)

pub resized : (a n b m s t : ℕ) → n ≡ s → m ≡ t → AreApart a n b m → AreApart a s b t
resized a n b m s t p q xs = grind (arith, nat_tests)

-- a cell is this one or apart from it
or_apart : (old new : Header) (file : List ℕ) → is_sound new ≡ true → KeepsVars old new
    → (k : ℕ) (v w : Var) (index : List ℕ) → slice_get old.vars k ≡ Some v → slice_get new.vars k ≡ Some w → IsIndex (known_lengths old v old.records) index
    → (m : ℕ) (x y : Var) (other : List ℕ) → slice_get old.vars m ≡ Some x → slice_get new.vars m ≡ Some y → IsIndex (known_lengths old x old.records) other
    → IsOrApart (cell_at old new file v w index) (cell_at old new file x y other)
or_apart old new file sound keeps k v w index h g i m x y other f e j =
    grind (
      arith,
      nat_tests,
      same_index other index,
      kept old new keeps k v w h g,
      kept old new keeps m x y f e,
      resized (place new y other) (size_of y.kind) (place new w index) (size_of w.kind),
      read_long file (place old x other) (size_of x.kind),
      read_long file (place old v index) (size_of v.kind),
      elements_apart new m k y w other index sound e g,
      still old new m x y old.records other sound e (kept old new keeps m x y f e) j,
      still old new k v w old.records index sound g (kept old new keeps k v w h g) i,
    )

abbrev end_after : Header → Header → ℕ
end_after old new = end_of new (header_len new) old.records

abbrev blank : Header → Header → List ℕ → List ℕ
blank old new file = blank_of (canon new) (end_after old new) file

head_first : (old new : Header) → length (canon new) ≤ end_after old new
head_first old new = omega arith

redefined_byte : (file : List ℕ) (old new : Header) (x : ℕ)
    → at (redefined file old new) x ≡ byte_or (said_at (said_by (all_cells old new file)) x) (at (blank old new file) x)
redefined_byte file old new x = grind (arith, nat_tests, moved_cells old new file (blank old new file) (zip old.vars new.vars), cells_said (all_cells old new file) (blank old new file) x)

-- an element ends at the new end or before
ends : (file : List ℕ) (old new : Header) → is_sound new ≡ true → KeepsVars old new
    → (k : ℕ) (v w : Var) (index : List ℕ) → slice_get old.vars k ≡ Some v → slice_get new.vars k ≡ Some w → IsIndex (known_lengths old v old.records) index
    → place new w index + length (read file (place old v index) (size_of v.kind)) ≤ end_after old new
ends file old new sound keeps k v w index h g i = grind (arith, nat_tests, kept, element_inside, still, read_long)

redefined_long : (file : List ℕ) (old new : Header) → is_sound new ≡ true → KeepsVars old new → length (redefined file old new) ≡ max (length file) (end_after old new)
redefined_long file old new sound keeps =
    grind (arith, nat_tests, moved_cells old new file (blank old new file) (zip old.vars new.vars), cells_within (blank old new file) (all_cells old new file) (max (length file) (end_after old new)), head_first old new, length-append, length-drop, length-replicate, each_cell old new file (λ d. d.0 + length d.1 ≤ max (length file) (end_after old new)), ends file old new sound keeps)

head_kept : (file : List ℕ) (old new : Header) → is_sound new ≡ true → KeepsVars old new → (x : ℕ) → x < length (canon new)
    → at (redefined file old new) x ≡ get_or (canon new) x 0
head_kept file old new sound keeps x l =
    let none = unsaid x (all_cells old new file) (each_cell old new file (λ d. AreApart d.0 (length d.1) x 1)
    (λ k v w index h g i. inr (omega (arith, elements_past_header new k w index sound g (still old new k v w old.records index sound g (kept old new keeps k v w h g) i).0, l)))) in
    grind (arith, common_steps, redefined_byte file old new x, head_first old new, none)

redefined_moved : (file : List ℕ) (old new : Header) → is_sound new ≡ true → KeepsVars old new
    → (from to size : ℕ) → Moves old new from to size → read (redefined file old new) to size ≡ read file from size
redefined_moved file old new sound keeps from to size (k, v, w, index, h, g, i, f, t, s) =
    grind (
      arith,
      nat_tests,
      read_same (redefined file old new) file (place new w index) (place old v index) (size_of v.kind),
      read_long file (place old v index) (size_of v.kind),
      redefined_byte file old new,
      said_of (cell_at old new file v w index),
      each_cell old new file (IsOrApart (cell_at old new file v w index)) (λ m x y other e d q. or_apart old new file sound keeps k v w index h g i m x y other e d q),
      or_apart old new file sound keeps k v w index h g i,
      has_cell old new file k v w index h g i,
      read_at file (place old v index) (size_of v.kind),
    )

pub redefined_is : (file : List ℕ) (old new : Header) → is_sound new ≡ true → KeepsVars old new → IsRedefined old new file (redefined file old new)
redefined_is file old new sound keeps = record {
  long = redefined_long file old new sound keeps;
  head = same_number_lists _ (canon new) (grind (arith, nat_tests, redefined_long file old new sound keeps, head_first old new, length-take))
      (λ x l. grind (arith, nat_tests, redefined_long file old new sound keeps, head_first old new, length-take, get_or-take (header_len new) (redefined file old new) x 0, head_kept file old new sound keeps x));
  moved = redefined_moved file old new sound keeps;
  bare = λ x low high f. (
      let none = unsaid x (all_cells old new file) (each_cell old new file (λ d. AreApart d.0 (length d.1) x 1)
      (λ k v w index h g i. resized (place new w index) (size_of v.kind) x 1 _ _ (sym (read_long file (place old v index) (size_of v.kind))) refl
      (f (place old v index) (place new w index) (size_of v.kind) (k, v, w, index, h, g, i, refl, refl, refl)))) in
      grind (arith, common_steps, redefined_byte file old new x, head_first old new, none));
  past = λ x l. grind (arith, nat_tests, redefined_byte file old new x, head_first old new, get_or-append_right, get_or-drop, length-append, length-replicate, unsaid x (all_cells old new file), each_cell old new file (λ d. AreApart d.0 (length d.1) x 1), ends file old new sound keeps);
}
