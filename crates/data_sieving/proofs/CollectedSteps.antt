-- The entries of one window, which are collected from its buffer one after another.
use Rattle.data_sieving.proofs.Words.{◌≡◌, ℕ, ◌+◌, ◌-◌, ◌<◌, ◌≤◌, sym, ◌∙◌, subst, List, ◌++◌, length, take, drop, get_or, set, Option, arith, fold-append, map-append, length-take, length-set, take_more, get_or-set_same, get_or-set_other, IfSome, length-written_inside, Owned, Window, read, written, write_cells, of_slot, FitBlobs, HaveOnePlace, AreAsLong, LieOn, blob_at, part_in, buffer_cell, IsPast, IsNext, HasGotPart, filter-append, buffer_cells, nat_tests, eqb-true, eqb-false, map, common_steps}
use Rattle.data_sieving.proofs.GetSteps.{got_step}

-- ---- one entry more

pub as_long_twice : (old mid now : List (List ℕ)) → AreAsLong old mid → AreAsLong mid now → AreAsLong old now
as_long_twice old mid now h k = (k.0 ∙ h.0, (λ j. k.1 j ∙ h.1 j))

pub fit_as_long : (old now : List (List ℕ)) (list : List Owned) → AreAsLong old now → FitBlobs old list → FitBlobs now list
fit_as_long old now list h fit o m = subst (λ (n : ℕ). o.from + o.extent.len ≤ n) (sym (h.1 o.slot)) (fit o m)

pub collected_more : (lo hi : ℕ) (buf : List ℕ) (old mid now : List (List ℕ)) (list : List Owned) (i : ℕ) (o d : Owned) → i < length list → o ≡ get_or list i d
    → o.slot < length mid → now ≡ set mid o.slot (written (blob_at mid o.slot) (buffer_cell lo hi buf o).0 (buffer_cell lo hi buf o).1)
    → ((k : ℕ) → blob_at mid k ≡ write_cells (blob_at old k) (map (λ q. buffer_cell lo hi buf q) (of_slot k (take i list))))
    → (k : ℕ) → blob_at now k ≡ write_cells (blob_at old k) (map (λ q. buffer_cell lo hi buf q) (of_slot k (take (i + 1) list)))
collected_more lo hi buf old mid now list i o d l e room is h k =
    grind (
      arith,
      nat_tests,
      take_more list i d l,
      filter-append,
      set mid o.slot (written (blob_at mid o.slot) (buffer_cell lo hi buf o).0 (buffer_cell lo hi buf o).1),
      fold-append,
      map-append,
      eqb-true,
      get_or-set_same,
      eqb-false,
      get_or-set_other,
    )

pub collected_long : (lo hi : ℕ) (buf : List ℕ) (mid now : List (List ℕ)) (o : Owned) → o.slot < length mid → o.from + o.extent.len ≤ length (blob_at mid o.slot)
    → now ≡ set mid o.slot (written (blob_at mid o.slot) (buffer_cell lo hi buf o).0 (buffer_cell lo hi buf o).1) → AreAsLong mid now
collected_long lo hi buf mid now o room fit is =
    grind (arith, nat_tests, length-set, eqb-true, set, get_or-set_same, length-written_inside, length-take (part_in lo hi o).extent.len (drop ((part_in lo hi o).extent.at - lo) buf), eqb-false, get_or-set_other)

-- entries of two lists, one after another
pub collected_twice : (lo hi : ℕ) (buf : List ℕ) (a b : List Owned) (old mid now : List (List ℕ)) (k : ℕ)
    → blob_at mid k ≡ write_cells (blob_at old k) (map (λ o. buffer_cell lo hi buf o) (of_slot k a))
    → blob_at now k ≡ write_cells (blob_at mid k) (map (λ o. buffer_cell lo hi buf o) (of_slot k b))
    → blob_at now k ≡ write_cells (blob_at old k) (map (λ o. buffer_cell lo hi buf o) (of_slot k (a ++ b)))
collected_twice lo hi buf a b old mid now k h g = grind (arith, nat_tests, fold-append, filter-append, map-append)

-- ---- a buffer that has the file's bytes

-- blobs that were filled from a buffer which was read, where the bytes are told
pub collected_read : (held : Option (List ℕ)) (base : ℕ) (buf : List ℕ) (lo n : ℕ) (list : List Owned) (old now : List (List ℕ)) → base ≤ lo
    → IfSome held (λ file. buf ≡ read file (lo - base) n)
    → ((k : ℕ) → blob_at now k ≡ write_cells (blob_at old k) (map (λ o. buffer_cell lo (lo + n) buf o) (of_slot k list)))
    → IfSome held (λ file. HasGotPart (lo, lo + n) base file list old now)
collected_read held base buf lo n list old now h e g = grind (arith, nat_tests, buffer_cells)

-- blobs that were filled up to a window, and from it
module _ {left : List Owned} {place size : ℕ} {w : Window} {served : List Owned} {stop : ℕ} (k : IsNext left place size w served stop) where
  pub got_more : (held here : Option (List ℕ)) (base there n : ℕ) (list : List Owned) (old mid now : List (List ℕ)) → here ≡ held → there ≡ base → LieOn base n list → HaveOnePlace list
      → FitBlobs old list → IsPast place list left → IfSome held (λ file. HasGotPart (0, place) base file list old mid)
      → IfSome here (λ file. HasGotPart (w.hull.at, w.hull.at + w.hull.len) there file served mid now) → IfSome held (λ file. HasGotPart (0, stop) base file list old now)
  got_more held here base there n list old mid now same begin on once fit p got read =
      let step : (file : List ℕ) → HasGotPart (0, place) base file list old mid → HasGotPart (w.hull.at, w.hull.at + w.hull.len) base file served mid now
      → HasGotPart (0, stop) base file list old now = λ file. got_step base file list (λ o m. (on o m).0) p k old mid now once fit in
      grind (arith, common_steps, step)
