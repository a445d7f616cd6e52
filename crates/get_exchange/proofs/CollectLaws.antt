-- Entries that are collected out of a buffer, each into its blob of a table.
use Rattle.get_exchange.proofs.Words.{◌≡◌, ℕ, zero, suc, ◌+◌, ◌-◌, ◌<◌, ◌≤◌, sym, ◌∙◌, ap, subst, List, [], ◌∷◌, ◌++◌, length, take, drop, get_or, set, false, ◌&&◌, arith, fold-append, map-append, get_or_default, length-take, get_or-set_same, get_or-set_other, take_more, get_or-map, map-set_same, ◌==◌, and_from, equal_true, and_first, and_second, no_both, Owned, length-written_inside, written, Cell, write_cells, In, in_filter, filter_in, AreFilled, buffer_cell, part_in, blob_at, of_request, with_blob, AreAsLong, FitTable, HasCollected, AreServed, served_in, filter-append, nat_tests, eqb-true, eqb-false, map}

-- ---- the entries of a request

pub in_request : (rank slot : ℕ) (list : List Owned) (o : Owned) → In (of_request rank slot list) o → In list o × (o.rank ≡ rank) × (o.slot ≡ slot)
in_request rank slot list o m = grind (arith, nat_tests, filter_in, eqb-true, and_first, and_second)

pub request_in : (rank slot : ℕ) (list : List Owned) (o : Owned) → In list o → o.rank ≡ rank → o.slot ≡ slot → In (of_request rank slot list) o
request_in rank slot list o m e f = grind (arith, nat_tests, in_filter, equal_true, of_request)

pub fit_request : (rank slot : ℕ) (table : List (List (List ℕ))) (list : List Owned) → FitTable table list
    → (o : Owned) → In (of_request rank slot list) o → o.from + o.extent.len ≤ length (blob_at table rank slot)
fit_request rank slot table list fit o m = grind (arith, nat_tests, in_request rank slot list o m)

-- ---- blobs keep their lengths

blob_long : (table : List (List (List ℕ))) (rank slot : ℕ) → get_or (get_or (map (λ blobs. map (λ blob. length blob) blobs) table) rank []) slot 0 ≡ length (blob_at table rank slot)
blob_long table rank slot = ap (λ (ns : List ℕ). get_or ns slot 0) (get_or-map (λ (blobs : List (List ℕ)). map (λ (blob : List ℕ). length blob) blobs) table rank [])
    ∙ get_or-map (λ (blob : List ℕ). length blob) (get_or table rank []) slot []

as_long_at : (old now : List (List (List ℕ))) (rank slot : ℕ) → AreAsLong old now → length (blob_at now rank slot) ≡ length (blob_at old rank slot)
as_long_at old now rank slot h = grind (arith, nat_tests, blob_long now rank slot, blob_long old rank slot)

pub fit_as_long : (old now : List (List (List ℕ))) (list : List Owned) → AreAsLong old now → FitTable old list → FitTable now list
fit_as_long old now list h fit o m = subst (λ (n : ℕ). o.from + o.extent.len ≤ n) (sym (as_long_at old now o.rank o.slot h)) (fit o m)

pub fit_served : (table : List (List (List ℕ))) (list begun : List Owned) (lo hi : ℕ) → AreServed list begun lo hi → FitTable table list → FitTable table begun
fit_served table list begun lo hi s fit o m = fit o (served_in list begun lo hi o s m)

pub filled_served : (list begun : List Owned) (lo hi : ℕ) → AreServed list begun lo hi → AreFilled list → AreFilled begun
filled_served list begun lo hi s f o m = f o (served_in list begun lo hi o s m)

-- ---- one entry more

blob_in : (blobs : List (List ℕ)) (slot : ℕ) → 1 ≤ length (get_or blobs slot []) → slot < length blobs
blob_in [] slot h = absurd (omega arith)
blob_in (b ∷ blobs) zero h = omega arith
blob_in (b ∷ blobs) (suc slot) h = let l = blob_in blobs slot h in omega arith

pub rank_in : (table : List (List (List ℕ))) (rank slot : ℕ) → 1 ≤ length (blob_at table rank slot) → rank < length table
rank_in [] rank slot h = absurd (omega arith)
rank_in (bs ∷ table) zero slot h = omega arith
rank_in (bs ∷ table) (suc rank) slot h = let l = rank_in table rank slot h in omega arith

-- the blobs of a rank, lent and with the cell in one of them
pub collected : (table : List (List (List ℕ))) (rank slot : ℕ) (d lent now : List (List ℕ)) (cell : Cell) → rank < length table → lent ≡ get_or table rank d
    → now ≡ set lent slot (written (get_or lent slot []) cell.0 cell.1)
    → set table rank now ≡ set table rank (set (get_or table rank []) slot (written (blob_at table rank slot) cell.0 cell.1))
collected table rank slot d lent now cell l e f = grind (arith, nat_tests, get_or_default table rank d [] l, set)

blob_long_kept : (table : List (List (List ℕ))) (rank slot : ℕ) (blob : List ℕ) → length blob ≡ length (blob_at table rank slot)
    → AreAsLong table (with_blob table rank slot blob)
blob_long_kept table rank slot blob e = grind (arith, nat_tests, set (get_or table rank []) slot blob, map-set_same)

blob_here : (table : List (List (List ℕ))) (rank slot : ℕ) (blob : List ℕ) → 1 ≤ length (blob_at table rank slot) → blob_at (with_blob table rank slot blob) rank slot ≡ blob
blob_here table rank slot blob some = grind (arith, nat_tests, get_or-set_same, set, rank_in, blob_in)

blob_other : (table : List (List (List ℕ))) (rank slot r s : ℕ) (blob : List ℕ) → 1 ≤ length (blob_at table rank slot) → (rank == r && slot == s) ≡ false
    → blob_at (with_blob table rank slot blob) r s ≡ blob_at table r s
blob_other table rank slot r s blob some e = grind (
  arith,
  nat_tests,
  get_or-set_same table rank (set (get_or table rank []) slot blob) [] (rank_in table rank slot some),
  set (get_or table rank []) slot blob,
  no_both,
  and_from,
  eqb-false,
  rank_in,
  get_or-set_other,
  eqb-true,
)

pub collected_more : (lo hi : ℕ) (buf : List ℕ) (old mid now : List (List (List ℕ))) (list : List Owned) (i : ℕ) (o d : Owned) → i < length list → o ≡ get_or list i d
    → 1 ≤ length (blob_at mid o.rank o.slot) → now ≡ with_blob mid o.rank o.slot (written (blob_at mid o.rank o.slot) (buffer_cell lo hi buf o).0 (buffer_cell lo hi buf o).1)
    → ((r s : ℕ) → blob_at mid r s ≡ write_cells (blob_at old r s) (map (λ q. buffer_cell lo hi buf q) (of_request r s (take i list)))) → (r s : ℕ)
    → blob_at now r s ≡ write_cells (blob_at old r s) (map (λ q. buffer_cell lo hi buf q) (of_request r s (take (i + 1) list)))
collected_more lo hi buf old mid now list i o d l e some is h r s =
    grind (arith, nat_tests, take_more list i d l, filter-append, fold-append, map-append, eqb-true, and_first, and_second, blob_here, blob_other)

-- some entries, and then others
pub collected_joined : (lo hi : ℕ) (buf : List ℕ) (first second : List Owned) (old mid now : List (List (List ℕ))) → HasCollected lo hi buf first old mid → HasCollected lo hi buf second mid now
    → HasCollected lo hi buf (first ++ second) old now
collected_joined lo hi buf first second old mid now f g r s = grind (arith, nat_tests, fold-append, map-append, filter-append)

pub collected_long : (lo hi : ℕ) (buf : List ℕ) (mid now : List (List (List ℕ))) (o : Owned) → o.from + o.extent.len ≤ length (blob_at mid o.rank o.slot)
    → now ≡ with_blob mid o.rank o.slot (written (blob_at mid o.rank o.slot) (buffer_cell lo hi buf o).0 (buffer_cell lo hi buf o).1) → AreAsLong mid now
collected_long lo hi buf mid now o fit is =
    grind (arith, nat_tests, length-take (part_in lo hi o).extent.len (drop ((part_in lo hi o).extent.at - lo) buf), blob_long_kept, length-written_inside)
