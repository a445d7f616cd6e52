-- Packing: one entry more goes into the list of its rank, and one list more into a message.
use Rattle.std.proofs.lemmas.Grind.{common_steps}
use Rattle.std.proofs.lemmas.List.{map-set}
use Rattle.std.proofs.lemmas.List.FromFn.{get_or-map-range_with_len, length-map-range_with_len, map-range_with_len_more}
use Rattle.std.proofs.lemmas.Option.{get_or_from_slice_get}
use Rattle.list_laws.proofs.Maps.{entry_map}
use Rattle.put_exchange.proofs.Words.{◌≡◌, ℕ, zero, suc, ◌+◌, ◌<◌, inl, refl, sym, ◌∙◌, ap, List, [], ◌∷◌, ◌++◌, length, map, take, set, get_or, Bool, true, false, cond, Some, ◌&&◌, arith, and_parts, and_right, eqb-true, eqb_tells, append-nil, length-map, map-append, take_more, filter, filter-append, slice_get-get_or, slice_get, ◌==◌, range_with_len, equal_true, Batch, Owned, Vec, Global, In, map_in, filter_in, cell_of, clip, part_bytes, slot_in, meets, of_rank, ArePieces, Told, source_of, AreCuts, binned, bytes_of, cells_in, cells_of, cut_in, cuts_by, has_pieces, hull_of, posts_of, sent, sent_by, Cut, Sent, nat_tests, slice_get_within}
use Rattle.overlay_laws.proofs.WalkLaws.{map_range}

-- ---- the cuts of a rank's entries

-- an entry of a rank, as a cut and as a cell
cut_cell : (batches : List Batch) (lo hi r : ℕ) (o : Owned) → o.rank ≡ r → ((cut_in lo hi o).at, bytes_of (posts_of batches r) (cut_in lo hi o)) ≡ clip lo hi (cell_of (source_of batches) o)
cut_cell batches lo hi r o e = grind (arith, nat_tests, part_bytes lo hi o (source_of batches o.rank o.slot))

cut_cells : (batches : List Batch) (t : Told) (r : ℕ) (os : List Owned) → ((o : Owned) → In os o → o.rank ≡ r)
    → cells_of (posts_of batches r) (map (λ o. cut_in t.0 (t.0 + t.1) o) os) ≡ cells_in (source_of batches) t os
cut_cells batches t r [] own = refl
cut_cells batches t r (o ∷ os) own =
    let first = cut_cell batches t.0 (t.0 + t.1) r o (own o (inl refl)) in
    grind (arith, nat_tests, cut_cells batches t r os)

-- what is told of an entry of a rank
pub record IsOfRank (list : List Owned) (lo hi r : ℕ) (o : Owned) : Type 0 where
  pub inside : In list o
  pub rank : o.rank ≡ r

of_rank_in : (list : List Owned) (lo hi r : ℕ) (o : Owned) → In (of_rank lo hi r list) o → IsOfRank list lo hi r o
of_rank_in list lo hi r o m = grind (arith, nat_tests, filter_in, eqb-true, and_parts)

cuts_cells : (batches : List Batch) (t : Told) (r : ℕ) (list : List Owned)
    → cells_of (posts_of batches r) (cuts_by t list r) ≡ cells_in (source_of batches) t (of_rank t.0 (t.0 + t.1) r list)
cuts_cells batches t r list = cut_cells batches t r (of_rank t.0 (t.0 + t.1) r list) (λ o m. (of_rank_in list t.0 (t.0 + t.1) r o m).rank)

pub cuts_are : (batches : List Batch) (t : Told) (r : ℕ) (list : List Owned) → ArePieces (source_of batches) list → r < length batches → AreCuts batches (hull_of t) r (cuts_by t list r)
cuts_are batches t r list pieces l = grind (arith, nat_tests, map_in, of_rank_in, slot_in)

-- ---- what one entry more changes

cuts_tested : (xs : List Owned) (o : Owned) (t : Told) (r : ℕ) (test : Bool) → (o.rank == r && meets t.0 (t.0 + t.1) o) ≡ test
    → cuts_by t (xs ++ o ∷ []) r ≡ cuts_by t xs r ++ map (λ p. cut_in t.0 (t.0 + t.1) p) (cond test (o ∷ []) [])
cuts_tested xs o t r test e = grind (arith, nat_tests, filter-append, map-append)

cuts_kept : (xs : List Owned) (o : Owned) (t : Told) (r : ℕ) → (o.rank == r && meets t.0 (t.0 + t.1) o) ≡ false → cuts_by t xs r ≡ cuts_by t (xs ++ o ∷ []) r
cuts_kept xs o t r e = sym (cuts_tested xs o t r false e ∙ append-nil (cuts_by t xs r))

cuts_more : (xs : List Owned) (o : Owned) (t : Told) → meets t.0 (t.0 + t.1) o ≡ true → cuts_by t xs o.rank ++ cut_in t.0 (t.0 + t.1) o ∷ [] ≡ cuts_by t (xs ++ o ∷ []) o.rank
cuts_more xs o t e = sym (cuts_tested xs o t o.rank true (ap (λ (b : Bool). b && meets t.0 (t.0 + t.1) o) (equal_true o.rank o.rank refl) ∙ e))

-- ---- lists for all ranks

set_map : {X : Type 0} (f g : ℕ → X) (a n k : ℕ) (y : X) → k < n → y ≡ g (a + k) → ((j : ℕ) → (j ≡ a + k → ⊥) → f j ≡ g j)
    → set (map f (range_with_len a n)) k y ≡ map g (range_with_len a n)
set_map f g a zero k y l e h = absurd (omega arith)
set_map f g a (suc n) zero y l e h = grind (arith, nat_tests, map_range)
set_map f g a (suc n) (suc k) y l e h = grind (arith, nat_tests, set_map f g (a + 1) n k y)

-- ---- the lists themselves

pub bins_long : (f : ℕ → List Cut) (n : ℕ) (bins : List (Vec Cut Global)) → binned bins ≡ map f (range_with_len 0 n) → length bins ≡ n
bins_long f n bins e = sym (length-map bins (λ bin. bin.items)) ∙ ap (λ (bs : List (List Cut)). length bs) e ∙ length-map-range_with_len f 0 n

pub bin_is : (f : ℕ → List Cut) (n k : ℕ) (bins : List (Vec Cut Global)) (bin : Vec Cut Global) → binned bins ≡ map f (range_with_len 0 n) → slice_get bins k ≡ Some bin → bin.items ≡ f k
bin_is f n k bins bin e at =
    let low = slice_get_within bins k bin at in
    grind (arith, nat_tests, bins_long f n bins e, get_or_from_slice_get (binned bins) k bin.items [], entry_map, get_or-map-range_with_len f 0 n k k [])

unequal : (a b : ℕ) → (a ≡ b → ⊥) → (a == b) ≡ false
unequal a b ne = grind (arith, nat_tests, eqb_tells)

-- an entry that has a piece goes into the list of its rank
binned_more : (n : ℕ) (xs : List Owned) (o : Owned) (t : Told) (bins : List (Vec Cut Global)) (bin : Vec Cut Global) (d : Vec Cut Global) → o.rank < n → meets t.0 (t.0 + t.1) o ≡ true
    → binned bins ≡ map (λ r. cuts_by t xs r) (range_with_len 0 n) → bin.items ≡ (get_or bins o.rank d).items ++ cut_in t.0 (t.0 + t.1) o ∷ []
    → binned (set bins o.rank bin) ≡ map (λ r. cuts_by t (xs ++ o ∷ []) r) (range_with_len 0 n)
binned_more n xs o t bins bin d below meet is put =
    let old : ℕ → List Cut = λ r. cuts_by t xs r in
    let new : ℕ → List Cut = λ r. cuts_by t (xs ++ o ∷ []) r in
    let here : 0 + o.rank ≡ o.rank = omega arith in
    let long = bins_long old n bins is in
    let own : (get_or bins o.rank d).items ≡ old o.rank = bin_is old n o.rank bins (get_or bins o.rank d) is (slice_get-get_or bins o.rank d (omega arith)) in
    grind (arith, nat_tests, map-set, set_map, cuts_more, cuts_kept, unequal, t.0, t.1, cut_in, meets)

-- one that has none changes nothing
binned_kept : (n : ℕ) (xs : List Owned) (o : Owned) (t : Told) (bins : List (List Cut)) → meets t.0 (t.0 + t.1) o ≡ false
    → bins ≡ map (λ r. cuts_by t xs r) (range_with_len 0 n) → bins ≡ map (λ r. cuts_by t (xs ++ o ∷ []) r) (range_with_len 0 n)
binned_kept n xs o t bins none is = grind (arith, nat_tests, map_range, cuts_kept, and_right)

-- ---- the same along a list

pub entry_binned : (n i : ℕ) (list : List Owned) (e : Owned) (t : Told) (bins now : List (Vec Cut Global)) (bin d : Vec Cut Global) (cut : Cut) → i < length list → (get_or list i e).rank < n
    → meets t.0 (t.0 + t.1) (get_or list i e) ≡ true → binned bins ≡ map (λ r. cuts_by t (take i list) r) (range_with_len 0 n)
    → cut ≡ cut_in t.0 (t.0 + t.1) (get_or list i e) → bin.items ≡ (get_or bins (get_or list i e).rank d).items ++ cut ∷ [] → now ≡ set bins (get_or list i e).rank bin
    → binned now ≡ map (λ r. cuts_by t (take (i + 1) list) r) (range_with_len 0 n)
entry_binned n i list e t bins now bin d cut l below meet is of pushed put =
    let o = get_or list i e in
    grind (arith, common_steps, binned_more n (take i list) o t bins bin d below meet is (pushed ∙ ap (λ (c : Cut). (get_or bins o.rank d).items ++ c ∷ []) of))

pub entry_kept : (n i : ℕ) (list : List Owned) (e : Owned) (t : Told) (bins : List (List Cut)) → i < length list → meets t.0 (t.0 + t.1) (get_or list i e) ≡ false
    → bins ≡ map (λ r. cuts_by t (take i list) r) (range_with_len 0 n) → bins ≡ map (λ r. cuts_by t (take (i + 1) list) r) (range_with_len 0 n)
entry_kept n i list e t bins l none is = grind (arith, nat_tests, binned_kept n (take i list) (get_or list i e) t bins none is, take_more list i e l)

-- ---- one rank more

-- the messages of so many ranks, and of one more
pub messages_push : (batches : List Batch) (list : List Owned) (t : Told) (k : ℕ) (now before : List Sent) (cuts : List Cut) → cuts ≡ cuts_by t list k
    → before ≡ filter has_pieces (map (λ r. sent_by (source_of batches) list t r) (range_with_len 0 k))
    → now ≡ before ++ filter has_pieces (sent (hull_of t) k (cells_of (posts_of batches k) cuts) ∷ [])
    → now ≡ filter has_pieces (map (λ r. sent_by (source_of batches) list t r) (range_with_len 0 (k + 1)))
messages_push batches list t k now before cuts of is put = grind (arith, nat_tests, cuts_cells batches t k list, filter-append, map-range_with_len_more (λ r. sent_by (source_of batches) list t r) 0 k k (omega arith))
