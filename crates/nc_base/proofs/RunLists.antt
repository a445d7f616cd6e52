-- A list of runs, each of so many items that are told by their places in it.
use Rattle.nc_base.proofs.Words.{◌≡◌, ℕ, ◌+◌, ◌<◌, ◌∙◌, ap, List, [], ◌∷◌, ◌++◌, length, map, take, drop, get_or, append-nil, append_assoc, length-append, Some, arith, slice_get, option_map, range_with_len, length-map, take_more, drop_more, slice_get-map, slice_get-get_or, length-range_with_len, get_or-range_with_len, map-range_with_len_more, flat_map-append, nat_tests}
use Rattle.std.specs.Prelude.{flat_map}
use Rattle.nc_base.proofs.ListPlaces.{get_left, get_right}

-- one item more
pub pushed : {X : Type 0} (f : ℕ → X) (first old new : List X) (n : ℕ) (z : X) → old ≡ first ++ map f (range_with_len 0 n) → new ≡ old ++ z ∷ [] → z ≡ f n
    → new ≡ first ++ map f (range_with_len 0 (n + 1))
pushed {X} f first old new n z before added is = grind (arith, nat_tests, append_assoc, map-range_with_len_more, range_with_len)

module _ {R X : Type 0} (item : R → ℕ → X) (count : R → ℕ) where
  abbrev pub run : R → List X
  run r = map (item r) (range_with_len 0 (count r))

  abbrev pub runs : List R → List X
  runs rs = flat_map run rs

  pub length_run : (r : R) → length (run r) ≡ count r
  length_run r = length-map (range_with_len 0 (count r)) (item r) ∙ length-range_with_len 0 (count r)

  pub length_after : (xs : List X) (r : R) → length (xs ++ run r) ≡ length xs + count r
  length_after xs r = length-append xs (run r) ∙ ap (λ (k : ℕ). length xs + k) (length_run r)

  pub runs_push : (rs : List R) (r : R) → runs (rs ++ r ∷ []) ≡ runs rs ++ run r
  runs_push rs r = flat_map-append run rs (r ∷ []) ∙ ap (λ (l : List X). runs rs ++ l) (append-nil (run r))

  pub counted : (rs : List R) (i m n : ℕ) (d : R) → i < length rs → m ≡ length (runs (take i rs)) → n ≡ m + count (get_or rs i d) → n ≡ length (runs (take (i + 1) rs))
  counted rs i m n d h before more =
      grind (arith, nat_tests, length_after (runs (take i rs)) (get_or rs i d), runs_push (take i rs) (get_or rs i d), take_more rs i d h)

  item_at : (r : R) (k : ℕ) → k < count r → slice_get (run r) k ≡ Some (item r k)
  item_at r k h =
      let within : k < length (range_with_len 0 (count r)) = omega (arith, length-range_with_len 0 (count r), h) in
      grind (arith, nat_tests, slice_get-map (item r) (range_with_len 0 (count r)) k, slice_get-get_or (range_with_len 0 (count r)) k 0 within, get_or-range_with_len 0 (count r) k 0 h, option_map, range_with_len)

  pub found : (rs : List R) (i k : ℕ) (d : R) → i < length rs → k < count (get_or rs i d) → slice_get (runs (drop i rs)) k ≡ Some (item (get_or rs i d) k)
  found rs i k d h low = grind (arith, nat_tests, drop_more, get_left, length_run, item_at, slice_get, runs, drop, get_or)

  pub skipped : (rs : List R) (i k j : ℕ) (d : R) → i < length rs → count (get_or rs i d) + j ≡ k → slice_get (runs (drop i rs)) k ≡ slice_get (runs (drop (i + 1) rs)) j
  skipped rs i k j d h e = grind (arith, nat_tests, drop_more, get_right, length_run, slice_get, runs, drop)
