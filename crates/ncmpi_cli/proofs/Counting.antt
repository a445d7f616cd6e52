-- The counts after the steps of a run are those that its watchers' lines tell.
use Rattle.ncmpi_cli.proofs.Words.{◌≡◌, ℕ, zero, suc, ◌+◌, ◌<◌, ◌≤◌, List, [], ◌∷◌, length, map, refl, ap, ap₂, ◌∙◌, arith, All-from_get_or, All-head, All-tail, All-weaker, get_or, IfSome, enumerate_from, Header, Script, Mark, told_of, count_after, with_counts, AreCounted, count_at, counted, AreReadings, seen_counts, WatchedRun, All, Option, Some, None, nat_tests}

-- the k-th of the numbers that a function gives for the places of a list
place : {A : Type 0} (count : ℕ → ℕ) (xs : List A) (n k d : ℕ) → k < length xs
    → get_or (map (λ (t : A × ℕ). t.1) (map (λ (p : ℕ × A). (p.1, count (p.0 + 1))) (enumerate_from n xs))) k d ≡ count (n + k + 1)
place count [] n k d h = absurd (omega (arith, h))
place count (x ∷ xs) n zero d h = let e : n + 1 ≡ n + 0 + 1 = omega arith in ap count e
place count (x ∷ xs) n (suc k) d h =
    let e : n + 1 + k + 1 ≡ n + suc k + 1 = omega arith in
    place count xs (n + 1) k d (omega (arith, h)) ∙ ap count e

abbrev paired : (ℕ → ℕ) → ℕ → ℕ × ℕ
paired count steps = (steps, count steps)

-- what agrees at each entry of a list agrees over it
maps_agree : {A B : Type 0} (f g : A → B) (xs : List A) → All (λ x. f x ≡ g x) xs → map f xs ≡ map g xs
maps_agree f g [] h = refl
maps_agree {A} {B} f g (x ∷ xs) h =
    ap₂ (λ (y : B) (ys : List B). y ∷ ys) (All-head (λ z. f z ≡ g z) x xs h) (maps_agree f g xs (All-tail (λ z. f z ≡ g z) x xs h))

-- no reading has more steps than the last
no_more : (steps : ℕ) (numbers : List ℕ) → AreReadings steps numbers → All (λ n. n ≤ steps) numbers
no_more steps numbers r =
    All-from_get_or (λ n. n ≤ steps) numbers 0
    (λ i h. let long = r.long in let most = r.rise i 16 (omega (arith, h, long)) (omega arith) in let last = r.last in omega (arith, most, last))

module _ (script : Script) (header : Header) (file : List ℕ) (order : List Mark) where
  abbrev told : List ℕ
  told = seen_counts (told_of script header file order)

  same_count : (steps : ℕ) → steps ≤ length order → count_at header.records told steps ≡ count_after script header file order steps
  same_count zero h = refl
  same_count (suc k) h =
      let e : 0 + k + 1 ≡ suc k = omega arith in
      place (count_after script header file order) order 0 k header.records h ∙ ap (count_after script header file order) e

  same_pair : (steps : ℕ) → steps ≤ length order → paired (count_at header.records told) steps ≡ paired (count_after script header file order) steps
  same_pair steps h = ap (λ (n : ℕ). paired (λ _. n) steps) (same_count steps h)

  same_numbers : (numbers : List ℕ) → AreReadings (length order) numbers → counted header.records told numbers ≡ with_counts script header file order numbers
  same_numbers numbers r = maps_agree _ _ numbers (All-weaker (λ n. n ≤ length order) _ same_pair numbers (no_more (length order) numbers r))

  same_readings : (readings : List (List ℕ)) → All (AreReadings (length order)) readings
      → map (counted header.records told) readings ≡ map (with_counts script header file order) readings
  same_readings readings r = maps_agree _ _ readings (All-weaker (AreReadings (length order)) _ same_numbers readings r)

-- the counts that were told are those of the calls done one after another
pub are_counted : (script : Script) (header : Header) (held : Option (List ℕ)) (watchers : ℕ) (run : WatchedRun)
    → IfSome run.seen (λ seen. (length seen.readings ≡ watchers) × All (AreReadings (length run.end.order)) seen.readings)
    → IfSome run.seen (λ seen. IfSome held (λ file. seen.counts ≡ seen_counts (told_of script header file run.end.order))) → IfSome held (AreCounted script header run)
are_counted script header None watchers run r c = tt
are_counted script header (Some file) watchers run r c = grind (arith, nat_tests, same_readings script header file run.end.order)
