-- The lists of the code stand for all slabs of the old variables.
use Rattle.redef_mover.proofs.Words.{◌≡◌, ℕ, ◌+◌, ◌*◌, ◌^◌, ◌<◌, ◌≤◌, inl, inr, refl, subst, List, [], ◌∷◌, ◌++◌, length, map, arith, flat_map, range_with_len, Header, Slab, recsize, In, fixed_slabs, record_slabs, rising, slabs_of_record, IsRisen, Shift, Slabs, further, listed, slab_of, AreSteps, nat_tests}
use Rattle.redef_mover.proofs.MovesLaws.{in_record, record_listed}

no_slabs : {A B : Type 0} (f : A → List B) (xs : List A) → ((x : A) → f x ≡ []) → flat_map f xs ≡ []
no_slabs f [] h = refl
no_slabs f (x ∷ xs) h = λ t. h x t ++ no_slabs f xs h t

-- the slabs of the records, the lists being those of record 0
of_records : (old new : Header) (records : List Shift) (count a b : ℕ) → map slab_of records ≡ record_slabs old new → (records ≡ [] → count ≡ 0)
    → (0 < length records → count ≡ old.records) → a ≡ recsize old → b ≡ recsize new
    → flat_map (λ r. map (further (r * a) (r * b)) (map slab_of records)) (range_with_len 0 count) ≡ flat_map (slabs_of_record old new) (range_with_len 0 old.records)
of_records old new [] count a b e none some f g = grind (arith, nat_tests, no_slabs)
of_records old new (x ∷ records) count a b e none some f g = grind (arith, nat_tests)

pub listed_is : (old new : Header) (slabs : Slabs) → map slab_of slabs.fixed.items ≡ fixed_slabs old new → map slab_of slabs.records.items ≡ record_slabs old new
    → (slabs.records.items ≡ [] → slabs.count ≡ 0) → (0 < length slabs.records.items → slabs.count ≡ old.records) → slabs.step.old ≡ recsize old → slabs.step.new ≡ recsize new
    → listed slabs ≡ rising old new
listed_is old new slabs e k none some f g =
    λ t. e t ++ of_records old new slabs.records.items slabs.count slabs.step.old slabs.step.new k none some f g t

-- a slab moves up or stays
pub risen_up : (a b : ℕ) (ss : List Slab) (s : Slab) → IsRisen a b ss → In ss s → s.from ≤ s.to
risen_up a b [] s h i = absurd i
risen_up a b (t ∷ ss) s h (inl e) = subst (λ (u : Slab). u.from ≤ u.to) e h.3
risen_up a b (t ∷ ss) s h (inr i) = risen_up (t.from + t.len) (t.to + t.len) ss s h.4 i

-- the steps to each record are small, since there is a slab
pub steps_are : (old new : Header) (slabs : Slabs) (a b : ℕ) → listed slabs ≡ rising old new → (slabs.records.items ≡ [] → slabs.count ≡ 0) → IsRisen a b (rising old new)
    → ((s : Slab) → In (rising old new) s → s.to + s.len < 2 ^ 62) → AreSteps slabs.step slabs.count
steps_are old new slabs a b e none risen short r l = by_records slabs.records.items refl
  where
    first : Shift
    first = record { from = 0; to = 0; len = 0 }

    by_records : (xs : List Shift) → slabs.records.items ≡ xs → (r * slabs.step.old < 2 ^ 64) × (r * slabs.step.new < 2 ^ 64)
    by_records [] k = let count : slabs.count ≡ 0 = none k in absurd (omega arith)
    by_records (x ∷ xs) k =
        grind (
          arith,
          nat_tests,
          record_listed slabs slabs.records.items r (r * slabs.step.old) (r * slabs.step.new),
          in_record (r * slabs.step.old) (r * slabs.step.new) slabs.records.items 0 first,
          risen_up a b (rising old new),
        )
