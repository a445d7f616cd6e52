-- The bytes of entries by where they come from; where requests overlap, the last in rank order counts.
use Rattle.overlay_laws.proofs.Words.{◌≡◌, ℕ, zero, suc, ◌+◌, ◌<◌, ◌≤◌, refl, ◌∙◌, ap, inl, inr, List, [], ◌∷◌, ◌++◌, length, take, drop, Some, arith, drop_more, map-append, fold, flat_map, map, option_map, enumerate_from, range_with_len, puts_are_cells, puts_say, one_hit, Owned, at, Puts, Setting, put_post, said_at, Says, write_cells, said_by, IsWithin, cells_of_puts, Source, cell_of, IsGathered, In, HaveSame, Origin, origins_of, origins, byte_at, AreFound, AtMost, IsGreatest, IsResolved, IsOnceEach, IsInOrder, nat_tests, some_or_none, common_steps, Header, ◌-◌, said_by_puts}
use Rattle.overlay_laws.proofs.SaidLaws.{said_is, says_some, one_said, same_said, same_told}
use Rattle.overlay_laws.proofs.EntryLaws.{says_cases, says_moved, gathered_says, one_says_it}

-- ---- bytes by their origins

pub said_mapped : {A B : Type 0} (f : A → B) (ps : List (ℕ × A)) (x : ℕ) → said_at (map (λ p. (p.0, f p.1)) ps) x ≡ option_map f (said_at ps x)
said_mapped f [] x = refl
said_mapped f (p ∷ ps) x = grind (arith, nat_tests, said_mapped f ps x, one_hit)

pub slice_step : (b : List ℕ) (from n : ℕ) → from < length b → take (suc n) (drop from b) ≡ at b from ∷ take n (drop (from + 1) b)
slice_step b from n h = ap (λ (xs : List ℕ). take (suc n) xs) (drop_more b from 0 h)

cell_origins : (source : Source) (r k p from n : ℕ) → from + n ≤ length (source r k)
    → enumerate_from p (take n (drop from (source r k)))
    ≡ map (λ q. (q.0, byte_at source q.1)) (enumerate_from p (map (λ i. (r, k, i)) (range_with_len from n)))
cell_origins source r k p from zero h = refl
cell_origins source r k p from (suc n) h = grind (arith, nat_tests, cell_origins source r k (p + 1) (from + 1) n (omega arith), slice_step)

pub cells_by_origins : (source : Source) (os : List Owned) → AreFound source os
    → said_by (map (λ o. cell_of source o) os) ≡ map (λ q. (q.0, byte_at source q.1)) (origins os)
cells_by_origins source [] h = refl
cells_by_origins source (o ∷ os) h = grind (arith, nat_tests, cells_by_origins source os h.1, cell_origins, map-append)

-- ---- the greatest is the last

abbrev AllInOrder : List (ℕ × Origin) → Type 0
AllInOrder [] = Unit {0}
AllInOrder (p ∷ ps) = ((x : ℕ) (b : Origin) → Says ps x b → AtMost p.1 b) × AllInOrder ps

last_is_greatest : (ps : List (ℕ × Origin)) → AllInOrder ps → (x : ℕ) (a b : Origin) → said_at ps x ≡ Some a → Says ps x b → AtMost b a
last_is_greatest [] h x a b e k = absurd k
last_is_greatest (p ∷ ps) h x a b e (inr l) = grind (arith, nat_tests, says_some, last_is_greatest ps h.1 x a b)
last_is_greatest (p ∷ ps) h x a b e (inl l) = grind (arith, nat_tests, some_or_none (said_at ps x), said_at ps x, said_is ps x a, l.1, h.0)

pub greatest_once : (ps : List (ℕ × Origin)) → IsOnceEach ps → (x : ℕ) (a b : Origin) → IsGreatest ps x a → IsGreatest ps x b → a ≡ b
greatest_once ps once x a b ha hb = grind (arith, nat_tests)

-- ---- entries in order

says_key : (r k p : ℕ) (is : List ℕ) (x : ℕ) (a : Origin) → Says (enumerate_from p (map (λ i. (r, k, i)) is)) x a → (a.0 ≡ r) × (a.1 ≡ k)
says_key r k p [] x a h = absurd h
says_key r k p (i ∷ is) x a xs = grind (arith, nat_tests, says_key r k (p + 1) is x a)

entry_in_order : (r k p : ℕ) (is : List ℕ) (rest : List (ℕ × Origin)) → AllInOrder rest
    → ((i x : ℕ) (a : Origin) → Says rest x a → AtMost (r, k, i) a) → AllInOrder (enumerate_from p (map (λ i. (r, k, i)) is) ++ rest)
entry_in_order r k p [] rest h before = h
entry_in_order r k p (i ∷ is) rest h before = (
  λ x a g. grind (arith, nat_tests, says_cases (enumerate_from (p + 1) (map (λ j. (r, k, j)) is)) rest x a g, says_key r k (p + 1) is x a, before i x a),
  entry_in_order r k (p + 1) is rest h before,
)

origins_in_order : (os : List Owned) → IsInOrder os → AllInOrder (origins os)
origins_in_order [] h = tt
origins_in_order (o ∷ os) h =
    entry_in_order o.rank o.slot o.extent.at (range_with_len o.from o.extent.len) (origins os) (origins_in_order os h.1)
    (λ i x a g. let r = one_says_it origins_of os x a g in grind (arith, nat_tests, h.0 r.0 r.1, says_key r.0.rank r.0.slot r.0.extent.at (range_with_len r.0.from r.0.extent.len) x a r.2))

-- ---- a resolved list

pub origins_moved : (xs ys : List Owned) → ((o : Owned) → In xs o → In ys o) → (x : ℕ) (a : Origin) → Says (origins xs) x a → Says (origins ys) x a
origins_moved xs ys p x a h = says_moved origins_of xs ys x a p h

pub resolved_says : (ordered list result : List Owned) → HaveSame ordered list → IsInOrder ordered → IsOnceEach (origins ordered) → IsResolved list result
    → (x : ℕ) → said_at (origins result) x ≡ said_at (origins ordered) x
resolved_says ordered list result same order once resolved x =
    let there = origins_moved list ordered same.1 in
    let once_greatest = greatest_once (origins list) (λ y a b ha hb. once y a b (there y a ha) (there y b hb)) in
    let great : (a : Origin) → said_at (origins ordered) x ≡ Some a → IsGreatest (origins list) x a = λ a e. (
      origins_moved ordered list same.0 x a (said_is (origins ordered) x a e),
      λ b h. last_is_greatest (origins ordered) (origins_in_order ordered order) x a b e (there x b h),
    ) in
    same_told _ _
    (λ v e. let g = resolved.0 x v (said_is (origins result) x v e) in let s = says_some (origins ordered) x v (there x v g.0) in s.1 ∙ ap Some (once_greatest x s.0 v (great s.0 s.1) g))
    (λ v e. one_said (origins result) (λ y a b ha hb. once_greatest y a b (resolved.0 y a ha) (resolved.0 y b hb)) x v (resolved.1 x v (great v e)))

pub resolved_told : (header : Header) (source : Source) (puts : Puts) (ess : List (List Owned)) (list result : List Owned)
    → IsGathered header source puts ess → HaveSame (flat_map (λ os. os) ess) list → IsInOrder (flat_map (λ os. os) ess) → IsOnceEach (origins (flat_map (λ os. os) ess))
    → IsResolved list result → AreFound source (flat_map (λ os. os) ess) → AreFound source result
    → (x : ℕ) → said_at (said_by (map (λ o. cell_of source o) result)) x ≡ said_at (said_by_puts header puts) x
resolved_told header source puts ess list result h same order once resolved found found_result x =
    grind (arith, common_steps, said_at, gathered_says header source puts ess h, cells_by_origins source (flat_map (λ os. os) ess) found, said_mapped (byte_at source) (origins (flat_map (λ os. os) ess)), resolved_says (flat_map (λ os. os) ess) list result same order once resolved, said_mapped (byte_at source) (origins result), cells_by_origins source result found_result)

-- the step of the model, where requests overlap, is the resolved entries written one by one
pub resolved_writes : (s : Setting) (source : Source) (puts : Puts) (ess : List (List Owned)) (list result : List Owned) (file : List ℕ)
    → IsGathered s.header source puts ess → HaveSame (flat_map (λ os. os) ess) list → IsInOrder (flat_map (λ os. os) ess) → IsOnceEach (origins (flat_map (λ os. os) ess))
    → IsResolved list result → AreFound source (flat_map (λ os. os) ess) → AreFound source result
    → IsWithin (cells_of_puts s.header puts) (length file) → IsWithin (map (λ o. cell_of source o) result) (length file)
    → fold (put_post s) file puts ≡ write_cells file (map (λ o. cell_of source o) result)
resolved_writes s source puts ess list result file h same order once resolved found found_result room fits =
    grind (arith, nat_tests, puts_are_cells, same_said, puts_say, resolved_told s.header source puts ess list result h same order once resolved found found_result)
