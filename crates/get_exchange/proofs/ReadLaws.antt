-- Hulls that were read and collected, in whatever order, make each blob the file's bytes of its entries.
use Rattle.get_exchange.proofs.Words.{◌≡◌, ℕ, zero, suc, ◌+◌, ◌-◌, ◌^◌, ◌<◌, ◌≤◌, inl, inr, refl, sym, ◌∙◌, ap, subst, List, [], ◌∷◌, ◌++◌, length, map, true, arith, append-nil, ext_get_or, replicate, Owned, at, read, written, Cell, said_at, said_by, Says, write_cells, IsOneValued, IsWithin, read_at, read_long, got_cell, In, extents, EndBelow, says_left, says_right, says_cases, in_extents, same_said, said_in_any_order, append_within, said_by_joined, got_cells, places_of, buffer_cell, part_in, IsCovered, IsRead, got_says, says_got, read_as, read_once, parts_within, whole_parts, buffer_cells, got_whole, blob_at, got_in_hull, of_request, FitTable, HasCollected, HasRead, HaveOnePlaces, log_cells, told_in, HasCollectedLog, Log, Told, AreServed, in_served, served_in, nat_tests, flat_map, common_steps}
use Rattle.get_exchange.proofs.CollectLaws.{fit_request, in_request, request_in}

-- ---- one hull

from_0 : (list : List Owned) (o : Owned) → In list o → 0 ≤ o.extent.at
from_0 list o m = omega arith

abbrev hull_says : List ℕ → ℕ → ℕ → ℕ → ℕ → List Owned → List (ℕ × ℕ)
hull_says file rank slot lo hi os = said_by (got_cells 0 file (map (λ o. part_in lo hi o) (of_request rank slot os)))

-- what one list says in a hull, another one says that has the entries with a byte there
says_too : (file : List ℕ) (rank slot lo hi : ℕ) (one two : List Owned) → ((o : Owned) (x : ℕ) → In one o → lo ≤ x → x < hi → o.extent.at ≤ x → x < o.extent.at + o.extent.len → In two o)
    → (x v : ℕ) → Says (hull_says file rank slot lo hi one) x v → Says (hull_says file rank slot lo hi two) x v
says_too file rank slot lo hi one two has x v h =
    let r = got_says 0 file lo hi (of_request rank slot one) x v (from_0 (of_request rank slot one)) h in
    grind (arith, common_steps, in_request rank slot one r.by r.inside, says_got 0 file lo hi (of_request rank slot two) x v (from_0 (of_request rank slot two)), from_0 (of_request rank slot two), read_as 0 file lo hi lo hi (of_request rank slot one) (of_request rank slot two) x v r r.low r.high, request_in rank slot two r.by (has r.by r.place (in_request rank slot one r.by r.inside).0 r.low r.high r.begin r.end) (in_request rank slot one r.by r.inside).1)

hull_said : (file : List ℕ) (rank slot lo hi : ℕ) (list begun : List Owned) (y : ℕ) → IsOneValued (places_of (of_request rank slot list)) → AreServed list begun lo hi
    → said_at (hull_says file rank slot lo hi list) y ≡ said_at (hull_says file rank slot lo hi begun) y
hull_said file rank slot lo hi list begun y once served =
    said_in_any_order (hull_says file rank slot lo hi list) (hull_says file rank slot lo hi begun) (read_once 0 file lo hi (of_request rank slot list) (from_0 (of_request rank slot list)) once)
    (says_too file rank slot lo hi list begun (λ o x m l h b e. in_served list begun lo hi o served m (omega arith) (omega arith)))
    (says_too file rank slot lo hi begun list (λ o x m l h b e. served_in list begun lo hi o served m)) y

hull_same : (file blob : List ℕ) (rank slot : ℕ) (t : Told) (list begun : List Owned) → IsOneValued (places_of (of_request rank slot list)) → AreServed list begun t.0 (t.0 + t.1)
    → ((o : Owned) → In (of_request rank slot list) o → o.from + o.extent.len ≤ length blob)
    → write_cells blob (got_in_hull file (of_request rank slot begun) t) ≡ write_cells blob (got_in_hull file (of_request rank slot list) t)
hull_same file blob rank slot t list begun once served fit = same_said (got_in_hull file (of_request rank slot begun) t) (got_in_hull file (of_request rank slot list) t) blob
    (grind (arith, common_steps, parts_within 0 file t.0 (t.0 + t.1) (length blob) (of_request rank slot begun), in_request rank slot begun, request_in rank slot list, served_in list begun t.0 (t.0 + t.1)))
    (parts_within 0 file t.0 (t.0 + t.1) (length blob) (of_request rank slot list) fit) (λ y. sym (hull_said file rank slot t.0 (t.0 + t.1) list begun y once served))

-- ---- a buffer has the bytes of some file

past_zeros : (lo j : ℕ) (bytes : List ℕ) → at (replicate lo 0 ++ bytes) (lo + j) ≡ at bytes j
past_zeros zero j bytes = let e : zero + j ≡ j = omega arith in ap (λ (k : ℕ). at bytes k) e
past_zeros (suc lo) j bytes = grind (arith, nat_tests, past_zeros lo j bytes)

some_file : (lo n : ℕ) (bytes : List ℕ) → length bytes ≡ n → bytes ≡ read (replicate lo 0 ++ bytes) (lo - 0) n
some_file lo n bytes long =
    let none : lo ≡ lo - 0 = omega arith in
    ext_get_or 0 bytes (read file lo n) (long ∙ sym (read_long file lo n)) (λ j l. sym (read_at file lo n j (omega arith) ∙ past_zeros lo j bytes))
    ∙ ap (λ (k : ℕ). read file k n) none
  where
    file : List ℕ
    file = replicate lo 0 ++ bytes

-- what the entries at hand have of a hull is what all entries have of it
pub hull_collected : (lo n : ℕ) (bytes : List ℕ) (list begun : List Owned) (old now : List (List (List ℕ))) → length bytes ≡ n
    → HaveOnePlaces list → FitTable old list → AreServed list begun lo (lo + n) → HasCollected lo (lo + n) bytes begun old now → HasCollected lo (lo + n) bytes list old now
hull_collected lo n bytes list begun old now long once fit served got = λ r s. got r s ∙ ap (λ (cs : List Cell). write_cells (blob_at old r s) cs) (cells r s begun)
    ∙ hull_same file (blob_at old r s) r s (lo, n, true) list begun (once r s) served (fit_request r s old list fit)
    ∙ sym (ap (λ (cs : List Cell). write_cells (blob_at old r s) cs) (cells r s list))
  where
    file : List ℕ
    file = replicate lo 0 ++ bytes

    cells : (r s : ℕ) (os : List Owned) → map (λ o. buffer_cell lo (lo + n) bytes o) (of_request r s os) ≡ got_in_hull file (of_request r s os) (lo, n, true)
    cells r s os = buffer_cells 0 file bytes lo n (of_request r s os) (omega arith) (some_file lo n bytes long)

-- ---- all hulls

abbrev all_parts : List ℕ → List Owned → List Told → List Cell
all_parts file os ts = flat_map (λ t. got_in_hull file os t) ts

parts_fit : (file : List ℕ) (os : List Owned) (ts : List Told) (n : ℕ) → ((o : Owned) → In os o → o.from + o.extent.len ≤ n) → IsWithin (all_parts file os ts) n
parts_fit file os [] n fit = tt
parts_fit file os (t ∷ ts) n fit = grind (arith, nat_tests, parts_fit file os ts n fit, parts_within 0 file t.0 (t.0 + t.1) n os fit, append_within)

parts_say : (file : List ℕ) (top : ℕ) (os : List Owned) (ts : List Told) (y v : ℕ) → ((o : Owned) → In os o → o.extent.at + o.extent.len ≤ top)
    → Says (said_by (all_parts file os ts)) y v → IsRead 0 file 0 top os y v
parts_say file top os [] y v below h = absurd h
parts_say file top os (t ∷ ts) y v below h = elim (says_cases (said_by (got_in_hull file os t)) (said_by (all_parts file os ts)) y v
    (subst (λ (ps : List (ℕ × ℕ)). Says ps y v) (said_by_joined (got_in_hull file os t) (all_parts file os ts)) h)) [
      | inl g ↦ grind (arith, nat_tests, got_says 0 file t.0 (t.0 + t.1) os y v (from_0 os) g, from_0 os, read_as 0 file t.0 (t.0 + t.1) 0 top os os y v (got_says 0 file t.0 (t.0 + t.1) os y v (from_0 os) g))
      | inr g ↦ parts_say file top os ts y v below g
    ]

say_parts : (file : List ℕ) (top : ℕ) (os : List Owned) (ts : List Told) (t : Told) (y v : ℕ) (r : IsRead 0 file 0 top os y v) → In ts t → t.0 ≤ r.place → r.place < t.0 + t.1
    → Says (said_by (all_parts file os ts)) y v
say_parts file top os [] t y v r m l h = absurd m
say_parts file top os (u ∷ ts) t y v r (inl e) l h = subst (λ (ps : List (ℕ × ℕ)). Says ps y v) (sym (said_by_joined (got_in_hull file os u) (all_parts file os ts)))
    (grind (arith, common_steps, says_left (said_by (got_in_hull file os u)) (said_by (all_parts file os ts)) y v, says_got 0 file t.0 (t.0 + t.1) os y v (from_0 os) (read_as 0 file 0 top t.0 (t.0 + t.1) os os y v r l h r.inside), from_0 os, read_as 0 file 0 top t.0 (t.0 + t.1) os os y v r l h r.inside))
say_parts file top os (u ∷ ts) t y v r (inr m) l h =
    grind (arith, nat_tests, say_parts file top os ts t y v r m l h, said_by_joined (got_in_hull file os u) (all_parts file os ts), says_right)

-- each covered byte lies in a hull
abbrev pub HaveHulls : List Owned → List Told → Type 0
HaveHulls list ts = (x : ℕ) → IsCovered list x → (t : Told) × In ts t × (t.0 ≤ x) × (x < t.0 + t.1)

-- entries of which each byte lies in a hull are read whole
parts_whole : (file : List ℕ) (top : ℕ) (os : List Owned) (ts : List Told) (blob : List ℕ) → ((o : Owned) → In os o → o.extent.at + o.extent.len ≤ top)
    → HaveHulls os ts → IsOneValued (places_of os) → ((o : Owned) → In os o → o.from + o.extent.len ≤ length blob)
    → write_cells blob (all_parts file os ts) ≡ write_cells blob (map (λ o. got_cell file o) os)
parts_whole file top os ts blob below each once fit =
    same_said (all_parts file os ts) (got_cells 0 file (map (λ o. part_in 0 top o) os)) blob (parts_fit file os ts (length blob) fit)
    (parts_within 0 file 0 top (length blob) os fit) (λ y. sym (said_in_any_order (said_by (got_cells 0 file (map (λ o. part_in 0 top o) os))) (said_by (all_parts file os ts))
    (read_once 0 file 0 top os (from_0 os) once) (λ x v h.
    let r = got_says 0 file 0 top os x v (from_0 os) h in
    grind (arith, common_steps, say_parts file top os ts (each r.place (record { by = r.by; inside = r.inside; low = r.begin; high = r.end })).0 x v r)) (λ x v h. says_got 0 file 0 top os x v (from_0 os) (parts_say file top os ts x v below h)) y))
    ∙ ap (λ (es : List Owned). write_cells blob (got_cells 0 file es)) (whole_parts top os below) ∙ ap (λ (cs : List Cell). write_cells blob cs) (got_whole file os)

-- ---- a log of hulls

pub log_joined : (list : List Owned) (first second : Log) (old mid now : List (List (List ℕ))) → HasCollectedLog list first old mid → HasCollectedLog list second mid now
    → HasCollectedLog list (first ++ second) old now
log_joined list first second old mid now f g = grind (arith, common_steps, written)

-- one hull
pub log_one : (list : List Owned) (t : Told) (bytes : List ℕ) (old now : List (List (List ℕ))) → HasCollected t.0 (t.0 + t.1) bytes list old now
    → HasCollectedLog list ((t, bytes) ∷ []) old now
log_one list t bytes old now h = grind (arith, nat_tests, append-nil)

-- each hull has the file's bytes
abbrev pub AreReadOf : List ℕ → Log → Type 0
AreReadOf file log = (e : Told × List ℕ) → In log e → e.1 ≡ read file e.0.0 e.0.1

log_read : (file : List ℕ) (os : List Owned) (log : Log) → AreReadOf file log → log_cells os log ≡ all_parts file os (told_in log)
log_read file os [] h = refl
log_read file os (e ∷ log) h =
    let none : e.0.0 ≡ e.0.0 - 0 = omega arith in
    grind (arith, nat_tests, buffer_cells 0 file e.1 e.0.0 e.0.1 os, read file, log_read file os log)

-- in whatever order the hulls were collected
pub read_law : (file : List ℕ) (list : List Owned) (log : Log) (old new : List (List (List ℕ))) → EndBelow (2 ^ 62) (extents list) → HaveOnePlaces list → FitTable old list
    → HaveHulls list (told_in log) → AreReadOf file log → HasCollectedLog list log old new → HasRead file list old new
read_law file list log old new ends once fit each bytes got =
    grind (arith, nat_tests, log_read file, parts_whole file (2 ^ 62), in_extents list, in_request, fit_request)
