-- Entries of which a piece of the file was read: what their parts say, each byte once.
use Rattle.aggregator_rounds.proofs.Words.{◌≡◌, ℕ, zero, suc, ◌+◌, ◌-◌, ◌<◌, ◌≤◌, inl, inr, refl, ◌∙◌, ap, List, [], ◌∷◌, take, drop, arith, map, enumerate_from, range_with_len, Owned, at, read, Cell, said_by, Says, IsOneValued, IsWithin, In, got_cell, says_left, says_right, says_cases, got_cells, places_of, part_at, part_in, buffer_cell, read_long, nat_tests}

-- ---- parts of bytes that were read

take_read : (file : List ℕ) (x n m : ℕ) → m ≤ n → take m (read file x n) ≡ read file x m
take_read file x (suc n) (suc m) h = grind (arith, nat_tests, take_read file (x + 1) n m)
take_read file x n m h = grind (arith, nat_tests)

pub read_part : (file : List ℕ) (x n j m : ℕ) → j + m ≤ n → take m (drop j (read file x n)) ≡ read file (x + j) m
read_part file x n zero m h = grind (arith, nat_tests, take_read file x n m)
read_part file x zero (suc j) m h = absurd (omega arith)
read_part file x (suc n) (suc j) m h = grind (arith, nat_tests, read_part file (x + 1) n j m)

-- ---- what is read of entries, from lo to hi

abbrev pub parts_got : ℕ → List ℕ → ℕ → ℕ → List Owned → List Cell
parts_got base file lo hi os = got_cells base file (map (λ o. part_in lo hi o) os)

pub record IsRead (base : ℕ) (file : List ℕ) (lo hi : ℕ) (os : List Owned) (y v : ℕ) : Type 0 where
  pub by : Owned
  pub inside : In os by
  pub place : ℕ
  pub low : lo ≤ place
  pub high : place < hi
  pub begin : by.extent.at ≤ place
  pub end : place < by.extent.at + by.extent.len
  pub from : by.from + (place - by.extent.at) ≡ y
  pub byte : at file (place - base) ≡ v

pub record IsByte (file : List ℕ) (p a m y v : ℕ) : Type 0 where
  pub index : ℕ
  pub within : index < m
  pub place : p + index ≡ y
  pub byte : at file (a + index) ≡ v

read_says : (file : List ℕ) (p a m y v : ℕ) → Says (enumerate_from p (read file a m)) y v → IsByte file p a m y v
read_says file p a zero y v h = absurd h
read_says file p a (suc m) y v (inl h) = grind (arith, nat_tests)
read_says file p a (suc m) y v (inr h) =
    let r = read_says file (p + 1) (a + 1) m y v h in
    let e : a + suc r.index ≡ a + 1 + r.index = omega arith in
    record { index = suc r.index; within = omega arith; place = omega arith; byte = ap (λ (k : ℕ). at file k) e ∙ r.byte }

says_read : (file : List ℕ) (p a m j y v : ℕ) → j < m → p + j ≡ y → at file (a + j) ≡ v → Says (enumerate_from p (read file a m)) y v
says_read file p a zero j y v h e f = absurd (omega arith)
says_read file p a (suc m) j y v h e f = grind (arith, nat_tests, says_read file (p + 1) (a + 1) m (j - 1) y v, at)

module _ (base : ℕ) (file : List ℕ) (lo hi : ℕ) where
  -- what is read of an entry
  abbrev bytes_of : Owned → List (ℕ × ℕ)
  bytes_of o = enumerate_from (part_in lo hi o).from (read file ((part_in lo hi o).extent.at - base) (part_in lo hi o).extent.len)

  one_read : (o : Owned) (y v : ℕ) → base ≤ o.extent.at → Says (bytes_of o) y v → IsRead base file lo hi (o ∷ []) y v
  one_read o y v on h =
      let r = read_says file (part_in lo hi o).from ((part_in lo hi o).extent.at - base) (part_in lo hi o).extent.len y v h in
      let f = r.place in
      let e : part_at lo hi o + r.index - base ≡ part_at lo hi o - base + r.index = omega arith in
      grind (arith, nat_tests, at, r.index, r.byte)

  -- the same between other places, of other entries, where they have the byte
  pub read_as : (from to : ℕ) (os more : List Owned) (y v : ℕ) (r : IsRead base file lo hi os y v) → from ≤ r.place → r.place < to → In more r.by → IsRead base file from to more y v
  read_as from to os more y v r l h m = grind (arith, nat_tests)

  pub got_says : (os : List Owned) (y v : ℕ) → ((o : Owned) → In os o → base ≤ o.extent.at) → Says (said_by (parts_got base file lo hi os)) y v → IsRead base file lo hi os y v
  got_says [] y v on h = absurd h
  got_says (o ∷ os) y v on h =
      elim (says_cases (bytes_of o) (said_by (parts_got base file lo hi os)) y v h) [
        | inl g ↦ (let r = one_read o y v (on o (inl refl)) g in read_as lo hi _ _ y v r r.low r.high (grind (arith, nat_tests, r.inside)))
        | inr g ↦ (let r = got_says os y v (λ q m. on q (inr m)) g in read_as lo hi _ _ y v r r.low r.high (inr r.inside))
      ]

  says_got_of : (os : List Owned) (o : Owned) (x y v : ℕ) → In os o → base ≤ o.extent.at → lo ≤ x → x < hi → o.extent.at ≤ x → x < o.extent.at + o.extent.len
      → o.from + (x - o.extent.at) ≡ y → at file (x - base) ≡ v → Says (said_by (parts_got base file lo hi os)) y v
  says_got_of [] o x y v m on l h b e f g = absurd m
  says_got_of (p ∷ os) o x y v m on l h b e f g =
      let k : part_at lo hi o - base + (x - part_at lo hi o) ≡ x - base = omega arith in
      grind (arith, nat_tests, says_read, at, says_left, bytes_of, says_right, says_got_of os o x y v, parts_got)

  pub says_got : (os : List Owned) (y v : ℕ) → ((o : Owned) → In os o → base ≤ o.extent.at) → IsRead base file lo hi os y v → Says (said_by (parts_got base file lo hi os)) y v
  says_got os y v on r = says_got_of os r.by r.place y v r.inside (on r.by r.inside) r.low r.high r.begin r.end r.from r.byte

-- ---- no byte of a blob has two places

range_says : (p a m j : ℕ) → j < m → Says (enumerate_from p (range_with_len a m)) (p + j) (a + j)
range_says p a zero j h = absurd (omega arith)
range_says p a (suc m) j h = grind (arith, nat_tests, range_says (p + 1) (a + 1) m (j - 1))

place_said : (os : List Owned) (o : Owned) (x : ℕ) → In os o → o.extent.at ≤ x → x < o.extent.at + o.extent.len → Says (places_of os) (o.from + (x - o.extent.at)) x
place_said [] o x m l h = absurd m
place_said (p ∷ os) o x m l h = grind (arith, nat_tests, range_says o.from o.extent.at o.extent.len (x - o.extent.at), says_left, says_right, place_said os o x, places_of)

pub read_once : (base : ℕ) (file : List ℕ) (lo hi : ℕ) (os : List Owned) → ((o : Owned) → In os o → base ≤ o.extent.at) → IsOneValued (places_of os)
    → IsOneValued (said_by (parts_got base file lo hi os))
read_once base file lo hi os on once y v u h k =
    let r = got_says base file lo hi os y v on h in
    grind (arith, nat_tests, got_says base file lo hi os y u on k, place_said os r.by r.place r.inside r.begin r.end, place_said os (got_says base file lo hi os y u on k).by (got_says base file lo hi os y u on k).place, at file, r.from, r.byte, places_of)

-- ---- where parts lie in a blob, and parts that are whole

pub parts_within : (base : ℕ) (file : List ℕ) (lo hi n : ℕ) (os : List Owned) → ((o : Owned) → In os o → o.from + o.extent.len ≤ n) → IsWithin (parts_got base file lo hi os) n
parts_within base file lo hi n [] h = tt
parts_within base file lo hi n (o ∷ os) h = grind (arith, nat_tests, h o, read_long file ((part_in lo hi o).extent.at - base) (part_in lo hi o).extent.len, parts_within base file lo hi n os, h)

whole_part : (place : ℕ) (o : Owned) → o.extent.at + o.extent.len ≤ place → part_in 0 place o ≡ o
whole_part place o h = grind (arith, nat_tests)

pub whole_parts : (place : ℕ) (os : List Owned) → ((o : Owned) → In os o → o.extent.at + o.extent.len ≤ place) → map (λ o. part_in 0 place o) os ≡ os
whole_parts place [] h = refl
whole_parts place (o ∷ os) h = grind (arith, nat_tests, whole_part place o, h o, whole_parts place os, h)

-- what is read of a file that begins at 0
pub got_whole : (file : List ℕ) (list : List Owned) → got_cells 0 file list ≡ map (λ o. got_cell file o) list
got_whole file [] = refl
got_whole file (o ∷ list) = grind (arith, nat_tests, read file, got_whole file list)

-- ---- a buffer that has the file's bytes

buffer_is_read : (base : ℕ) (file buf : List ℕ) (lo n : ℕ) (o : Owned) → base ≤ lo → buf ≡ read file (lo - base) n
    → buffer_cell lo (lo + n) buf o ≡ ((part_in lo (lo + n) o).from, read file ((part_in lo (lo + n) o).extent.at - base) (part_in lo (lo + n) o).extent.len)
buffer_is_read base file buf lo n o h e = grind (arith, nat_tests, read_part)

pub buffer_cells : (base : ℕ) (file buf : List ℕ) (lo n : ℕ) (os : List Owned) → base ≤ lo → buf ≡ read file (lo - base) n
    → map (λ o. buffer_cell lo (lo + n) buf o) os ≡ parts_got base file lo (lo + n) os
buffer_cells base file buf lo n [] h e = refl
buffer_cells base file buf lo n (o ∷ os) h e = λ i. buffer_is_read base file buf lo n o h e i ∷ buffer_cells base file buf lo n os h e i
