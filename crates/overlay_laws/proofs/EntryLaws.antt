-- The puts of a step are cells; sorted entries say what the puts say; the entries of a get collect its bytes.
use Rattle.overlay_laws.proofs.Words.{◌≡◌, ℕ, ◌+◌, ◌-◌, ◌≤◌, refl, sym, ap, subst, inl, inr, ◌⊎◌, List, [], ◌∷◌, ◌++◌, length, drop, Option, Some, None, arith, common_steps, flat_map-append, length-append, get_or_past, Contains-permutation, IsPermutation-sym, IsPermutation, fold, flat_map, map, zip, slice_get, enumerate_from, range_with_len, length-range_with_len, same_Some, puts_are_cells, range_and_rest, puts_say, said_past, said_inside, cells_said, Header, Var, Post, Owned, at, read, size_of, places, Puts, bytes_of, bytes_of_some, Setting, put_post, get_post, get_some, said_at, Says, IsOneValued, Cell, write_cells, said_by, IsWithin, said_by_puts, cells_of_puts, Source, cell_of, ranges, IsRun, IsGathered, got_cell, IsRunFrom, In, HaveSame, extents, nat_tests, map-append, length-map, in_at, slice_get_within, get_or_from_slice_get, flat_map-map}
use Rattle.overlay_laws.proofs.SaidLaws.{said_in_any_order, same_said, cells_long, same_file}
use Rattle.overlay_laws.proofs.Members.{read_in, says_in, in_either, flat_in, in_left, in_right, in_flat}

-- ---- entries in order

run_says : (bytes : List ℕ) (source : Source) (from : ℕ) (os : List Owned) → IsRun bytes source from os
    → said_by (map (λ o. cell_of source o) os) ≡ zip (ranges os) (drop from bytes)
run_says bytes source from [] h = refl
run_says bytes source from (o ∷ os) h = grind (arith, nat_tests, run_says bytes source (from + o.extent.len) os h.2, common_steps, range_and_rest)

-- what the entries of a step say, in the order of the puts
pub gathered_says : (header : Header) (source : Source) (puts : Puts) (ess : List (List Owned)) → IsGathered header source puts ess
    → said_by (map (λ o. cell_of source o) (flat_map (λ os. os) ess)) ≡ said_by_puts header puts
gathered_says header source [] ess h = grind (arith, nat_tests)
gathered_says header source (p ∷ puts) [] h = absurd h
gathered_says header source (p ∷ puts) (os ∷ ess) h =
    grind (arith, nat_tests, gathered_says header source puts ess h.2, run_says p.1.bytes source 0 os h.0, map-append, flat_map-append)

-- ---- entries in another order

in_permuted : {X : Type 0} (xs ys : List X) (x : X) → IsPermutation xs ys → In xs x → In ys x
in_permuted xs ys x p h =
    let r = in_at xs x h in
    let c = Contains-permutation xs ys x p (r.0, slice_get_within xs r.0 x r.1, get_or_from_slice_get xs r.0 x x r.1) in
    read_in ys c.0 x c.1 (sym c.2)

pub says_left : {A : Type 0} (ps qs : List (ℕ × A)) (x : ℕ) (v : A) → Says ps x v → Says (ps ++ qs) x v
says_left ps qs x v h = (says_in (ps ++ qs) x v).1 (in_left ps qs (x, v) ((says_in ps x v).0 h))

pub says_right : {A : Type 0} (ps qs : List (ℕ × A)) (x : ℕ) (v : A) → Says qs x v → Says (ps ++ qs) x v
says_right ps qs x v h = (says_in (ps ++ qs) x v).1 (in_right ps qs (x, v) ((says_in qs x v).0 h))

pub says_cases : {A : Type 0} (ps qs : List (ℕ × A)) (x : ℕ) (v : A) → Says (ps ++ qs) x v → Says ps x v ⊎ Says qs x v
says_cases ps qs x v h = grind (arith, nat_tests, in_either ps qs (x, v) ((says_in (ps ++ qs) x v).0 h), says_in ps x v, says_in qs x v)

pub one_says_it : {X A : Type 0} (f : X → List (ℕ × A)) (xs : List X) (x : ℕ) (v : A) → Says (flat_map f xs) x v → (o : X) × In xs o × Says (f o) x v
one_says_it f xs x v h = let r = flat_in f xs (x, v) ((says_in (flat_map f xs) x v).0 h) in (r.0, r.1, (says_in (f r.0) x v).1 r.2)

pub says_moved : {X A : Type 0} (f : X → List (ℕ × A)) (xs ys : List X) (x : ℕ) (v : A) → ((o : X) → In xs o → In ys o)
    → Says (flat_map f xs) x v → Says (flat_map f ys) x v
says_moved f xs ys x v p h =
    let r = one_says_it f xs x v h in
    (says_in (flat_map f ys) x v).1 (in_flat f ys r.0 (x, v) (p r.0 r.1) ((says_in (f r.0) x v).0 r.2))

-- what entries say does not depend on their order where no place is told two things
pub cells_moved : {X : Type 0} (g : X → Cell) (xs ys : List X) → HaveSame xs ys → IsOneValued (said_by (map g xs))
    → (x : ℕ) → said_at (said_by (map g xs)) x ≡ said_at (said_by (map g ys)) x
cells_moved g xs ys p once = grind (arith, nat_tests, said_in_any_order, flat_map-map, says_moved)

pub same_permuted : {X : Type 0} (xs ys : List X) → IsPermutation xs ys → HaveSame xs ys
same_permuted xs ys p = (λ o h. in_permuted xs ys o p h, λ o h. in_permuted ys xs o (IsPermutation-sym xs ys p) h)

pub within_each : {X : Type 0} (g : X → Cell) (xs : List X) (n : ℕ) → ((o : X) → In xs o → (g o).0 + length (g o).1 ≤ n) → IsWithin (map g xs) n
within_each g [] n h = tt
within_each g (x ∷ xs) n h = (h x (inl refl), within_each g xs n (λ o k. h o (inr k)))

each_within : {X : Type 0} (g : X → Cell) (xs : List X) (n : ℕ) (o : X) → IsWithin (map g xs) n → In xs o → (g o).0 + length (g o).1 ≤ n
each_within g [] n o h k = absurd k
each_within g (x ∷ xs) n o h k = grind (arith, nat_tests, each_within g xs n o h.1)

within_moved : {X : Type 0} (g : X → Cell) (xs ys : List X) (n : ℕ) → HaveSame xs ys → IsWithin (map g xs) n → IsWithin (map g ys) n
within_moved g xs ys n p h = within_each g ys n (λ o k. each_within g xs n o h (p.1 o k))

pub list_told : (header : Header) (source : Source) (puts : Puts) (ess : List (List Owned)) (list : List Owned)
    → IsGathered header source puts ess → HaveSame (flat_map (λ os. os) ess) list → IsOneValued (said_by_puts header puts)
    → (x : ℕ) → said_at (said_by (map (λ o. cell_of source o) list)) x ≡ said_at (said_by_puts header puts) x
list_told header source puts ess list h same once x = grind (arith, nat_tests, gathered_says, cells_moved)

pub list_says : (header : Header) (source : Source) (puts : Puts) (ess : List (List Owned)) (list : List Owned)
    → IsGathered header source puts ess → IsPermutation (flat_map (λ os. os) ess) list → IsOneValued (said_by_puts header puts)
    → (x : ℕ) → said_at (said_by (map (λ o. cell_of source o) list)) x ≡ said_at (said_by_puts header puts) x
list_says header source puts ess list h p once = list_told header source puts ess list h (same_permuted (flat_map (λ os. os) ess) list p) once

-- the step of the model is the sorted entries written one by one
pub list_writes : (s : Setting) (source : Source) (puts : Puts) (ess : List (List Owned)) (list : List Owned) (file : List ℕ)
    → IsGathered s.header source puts ess → IsPermutation (flat_map (λ os. os) ess) list → IsOneValued (said_by_puts s.header puts)
    → IsWithin (cells_of_puts s.header puts) (length file) → IsWithin (map (λ o. cell_of source o) list) (length file)
    → fold (put_post s) file puts ≡ write_cells file (map (λ o. cell_of source o) list)
list_writes s source puts ess list file h p once room fits = grind (arith, nat_tests, puts_are_cells, same_said, puts_say, list_says)

-- ---- gets

read_flat : (file ps : List ℕ) (size : ℕ) → flat_map (λ x. read file x size) ps ≡ map (λ i. at file i) (flat_map (λ x. range_with_len x size) ps)
read_flat file [] size = refl
read_flat file (p ∷ ps) size = grind (arith, nat_tests, read_flat file ps size, map-append)

-- a get is the file's bytes at the bytes of the request
got_by : (s : Setting) (v : Option Var) (post : Post) (file : List ℕ) → get_some s v post file ≡ map (λ i. at file i) (bytes_of_some s.header v post)
got_by s None post file = refl
got_by s (Some v) post file = read_flat file (places s.header v post.region) (size_of v.kind)

-- a get is the file's bytes at the bytes of the request
pub get_is_bytes : (s : Setting) (post : Post) (file : List ℕ) → get_post s file post ≡ map (λ i. at file i) (bytes_of s.header post)
get_is_bytes s post file = got_by s (slice_get s.header.vars post.var) post file

-- ---- pieces of a get, each at its place in the blob

pub enumerate_joined : (n m : ℕ) (xs ys : List ℕ) → n + length xs ≡ m → enumerate_from n (xs ++ ys) ≡ enumerate_from n xs ++ enumerate_from m ys
enumerate_joined n m [] ys e = let f : n ≡ m = omega arith in ap (λ k. enumerate_from k ys) f
enumerate_joined n m (x ∷ xs) ys e = ap (λ rest. (n, x) ∷ rest) (enumerate_joined (n + 1) m xs ys (omega arith))

run_got : (file : List ℕ) (from : ℕ) (os : List Owned) → IsRunFrom from os
    → said_by (map (λ o. got_cell file o) os) ≡ enumerate_from from (map (λ i. at file i) (ranges os))
run_got file from [] h = refl
run_got file from (o ∷ os) h = grind (arith, nat_tests, run_got file (from + o.extent.len) os h.1, enumerate_joined, map-append, length-map, length-range_with_len)

pub says_place : (n : ℕ) (b : List ℕ) (x v : ℕ) → Says (enumerate_from n b) x v → (n ≤ x) × (slice_get b (x - n) ≡ Some v)
says_place n [] x v h = absurd h
says_place n (w ∷ b) x v xs = grind (arith, nat_tests, says_place (n + 1) b x v)

run_within : (file : List ℕ) (from n : ℕ) (os : List Owned) → IsRunFrom from os → from + length (ranges os) ≤ n → IsWithin (map (λ o. got_cell file o) os) n
run_within file from n [] h k = tt
run_within file from n (o ∷ os) h k = grind (arith, nat_tests, run_within file (from + o.extent.len) n os h.1, length-append, length-map, length-range_with_len)

pub collected : (file blob : List ℕ) (os list : List Owned) → IsRunFrom 0 os → HaveSame os list → length blob ≡ length (ranges os)
    → write_cells blob (map (λ o. got_cell file o) list) ≡ map (λ i. at file i) (ranges os)
collected file blob os list run same long =
    let bytes = map (λ i. at file i) (ranges os) in
    let told = run_got file 0 os run in
    let once : IsOneValued (enumerate_from 0 bytes) = λ x v w h k. grind (arith, nat_tests, says_place 0 bytes x v h, says_place 0 bytes x w k, same_Some) in
    let moved = cells_moved (λ o. got_cell file o) os list same (subst (λ ps. IsOneValued ps) (sym told) once) in
    same_file _ bytes (grind (arith, nat_tests, cells_long, within_moved (λ o. got_cell file o) os list, run_within file 0 (length blob) os run, length-map))
    (λ x. grind (arith, nat_tests, cells_said (map (λ o. got_cell file o) list) blob x, moved x, told, said_inside 0 bytes x 0, said_past, get_or_past, length-map (ranges os) (λ i. at file i)))

-- the blob of a get, collected entry by entry in any order
pub get_collected : (s : Setting) (post : Post) (file blob : List ℕ) (os list : List Owned) → IsRunFrom 0 os → ranges os ≡ bytes_of s.header post
    → HaveSame os list → length blob ≡ length (bytes_of s.header post)
    → write_cells blob (map (λ o. got_cell file o) list) ≡ get_post s file post
get_collected s post file blob os list run e same long = grind (arith, nat_tests, collected, get_is_bytes)

pub in_extents : (list : List Owned) (o : Owned) → In list o → In (extents list) o.extent
in_extents [] o h = absurd h
in_extents (p ∷ list) o xs = grind (arith, nat_tests, in_extents list o)
