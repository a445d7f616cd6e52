-- Writing extent by extent is writing element by element.
use Rattle.vara_extents.proofs.Words.{◌≡◌, ℕ, ◌+◌, ◌-◌, ◌*◌, ◌≤◌, refl, ap, List, [], ◌∷◌, ◌++◌, length, map, take, drop, arith, cases_eq, cases_lt, drop-drop, length-append, get_or_append_left, get_or-append_right, take-add, common_steps, same_number_lists, Header, Var, Extent, Region, size_of, written, at, product, cells, places, put, Cell, write_cells, at-written_before, at-written_after, at-written_inside, joined_to, joined, extents_of, cut_by, nat_tests}
use Rattle.vara_extents.proofs.JoinLaws.{join_next, join_apart}
use Rattle.vara_extents.proofs.NumberLaws.{length-places}
use Rattle.serial_spec.proofs.FileLaws.{length-written}

-- two writes one after another, the second where the first ends
written_two : (file : List ℕ) (x : ℕ) (a b : List ℕ) → written (written file x a) (x + length a) b ≡ written file x (a ++ b)
written_two file x a b =
    let both = length-append a b in
    same_number_lists (written (written file x a) (x + length a) b) (written file x (a ++ b))
    (grind (arith, nat_tests, length-written file x a, length-written (written file x a) (x + length a) b, length-written file x (a ++ b), length-append a b))
    (λ y h. grind (arith, nat_tests, cases_lt y x, cases_lt y (x + length a), at-written_before file a x y, at-written_before (written file x a) b (x + length a) y, at-written_before file (a ++ b) x y, at-written_inside file a x y, at-written_inside (written file x a) b (x + length a) y, at-written_inside file (a ++ b) x y, at-written_after file a x y, at-written_after (written file x a) b (x + length a) y, at-written_after file (a ++ b) x y, cases_lt y (x + length a + length b), get_or_append_left a b 0 (y - x), get_or-append_right a b (length a) (y - x) 0, length-append a b))

-- how many bytes extents have
abbrev pub bytes_in : List Extent → ℕ
bytes_in [] = 0
bytes_in (e ∷ es) = e.len + bytes_in es

pub bytes_in_joined : (es : List Extent) → bytes_in (joined es) ≡ bytes_in es
bytes_in_joined [] = refl
bytes_in_joined (e ∷ es) = grind (arith, nat_tests, bytes_in_joined es, join_next, join_apart)

cut_to : (file bytes : List ℕ) (e : Extent) (es : List Extent) → bytes_in (e ∷ es) ≤ length bytes
    → write_cells file (cut_by (joined_to e es) bytes) ≡ write_cells file (cut_by (e ∷ es) bytes)
cut_to file bytes e [] h = refl
cut_to file bytes e (d ∷ es) h =
    let first : length (take e.len bytes) ≡ e.len = grind (arith, common_steps) in
    grind (arith, nat_tests, cases_eq d.at (e.at + e.len), join_next e d es, join_apart e d es, take-add e.len d.len bytes, drop-drop d.len e.len bytes, written_two file e.at (take e.len bytes) (take d.len (drop e.len bytes)))

cut_joined : (file bytes : List ℕ) (es : List Extent) → bytes_in es ≤ length bytes → write_cells file (cut_by (joined es) bytes) ≡ write_cells file (cut_by es bytes)
cut_joined file bytes [] h = refl
cut_joined file bytes (e ∷ es) h =
    grind (arith, common_steps, bytes_in_joined es, cut_to, cut_joined (written file e.at (take e.len bytes)) (drop e.len bytes) es, written)

cells_are : (size : ℕ) (xs bytes : List ℕ) → cut_by (map (λ x. record { at = x; len = size }) xs) bytes ≡ cells size xs bytes
cells_are size [] bytes = refl
cells_are size (x ∷ xs) bytes = ap (λ (cs : List Cell). (x, take size bytes) ∷ cs) (cells_are size xs (drop size bytes))

pub bytes_are : (size : ℕ) (xs : List ℕ) → bytes_in (map (λ x. record { at = x; len = size }) xs) ≡ length xs * size
bytes_are size [] = omega arith
bytes_are size (x ∷ xs) = let rest = bytes_are size xs in omega arith

pub extents_put : (header : Header) (v : Var) (g : Region) (file bytes : List ℕ) → length bytes ≡ product g.count * size_of v.kind
    → write_cells file (cut_by (extents_of header v g) bytes) ≡ put header v g bytes file
extents_put header v g file bytes h = grind (arith, nat_tests, bytes_are (size_of v.kind) (places header v g), length-places, cut_joined, cells_are)
