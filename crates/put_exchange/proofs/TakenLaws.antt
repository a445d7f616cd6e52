-- Messages that were taken off a line, and laid one after another.
use Rattle.put_exchange.proofs.Words.{◌≡◌, ℕ, arith, ◌+◌, ◌<◌, refl, sym, ◌∙◌, ap, List, [], ◌∷◌, ◌++◌, length, take, get_or, append_assoc, fold-append, drop-append_seam, take-append_seam, append-nil, length-append, map-append, flat_map-append, Extent, Owned, Cell, write_cells, moved_down, Source, cell_of, clip, clips, in_left, in_right, Sent, pieces_in_all, HasLaid, nat_tests, map, common_steps}

-- ---- lists of what was taken

pub append_parts : {X : Type 0} (a b c d : List X) → length a ≡ length c → a ++ b ≡ c ++ d → (a ≡ c) × (b ≡ d)
append_parts a b c d l e = grind (arith, nat_tests, take-append_seam a b, take-append_seam c d, drop-append_seam a b, drop-append_seam c d)

-- cells behind others
pub written_more : (lo : ℕ) (xs ys : List Cell) (old : List ℕ) → write_cells (write_cells old (moved_down lo xs)) (moved_down lo ys) ≡ write_cells old (moved_down lo (xs ++ ys))
written_more lo xs ys old = grind (arith, nat_tests, map-append, fold-append)

-- the pieces of one message more
pieces_more : (got : List Sent) (m : Sent) → pieces_in_all (got ++ m ∷ []) ≡ pieces_in_all got ++ m.pieces
pieces_more got m = flat_map-append (λ (n : Sent). n.pieces) got (m ∷ []) ∙ ap (λ (cells : List Cell). pieces_in_all got ++ cells) (append-nil m.pieces)

pub laid_more : (hull : Extent) (n k : ℕ) (before mid now : List Sent) (m : Sent) (old buf new : List ℕ) → HasLaid hull n before mid old buf
    → now ≡ mid ++ m ∷ [] → k ≡ n + 1 → (m.hull ≡ hull → new ≡ write_cells buf (moved_down hull.at m.pieces)) → HasLaid hull k before now old new
laid_more hull n k before mid now m old buf new h e f laid =
    record {
      got = h.got ++ m ∷ [];
      taken = e ∙ ap (λ (xs : List Sent). xs ++ m ∷ []) h.taken ∙ append_assoc before h.got (m ∷ []);
      many = length-append h.got (m ∷ []) ∙ ap (λ (j : ℕ). j + 1) h.many ∙ sym f;
      laid = grind (arith, nat_tests, in_right h.got (m ∷ []) m, in_left h.got (m ∷ []), written_more hull.at (pieces_in_all h.got) m.pieces old, pieces_more h.got m);
    }

cells_more : (source : Source) (lo hi : ℕ) (got : List Owned) (o : Owned)
    → clips lo hi (map (λ p. cell_of source p) (got ++ o ∷ [])) ≡ clips lo hi (map (λ p. cell_of source p) got) ++ clip lo hi (cell_of source o) ∷ []
cells_more source lo hi [] o = refl
cells_more source lo hi (p ∷ got) o = ap (λ (cells : List Cell). clip lo hi (cell_of source p) ∷ cells) (cells_more source lo hi got o)

-- one entry more of a list that is laid
pub entries_more : (source : Source) (lo hi i : ℕ) (list : List Owned) (o : Owned) (old buf new : List ℕ) → i < length list
    → buf ≡ write_cells old (moved_down lo (clips lo hi (map (λ p. cell_of source p) (take i list))))
    → new ≡ write_cells buf (moved_down lo (clip lo hi (cell_of source (get_or list i o)) ∷ []))
    → new ≡ write_cells old (moved_down lo (clips lo hi (map (λ p. cell_of source p) (take (i + 1) list))))
entries_more source lo hi i list o old buf new l e f =
    f
    ∙ ap (λ (b : List ℕ). write_cells b (moved_down lo (clip lo hi (cell_of source (get_or list i o)) ∷ []))) e
    ∙ written_more lo (clips lo hi (map (λ p. cell_of source p) (take i list))) (clip lo hi (cell_of source (get_or list i o)) ∷ []) old
    ∙ sym (grind (arith, common_steps, cells_more source lo hi (take i list) (get_or list i o)))
