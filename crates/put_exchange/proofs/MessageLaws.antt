-- Cuts of a message, one after another.
use Rattle.put_exchange.proofs.Words.{◌≡◌, ℕ, ◌+◌, ◌-◌, ◌<◌, List, [], ◌∷◌, ◌++◌, length, get_or, take, map-append, written, write_cells, moved_down, bytes_of, cells_of, Cut, Post, arith, common_steps}
use Rattle.put_exchange.proofs.TakenLaws.{written_more}

cells_push : (posts : List Post) (cuts : List Cut) (c : Cut) → cells_of posts (cuts ++ c ∷ []) ≡ cells_of posts cuts ++ (c.at, bytes_of posts c) ∷ []
cells_push posts cuts c = map-append (λ (d : Cut). (d.at, bytes_of posts d)) cuts (c ∷ [])

-- one cut more that is laid
pub laid_cut : (lo i : ℕ) (posts : List Post) (cuts : List Cut) (d : Cut) (old buf new : List ℕ) → i < length cuts → buf ≡ write_cells old (moved_down lo (cells_of posts (take i cuts)))
    → new ≡ written buf ((get_or cuts i d).at - lo) (bytes_of posts (get_or cuts i d)) → new ≡ write_cells old (moved_down lo (cells_of posts (take (i + 1) cuts)))
laid_cut lo i posts cuts d old buf new l e f =
    let c = get_or cuts i d in
    grind (arith, common_steps, written, written_more lo (cells_of posts (take i cuts)) ((c.at, bytes_of posts c) ∷ []) old, cells_push posts (take i cuts) c)
