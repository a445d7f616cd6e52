-- The pieces of a request, as they are gone over.
use Rattle.step_plan.proofs.Words.{◌≡◌, ℕ, ◌+◌, ◌-◌, ◌^◌, List, [], ◌∷◌, Some, fold, min, slice_get, IfSome, Header, Var, Extent, Post, if_some_at, extents_of, asked_with, with_piece, Asked, arith, nat_tests}

pub pieces_left : (header : Header) (post : Post) (v : Var) (left : List Extent) (a : Asked) → slice_get header.vars post.var ≡ Some v
    → IfSome (slice_get header.vars post.var) (λ w. left ≡ extents_of header w post.region) → fold with_piece a left ≡ asked_with header post a
pieces_left header post v left a there is = grind (arith, nat_tests, if_some_at)

pub piece_added : (a : Asked) (e : Extent) (bytes pieces : ℕ) (left rest : List Extent) (whole : Asked) → bytes ≡ min (a.bytes + e.len) (2 ^ 64 - 1)
    → pieces ≡ min (a.pieces + 1) (2 ^ 64 - 1) → left ≡ e ∷ rest → fold with_piece a left ≡ whole
    → fold with_piece (record { rank = a.rank; bytes = bytes; pieces = pieces }) rest ≡ whole
piece_added a e bytes pieces left rest whole long many is h = rw (long, many) (rw is at h)

pub no_piece : (a : Asked) (left : List Extent) (whole : Asked) → left ≡ [] → fold with_piece a left ≡ whole → a ≡ whole
no_piece a left whole none h = rw none at h
