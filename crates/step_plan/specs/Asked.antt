-- What ranks ask for. (own)
--     pieces_of header post            the longest runs of bytes of a request that follow one another in the file
--     asked_of header rank posts       how many bytes and pieces a rank asks for, the greatest number of 64 bits where it is more
--     asked_by_all header direction first batches     what each rank asks for, of the ranks that ask for something
use Rattle.std.specs.Prelude.{ℕ, ◌+◌, ◌-◌, ◌^◌, min, List, [], ◌∷◌, fold, flat_map, Option, Some, None, slice_get, nat_lt, if◌then◌else◌}
use Rattle.std.specs.List.{enumerate_from}
use Rattle.nc_base.specs.declared.header.Header.{Header}
use Rattle.nc_base.specs.declared.header.Var.{Var}
use Rattle.nc_base.specs.declared.plan.Batch.{Batch}
use Rattle.nc_base.specs.declared.plan.Extent.{Extent}
use Rattle.nc_base.specs.declared.plan.Post.{Post}
use Rattle.nc_base.specs.declared.request.Direction.{Direction}
use Rattle.vara_extents.specs.Joined.{extents_of}
use Rattle.collective_round.specs.Gathered.{posts_of}
use Rattle.step_plan.specs.declared.plan.Asked.{Asked}

abbrev pub pieces_of_some : Header → Option Var → Post → List Extent
pieces_of_some header None post = []
pieces_of_some header (Some v) post = extents_of header v post.region

abbrev pub pieces_of : Header → Post → List Extent
pieces_of header post = pieces_of_some header (slice_get header.vars post.var) post

-- what was asked for, and a piece more
abbrev pub with_piece : Asked → Extent → Asked
with_piece a e = record { rank = a.rank; bytes = min (a.bytes + e.len) (2 ^ 64 - 1); pieces = min (a.pieces + 1) (2 ^ 64 - 1) }

abbrev pub asked_with : Header → Post → Asked → Asked
asked_with header post a = fold with_piece a (pieces_of header post)

abbrev pub asked_of : Header → ℕ → List Post → Asked
asked_of header rank posts = fold (λ a post. asked_with header post a) (record { rank = rank; bytes = 0; pieces = 0 }) posts

-- if it is something
abbrev pub some_asked : Asked → List Asked
some_asked a = if nat_lt 0 a.bytes then a ∷ [] else []

abbrev pub asked_by_all : Header → Direction → ℕ → List Batch → List Asked
asked_by_all header direction first batches =
    flat_map (λ b. some_asked (asked_of header b.0 (posts_of direction b.1))) (enumerate_from first batches)
