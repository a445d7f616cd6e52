-- The pieces of a step: window after window, in a window by rank, and then by place. (own)
--
-- A piece is the part of an entry that lies in a window. What goes over a line is the entry, of which the window that the aggregator
-- has open cuts the piece: it says where the piece lies and in which put its bytes stand, and no byte is copied to send it.
--     meets lo hi entry              the entry has a byte from lo to hi
--     pieces_in ranks list t         the entries that have a piece in a window, by rank and then by place
--     pieces_of ranks list ts        those of windows one after another
--     ArePieces source list          entries of which each has its bytes in its post
use Rattle.std.specs.Prelude.{ℕ, ◌+◌, ◌^◌, ◌<◌, ◌≤◌, List, filter, flat_map, length, Bool, ◌&&◌, nat_lt, ◌==◌}
use Rattle.std.specs.List.{range_with_len}
use Rattle.nc_base.specs.declared.plan.Owned.{Owned}
use Rattle.overlay_laws.specs.Entries.{Source, In}
use Rattle.exchange_crew.specs.Turns.{Told}

abbrev pub meets : ℕ → ℕ → Owned → Bool
meets lo hi o = nat_lt o.extent.at hi && nat_lt lo (o.extent.at + o.extent.len)

abbrev pub of_rank : ℕ → ℕ → ℕ → List Owned → List Owned
of_rank lo hi r list = filter (λ o. o.rank == r && meets lo hi o) list

abbrev pub pieces_in : ℕ → List Owned → Told → List Owned
pieces_in ranks list t = flat_map (λ r. of_rank t.0 (t.0 + t.1) r list) (range_with_len 0 ranks)

abbrev pub pieces_of : ℕ → List Owned → List Told → List Owned
pieces_of ranks list ts = flat_map (λ t. pieces_in ranks list t) ts

pub record IsPiece (source : Source) (o : Owned) : Type 0 where
  pub some : 1 ≤ o.extent.len
  pub ends : o.extent.at + o.extent.len < 2 ^ 62
  pub found : o.from + o.extent.len ≤ length (source o.rank o.slot)

abbrev pub ArePieces : Source → List Owned → Type 0
ArePieces source list = (o : Owned) → In list o → IsPiece source o
