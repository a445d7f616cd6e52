-- Messages, as contracts see them. (own)
--
-- A message has what one rank puts into one window: the parts of its entries that lie in the hull, each with its bytes, in order of place.
--     Sent                                  the hull, the rank, and the pieces: places with their bytes
--     sent hull rank pieces                 the message
--     has_pieces message                    it has some
--     posts_of batches rank                 the puts of a rank
--     bytes_of posts cut                    the bytes that a cut of these puts has
--     cells_of posts cuts                   cuts as places with their bytes
--     IsCut posts hull cut                  the cut lies in the hull and in its put
--     AreCuts batches hull rank cuts        all of them do, of the puts of a rank
--     cut_in lo hi entry                    the part of an entry from lo to hi, as a cut of its put
--     cuts_by t list rank                   those of a rank in a window
--     binned bins                           cuts that stand in a list for each rank
--     messages_in source ranks list t       the messages of a window: one for each rank that has a piece in it, by rank
--     messages_of source ranks list ts      those of windows one after another
--     message_counts source ranks list ts   how many each window has
--     planned_messages plan domain          the messages of a domain
--     planned_counts plan domain            how many each of its windows has
use Rattle.std.specs.Prelude.{ℕ, ◌+◌, ◌<◌, ◌≤◌, List, map, filter, flat_map, length, take, drop, slice_get, Bool, nat_lt, Vec}
use Rattle.std.specs.List.{range_with_len}
use Rattle.std.specs.declared.alloc.Global.{Global}
use Rattle.nc_base.specs.declared.plan.Batch.{Batch}
use Rattle.nc_base.specs.declared.plan.Extent.{Extent}
use Rattle.nc_base.specs.declared.plan.Owned.{Owned}
use Rattle.nc_base.specs.declared.plan.Post.{Post}
use Rattle.aggregator_rounds.specs.EntryParts.{bytes_of_post, part_in}
use Rattle.overlay_laws.specs.Entries.{In, Source, cell_of}
use Rattle.overlay_laws.specs.Windows.{clips}
use Rattle.serial_spec.specs.Said.{Cell}
use Rattle.exchange_crew.specs.Pieces.{of_rank}
use Rattle.exchange_crew.specs.Plan.{planned_turns, source_in}
use Rattle.exchange_crew.specs.Turns.{puts_of_some, Told}
use Rattle.exchange_crew.specs.declared.plan.PutPlan.{PutPlan}
use Rattle.put_exchange.specs.declared.message.Cut.{Cut}

pub record Sent : Type 0 where
  pub hull : Extent
  pub rank : ℕ
  pub pieces : List Cell

abbrev pub sent : Extent → ℕ → List Cell → Sent
sent hull rank pieces = record { hull = hull; rank = rank; pieces = pieces }

abbrev pub has_pieces : Sent → Bool
has_pieces m = nat_lt 0 (length m.pieces)

-- ---- cuts

abbrev pub posts_of : List Batch → ℕ → List Post
posts_of batches rank = puts_of_some (slice_get batches rank)

abbrev pub put_bytes : List Post → ℕ → List ℕ
put_bytes posts slot = bytes_of_post (slice_get posts slot)

abbrev pub bytes_of : List Post → Cut → List ℕ
bytes_of posts c = take c.len (drop c.from (put_bytes posts c.slot))

abbrev pub cells_of : List Post → List Cut → List Cell
cells_of posts cuts = map (λ c. (c.at, bytes_of posts c)) cuts

pub record IsCut (posts : List Post) (hull : Extent) (c : Cut) : Type 0 where
  pub low : hull.at ≤ c.at
  pub high : c.at + c.len ≤ hull.at + hull.len
  pub put : c.slot < length posts
  pub found : c.from + c.len ≤ length (put_bytes posts c.slot)

pub record AreCuts (batches : List Batch) (hull : Extent) (rank : ℕ) (cuts : List Cut) : Type 0 where
  pub batch : rank < length batches
  pub each : (c : Cut) → In cuts c → IsCut (posts_of batches rank) hull c

-- ---- the messages of a window

abbrev pub hull_of : Told → Extent
hull_of t = record { at = t.0; len = t.1 }

-- the parts of entries in a window
abbrev pub cells_in : Source → Told → List Owned → List Cell
cells_in source t list = clips t.0 (t.0 + t.1) (map (λ o. cell_of source o) list)

-- the part of an entry in a hull, as a cut of its put
abbrev pub cut_in : ℕ → ℕ → Owned → Cut
cut_in lo hi o = record { at = (part_in lo hi o).extent.at; slot = o.slot; from = (part_in lo hi o).from; len = (part_in lo hi o).extent.len }

-- those of a rank's entries in a window
abbrev pub cuts_by : Told → List Owned → ℕ → List Cut
cuts_by t list r = map (λ o. cut_in t.0 (t.0 + t.1) o) (of_rank t.0 (t.0 + t.1) r list)

-- cuts that stand in a list for each rank
abbrev pub binned : List (Vec Cut Global) → List (List Cut)
binned bins = map (λ bin. bin.items) bins

-- what a rank puts into a window
abbrev pub sent_by : Source → List Owned → Told → ℕ → Sent
sent_by source list t r = sent (hull_of t) r (cells_in source t (of_rank t.0 (t.0 + t.1) r list))

abbrev pub messages_in : Source → ℕ → List Owned → Told → List Sent
messages_in source ranks list t = filter has_pieces (map (λ r. sent_by source list t r) (range_with_len 0 ranks))

abbrev pub messages_of : Source → ℕ → List Owned → List Told → List Sent
messages_of source ranks list ts = flat_map (λ t. messages_in source ranks list t) ts

abbrev pub message_counts : Source → ℕ → List Owned → List Told → List ℕ
message_counts source ranks list ts = map (λ t. length (messages_in source ranks list t)) ts

abbrev pub planned_messages : PutPlan → Extent → List Sent
planned_messages p domain = messages_of (source_in p) (length p.job.now.batches) p.list.now (planned_turns p domain)

abbrev pub planned_counts : PutPlan → Extent → List ℕ
planned_counts p domain = message_counts (source_in p) (length p.job.now.batches) p.list.now (planned_turns p domain)
