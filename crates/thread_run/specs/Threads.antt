-- A run with a thread for each rank. (own)
--     HasRooms ranks rooms                 an inbox with so many senders that put nothing yet, and empty lists with room for as many
--     HaveStarted header script started    a thread of each rank waits for its word, and nothing went over any line
use Rattle.std.specs.Prelude.{◌≡◌, ℕ, ◌≤◌, [], map, length, All, vec_capacity}
use Rattle.std.specs.List.{range_with_len}
use Rattle.nc_base.specs.declared.header.Header.{Header}
use Rattle.nc_base.specs.declared.script.Script.{Script}
use Rattle.thread_run.specs.RankHandle.{AreOf, AreRankHandles}
use Rattle.thread_run.specs.declared.rank_threads.Rooms.{Rooms}
use Rattle.thread_run.specs.declared.rank_threads.StartedRanks.{StartedRanks}
use Rattle.var_layout.specs.Measures.{AreMeasures}

pub record HasRooms (ranks : ℕ) (rooms : Rooms) : Type 0 where
  pub senders : rooms.inbox.senders ≡ ranks
  pub taken : rooms.inbox.items ≡ []
  pub one_each : length rooms.senders.items ≡ ranks
  pub of_inbox : All (λ s. s.of ≡ rooms.inbox.of) rooms.senders.items
  pub numbers : map (λ s. s.number) rooms.senders.items ≡ range_with_len 0 ranks
  pub put : All (λ s. s.items ≡ []) rooms.senders.items
  pub no_ones : rooms.ones.items ≡ []
  pub no_lines : rooms.lines.items ≡ []
  pub no_ends : rooms.ends.items ≡ []
  pub ones_room : ranks ≤ vec_capacity rooms.ones
  pub lines_room : ranks ≤ vec_capacity rooms.lines
  pub ends_room : ranks ≤ vec_capacity rooms.ends

pub record HaveStarted (header : Header) (script : Script) (started : StartedRanks) : Type 0 where
  pub measured : AreMeasures header started.measures.now
  pub of : AreOf header script started.ones.items
  pub handles : AreRankHandles started.inbox.of [] started.ones.items started.lines.items
  pub all : length started.ones.items ≡ script.ranks
  pub empty : All (λ line. line.items ≡ []) started.lines.items
  pub taken : started.inbox.items ≡ []
  pub senders : started.inbox.senders ≡ script.ranks
  pub none : started.ends.items ≡ []
  pub room : script.ranks ≤ vec_capacity started.ends
