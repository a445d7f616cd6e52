-- A rank's thread and what the calling thread has of it. (own)
--     IsFresh ends                    nothing was put or taken by the ends
--     HasReturned .. ends came        the ends came back: told to go, the rank attended by them, and told to stop, it did nothing
--     IsOf header script one          the thread's rank is one of this script
--     IsRankHandle inbox r .. one line  the caller's two lines are those of the thread, which was given the ends of rank r
--     AreOf, AreRankHandles             the same of each rank
--     IsToldToGo before now           its thread was told to go
--     IsSettled ..                    what arrived of a rank, and what came back to it
--     AreSettled ..                   the same of each rank
use Rattle.std.specs.Prelude.{◌≡◌, ℕ, List, [], ◌∷◌, ◌++◌, length, Option, Some, None, slice_get}
use mathlib.Core.List.{IsPrefix}
use Rattle.nc_base.specs.declared.header.Header.{Header}
use Rattle.nc_base.specs.declared.request.Call.{Call}
use Rattle.nc_base.specs.declared.run.RankEnd.{RankEnd}
use Rattle.nc_base.specs.declared.script.Script.{Script}
use Rattle.nc_base.specs.declared.step.OwnerItem.{OwnerItem}
use Rattle.nc_base.specs.declared.step.RankItem.{RankItem}
use Rattle.ruled_line.specs.Ends.{End, Line, items_under}
use Rattle.serial_spec.specs.History.{Arrival}
use Rattle.thread_run.specs.RankSides.{HasAttended}
use Rattle.turn_run.specs.Running.{calls_of}
use Rattle.thread_run.specs.declared.rank_handle.Ends.{Ends}
use Rattle.thread_run.specs.declared.rank_handle.RankHandle.{RankHandle}
use Rattle.thread_run.specs.declared.rank_handle.Returned.{Returned}
use Rattle.thread_run.specs.declared.rank_handle.Word.{Word}
use Rattle.thread_run.specs.declared.rank_handle.Word.TheVariants.{Go, Stop}

-- ---- the thread

pub record IsFresh (ends : Ends) : Type 0 where
  pub word : ends.word.items ≡ []
  pub out : ends.out.items ≡ []
  pub back : ends.back.items ≡ []

-- told to go, it attended, and told to stop, it did nothing
abbrev pub DidItsPart : Header → Script → ℕ → Ends → Option RankEnd → Type 0
DidItsPart header script r came (Some end) = (came.word.items ≡ Go ∷ []) × HasAttended header (calls_of script r) came.out.items came.back.items end
DidItsPart header script r came None = came.word.items ≡ Stop ∷ []

pub record HasReturned (header : Header) (script : Script) (ends : Ends) (came : Returned) : Type 0 where
  pub word : came.ends.word.of ≡ ends.word.of
  pub out : came.ends.out.of ≡ ends.out.of
  pub number : came.ends.out.number ≡ ends.out.number
  pub back : came.ends.back.of ≡ ends.back.of
  pub part : DidItsPart header script ends.out.number came.ends came.end

-- ---- the calling thread

pub record IsOf (header : Header) (script : Script) (one : RankHandle) : Type 0 where
  pub of_header : one.child.promise.header.value.now ≡ header
  pub of_script : one.child.promise.script.value.now ≡ script

pub record IsRankHandle (inbox : Line (ℕ × RankItem)) (r : ℕ) (words : List Word) (one : RankHandle) (line : End OwnerItem) : Type 0 where
  pub number : one.child.promise.ends.value.out.number ≡ r
  pub of_inbox : one.child.promise.ends.value.out.of ≡ inbox
  pub word : one.word.of ≡ one.child.promise.ends.value.word.of
  pub back : line.of ≡ one.child.promise.ends.value.back.of
  pub told : one.word.items ≡ words

abbrev pub AreOf : Header → Script → List RankHandle → Type 0
AreOf header script ones = (r : ℕ) (one : RankHandle) → slice_get ones r ≡ Some one → IsOf header script one

pub record AreRankHandles (inbox : Line (ℕ × RankItem)) (words : List Word) (ones : List RankHandle) (lines : List (End OwnerItem)) : Type 0 where
  pub long : length ones ≡ length lines
  pub each : (r : ℕ) (one : RankHandle) (line : End OwnerItem) → slice_get ones r ≡ Some one → slice_get lines r ≡ Some line → IsRankHandle inbox r words one line

pub record IsToldToGo (before now : RankHandle) : Type 0 where
  pub child : now.child ≡ before.child
  pub of : now.word.of ≡ before.word.of
  pub words : now.word.items ≡ before.word.items ++ Go ∷ []

-- ---- what came of a rank

-- of what it put so much arrived, and of what was put for it so much came back
pub record IsSettled (header : Header) (own : List Call) (arrived : List RankItem) (given : List OwnerItem) (end : RankEnd) : Type 0 where
  pub put : List RankItem
  pub taken : List OwnerItem
  pub attended : HasAttended header own put taken end
  pub arrived_of : IsPrefix arrived put
  pub came_back : IsPrefix taken given

abbrev pub IsSettledOf : RankHandle → List RankItem → List OwnerItem → RankEnd → Type 0
IsSettledOf one arrived given end =
    IsSettled one.child.promise.header.value.now (calls_of one.child.promise.script.value.now one.child.promise.ends.value.out.number) arrived given end

pub record AreSettled (arrivals : List Arrival) (ones : List RankHandle) (lines : List (End OwnerItem)) (ends : List RankEnd) : Type 0 where
  pub long : length ends ≡ length ones
  pub each : (r : ℕ) (one : RankHandle) (line : End OwnerItem) (end : RankEnd) → slice_get ones r ≡ Some one → slice_get lines r ≡ Some line → slice_get ends r ≡ Some end
      → IsSettledOf one (items_under r arrivals) line.items end
