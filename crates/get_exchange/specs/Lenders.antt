-- Lenders of blobs. (own)
--     round_of window       the round of a window, where there is one
--     wanted_by lender      the round of the window for which a blob can be lent
--     IsReady lender        where there is a window, those behind it are a walk that can go on
--     AreReady lenders      so of each
use Rattle.std.specs.Prelude.{◌≡◌, ℕ, List, None, Option, Some, IfSome, if◌then◌else◌, slice_get}
use Rattle.file_domains.specs.Rounds.{IsWalk}
use Rattle.file_domains.specs.declared.walk.Window.{Window}
use Rattle.get_exchange.specs.declared.buffers.Lender.{Lender}

abbrev pub round_of : Option Window → Option ℕ
round_of None = None
round_of (Some w) = Some w.round

abbrev pub wanted_by : Lender → Option ℕ
wanted_by lender = if lender.lent then None else round_of lender.next

abbrev pub IsReady : Lender → Type 0
IsReady lender = IfSome lender.next (λ _. IsWalk lender.windows)

abbrev pub AreReady : List Lender → Type 0
AreReady lenders = (k : ℕ) (lender : Lender) → slice_get lenders k ≡ Some lender → IsReady lender
