-- What a call needs of the rank that makes it, and how many posts a rank holds. (own)
--     IsFresh rank call         a post has an id that was not posted before
--     IsShare call              the share of a filling is one of those of all ranks
--     posts_held rank           how many posts its pending requests have
use Rattle.std.specs.Prelude.{◌≡◌, ℕ, ◌<◌, ◌≤◌, map, sum, length, None}
use Rattle.nc_base.specs.declared.request.Call.{Call}
use Rattle.nc_base.specs.declared.request.Call.TheVariants as call
use Rattle.serial_spec.specs.RankMachine as machine
use Rattle.serial_spec.specs.RankMachine.{Status, Waiting, status_of}

abbrev pub IsFresh : machine.Rank → Call → Type 0
IsFresh r (call.Post id kind name given values) = status_of r.posted id ≡ None
IsFresh r _ = Unit {0}

abbrev pub IsShare : Call → Type 0
IsShare (call.FillRec name number share ranks) = (share < ranks) × (ranks ≤ 64)
IsShare _ = Unit {0}

abbrev pub posts_of_status : Status → ℕ
posts_of_status (Waiting kind posts) = length posts
posts_of_status _ = 0

abbrev pub posts_held : machine.Rank → ℕ
posts_held r = sum (map (λ p. posts_of_status p.status) r.posted)
