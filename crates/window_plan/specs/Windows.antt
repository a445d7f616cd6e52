-- Windows as they are planned. (own; the windows' hulls and calls are those of serial_spec)
--     told_plan w                    a window by its hull: first byte, length, whether it has no hole
--     put_calls w, get_calls w       the device calls of a window
--     owner_in hull o                the bytes of a hull that an entry has, of its rank, if there are any
--     owners_in hull list            those of all entries
--     bytes_for rank owners          how many bytes a rank has, each as often as it stands there
--     share_of owners rank           the same as a number of 64 bits, the greatest of them where it is more
--     ranks_in owners                how many ranks there are up to the last one that has bytes
--     shares_in owners               what each rank has, in order of ranks, of those that have something
--     plan_of w list                 a window with what of it is whose
--     AreShared list ws              of each window it is told whose its bytes are, by the entries of a list
use Rattle.std.specs.Prelude.{◌≡◌, ℕ, ◌+◌, ◌-◌, ◌^◌, max, min, List, [], ◌∷◌, flat_map, Bool, nat_lt, ◌==◌, if◌then◌else◌}
use Rattle.std.specs.List.{range_with_len}
use Rattle.nc_base.specs.declared.plan.Extent.{Extent}
use Rattle.nc_base.specs.declared.plan.Owned.{Owned}
use Rattle.nc_base.specs.declared.step.DiskCall.{DiskCall}
use Rattle.file_domains.specs.declared.walk.Window.{Window}
use Rattle.overlay_laws.specs.Changes.{load_calls, store_calls}
use Rattle.overlay_laws.specs.Entries.{In}
use Rattle.window_plan.specs.declared.plan.Owner.{Owner}
use Rattle.window_plan.specs.declared.plan.Share.{Share}
use Rattle.window_plan.specs.declared.plan.WindowPlan.{WindowPlan}

abbrev pub told_plan : WindowPlan → ℕ × ℕ × Bool
told_plan w = (w.hull.at, w.hull.len, w.full)

abbrev pub put_calls : WindowPlan → List DiskCall
put_calls w = store_calls (told_plan w)

abbrev pub get_calls : WindowPlan → List DiskCall
get_calls w = load_calls (told_plan w)

-- ---- whose the bytes are

abbrev pub owner_between : ℕ → ℕ → ℕ → List Owner
owner_between rank at stop = if nat_lt at stop then record { rank = rank; extent = record { at = at; len = stop - at } } ∷ [] else []

abbrev pub owner_in : Extent → Owned → List Owner
owner_in hull o = owner_between o.rank (max o.extent.at hull.at) (min (o.extent.at + o.extent.len) (hull.at + hull.len))

abbrev pub owners_in : Extent → List Owned → List Owner
owners_in hull list = flat_map (owner_in hull) list

abbrev pub own_bytes : ℕ → Owner → ℕ
own_bytes rank o = if o.rank == rank then o.extent.len else 0

abbrev pub bytes_for : ℕ → List Owner → ℕ
bytes_for rank [] = 0
bytes_for rank (o ∷ owners) = own_bytes rank o + bytes_for rank owners

abbrev pub share_of : List Owner → ℕ → ℕ
share_of owners rank = min (bytes_for rank owners) (2 ^ 64 - 1)

abbrev pub share_if : ℕ → ℕ → List Share
share_if rank bytes = if nat_lt 0 bytes then record { rank = rank; bytes = bytes } ∷ [] else []

abbrev pub some_share : List Owner → ℕ → List Share
some_share owners rank = share_if rank (share_of owners rank)

abbrev pub ranks_in : List Owner → ℕ
ranks_in [] = 0
ranks_in (o ∷ owners) = max (o.rank + 1) (ranks_in owners)

abbrev pub shares_in : List Owner → List Share
shares_in owners = flat_map (some_share owners) (range_with_len 0 (ranks_in owners))

-- ---- windows

abbrev pub plan_of : Window → List Owned → WindowPlan
plan_of w list = record { hull = w.hull; full = w.full; owners = owners_in w.hull list }

abbrev pub AreShared : List Owned → List WindowPlan → Type 0
AreShared list ws = (w : WindowPlan) → In ws w → w.owners ≡ owners_in w.hull list
