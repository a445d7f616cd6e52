-- A run of all ranks with one owner: what the two sides have in common. (own)
--     IsAgreed script               the ranks' meetings agree
--     run_of script header file a   what the owner does along the arrivals
--     back_of .. r                  what number r is given along them
--     IsJoined script ..            each number's arrivals are what its rank puts for what the owner gives it
--     IsTied script ..              what the two sides and the ends of the lines tell, each by itself
--     rank_ends                     the ranks at their ends
use Rattle.std.specs.Prelude.{◌≡◌, ℕ, ◌^◌, ◌<◌, List, [], ◌∷◌, ◌++◌, map, replicate, length, Some, slice_get, IsTrue, nat_lt}
use Rattle.std.specs.List.{list_all, enumerate_from}
use Rattle.nc_base.specs.declared.header.Header.{Header}
use Rattle.nc_base.specs.declared.script.Script.{Script}
use Rattle.nc_base.specs.declared.request.Call.{Call}
use Rattle.nc_base.specs.declared.step.MeetKind.{MeetKind}
use Rattle.nc_base.specs.declared.step.OwnerItem.{OwnerItem}
use Rattle.nc_base.specs.declared.step.RankItem.{RankItem}
use Rattle.nc_base.specs.declared.step.RankItem.TheVariants as item
use Rattle.serial_spec.specs.History.{Arrival, kinds}
pub use Rattle.serial_spec.specs.SerialEnd.{close_by}
use Rattle.serial_spec.specs.SerialEnd.{Going, setting_of, first_going}
use Rattle.serial_spec.specs.Owner.{Owner, Ending, free_client, first_owner, owed, own_items, offers_in, served}
use Rattle.serial_spec.specs.RankSide.{offered, rank_end}

abbrev pub opening_owner : Script → Header → List ℕ → Owner
opening_owner script header file = first_owner (replicate (length script.calls) free_client) (record { file = file; records = header.records })

abbrev pub run_of : Script → Header → List ℕ → List Arrival → Ending
run_of script header file arrivals = served (setting_of script header) (opening_owner script header file) arrivals

abbrev pub back_of : Script → Header → List ℕ → List Arrival → ℕ → List OwnerItem
back_of script header file arrivals r = owed (setting_of script header) (opening_owner script header file) arrivals r

-- The ranks' meetings agree, there is a rank, and none has 2^32 calls.
pub record IsAgreed (script : Script) : Type 0 where
  pub some_rank : 0 < script.ranks
  pub one_list_each : length script.calls ≡ script.ranks
  pub meetings : List MeetKind
  pub agree : (r : ℕ) (own : List Call) → slice_get script.calls r ≡ Some own → kinds own ≡ meetings
  pub few : (r : ℕ) (own : List Call) → slice_get script.calls r ≡ Some own → length own < 2 ^ 32

pub record IsJoined (script : Script) (header : Header) (file : List ℕ) (arrivals : List Arrival) : Type 0 where
  pub numbers : IsTrue (list_all (λ a. nat_lt a.0 script.ranks) arrivals)
  pub each : (r : ℕ) (own : List Call) → slice_get script.calls r ≡ Some own
      → own_items r arrivals ≡ offered header (first_going header own) (back_of script header file arrivals r)

-- ---- what the two sides tell by themselves

-- an end stands in the list
abbrev pub HasEnd : List RankItem → Type 0
HasEnd [] = ⊥
HasEnd (item.Ended memory ∷ items) = Unit {0}
HasEnd (item.Offer c o ∷ items) = HasEnd items

-- Each rank put what the items that it took make it put, and took one for each offer; the owner met each number's end,
-- and gave each number what the arrivals make it give; and each end tells that a prefix came through.
pub record IsTied (script : Script) (header : Header) (file : List ℕ) (arrivals : List Arrival) (put : ℕ → List RankItem) (taken : ℕ → List OwnerItem) : Type 0 where
  pub numbers : IsTrue (list_all (λ a. nat_lt a.0 script.ranks) arrivals)
  pub puts : (r : ℕ) (own : List Call) → slice_get script.calls r ≡ Some own → put r ≡ offered header (first_going header own) (taken r)
  pub one_each : (r : ℕ) (own : List Call) → slice_get script.calls r ≡ Some own → length (taken r) ≡ offers_in (put r)
  pub ended : (r : ℕ) (own : List Call) → slice_get script.calls r ≡ Some own → HasEnd (own_items r arrivals)
  pub arrived : (r : ℕ) (own : List Call) → slice_get script.calls r ≡ Some own → (more : List RankItem) × (own_items r arrivals ++ more ≡ put r)
  pub came_back : (r : ℕ) (own : List Call) → slice_get script.calls r ≡ Some own → (more : List OwnerItem) × (taken r ++ more ≡ back_of script header file arrivals r)

-- ---- the end

abbrev pub rank_ends : Script → Header → List ℕ → List Arrival → List Going
rank_ends script header file arrivals =
    map (λ p. rank_end header (first_going header p.1) (back_of script header file arrivals p.0))
    (enumerate_from 0 script.calls)
