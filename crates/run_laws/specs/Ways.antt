-- A rank on its way through its calls, when a run has done an order of marks. (own)
--     meetings order            how many meetings the order has
--     marks_left, kinds_left    the marks and the kinds of meetings that are left to the rank where it stands
--     IsOnWay script order r s held    rank r stands at s, between two calls or with the offer that it holds in a meeting
--     AsksAlone .. r s o               it stands at s with an offer that it makes alone
use Rattle.std.specs.Prelude.{◌≡◌, ℕ, suc, ◌+◌, ◌*◌, ◌≤◌, List, [], ◌∷◌, ◌++◌, filter, drop, length, count_by, Bool, true, Option, Some, None, IfSome, is_some, is_none}
use Rattle.std.specs.List.{list_all}
use Rattle.nc_base.specs.declared.header.Header.{Header}
use Rattle.nc_base.specs.declared.request.Call.{Call}
use Rattle.nc_base.specs.declared.script.Script.{Script}
use Rattle.nc_base.specs.declared.step.Mark.{Mark}
use Rattle.nc_base.specs.declared.step.Mark.TheVariants.{Meet}
use Rattle.nc_base.specs.declared.step.MeetKind.{MeetKind}
use Rattle.nc_base.specs.declared.step.Offer.{Offer}
use Rattle.nc_base.specs.declared.step.Want.TheVariants as want
use Rattle.serial_spec.specs.RankMachine as machine
use Rattle.serial_spec.specs.RankMachine.{Open, status_of}
use Rattle.serial_spec.specs.SerialEnd.{Going}
use Rattle.serial_spec.specs.History.{kinds, marks, marks_from, concerns, is_meeting, kind_of_meeting}
use Rattle.serial_spec.specs.Lawful.{is_lawful_call, most_calls, most_parts, are_different, posted_ids}
use Rattle.run_laws.specs.Requests.{posts_held}

abbrev pub meetings : List Mark → ℕ
meetings order = count_by is_meeting order

-- the mode of the rank after the reply that it waits for
abbrev pub mode_heard : machine.Rank → Bool
mode_heard r = elim (r.«open») [ None ↦ r.independent | Some o ↦ o.independent ]

-- rank r at s, after k meetings; that in which it waits is the first left
abbrev pub marks_left : ℕ → ℕ → Going → Option Offer → List Mark
marks_left r k s None = marks_from r (length s.answers) k s.rank.independent s.calls
marks_left r k s (Some o) = Meet k ∷ marks_from r (suc (length s.answers)) (suc k) (mode_heard s.rank) s.calls

abbrev pub kind_of_offer : Offer → List MeetKind
kind_of_offer o = elim (kind_of_meeting o.kind) [ None ↦ [] | Some kind ↦ kind ∷ [] ]

abbrev pub kinds_left : Going → Option Offer → List MeetKind
kinds_left s None = kinds s.calls
kinds_left s (Some o) = kind_of_offer o ++ kinds s.calls

-- those of the first rank, which are those of each
abbrev pub kinds_of : Script → List MeetKind
kinds_of script = elim (script.calls) [ [] ↦ [] | own ∷ others ↦ kinds own ]

-- the calls before the one that is next
abbrev pub calls_done : Going → Option Offer → ℕ
calls_done s None = length s.answers
calls_done s (Some o) = suc (length s.answers)

-- the rank waits for the reply to the offer that it holds, and for none where it holds none
abbrev pub Waits : Option Open → Option Offer → Type 0
Waits None None = Unit {0}
Waits (Some w) (Some o) = w.gets ≡ o.batch.gets
Waits _ _ = ⊥

-- its posts to come have ids of their own
pub record AreNew (s : Going) : Type 0 where
  pub different : are_different (posted_ids s.calls) ≡ true
  pub fresh : list_all (λ id. is_none (status_of s.rank.posted id)) (posted_ids s.calls) ≡ true

pub record IsOnWay (script : Script) (order : List Mark) (r : ℕ) (s : Going) (held : Option Offer) : Type 0 where
  pub marks : filter (concerns r) order ++ marks_left r (meetings order) s held ≡ marks script.calls r
  pub kinds : kinds_left s held ≡ drop (meetings order) (kinds_of script)
  pub waits : Waits s.rank.«open» held
  pub meets : IfSome held (λ o. is_some (kind_of_meeting o.kind) ≡ true)
  pub lawful : list_all (is_lawful_call script.ranks r) s.calls ≡ true
  pub new : AreNew s
  pub few : calls_done s held + length s.calls ≤ most_calls
  pub posts : posts_held s.rank ≤ most_parts * calls_done s held

-- it waits with an offer that it makes alone
pub record AsksAlone (script : Script) (header : Header) (order : List Mark) (r : ℕ) (s : Going) (o : Offer) : Type 0 where
  pub before : machine.Rank
  pub call : Call
  pub way : IsOnWay script order r (record { rank = before; answers = s.answers; calls = call ∷ s.calls }) None
  pub step : (s.rank, want.Solo o) ≡ machine.step header before call
  pub few : posts_held s.rank ≤ posts_held before + most_parts
