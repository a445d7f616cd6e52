-- The owner's steps, as its disk, its order and its lines show them. (own; what it does at an arrival is Owner of serial_spec)
--     owner_of d file records     the owner that stands for what is held of each number, with a file and its count
--     run s d arrivals           what the owner does along arrivals, the stops at the end left out
--     event_calls, owner_calls    the device calls of an arrival, and of arrivals
--     each_told e                the marks of an event, each with the record count after it
--     owner_told s d arrivals     the same of all that the owner does along arrivals
--     Grows old more now         lines on which so much was put
--     Standing                   what can be seen of an owner
--     standing .. d out          what can be seen of a owner and the owner's outlets
--     first_standing .. n out    the same before anything arrived from n senders
--     HasDone hints s a b n      what can be seen went from one to the other by the arrival
--     HasRun hints s as b n      the same by arrivals, none of them strange
--     IsSteady header len x      what is held is fit to be done
use Rattle.std.specs.Prelude.{◌≡◌, ℕ, ◌<◌, ◌≤◌, List, [], ◌∷◌, ◌++◌, length, map, replicate, set, Bool, true, false, Option, Some, None, IfSome, slice_get}
use Rattle.std.specs.List.{list_all}
use Rattle.nc_base.specs.declared.answer.Pair.{Pair}
use Rattle.nc_base.specs.declared.header.Header.{Header}
use Rattle.nc_base.specs.declared.script.Hints.{Hints}
use Rattle.nc_base.specs.declared.step.DiskCall.{DiskCall}
use Rattle.nc_base.specs.declared.step.Mark.{Mark}
use Rattle.nc_base.specs.declared.step.MeetKind.{MeetKind}
use Rattle.nc_base.specs.declared.step.Offer.{Offer}
use Rattle.nc_base.specs.declared.step.OfferKind.{OfferKind}
use Rattle.nc_base.specs.declared.step.OfferKind.TheVariants as offer
use Rattle.nc_base.specs.declared.step.OwnerItem.{OwnerItem}
use Rattle.nc_base.specs.declared.step.OwnerItem.TheVariants.{Reply}
use Rattle.nc_base.specs.declared.step.RankItem.{RankItem}
use Rattle.nc_base.specs.declared.step.RankItem.TheVariants as item
use Rattle.nc_outside.specs.Told.{with_end}
use Rattle.nc_outside.specs.declared.disk.Disk.{Ghosts as DiskGhosts}
use Rattle.nc_outside.specs.declared.told.Told.{Ghosts as ToldGhosts}
use Rattle.ruled_line.specs.Ends.{End}
use Rattle.serial_spec.specs.Owner.{Owner, Event, Client, does_meeting, does_solo, event, free_client, given_along, holds, is_strange, offers_held, served}
use Rattle.serial_spec.specs.DeviceCalls.{meeting_calls, solo_calls}
pub use Rattle.serial_spec.specs.Owner.{IsSingleOffer, IsSingle, AreSingle}
use Rattle.serial_spec.specs.FileStep.{Setting}
use Rattle.serial_spec.specs.History.{Arrival}
use Rattle.collective_round.specs.Rounds.{counted}
use Rattle.join_laws.specs.Alike.{AreAlike}
use Rattle.turn_run.specs.Counts.{IsCount, IsFit}
use Rattle.turn_run.specs.Running.{reply_of}
use Rattle.file_owner.specs.declared.owner.Owner.{Owner as Held}
use Rattle.file_owner.specs.declared.lent.Outlets.{Outlets}

-- ---- what the owner does along arrivals

abbrev pub run : Setting → Owner → List Arrival → Event
run s d arrivals = record { owner = (served s d arrivals).owner; marks = (served s d arrivals).marks; given = given_along s d arrivals }

abbrev pub calls_if : Hints → Setting → Owner → List Client → Bool → List DiskCall
calls_if hints s d clients true = meeting_calls hints s (offers_held clients) d.state
calls_if hints s d clients false = []

-- of a number with its offer, which is of this kind
abbrev pub calls_at_offer : Hints → Setting → Owner → ℕ × Offer → Client → OfferKind → List DiskCall
calls_at_offer hints s d own x offer.Solo = solo_calls hints s own.0 own.1 d.state
calls_at_offer hints s d own x (offer.Meet kind) =
    let clients = set d.clients own.0 (record { held = Some own.1; ended = x.ended }) in calls_if hints s d clients (list_all holds clients)

abbrev pub calls_at : Hints → Setting → Owner → ℕ → RankItem → Option Client → List DiskCall
calls_at hints s d r i None = []
calls_at hints s d r (item.Ended memory) (Some x) = []
calls_at hints s d r (item.Offer c o) (Some x) = calls_at_offer hints s d (r, o) x o.kind

abbrev pub event_calls : Hints → Setting → Owner → Arrival → List DiskCall
event_calls hints s d a = calls_at hints s d a.0 a.1 (slice_get d.clients a.0)

abbrev pub owner_calls : Hints → Setting → Owner → List Arrival → List DiskCall
owner_calls hints s d [] = []
owner_calls hints s d (a ∷ arrivals) =
    elim (is_strange s d a) [ true ↦ [] | false ↦ event_calls hints s d a ++ owner_calls hints s (event s d a).owner arrivals ]

abbrev pub each_told : Event → List (Mark × ℕ)
each_told e = map (λ m. (m, e.owner.state.records)) e.marks

abbrev pub owner_told : Setting → Owner → List Arrival → List (Mark × ℕ)
owner_told s d [] = []
owner_told s d (a ∷ arrivals) = elim (is_strange s d a) [ true ↦ [] | false ↦ each_told (event s d a) ++ owner_told s (event s d a).owner arrivals ]

-- ---- offers that are held

abbrev pub HoldAll : (Offer → Type 0) → List Client → Type 0
HoldAll P clients = (r : ℕ) (x : Client) (o : Offer) → slice_get clients r ≡ Some x → x.held ≡ Some o → P o

abbrev pub HoldSingle : List Client → Type 0
HoldSingle clients = HoldAll IsSingleOffer clients

-- ---- what can be seen

-- each line has what it had, and then what was put on it
pub record Grows (old : List (End OwnerItem)) (more : ℕ → List OwnerItem) (now : List (End OwnerItem)) : Type 0 where
  pub long : length now ≡ length old
  pub each : (q : ℕ) (end : End OwnerItem) → slice_get old q ≡ Some end → slice_get now q ≡ Some (record { of = end.of; items = end.items ++ more q })

-- each number's reply after a meeting
abbrev pub replies : Option Pair → ℕ → List (List (List ℕ)) → ℕ → List OwnerItem
replies pair records table q = elim (slice_get table q) [ None ↦ [] | Some got ↦ Reply (reply_of pair records got) ∷ [] ]

-- what is held of each number, the meetings done and the greatest count needed; the disk and its count; the order, what was told of it, and the lines
pub record Standing : Type 0 where
  pub clients : List Client
  pub met : ℕ
  pub reached : ℕ
  pub records : ℕ
  pub told : Option (List ℕ)
  pub calls : Option (List DiskCall)
  pub order : List Mark
  pub heard : Option (List (Mark × ℕ))
  pub lines : List (End OwnerItem)

-- what stands beside a owner
abbrev pub standing_at : Held → ℕ → Option (List ℕ) → Option (List DiskCall) → Option (List (Mark × ℕ)) → List (End OwnerItem) → Standing
standing_at d records told calls heard lines =
    record { clients = d.clients.items; met = d.met; reached = d.reached; records = records; told = told; calls = calls; order = d.order; heard = heard; lines = lines }

-- the same by what an owner's steps change
abbrev pub standing : {D T : Type 0} → DiskGhosts D → ToldGhosts T → Held → Outlets D T → Standing
standing disk told d out = standing_at d out.records.now (disk.held out.disk.now) (disk.calls out.disk.now) (told.heard out.told.now) out.back.now

-- before anything arrived
abbrev pub opening_standing : ℕ → ℕ → Option (List ℕ) → Option (List DiskCall) → Option (List (Mark × ℕ)) → List (End OwnerItem) → Standing
opening_standing senders records told calls heard lines =
    record { clients = replicate senders free_client; met = 0; reached = records; records = records; told = told; calls = calls; order = []; heard = heard; lines = lines }

abbrev pub first_standing : {D T : Type 0} → DiskGhosts D → ToldGhosts T → ℕ → Outlets D T → Standing
first_standing disk told senders out = opening_standing senders out.records.now (disk.held out.disk.now) (disk.calls out.disk.now) (told.heard out.told.now) out.back.now

abbrev pub owner_of : Held → List ℕ → ℕ → Owner
owner_of d file records = record { clients = d.clients.items; met = d.met; state = counted file records; reached = d.reached }

abbrev pub owner_at : Standing → List ℕ → Owner
owner_at x file = record { clients = x.clients; met = x.met; state = counted file x.records; reached = x.reached }

-- whatever bytes the file has, the event leads from one to the other, up to the bytes that were given
pub record GoesAlike (e : Event) (told : List (Mark × ℕ)) (more : ℕ → List OwnerItem) (before now : Standing) : Type 0 where
  pub owner : e.owner ≡ owner_at now e.owner.state.file
  pub marks : now.order ≡ before.order ++ e.marks
  pub heard : now.heard ≡ with_end before.heard told
  pub given : (q : ℕ) → q < length before.lines → AreAlike (more q) (e.given q)

-- The bytes are told. The device calls are these where `once` holds.
pub record GoesSo (once : Type 0) (e : Event) (made : List DiskCall) (more : ℕ → List OwnerItem) (before now : Standing) : Type 0 where
  pub told : now.told ≡ Some e.owner.state.file
  pub given : (q : ℕ) → q < length before.lines → more q ≡ e.given q
  pub calls : once → now.calls ≡ with_end before.calls made

pub record HasMoved (once : Type 0) (to : List ℕ → Event) (told : List ℕ → List (Mark × ℕ)) (made : List ℕ → List DiskCall) (before now : Standing) : Type 0 where
  pub more : ℕ → List OwnerItem
  pub lines : Grows before.lines more now.lines
  pub alike : (file : List ℕ) → GoesAlike (to file) (told file) more before now
  pub exact : IfSome before.told (λ file. GoesSo once (to file) (made file) more before now)
  pub single : once → HoldSingle now.clients

-- ---- an arrival, and arrivals

-- one event, whose marks are told with the count after it
abbrev pub HasMovedOnce : Type 0 → (List ℕ → Event) → (List ℕ → List DiskCall) → Standing → Standing → Type 0
HasMovedOnce once to made before now = HasMoved once to (λ file. each_told (to file)) made before now

abbrev pub HasDone : Hints → Setting → Arrival → Standing → Standing → Type 0
HasDone hints s a before now =
    HasMovedOnce (HoldSingle before.clients × IsSingle a.1) (λ file. event s (owner_at before file) a) (λ file. event_calls hints s (owner_at before file) a) before now

-- an offer that a number makes alone at a call of it, and a meeting of all
abbrev pub IsAlone : Hints → Setting → ℕ → ℕ × Offer → Standing → Standing → Type 0
IsAlone hints s call own before now =
    HasMovedOnce (HoldSingle before.clients) (λ file. does_solo s (owner_at before file) own.0 call own.1) (λ file. solo_calls hints s own.0 own.1 (counted file before.records)) before now

abbrev pub IsTogether : Hints → Setting → Standing → Standing → Type 0
IsTogether hints s before now =
    HasMovedOnce (HoldSingle before.clients) (λ file. does_meeting s (owner_at before file) before.clients) (λ file. meeting_calls hints s (offers_held before.clients) (counted file before.records)) before now

pub record HasRun (hints : Hints) (s : Setting) (arrivals : List Arrival) (before now : Standing) : Type 0 where
  pub moved : HasMoved (HoldSingle before.clients × AreSingle arrivals) (λ file. run s (owner_at before file) arrivals) (λ file. owner_told s (owner_at before file) arrivals)
      (λ file. owner_calls hints s (owner_at before file) arrivals) before now
  pub none_strange : (file : List ℕ) → (served s (owner_at before file) arrivals).stranger ≡ None

-- ---- what is held

-- an offer of a meeting that a step takes
pub record IsHeld (header : Header) (len reached : ℕ) (o : Offer) : Type 0 where
  pub fit : IsFit header len o
  pub known : o.known ≤ reached
  pub meets : (kind : MeetKind) × (o.kind ≡ offer.Meet kind)

abbrev pub AreOfOneKind : List Client → Type 0
AreOfOneKind clients = (r q : ℕ) (x y : Client) (o p : Offer) → slice_get clients r ≡ Some x → slice_get clients q ≡ Some y → x.held ≡ Some o → y.held ≡ Some p → o.kind ≡ p.kind

-- the file has so many bytes
pub record IsSteady (header : Header) (len : ℕ) (x : Standing) : Type 0 where
  pub few : length x.clients ≤ 64
  pub one_each : length x.lines ≡ length x.clients
  pub count : IsCount header len x.records
  pub reached : IsCount header len x.reached
  pub below : x.records ≤ x.reached
  pub held : HoldAll (IsHeld header len x.reached) x.clients
  pub same : AreOfOneKind x.clients
