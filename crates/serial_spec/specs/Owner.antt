-- The owner of the file, as arrivals come one by one: what it holds of each number, and what it does at an arrival. (own)
--     event s owner a                 the owner after an arrival, its mark if it brings one, and what each number is given
--     is_strange s owner a            no rank of a script makes this arrival
--     AreSingle arrivals             none of them both raises the count by its kind and brings puts
--     served s owner arrivals         the end of a run of the owner
--     owed s owner arrivals q         what number q is given in that run: replies, then stops
--     IsGivenInPart ..               what a number is given in a run that a fault cuts off
use Rattle.std.specs.Prelude.{◌≡◌, ℕ, suc, ◌+◌, ◌*◌, ◌^◌, max, List, [], ◌∷◌, ◌++◌, map, filter, filter_map, flat_map, length, replicate, set, Bool, true, false, not, ◌&&◌, ◌||◌, nat_lt, nat_le, ◌==◌, Option, Some, None, is_some, slice_get, option_and_then}
use Rattle.std.specs.List.{list_any, list_all, enumerate_from}
use Rattle.nc_base.specs.declared.header.Header.{Header}
use Rattle.nc_base.specs.declared.request.Direction.{Direction}
use Rattle.nc_base.specs.declared.request.Direction.TheVariants as way
use Rattle.nc_base.specs.declared.plan.Post.{Post}
use Rattle.nc_base.specs.declared.step.Offer.{Offer}
use Rattle.nc_base.specs.declared.step.OfferKind.{OfferKind}
use Rattle.nc_base.specs.declared.step.OfferKind.TheVariants as offer
use Rattle.nc_base.specs.declared.step.MeetKind.{MeetKind}
use Rattle.nc_base.specs.declared.step.Mark.{Mark}
use Rattle.nc_base.specs.declared.step.Mark.TheVariants.{Meet, Solo}
use Rattle.nc_base.specs.declared.step.RankItem.{RankItem}
use Rattle.nc_base.specs.declared.step.RankItem.TheVariants as item
use Rattle.nc_base.specs.declared.step.OwnerItem.{OwnerItem}
use Rattle.nc_base.specs.declared.step.OwnerItem.TheVariants.{Reply, Stop}
use Rattle.nc_base.specs.declared.step.Reply as reply
use Rattle.serial_spec.specs.ExternalForm.{size_of}
use Rattle.serial_spec.specs.Layout.{product}
use Rattle.serial_spec.specs.RegionCheck.{check, is_ok_code}
use Rattle.serial_spec.specs.SharedByte.{Puts}
use Rattle.serial_spec.specs.FileStep.{Setting, Counted, puts_of, told, needs, raises, meeting, solo}
use Rattle.serial_spec.specs.Lists.{In}
use Rattle.serial_spec.specs.History.{Arrival, offer_of, kind_number, kind_of_meeting, meeting_kind, is_from, is_offer}

-- ---- the owner

-- one number: the meeting offer that is held, and whether it ended, and then for want of memory
pub record Client : Type 0 where
  pub held : Option Offer
  pub ended : Option Bool

-- the numbers, the meetings done, the file and its count, and the greatest count that a step has needed
pub record Owner : Type 0 where
  pub clients : List Client
  pub met : ℕ
  pub state : Counted
  pub reached : ℕ

pub record Event : Type 0 where
  pub owner : Owner
  pub marks : List Mark
  pub given : ℕ → List OwnerItem

abbrev pub holds : Client → Bool
holds x = is_some x.held

abbrev pub offers_held : List Client → List Offer
offers_held clients = filter_map (λ x. x.held) clients

abbrev pub freed : Client → Client
freed x = record { held = None; ended = x.ended }

abbrev pub free_client : Client
free_client = record { held = None; ended = None }

-- before anything arrived
abbrev pub first_owner : List Client → Counted → Owner
first_owner clients c = record { clients = clients; met = 0; state = c; reached = c.records }

-- ---- what an arrival brings

abbrev pub to_one : ℕ → reply.Reply → ℕ → List OwnerItem
to_one r y q = elim (q == r) [ true ↦ Reply y ∷ [] | false ↦ [] ]

abbrev pub to_each : List reply.Reply → ℕ → List OwnerItem
to_each ys q = elim (slice_get ys q) [ None ↦ [] | Some y ↦ Reply y ∷ [] ]

-- the count that the puts of a step need
abbrev pub needed_now : Setting → Puts → ℕ
needed_now s puts = needs s puts (told s puts)

-- the clients change, and nothing is done
abbrev pub keeps : Owner → List Client → Event
keeps d clients = record { owner = record { clients = clients; met = d.met; state = d.state; reached = d.reached }; marks = []; given = λ q. [] }

abbrev pub does_solo : Setting → Owner → ℕ → ℕ → Offer → Event
does_solo s d r c o = record {
  owner = record { clients = d.clients; met = d.met; state = (solo s r o d.state).0; reached = max d.reached (needed_now s (puts_of (r, o))) };
  marks = Solo r c ∷ [];
  given = to_one r (solo s r o d.state).1;
}

-- all clients hold an offer
abbrev pub does_meeting : Setting → Owner → List Client → Event
does_meeting s d clients = record {
  owner = record {
    clients = map freed clients;
    met = suc d.met;
    state = (meeting s (offers_held clients) d.state).0;
    reached = max d.reached (needed_now s (flat_map puts_of (enumerate_from 0 (offers_held clients))));
  };
  marks = Meet d.met ∷ [];
  given = to_each (meeting s (offers_held clients) d.state).1;
}

abbrev pub meets_if : Setting → Owner → List Client → Bool → Event
meets_if s d clients true = does_meeting s d clients
meets_if s d clients false = keeps d clients

abbrev pub at_offer : Setting → Owner → ℕ → ℕ → Offer → Client → OfferKind → Event
at_offer s d r c o x offer.Solo = does_solo s d r c o
at_offer s d r c o x (offer.Meet kind) =
    let clients = set d.clients r (record { held = Some o; ended = x.ended }) in meets_if s d clients (list_all holds clients)

abbrev pub at_item : Setting → Owner → ℕ → Client → RankItem → Event
at_item s d r x (item.Offer c o) = at_offer s d r c o x o.kind
at_item s d r x (item.Ended memory) = keeps d (set d.clients r (record { held = x.held; ended = Some memory }))

abbrev pub event_at : Setting → Owner → Arrival → Option Client → Event
event_at s d a None = keeps d d.clients
event_at s d a (Some x) = at_item s d a.0 x a.1

-- the offers of the step that the arrival brings, with their ranks; none where it brings no step
abbrev pub offers_met : List Client → Bool → List (ℕ × Offer)
offers_met clients true = enumerate_from 0 (offers_held clients)
offers_met clients false = []

abbrev pub offers_at : Owner → ℕ → Offer → Client → OfferKind → List (ℕ × Offer)
offers_at d r o x offer.Solo = (r, o) ∷ []
offers_at d r o x (offer.Meet kind) =
    let clients = set d.clients r (record { held = Some o; ended = x.ended }) in offers_met clients (list_all holds clients)

abbrev pub step_offers : Owner → Arrival → List (ℕ × Offer)
step_offers d (r, item.Ended memory) = []
step_offers d (r, item.Offer c o) = elim (slice_get d.clients r) [ None ↦ [] | Some x ↦ offers_at d r o x o.kind ]

-- It stays closed where no proof opens it, as do the tests below, so that goals stay short.
unfoldable pub event : Setting → Owner → Arrival → Event
event s d a = event_at s d a (slice_get d.clients a.0)

-- ---- strange arrivals

abbrev pub same_kind : MeetKind → MeetKind → Bool
same_kind a b = kind_number (Some a) == kind_number (Some b)

abbrev pub differs : Option MeetKind → Option MeetKind → Bool
differs (Some a) (Some b) = not (same_kind a b)
differs _ _ = false

abbrev pub kind_held : Client → Option MeetKind
kind_held x = option_and_then (λ o. kind_of_meeting o.kind) x.held

abbrev pub has_ended : Option Client → Bool
has_ended None = true
has_ended (Some x) = is_some x.ended

abbrev pub has_held : Option Client → Bool
has_held None = false
has_held (Some x) = holds x

-- it ended, not for want of memory, and has no offer without a mark
abbrev pub left_by : Option Offer → Option Bool → Bool
left_by None (Some memory) = not memory
left_by None None = false
left_by (Some o) ended = false

abbrev pub has_left : Client → Bool
has_left x = left_by x.held x.ended

-- some number has left, while the offer of another one is held
abbrev pub left_behind : List Client → Bool
left_behind clients = list_any has_left clients && list_any holds clients

-- a put of the offer has not the bytes of its elements
abbrev pub wrong_length : Header → Post → Bool
wrong_length header post =
    elim (slice_get header.vars post.var) [
      | None ↦ true
      | Some var ↦ not (length post.bytes == product post.region.count * size_of var.kind)
    ]

abbrev pub refused : Header → ℕ → Direction → Post → Bool
refused header known way post = not (is_ok_code (check header post.var post.region known way))

abbrev pub bad_batch : Header → Offer → Bool
bad_batch header o =
    list_any (λ p. refused header o.known way.Put p || wrong_length header p) o.batch.puts
    || list_any (λ p. refused header o.known way.Get p) o.batch.gets
    || nat_le (2 ^ 32) (length o.batch.puts + length o.batch.gets)

-- it knows a count that no step has reached, or its batch is none
unfoldable pub strange_offer : Header → ℕ → Option Offer → Bool
strange_offer header reached None = false
strange_offer header reached (Some o) = nat_lt reached o.known || bad_batch header o

abbrev pub some_true : List Bool → Bool
some_true tests = list_any (λ t. t) tests

-- Its number has ended, or it is an offer while an earlier one is held; or it meets otherwise than a held offer; or with it
-- a number has left while another one's offer is held; or it knows or asks what no rank does.
unfoldable pub is_strange : Setting → Owner → Arrival → Bool
is_strange s d a =
    some_true (
    has_ended (slice_get d.clients a.0)
    ∷ (is_offer a.1 && has_held (slice_get d.clients a.0))
    ∷ list_any (λ y. differs (kind_held y) (meeting_kind a.1)) d.clients
    ∷ left_behind (event s d a).owner.clients
    ∷ strange_offer s.header d.reached (offer_of a.1)
    ∷ [])

-- ---- arrivals that don't both raise the count by their kind and bring puts, as no rank's do

abbrev pub IsSingleOffer : Offer → Type 0
IsSingleOffer o = raises o.kind ≡ true → o.batch.puts ≡ []

abbrev pub IsSingle : RankItem → Type 0
IsSingle (item.Offer c o) = IsSingleOffer o
IsSingle (item.Ended memory) = Unit {0}

abbrev pub AreSingle : List Arrival → Type 0
AreSingle arrivals = (a : Arrival) → In arrivals a → IsSingle a.1

-- ---- a run

-- where the owner stands: the owner, the marks done, and the number of the first strange arrival
pub record Ending : Type 0 where
  pub owner : Owner
  pub marks : List Mark
  pub stranger : Option ℕ

-- Nothing is done from a strange arrival on.
abbrev pub served : Setting → Owner → List Arrival → Ending
served s d [] = record { owner = d; marks = []; stranger = None }
served s d (a ∷ arrivals) =
    elim (is_strange s d a) [
      | true ↦ record { owner = d; marks = []; stranger = Some a.0 }
      | false ↦
          let later = served s (event s d a).owner arrivals in
          record { owner = later.owner; marks = (event s d a).marks ++ later.marks; stranger = later.stranger }
    ]

abbrev pub own_items : ℕ → List Arrival → List RankItem
own_items q arrivals = map (λ a. a.1) (filter (is_from q) arrivals)

-- a held offer gets a stop
abbrev pub stop_held : Option Client → List OwnerItem
stop_held None = []
stop_held (Some x) = elim x.held [ None ↦ [] | Some o ↦ Stop ∷ [] ]

-- each offer without a mark gets a stop
abbrev pub stops : Owner → List Arrival → ℕ → List OwnerItem
stops d arrivals q = stop_held (slice_get d.clients q) ++ map (λ i. Stop) (filter is_offer (own_items q arrivals))

abbrev pub owed : Setting → Owner → List Arrival → ℕ → List OwnerItem
owed s d [] q = stops d [] q
owed s d (a ∷ arrivals) q =
    elim (is_strange s d a) [
      | true ↦ stops d (a ∷ arrivals) q
      | false ↦ (event s d a).given q ++ owed s (event s d a).owner arrivals q
    ]

-- ---- a run as it goes on

-- what number q is given along arrivals, the stops at the end left out
abbrev pub given_along : Setting → Owner → List Arrival → ℕ → List OwnerItem
given_along s d [] q = []
given_along s d (a ∷ arrivals) q =
    elim (is_strange s d a) [ true ↦ [] | false ↦ (event s d a).given q ++ given_along s (event s d a).owner arrivals q ]

-- no stop is among them
abbrev pub OnlyReplies : List OwnerItem → Type 0
OnlyReplies [] = Unit {0}
OnlyReplies (Reply y ∷ items) = OnlyReplies items
OnlyReplies (Stop ∷ items) = ⊥

abbrev pub offers_in : List RankItem → ℕ
offers_in items = length (filter is_offer items)

-- Where a fault cuts a run off after the arrivals `first`, number q is given some of its replies along them, from the
-- front, and a stop for each of its other offers, those that arrive later among them.
pub record IsGivenInPart (s : Setting) (d : Owner) (first later : List Arrival) (q : ℕ) (given : List OwnerItem) : Type 0 where
  pub replies : List OwnerItem
  pub unheard : List OwnerItem
  pub stopped : ℕ
  pub begins : replies ++ unheard ≡ given_along s d first q
  pub whole : given ≡ replies ++ replicate stopped Stop
  pub one_each : length given ≡ offers_in (own_items q (first ++ later))
