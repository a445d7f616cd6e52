-- A rank at its offer: what it waits for, and its way after the reply.
use Rattle.thread_run.proofs.Words.{◌≡◌, ℕ, ◌<◌, ap, subst, ◌∙◌, List, [], ◌∷◌, ◌++◌, length, map, Bool, true, Option, Some, None, append_assoc, arith, slice_get, is_some, IfSome, bytes_eq-Decides, at_in, and_first, Header, Var, Answer, Call, Direction, Region, Script, Mark, Meet, Solo, Offer, OfferKind, is_lawful, most_calls, Open, hear, fits_offer, wanted, check_some, Going, advance, first_going, hears, fits_gets, IsSoundOffer, HasOwnElements, own_elements, IsOnWay, meetings, Keeps, ranks_lawful, call_number, call_waits, way_begins, way_hears, IsAsked, asking, between, calls_of, going_of, HasHeard, IsPlaced, IsPlacedWith, first_runner, Runner, alone_waits, going_held, alone_heard, answered_is, heard_runner, entry_below, nat_tests, OwnerItem, RankItem, refl, IsAccounted, HasStood, Result, RankStop, Memory}
use Rattle.nc_base.specs.declared.answer.Code.TheVariants as code
use Rattle.nc_base.specs.declared.step.OfferKind.TheVariants as offer
use Rattle.nc_base.specs.declared.step.RankItem.TheVariants as item
use Rattle.nc_base.specs.declared.step.Reply.{Reply}
use Rattle.thread_run.proofs.AttendLaws.{accounted_held}

-- ---- before the first call

pub first_between : (header : Header) (own : List Call) (runner : Runner) → runner ≡ first_runner header header.records → between own runner ≡ first_going header own
first_between header own runner e = ap (λ (s : Runner). between own s) e

pub first_way : (script : Script) (header : Header) (r : ℕ) (own : List Call) (runner : Runner) → is_lawful script ≡ true → r < script.ranks → own ≡ calls_of script r
    → runner ≡ first_runner header header.records → IsOnWay script [] r (between own runner) None
first_way script header r own runner lawful below e f =
    grind (arith, nat_tests, ranks_lawful script lawful, entry_below script.calls r, first_between header own runner f, way_begins script header r)

-- its answers begin those at its first offer
pub first_some : (header : Header) (own calls : List Call) (runner : Runner) (answers : List Answer) → own ≡ calls → runner ≡ first_runner header header.records
    → (rest : List Answer) × (answers ++ rest ≡ (advance header (between own runner)).0.answers) → (rest : List Answer) × (answers ++ rest ≡ (advance header (first_going header calls)).0.answers)
first_some header own calls runner answers e f (rest, h) = grind (arith, nat_tests, first_between)

-- and after a reply, those at its next
pub later_some : (header : Header) (own : List Call) (before mid : Runner) (reply : Reply) (answers : List Answer) → before.rank.header ≡ header → HasHeard before mid reply
    → (rest : List Answer) × (answers ++ rest ≡ (advance header (between own mid)).0.answers)
    → (rest : List Answer) × (answers ++ rest ≡ (advance header (hears header (asking own before) reply)).0.answers)
later_some header own before mid reply answers e heard (rest, h) = grind (arith, nat_tests, heard_runner)

-- ---- at an offer

placed_held : (script : Script) (header : Header) (order : List Mark) (r : ℕ) (own : List Call) (runner : Runner) (o : Offer) → runner.held ≡ Some o
    → IsPlaced script header order r (going_of own runner) runner.held → IsPlacedWith script header order r (asking own runner, o) o.kind
placed_held script header order r own runner o e w = grind (arith, nat_tests, going_held)

pub placed_number : (script : Script) (header : Header) (order : List Mark) (r : ℕ) (s : Going) (o : Offer) → IsPlacedWith script header order r (s, o) o.kind
    → length s.answers < most_calls
placed_number script header order r s o w = grind (arith, nat_tests, call_number)

-- ---- after its reply

pub placed_heard : (script : Script) (header : Header) (order : List Mark) (r : ℕ) (own : List Call) (before now : Runner) (o : Offer) (reply : Reply) → before.rank.header ≡ header
    → IsPlacedWith script header order r (asking own before, o) o.kind → HasHeard before now reply → (later : List Mark) × IsOnWay script later r (between own now) None
placed_heard script header order r own before now o reply e w h = by o.kind w
  where
    said : (now.rank.state, h.answer) ≡ hear header before.rank.state reply
    said = h.heard ∙ ap (λ (k : Header). hear k before.rank.state reply) e

    by : (k : OfferKind) → IsPlacedWith script header order r (asking own before, o) k → (later : List Mark) × IsOnWay script later r (between own now) None
    by offer.Solo way = (order ++ Solo r (length before.answers) ∷ [], alone_heard script header order r own before now o reply e way h)
    by (offer.Meet kind) way = (
      order ++ Meet (meetings order) ∷ [],
      subst (λ (s : Going). IsOnWay script (order ++ Meet (meetings order) ∷ []) r s None)
          (answered_is own before.rank.state now.rank.state before.answers now.answers h.answer h.answers)
          (way_hears script order r header (asking own before) now.rank.state o reply h.answer way said),
    )

-- ---- a reply that fits

fits_is : (m : Option Open) (header same : Header) (o : Offer) (reply : Reply) (fits : Bool) → same ≡ header → Keeps m o
    → IfSome m (λ w. fits ≡ fits_gets same w.gets reply) → fits ≡ fits_offer header o reply
fits_is m header same o reply fits e keeps h = grind (arith, nat_tests)

pub fits_long : (header : Header) (o : Offer) (reply : Reply) → fits_offer header o reply ≡ true → map (λ (blob : List ℕ). length blob) reply.got ≡ map (wanted header) o.batch.gets
fits_long header o reply fits = grind (arith, nat_tests, bytes_eq-Decides, and_first)

-- ---- the puts of an offer

var_known : (m : Option Var) (header : Header) (g : Region) (known : ℕ) (direction : Direction) → check_some header m g known direction ≡ code.Ok → is_some m ≡ true
var_known m header g known direction e = grind (arith, nat_tests)

pub own_puts : (header : Header) (o : Offer) → IsSoundOffer header o → HasOwnElements o.batch.puts
own_puts header o h =
    own_elements header o.batch.puts 0 (λ i p e. var_known (slice_get header.vars p.var) header p.region o.known _ (h.puts p (at_in o.batch.puts i p e)).accepted) (h.own 0)

pub asked_own : (header : Header) (known : ℕ) (m : Option Offer) (o : Offer) → m ≡ Some o → IfSome m (IsAsked header known) → HasOwnElements o.batch.puts
asked_own header known m o e h = grind (arith, nat_tests, own_puts)

-- ---- items that come behind others

pub items_more : {X : Type 0} (first mid now some : List X) (x y : X) → mid ≡ first ++ some → now ≡ mid ++ x ∷ [] → x ≡ y → now ≡ first ++ (some ++ y ∷ [])
items_more {X} first mid now some x y e f g = grind (arith, nat_tests, append_assoc)

-- one item more was put, and one more taken
pub one_each : (out : List RankItem) (from : List OwnerItem) (put : List RankItem) (taken : List OwnerItem) (x : OwnerItem) {mid now : List RankItem} {back last : List OwnerItem} {i j : RankItem}
    (P : List RankItem → List OwnerItem → Type 0)
    → mid ≡ out ++ put → back ≡ from ++ taken → now ≡ mid ++ i ∷ [] → i ≡ j → last ≡ back ++ x ∷ [] → P (put ++ j ∷ []) (taken ++ x ∷ [])
    → (p : List RankItem) × (t : List OwnerItem) × (now ≡ out ++ p) × (last ≡ from ++ t) × P p t
one_each out from put taken x {mid} {now} {back} {last} {i} {j} P e f g same h p =
    (put ++ j ∷ [], taken ++ x ∷ [], items_more out mid now put i j e g same, items_more from back last taken x x f h refl, p)

-- ---- at an offer that it holds, by all that it put and took so far

pub record AtOffer (script : Script) (header : Header) (r : ℕ) (own : List Call) (out mid : List RankItem) (from back : List OwnerItem) (runner : Runner) (o : Offer) : Type 0 where
  pub order : List Mark
  pub placed : IsPlacedWith script header order r (asking own runner, o) o.kind
  pub waits : Keeps runner.rank.state.«open» o
  pub fits : (reply : Reply) (t : Bool) → IfSome runner.rank.state.«open» (λ w. t ≡ fits_gets runner.rank.header w.gets reply) → t ≡ fits_offer header o reply
  pub put : List RankItem
  pub taken : List OwnerItem
  pub sent : mid ≡ out ++ put
  pub came : back ≡ from ++ taken
  pub account : IsAccounted header own put taken (asking own runner, Some o)

pub at_offer : (script : Script) (header : Header) (r : ℕ) (own : List Call) (out mid : List RankItem) (from back : List OwnerItem) (runner : Runner) (o : Offer) → runner.rank.header ≡ header
    → runner.held ≡ Some o → ((order : List Mark) × IsPlaced script header order r (going_of own runner) runner.held)
    → ((put : List RankItem) × (taken : List OwnerItem) × (mid ≡ out ++ put) × (back ≡ from ++ taken) × IsAccounted header own put taken (going_of own runner, runner.held))
    → AtOffer script header r own out mid from back runner o
at_offer script header r own out mid from back runner o e held w a =
    grind (arith, nat_tests, placed_held script header w.0 r own runner o held w.1, alone_waits, call_waits, fits_is runner.rank.state.«open» header runner.rank.header o, accounted_held header own a.0 a.1 runner o held a.4)

-- its offer was put, this item was taken, and so it stood
pub stood_each : {script : Script} {header : Header} {r : ℕ} {own : List Call} {out mid : List RankItem} {from back : List OwnerItem} {runner : Runner} {o : Offer} {calls : List Call} {left : Runner}
    {result : Result RankStop Memory} {now : List RankItem} {last : List OwnerItem} {i : RankItem} {n : ℕ} (at : AtOffer script header r own out mid from back runner o) (x : OwnerItem) → own ≡ calls
    → now ≡ mid ++ i ∷ [] → i ≡ item.Offer n o → n ≡ length runner.answers → last ≡ back ++ x ∷ []
    → HasStood header own (at.put ++ item.Offer (length runner.answers) o ∷ []) (at.taken ++ x ∷ []) left result
    → (put : List RankItem) × (taken : List OwnerItem) × (now ≡ out ++ put) × (last ≡ from ++ taken) × HasStood header calls put taken left result
stood_each {script} {header} {r} {own} {out} {mid} {from} {back} {runner} {o} {calls} {left} {result} at x all e is count f h =
    one_each out from at.put at.taken x (λ p t. HasStood header calls p t left result) at.sent at.came e (is ∙ ap (λ (k : ℕ). item.Offer k o) count) f
    (subst (λ (cs : List Call). HasStood header cs (at.put ++ item.Offer (length runner.answers) o ∷ []) (at.taken ++ x ∷ []) left result) all h)
