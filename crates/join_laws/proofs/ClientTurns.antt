-- One number and its client: how both change at an event of the owner.
use Rattle.join_laws.proofs.Words.{◌≡◌, ℕ, suc, ◌≤◌, List, [], ◌∷◌, ◌++◌, Bool, true, false, Some, None, filter, Header, Offer, MeetKind, Mark, Meet, Solo, RankItem, OwnerItem, Reply, concerns, kinds, Going, advance, hears, Client, freed, strange_offer, fits_offer, arith, nat_tests}
use Rattle.nc_base.specs.declared.step.OfferKind.TheVariants as offer
use Rattle.nc_base.specs.declared.step.RankItem.TheVariants as item
use Rattle.nc_base.specs.declared.step.Reply as reply
use Rattle.join_laws.proofs.StreamLaws.{waiting_reply, waiting_end_reply, waiting_stop_reply, to_come, client_end, client_stop, ended_item, Offered, marks_of, heard}

-- ---- what stays true of a rank, whatever its offers are

pub record Lasting (header : Header) (Good : ℕ → Going → Type 0) : Type 0 where
  pub grows : (n m : ℕ) (g : Going) → n ≤ m → Good n g → Good m g
  pub told : (n : ℕ) (g : Going) (o : Offer) → Good n g → (advance header g).1 ≡ Some o → o.known ≤ n
  pub fits : (n : ℕ) (g : Going) (o : Offer) → Good n g → (advance header g).1 ≡ Some o → strange_offer header n (Some o) ≡ false
  pub hears : (n : ℕ) (g : Going) (o : Offer) (y : reply.Reply) → Good n g → (advance header g).1 ≡ Some o → y.records ≤ n
      → Good n (hears header (advance header g).0 y)

-- ---- one number

pub record IsPaired (header : Header) (Good : ℕ → Going → Type 0) (ks : List MeetKind) (n : ℕ) (x : Client) (g : Going) (coming : List RankItem) (back : List OwnerItem) : Type 0 where
  pub stream : ended_item x.ended ++ coming ≡ to_come header x.held g back
  pub waits : (o : Offer) → x.held ≡ Some o → ((advance header g).1 ≡ Some o) × ((kind : MeetKind) × (o.kind ≡ offer.Meet kind))
  pub kind_list : kinds g.calls ≡ ks
  pub good : Good n g

pub record Turn (header : Header) (Good : ℕ → Going → Type 0) (ks : List MeetKind) (n q k k' : ℕ) (x : Client) (g : Going) (x' : Client) (g' : Going) (coming : List RankItem) (back : List OwnerItem) (given : List OwnerItem) (marks : List Mark) : Type 0 where
  pub paired_at : IsPaired header Good ks n x' g' coming back
  pub ends : client_end header x.held g (given ++ back) ≡ client_end header x'.held g' back
  pub stops : client_stop header x.held g (given ++ back) ≡ client_stop header x'.held g' back
  pub in_order : filter (concerns q) marks ++ marks_of q k' g' ≡ marks_of q k g

abbrev pub client_ended : Client → Bool → Client
client_ended x m = record { held = x.held; ended = Some m }

abbrev pub client_held : Client → Offer → Client
client_held x o = record { held = Some o; ended = x.ended }

module _ (header : Header) (Good : ℕ → Going → Type 0) where
  -- what its offer tells
  pub offered_now : (ks : List MeetKind) (n : ℕ) (x : Client) (g : Going) (c : ℕ) (o : Offer) (coming : List RankItem) (back : List OwnerItem)
      → x.ended ≡ None → x.held ≡ None → IsPaired header Good ks n x g (item.Offer c o ∷ coming) back → Offered header (advance header g) back c o coming
  offered_now ks n x g c o coming back e h s = grind (arith, nat_tests)

  -- its end arrives
  pub turn_ended : (ks : List MeetKind) (n q k : ℕ) (x : Client) (g : Going) (m : Bool) (coming : List RankItem) (back : List OwnerItem)
      → x.ended ≡ None → IsPaired header Good ks n x g (item.Ended m ∷ coming) back → Turn header Good ks n q k k x g (client_ended x m) g coming back [] []
  turn_ended ks n q k x g m coming back e s = grind (arith, nat_tests)

  -- its meeting offer arrives and is held
  pub turn_held : (ks : List MeetKind) (n q k : ℕ) (x : Client) (g : Going) (c : ℕ) (o : Offer) (kind : MeetKind) (coming : List RankItem) (back : List OwnerItem)
      → x.ended ≡ None → x.held ≡ None → o.kind ≡ offer.Meet kind → IsPaired header Good ks n x g (item.Offer c o ∷ coming) back
      → Turn header Good ks n q k k x g (client_held x o) g coming back [] []
  turn_held ks n q k x g c o kind coming back e h m s = grind (arith, nat_tests, offered_now)

  module _ (lasting : Lasting header Good) (ks : List MeetKind) (m n q k : ℕ) (x : Client) (g : Going) (o : Offer) (y : reply.Reply) (coming : List RankItem) (back : List OwnerItem)
      (l : m ≤ n) (few : y.records ≤ n) (fit : fits_offer header o y ≡ true) where
    abbrev next : Going
    next = hears header (advance header g).0 y

    -- its solo offer arrives and is done
    pub turn_solo : (c : ℕ) (marks : List Mark) → x.ended ≡ None → x.held ≡ None → o.kind ≡ offer.Solo → filter (concerns q) marks ≡ Solo q c ∷ []
        → IsPaired header Good ks m x g (item.Offer c o ∷ coming) (Reply y ∷ back) → Turn header Good ks n q k k x g x next coming back (Reply y ∷ []) marks
    turn_solo c marks e h d f s =
        let now = offered_now ks m x g c o coming (Reply y ∷ back) e h s in
        let tells = heard header q k g o now.is in
        let later = tells.later y in
        let good = lasting.hears n g o y (lasting.grows m n g l s.good) now.is few in
        grind (arith, nat_tests, waiting_reply, waiting_end_reply, waiting_stop_reply)

    -- the meeting of its held offer is done
    pub turn_met : (kind : MeetKind) → x.held ≡ Some o → IsPaired header Good (kind ∷ ks) m x g coming (Reply y ∷ back)
        → Turn header Good ks n q k (suc k) x g (freed x) next coming back (Reply y ∷ []) (Meet k ∷ [])
    turn_met kind h s =
        let is = s.waits o h in
        let tells = heard header q k g o is.0 in
        let later = tells.later y in
        let good = lasting.hears n g o y (lasting.grows m n g l s.good) is.0 few in
        grind (arith, nat_tests, waiting_reply, waiting_end_reply, waiting_stop_reply)
