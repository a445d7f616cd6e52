-- The owner's run beside the serial run, one arrival after another: its device calls, its offers, and what its ranks know.
use Rattle.thread_run.proofs.Words.{◌≡◌, ℕ, refl, sym, ◌∙◌, ap, subst, inl, inr, List, [], ◌∷◌, length, map, set, Bool, true, false, Option, Some, append-nil, length-set, slice_get, list_all, same_Some, Header, Answer, Call, Hints, MeetKind, Offer, RankItem, Owner, Event, Client, at_item, event, holds, meets_if, served, meeting_calls, Setting, Arrival, Rank, Going, advance, go, offers_of, calls_so_far, calls_more, get_set, Stands, served_on, same_offers, event_is, Lasting, client_held, AreSingle, IsSingle, calls_at, calls_if, owner_calls, event_calls, IsSingleOffer, quiet_step, calls_on, arith, nat_tests, along}
use Rattle.nc_base.specs.declared.step.RankItem.TheVariants as item

-- with one offer more, each that is held is still the next of its rank
pub held_next : (s : Setting) (d : Owner) (goings : List Going) (r : ℕ) (x : Client) (g : Going) (o : Offer) → slice_get goings r ≡ Some g → (advance s.header g).1 ≡ Some o
    → ((q : ℕ) (x' : Client) (g' : Going) (o' : Offer) → slice_get d.clients q ≡ Some x' → slice_get goings q ≡ Some g' → x'.held ≡ Some o' → (advance s.header g').1 ≡ Some o')
    → (q : ℕ) (x' : Client) (g' : Going) (o' : Offer) → slice_get (set d.clients r (client_held x o)) q ≡ Some x' → slice_get goings q ≡ Some g' → x'.held ≡ Some o' → (advance s.header g').1 ≡ Some o'
held_next s d goings r x g o at_going e waits q x' g' o' a b w = grind (arith, nat_tests, get_set, same_Some)

-- ---- device calls

module _ (hints : Hints) (s : Setting) (d : Owner) (goings : List Going) (r : ℕ) (x : Client) (g : Going) (at_client : slice_get d.clients r ≡ Some x) (at_going : slice_get goings r ≡ Some g)
    (long : length d.clients ≡ length goings)
    (waits : (q : ℕ) (x' : Client) (g' : Going) (o : Offer) → slice_get d.clients q ≡ Some x' → slice_get goings q ≡ Some g' → x'.held ≡ Some o → (advance s.header g').1 ≡ Some o) where
  meets_is : (o : Offer) (t : Bool) → (advance s.header g).1 ≡ Some o → list_all holds (set d.clients r (client_held x o)) ≡ t
      → calls_if hints s d (set d.clients r (client_held x o)) t ≡ calls_so_far hints s (d.state, goings) (meets_if s d (set d.clients r (client_held x o)) t).marks
  meets_is o false e h = refl
  meets_is o true e h =
      sym (append-nil (meeting_calls hints s (offers_of (map (advance s.header) goings)) d.state)
      ∙ ap (λ (offers : List Offer). meeting_calls hints s offers d.state)
      (same_offers s.header (set d.clients r (client_held x o)) goings (length-set d.clients r (client_held x o) ∙ long) h
      (held_next s d goings r x g o at_going e waits)))

  item_is : (i : RankItem) → ((c : ℕ) (o : Offer) → i ≡ item.Offer c o → (advance s.header g).1 ≡ Some o)
      → calls_at hints s d r i (Some x) ≡ calls_so_far hints s (d.state, goings) (at_item s d r x i).marks
  item_is i f = grind (arith, nat_tests, meets_is, append-nil, set)

-- the owner's device calls are those of the serial run, without the close
pub calls_along : (hints : Hints) (s : Setting) (Good : ℕ → Going → Type 0) (lasting : Lasting s.header Good) (ks : List MeetKind) (d : Owner) (goings : List Going) (arrivals : List Arrival)
    → Stands s Good ks d goings arrivals → owner_calls hints s d arrivals ≡ calls_so_far hints s (d.state, goings) (served s d arrivals).marks
calls_along hints s Good lasting =
    along s Good lasting (λ d goings arrivals. owner_calls hints s d arrivals ≡ calls_so_far hints s (d.state, goings) (served s d arrivals).marks) (λ ks d goings t. refl) (λ ks d goings r i rest t o later.
    let here : event_calls hints s d (r, i) ≡ calls_so_far hints s (d.state, goings) (event s d (r, i)).marks =
    ap (λ (m : Option Client). calls_at hints s d r i m) o.at_client
    ∙ item_is hints s d goings r o.client o.going o.at_client o.at_going t.paired.long (λ q x' g' o' a b w. ((t.paired.paired_at q x' g' a b).waits o' w).0) i o.offers
    ∙ ap (λ (u : Event). calls_so_far hints s (d.state, goings) u.marks) (sym (event_is s d r i o.client o.at_client)) in
    grind (arith, nat_tests, calls_on, calls_more, served_on, o.stepped.folded, calls_so_far))

-- ---- offers that raise the count by their kind bring no puts

pub single_go : (header : Header) (o : Offer) (calls : List Call) (r : Rank) (answers : List Answer) → (go header r answers calls).1 ≡ Some o → IsSingleOffer o
single_go header o [] r answers e = grind (arith, nat_tests)
single_go header o (c ∷ calls) r answers e = grind (arith, nat_tests, single_go header o calls, quiet_step, same_Some)

single_item : (header : Header) (g : Going) (i : RankItem) → ((c : ℕ) (o : Offer) → i ≡ item.Offer c o → (advance header g).1 ≡ Some o) → IsSingle i
single_item header g i f = grind (arith, nat_tests, single_go)

pub single_along : (s : Setting) (Good : ℕ → Going → Type 0) (lasting : Lasting s.header Good) (ks : List MeetKind) (d : Owner) (goings : List Going) (arrivals : List Arrival)
    → Stands s Good ks d goings arrivals → AreSingle arrivals
single_along s Good lasting = along s Good lasting (λ d goings arrivals. AreSingle arrivals) (λ ks d goings t a h. absurd h) (λ ks d goings r i rest t o later a h.
    elim h [ inl e ↦ subst (λ (b : Arrival). IsSingle b.1) e (single_item s.header o.going i o.offers) | inr k ↦ later a k ])
