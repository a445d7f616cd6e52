-- An arrival that is not strange, as the clients, the disk, the order and the lines show it.
use Rattle.file_owner.proofs.Words.{◌≡◌, ℕ, ◌<◌, ◌≤◌, refl, sym, ◌∙◌, ap, subst, inl, inr, ◌⊎◌, List, [], ◌∷◌, ◌++◌, length, set, get_or, Bool, true, false, Option, Some, None, Result, arith, cases_eq, append-nil, length-set, slice_get, is_some, OnOk, list_all, list_any, same_Some, get_or_from_slice_get, Header, Hints, DiskCall, MeetKind, Offer, OfferKind, OwnerItem, Stop, RankItem, End, Owner, Event, Client, at_offer, differs, does_meeting, does_solo, event, holds, is_strange, keeps, kind_held, meets_if, offers_held, stop_held, stops, meeting_calls, solo_calls, Setting, is_sound, Arrival, kind_of_meeting, counted, HasOwnElements, HasOwnPuts, IsCount, IsFit, event_is, calls_at, calls_at_offer, calls_if, owner_at, event_calls, Grows, HasDone, HasMovedOnce, HoldSingle, IsAlone, IsHeld, IsSingle, IsSteady, IsTogether, Standing, IsSingleOffer, held_stops, put_one, stop_each, stops_for, count_less, count_longer, entry_below, entry_set, entry_set_other, with_end-nil, client_ended, client_held, nat_tests, or_parts, not_some, passes_at}
use Rattle.nc_base.specs.declared.step.OfferKind.TheVariants as offer
use Rattle.nc_base.specs.declared.step.RankItem.TheVariants as item
use Rattle.file_owner.proofs.AlikeLaws.{lines_as, lines_none, lines_twice}
use Rattle.file_owner.proofs.PutLaws.{put_here, put_other, stop_for_offer}
use Rattle.file_owner.proofs.StrangeLaws.{fits, kind_is, strange_is}

abbrev pub with_clients : Standing → List Client → Standing
with_clients b clients =
    record { clients = clients; met = b.met; reached = b.reached; records = b.records; told = b.told; calls = b.calls; order = b.order; heard = b.heard; lines = b.lines }

-- ---- the event, by what arrives

-- only clients change
done_kept : (hints : Hints) (s : Setting) (b : Standing) (a : Arrival) (clients : List Client) → ((file : List ℕ) → event s (owner_at b file) a ≡ keeps (owner_at b file) clients)
    → ((file : List ℕ) → event_calls hints s (owner_at b file) a ≡ []) → (HoldSingle b.clients × IsSingle a.1 → HoldSingle clients) → HasDone hints s a b (with_clients b clients)
done_kept hints s b a clients e c alone = grind (arith, nat_tests, lines_none b.lines b.lines refl, append-nil b.order, with_end-nil b.heard, with_end-nil b.calls)

pub single_set : (clients : List Client) (r : ℕ) (x y : Client) → slice_get clients r ≡ Some x → HoldSingle clients → ((o : Offer) → y.held ≡ Some o → IsSingleOffer o) → HoldSingle (set clients r y)
single_set clients r x y e all own q z o f g = grind (arith, nat_tests, cases_eq, same_Some, entry_set, set, entry_set_other)

pub done_ended : (hints : Hints) (s : Setting) (b : Standing) (r : ℕ) (x y : Client) (memory : Bool) → slice_get b.clients r ≡ Some x → y ≡ client_ended x memory
    → HasDone hints s (r, item.Ended memory) b (with_clients b (set b.clients r y))
done_ended hints s b r x y memory e f =
    subst (λ (z : Client). HasDone hints s (r, item.Ended memory) b (with_clients b (set b.clients r z))) (sym f)
    (done_kept hints s b (r, item.Ended memory) (set b.clients r (client_ended x memory)) (λ file. event_is s (owner_at b file) r (item.Ended memory) x e)
    (λ file. ap (λ (m : Option Client). calls_at hints s (owner_at b file) r (item.Ended memory) m) e) (λ h. single_set b.clients r x (client_ended x memory) e h.0 (λ o g. h.0 r x o e g)))

-- ---- an offer

pub offer_event : (s : Setting) (d : Owner) (r c : ℕ) (o : Offer) (x : Client) (k : OfferKind) → slice_get d.clients r ≡ Some x → o.kind ≡ k → event s d (r, item.Offer c o) ≡ at_offer s d r c o x k
offer_event s d r c o x k e f = event_is s d r (item.Offer c o) x e ∙ ap (at_offer s d r c o x) f

offer_calls : (hints : Hints) (s : Setting) (d : Owner) (r c : ℕ) (o : Offer) (x : Client) (k : OfferKind) → slice_get d.clients r ≡ Some x → o.kind ≡ k
    → event_calls hints s d (r, item.Offer c o) ≡ calls_at_offer hints s d (r, o) x k
offer_calls hints s d r c o x k e f = ap (λ (m : Option Client). calls_at hints s d r (item.Offer c o) m) e ∙ ap (calls_at_offer hints s d (r, o) x) f

pub done_held : (hints : Hints) (s : Setting) (b : Standing) (r c : ℕ) (o : Offer) (x y : Client) (kind : MeetKind) → slice_get b.clients r ≡ Some x → y ≡ client_held x o → o.kind ≡ offer.Meet kind
    → list_all holds (set b.clients r y) ≡ false → HasDone hints s (r, item.Offer c o) b (with_clients b (set b.clients r y))
done_held hints s b r c o x y kind e f k some =
    let not_all = ap (λ (z : Client). list_all holds (set b.clients r z)) (sym f) ∙ some in
    subst (λ (z : Client). HasDone hints s (r, item.Offer c o) b (with_clients b (set b.clients r z))) (sym f)
    (done_kept hints s b (r, item.Offer c o) (set b.clients r (client_held x o))
    (λ file. offer_event s (owner_at b file) r c o x (offer.Meet kind) e k ∙ ap (meets_if s (owner_at b file) (set b.clients r (client_held x o))) not_all)
    (λ file. offer_calls hints s (owner_at b file) r c o x (offer.Meet kind) e k ∙ ap (calls_if hints s (owner_at b file) (set b.clients r (client_held x o))) not_all)
    (λ h. single_set b.clients r x (client_held x o) e h.0 (λ p g. subst IsSingleOffer (same_Some o p g) h.1)))

-- a step that was done is the arrival's
as_event : (hints : Hints) (s : Setting) (b m n : Standing) (a : Arrival) (once : Type 0) (to : List ℕ → Event) (made : List ℕ → List DiskCall) → m.told ≡ b.told → m.calls ≡ b.calls → m.order ≡ b.order
    → m.heard ≡ b.heard → m.lines ≡ b.lines → ((file : List ℕ) → event s (owner_at b file) a ≡ to file) → ((file : List ℕ) → event_calls hints s (owner_at b file) a ≡ made file)
    → (HoldSingle b.clients × IsSingle a.1 → once) → HasMovedOnce once to made m n → HasDone hints s a b n
as_event hints s b m n a once to made told calls order heard lines e c alone h = record {
  more = h.more;
  lines = subst (λ (l : List (End OwnerItem)). Grows l h.more n.lines) lines h.lines;
  alike = λ file.
      let g = h.alike file in
      grind (arith, nat_tests);
  exact = grind (arith, nat_tests);
  single = λ o. h.single (alone o);
}

pub done_alone : (hints : Hints) (s : Setting) (b n : Standing) (r c : ℕ) (o : Offer) (x : Client) → slice_get b.clients r ≡ Some x → o.kind ≡ offer.Solo → IsAlone hints s c (r, o) b n
    → HasDone hints s (r, item.Offer c o) b n
done_alone hints s b n r c o x e k h =
    as_event hints s b b n (r, item.Offer c o) (HoldSingle b.clients) (λ file. does_solo s (owner_at b file) r c o) (λ file. solo_calls hints s r o (counted file b.records)) refl refl refl refl refl
    (λ file. offer_event s (owner_at b file) r c o x offer.Solo e k) (λ file. offer_calls hints s (owner_at b file) r c o x offer.Solo e k) (λ o. o.0) h

pub done_together : (hints : Hints) (s : Setting) (b n : Standing) (r c : ℕ) (o : Offer) (x y : Client) (kind : MeetKind) → slice_get b.clients r ≡ Some x → y ≡ client_held x o → o.kind ≡ offer.Meet kind
    → list_all holds (set b.clients r y) ≡ true → IsTogether hints s (with_clients b (set b.clients r y)) n → HasDone hints s (r, item.Offer c o) b n
done_together hints s b n r c o x y kind e f k all h =
    let every = ap (λ (z : Client). list_all holds (set b.clients r z)) (sym f) ∙ all in
    as_event hints s b (with_clients b (set b.clients r (client_held x o))) n (r, item.Offer c o) (HoldSingle (set b.clients r (client_held x o)))
    (λ file. does_meeting s (owner_at b file) (set b.clients r (client_held x o))) (λ file. meeting_calls hints s (offers_held (set b.clients r (client_held x o))) (counted file b.records)) refl refl refl refl refl
    (λ file. offer_event s (owner_at b file) r c o x (offer.Meet kind) e k ∙ ap (meets_if s (owner_at b file) (set b.clients r (client_held x o))) every)
    (λ file. offer_calls hints s (owner_at b file) r c o x (offer.Meet kind) e k ∙ ap (calls_if hints s (owner_at b file) (set b.clients r (client_held x o))) every)
    (λ g. single_set b.clients r x (client_held x o) e g.0 (λ p w. subst IsSingleOffer (same_Some o p w) g.1))
    (subst (λ (z : Client). IsTogether hints s (with_clients b (set b.clients r z)) n) f h)

-- ---- what is held stays fit

-- an element of a list of which one was changed
set_cases : (clients : List Client) (r q : ℕ) (x y z : Client) → slice_get clients r ≡ Some x → slice_get (set clients r y) q ≡ Some z → ((q ≡ r) × (y ≡ z)) ⊎ ((q ≡ r → ⊥) × (slice_get clients q ≡ Some z))
set_cases clients r q x y z e f = grind (arith, nat_tests, cases_eq, same_Some, entry_set, set, entry_set_other)

-- the offers held are the old ones and perhaps one more
steady_set : (header : Header) (len : ℕ) (b : Standing) (r : ℕ) (x y : Client) → IsSteady header len b → slice_get b.clients r ≡ Some x → ((o : Offer) → y.held ≡ Some o → IsHeld header len b.reached o)
    → ((o p : Offer) (q : ℕ) (z : Client) → y.held ≡ Some o → slice_get b.clients q ≡ Some z → z.held ≡ Some p → o.kind ≡ p.kind) → IsSteady header len (with_clients b (set b.clients r y))
steady_set header len b r x y h e own kinds =
    let few = h.few in
    record {
      few = subst (λ (n : ℕ). n ≤ 64) (sym (length-set b.clients r y)) few;
      one_each = h.one_each ∙ sym (length-set b.clients r y);
      count = h.count;
      reached = h.reached;
      below = h.below;
      held = λ q z o f g. grind (arith, nat_tests, set_cases b.clients r q x y z e f, own o, h.held q z o);
      same = λ q t z w o p f g i j.
          grind (arith, nat_tests, set_cases b.clients r q x y z e f, set_cases b.clients r t x y w e g, kinds o p t w, kinds p o q z, h.same q t z w o p, same_Some);
    }

pub steady_ended : (header : Header) (len : ℕ) (b : Standing) (r : ℕ) (x y : Client) (memory : Bool) → IsSteady header len b → slice_get b.clients r ≡ Some x → y ≡ client_ended x memory
    → IsSteady header len (with_clients b (set b.clients r y))
steady_ended header len b r x y memory h e f =
    steady_set header len b r x y h e (λ o g. h.held r x o e (ap (λ (k : Client). k.held) (sym f) ∙ g))
    (λ o p q z g i j. h.same r q x z o p e i (ap (λ (k : Client). k.held) (sym f) ∙ g) j)

-- what an offer is that is not strange
pub record IsGood (header : Header) (len : ℕ) (b : Standing) (r c : ℕ) (o : Offer) : Type 0 where
  pub client : Client
  pub there : slice_get b.clients r ≡ Some client
  pub free : client.held ≡ None
  pub fit : IsFit header len o
  pub known : o.known ≤ b.reached
  pub kinds : list_any (λ y. differs (kind_held y) (kind_of_meeting o.kind)) b.clients ≡ false

pub is_good : (s : Setting) (len : ℕ) (b : Standing) (r c : ℕ) (o : Offer) → is_sound s.header ≡ true → IsSteady s.header len b → r < length b.clients → HasOwnElements o.batch.puts
    → ((file : List ℕ) → is_strange s (owner_at b file) (r, item.Offer c o) ≡ false) → IsGood s.header len b r c o
is_good s len b r c o sound h low own fit =
    grind (
      arith,
      nat_tests,
      entry_below b.clients r low,
      strange_is s (owner_at b []) r (item.Offer c o) (entry_below b.clients r low).0 (entry_below b.clients r low).1,
      or_parts,
      not_some,
      fit [],
      fits s.header len b.reached o sound,
      count_less s.header len b.reached o.known sound h.reached,
    )

pub steady_held : (header : Header) (len : ℕ) (b : Standing) (r c : ℕ) (o : Offer) (y : Client) (kind : MeetKind) → IsSteady header len b → (good : IsGood header len b r c o) → y ≡ client_held good.client o
    → o.kind ≡ offer.Meet kind → IsSteady header len (with_clients b (set b.clients r y))
steady_held header len b r c o y kind h good f k =
    let own : (p : Offer) → y.held ≡ Some p → o ≡ p = λ p g. same_Some o p (ap (λ (w : Client). w.held) (sym f) ∙ g) in
    steady_set header len b r good.client y h good.there (λ p g. subst (IsHeld header len b.reached) (own p g) (record { fit = good.fit; known = good.known; meets = (kind, k) }))
    (λ p q t z g i j.
    let m = (h.held t z q i j).meets in
    let same = kind_is b.clients kind t z q m.0 (ap (λ (w : OfferKind). list_any (λ y. differs (kind_held y) (kind_of_meeting w)) b.clients) (sym k) ∙ good.kinds) i j m.1 in
    ap (λ (w : Offer). w.kind) (sym (own p g)) ∙ k ∙ ap offer.Meet (sym same) ∙ sym m.1)

pub steady_alone : (header : Header) (len more : ℕ) (b n : Standing) → IsSteady header len b → n.clients ≡ b.clients → length n.lines ≡ length b.lines → n.records ≡ b.records → len ≤ more → b.reached ≤ n.reached
    → IsCount header more n.reached → IsSteady header more n
steady_alone header len more b n h clients lines records l m count =
    let long : length n.clients ≡ length b.clients = ap (λ (ss : List Client). length ss) clients in
    let few = h.few in
    let low = h.below in
    record {
      few = omega arith;
      one_each = lines ∙ h.one_each ∙ sym long;
      count = subst (λ (k : ℕ). IsCount header more k) (sym records) (count_longer header len more b.records l h.count);
      reached = count;
      below = omega arith;
      held = λ r x o e f.
          let g = h.held r x o (ap (λ (ss : List Client). slice_get ss r) (sym clients) ∙ e) f in
          grind (arith, nat_tests, count_longer header len more o.known l g.fit.known);
      same = λ r q x y o p e f i j. h.same r q x y o p (ap (λ (ss : List Client). slice_get ss r) (sym clients) ∙ e) (ap (λ (ss : List Client). slice_get ss q) (sym clients) ∙ f) i j;
    }

-- ---- after an error

-- where all hold once this offer is held, each gets one stop
pub all_stopped : (d : Owner) (r c : ℕ) (o : Offer) (x y : Client) (old now : List (End OwnerItem)) → slice_get d.clients r ≡ Some x → x.held ≡ None → list_all holds (set d.clients r y) ≡ true
    → length old ≡ length d.clients → Grows old stop_each now → Grows old (stops d ((r, item.Offer c o) ∷ [])) now
all_stopped d r c o x y old now e free all long g = lines_as old now stop_each (stops d ((r, item.Offer c o) ∷ [])) (λ q l. same q (omega arith)) g
  where
    one : (m : Option Offer) (t : Option Bool) → is_some m ≡ true → stop_held (Some (record { held = m; ended = t })) ≡ Stop ∷ []
    one m t f = grind (arith, nat_tests)

    none : (m : Option Offer) (t : Option Bool) → m ≡ None → stop_held (Some (record { held = m; ended = t })) ≡ []
    none m t f = grind (arith, nat_tests)

    same : (q : ℕ) → q < length d.clients → stops d ((r, item.Offer c o) ∷ []) q ≡ Stop ∷ []
    same q l = elim (cases_eq q r) [
      | inl s ↦ (λ i. ((ap (λ (k : ℕ). stop_held (slice_get d.clients k)) s ∙ ap stop_held e ∙ none x.held x.ended free) i) ++ ((stop_for_offer r c o q ∙ ap (λ (k : ℕ). put_one r Stop k) s ∙ put_here r Stop) i))
      | inr n ↦
          let z = entry_below d.clients q l in
          let held = passes_at holds (set d.clients r y) all q z.0 (entry_set_other d.clients r q y n ∙ z.1) in
          (λ i. ((ap stop_held z.1 ∙ one z.0.held z.0.ended held) i) ++ ((stop_for_offer r c o q ∙ put_other q r Stop n) i))
    ]

-- an offer alone that was not done, and the offers that are held
pub alone_stopped : (r c : ℕ) (o : Offer) (clients same : List Client) (old mid last now : List (End OwnerItem)) → mid ≡ old → same ≡ clients → Grows mid (held_stops same) last → Grows last (put_one r Stop) now
    → Grows old (λ q. held_stops clients q ++ stops_for ((r, item.Offer c o) ∷ []) q) now
alone_stopped r c o clients same old mid last now e f g h =
    grind (arith, nat_tests, lines_as old now, stop_for_offer r c o, lines_twice old last now (held_stops clients) (put_one r Stop))

-- ---- an item, by what it is

pub good_at : (s : Setting) (len : ℕ) (b : Standing) (r c : ℕ) (i : RankItem) (o : Offer) → is_sound s.header ≡ true → IsSteady s.header len b → r < length b.clients → HasOwnPuts i
    → ((file : List ℕ) → is_strange s (owner_at b file) (r, i) ≡ false) → i ≡ item.Offer c o → IsGood s.header len b r c o
good_at s len b r c i o sound h low own fit e = grind (arith, nat_tests, is_good)

pub as_item : (hints : Hints) (s : Setting) (r : ℕ) (i j : RankItem) (b n : Standing) → i ≡ j → HasDone hints s (r, j) b n → HasDone hints s (r, i) b n
as_item hints s r i j b n e h = subst (λ (k : RankItem). HasDone hints s (r, k) b n) (sym e) h

-- the client that was read is the one there, and then holds this offer
pub held_now : {header : Header} {len : ℕ} {b : Standing} {r c : ℕ} {o : Offer} (good : IsGood header len b r c o) (read y : Client) → read ≡ get_or b.clients r read → y ≡ client_held read o
    → y ≡ client_held good.client o
held_now {header} {len} {b} {r} {c} {o} good read y e f = f ∙ ap (λ (z : Client). client_held z o) (e ∙ get_or_from_slice_get b.clients r good.client read good.there)

pub stopped_as : (d : Owner) (r : ℕ) (i j : RankItem) (old now : List (End OwnerItem)) → i ≡ j → Grows old (stops d ((r, j) ∷ [])) now → Grows old (stops d ((r, i) ∷ [])) now
stopped_as d r i j old now e g = subst (λ (k : RankItem). Grows old (stops d ((r, k) ∷ [])) now) (sym e) g

-- ---- results

pub on_ok_three : {T E P Q R S : Type 0} (r : Result T E) → (P → Q → R → S) → OnOk r P → OnOk r Q → OnOk r R → OnOk r S
on_ok_three r f p q t = grind (arith, nat_tests)
