-- Where a run on threads stood that a fault cut off, and which answers its ranks have.
use Rattle.thread_run.proofs.Words.{each_in, holds_or_not, in_either, passes_each, ◌≡◌, ℕ, ◌≤◌, refl, sym, ◌∙◌, ap, subst, inl, inr, ◌⊎◌, List, [], ◌∷◌, ◌++◌, length, map, set, true, false, Option, Some, None, arith, eqb_tells, append-nil, slice_get, flat_map, nat_lt, list_all, byte_len, entry_below, entry_beside, and_first, Header, Call, Script, Mark, Solo, Offer, OfferKind, OwnerItem, Reply, Stop, RankItem, StepErr, In, Owner, Event, Client, event, holds, is_strange, offers_at, offers_held, own_items, step_offers, Setting, Counted, puts_of, count_width, Arrival, IsLegal, fits_offer, offered, offered_by, waiting, Going, advance, after_mark, first_going, hears, offers_of, covered, IsLeft, IsTorn, OwnerStoodAt, StoodAt, bytes_of_mark, at_arrival, between_arrivals, in_step, torn_still, solo_goes, HasOffered, IsBeginning, waiting_misfit, waiting_reply, meeting_is, same_offers, solo_of_is, AreSingle, IsSingleOffer, strange_alone, own_here, own_other, raised_grows, mark_grows, in_left, client_held, nat_tests, torn_same, by_event, does_meeting, does_solo, ltb-true}
use Rattle.nc_base.specs.declared.step.OfferKind.TheVariants as offer
use Rattle.nc_base.specs.declared.step.RankItem.TheVariants as item
use Rattle.nc_base.specs.declared.step.Reply as reply
use Rattle.serial_spec.specs.Torn.StoodAt.{between}
use Rattle.thread_run.proofs.CutSteps.{Stands, fits_now, held_keeps, own_offer}
use Rattle.thread_run.proofs.ThreadCalls.{single_go}

-- ---- the step that an arrival brings

-- its event is the serial run's step of a mark, or none
pub record BringsStep (s : Setting) (d : Owner) (goings : List Going) (a : Arrival) (e : Event) : Type 0 where
  pub mark : Mark
  pub marks : e.marks ≡ mark ∷ []
  pub state : e.owner.state ≡ (after_mark s (d.state, goings) mark).0
  pub bytes : covered s.header (flat_map puts_of (step_offers d a)) ≡ bytes_of_mark s goings mark

abbrev pub Brings : Setting → Owner → List Going → Arrival → Event → Type 0
Brings s d goings a e = (e.owner.state ≡ d.state) ⊎ BringsStep s d goings a e

module _ (s : Setting) (d : Owner) (goings : List Going) (r c : ℕ) (o : Offer) (x : Client) (g : Going) (a : slice_get d.clients r ≡ Some x) (b : slice_get goings r ≡ Some g)
    (next : (advance s.header g).1 ≡ Some o) where
  offers_are : (kind : OfferKind) → o.kind ≡ kind → step_offers d (r, item.Offer c o) ≡ offers_at d r o x kind
  offers_are kind k = ap (λ (m : Option Client). elim m [ None ↦ [] | Some y ↦ offers_at d r o y o.kind ]) a ∙ ap (offers_at d r o x) k

  brings_solo : o.kind ≡ offer.Solo → BringsStep s d goings (r, item.Offer c o) (does_solo s d r c o)
  brings_solo k = record {
    mark = Solo r c;
    marks = refl;
    state = sym (ap (λ (st : Counted × List Going). st.0) (solo_goes s r d.state goings g b ∙ ap (λ (p : Counted × Going). (p.0, set goings r p.1)) (solo_of_is s r d.state (advance s.header g) o next)));
    bytes = grind (arith, nat_tests, offers_are offer.Solo k, append-nil (puts_of (r, o)));
  }

  brings_meeting : (kind : _) → o.kind ≡ offer.Meet kind → list_all holds (set d.clients r (client_held x o)) ≡ true → offers_of (map (advance s.header) goings) ≡ offers_held (set d.clients r (client_held x o))
      → BringsStep s d goings (r, item.Offer c o) (does_meeting s d (set d.clients r (client_held x o)))
  brings_meeting kind k all same = grind (arith, nat_tests, meeting_is, offers_are, d.met)

pub brings : (s : Setting) (d : Owner) (goings : List Going) (r : ℕ) (i : RankItem) (others : List Arrival) (x : Client) (g : Going) (given : ℕ → List OwnerItem) (end : ℕ → Going) → slice_get d.clients r ≡ Some x
    → slice_get goings r ≡ Some g → is_strange s d (r, i) ≡ false → Stands s d goings (λ q. own_items q ((r, i) ∷ others)) given end → Brings s d goings (r, i) (event s d (r, i))
brings s d goings r i others x g given end a b fit =
    by_event s d r x a (λ j e. is_strange s d (r, j) ≡ false → Stands s d goings (λ q. own_items q ((r, j) ∷ others)) given end → Brings s d goings (r, j) e) (λ m f t. inl refl)
    (λ c o free k f t. inr (brings_solo s d goings r c o x g a b (own_offer s d goings r others x g end a b c o given free t) k)) (λ c o kind free k some f t. inl refl) (λ c o kind free k all f t.
    let u = held_keeps s d goings r others x g end a b c o given free (fits_now s d r c o f) t in
    inr (brings_meeting s d goings r c o x g a b (own_offer s d goings r others x g end a b c o given free t) kind k all
    (same_offers s.header (set d.clients r (client_held x o)) goings u.long all (λ q y h p w j k'. (u.paired_at q y h w j).waits p k')))) i (strange_alone s d r i x a fit) fit

-- ---- nothing was done

-- where nothing is told of a step, the run stood before any that may follow
pub stood_still : (script : Script) (s : Setting) (e : StepErr) (state : Counted × List Going) (order : List Mark) (left : List ℕ) (records : ℕ) → ((later : List Mark) × IsLegal script (order ++ later))
    → left ≡ state.0.file → records ≡ state.0.records → StoodAt script s e state order left records
stood_still script s e state order left records (later, legal) l k = by_later later legal
  where
    here : (new : Counted) (bytes : List ℕ) → length state.0.file ≤ length new.file → IsLeft s.header bytes state.0 new left records
    here new bytes g = grind (arith, nat_tests, torn_still)

    by_later : (ms : List Mark) → IsLegal script (order ++ ms) → StoodAt script s e state order left records
    by_later [] h = grind (arith, nat_tests, append-nil order, here, raised_grows)
    by_later (m ∷ ms) h = in_step m ms h (here (after_mark s state m).0 (bytes_of_mark s state.1 m) (mark_grows s state m))

-- ---- where the owner stood

pub stood_run : (script : Script) (s : Setting) (e : StepErr) (d : Owner) (goings : List Going) (order : List Mark) (later : List Arrival) (left : List ℕ) (records : ℕ) (given : ℕ → List OwnerItem) (end : ℕ → Going)
    → Stands s d goings (λ q. own_items q later) given end → list_all (λ (a : Arrival). nat_lt a.0 (length d.clients)) later ≡ true → ((rest : List Mark) × IsLegal script (order ++ rest))
    → ((a : Arrival) (others : List Arrival) → later ≡ a ∷ others → is_strange s d a ≡ false → (m : Mark) → (event s d a).marks ≡ m ∷ [] → (rest : List Mark) × IsLegal script (order ++ m ∷ rest))
    → OwnerStoodAt s e d later left records → StoodAt script s e (d.state, goings) order left records
stood_run script s e d goings order later left records given end t low begun next (between_arrivals memory l k) = between begun.0 begun.1 memory l k
stood_run script s e d goings order later left records given end t low begun next (at_arrival a others is fit l) = by_step (found a.0 a.1 refl)
  where
    here : Stands s d goings (λ q. own_items q (a ∷ others)) given end
    here = subst (λ (xs : List Arrival). Stands s d goings (λ q. own_items q xs) given end) is t

    numbers : list_all (λ (b : Arrival). nat_lt b.0 (length d.clients)) (a ∷ others) ≡ true
    numbers = subst (λ (xs : List Arrival). list_all (λ (b : Arrival). nat_lt b.0 (length d.clients)) xs ≡ true) is low

    found : (r : ℕ) (i : RankItem) → (r, i) ≡ a → Brings s d goings a (event s d a)
    found r i e =
        let low = ltb-true r (length d.clients) (ap (λ (b : Arrival). nat_lt b.0 (length d.clients)) e ∙ and_first (nat_lt a.0 (length d.clients)) _ numbers) in
        let client = entry_below d.clients r low in
        let going = entry_beside d.clients goings r client.0 t.long client.1 in
        subst (λ (b : Arrival). Brings s d goings b (event s d b)) e
        (brings s d goings r i others client.0 going.0 given end client.1 going.1 (ap (λ (b : Arrival). is_strange s d b) e ∙ fit)
        (subst (λ (b : Arrival). Stands s d goings (λ q. own_items q (b ∷ others)) given end) (sym e) here))

    own : List ℕ
    own = covered s.header (flat_map puts_of (step_offers d a))

    by_step : Brings s d goings a (event s d a) → StoodAt script s e (d.state, goings) order left records
    by_step (inl same) =
        stood_still script s e (d.state, goings) order left records begun
        (torn_same own (byte_len (count_width s.header.version)) d.state.file left
        (subst (λ (c : Counted). IsTorn own (byte_len (count_width s.header.version)) d.state.file c.file left) same l.0))
        (elim l.1 [ inl k ↦ k | inr k ↦ k ∙ ap (λ (c : Counted). c.records) same ])
    by_step (inr b) =
        let n = next a others is fit b.mark b.marks in
        in_step b.mark n.0 n.1
        (subst (λ (own : List ℕ). IsLeft s.header own d.state (after_mark s (d.state, goings) b.mark).0 left records) b.bytes
        (subst (λ (new : Counted). IsLeft s.header own d.state new left records) b.state l))

-- ---- no rank's offer both raises the count and brings puts

waiting_single : (header : Header) (t : Going) (p : Offer) (y : reply.Reply) (back : List OwnerItem) (c : ℕ) (o : Offer) → ((u : Going) → In (offered header u back) (item.Offer c o) → IsSingleOffer o)
    → In (waiting header t p (Reply y ∷ back)) (item.Offer c o) → IsSingleOffer o
waiting_single header t p y back c o again i = elim (holds_or_not (fits_offer header p y)) [
  | inl f ↦ again (hears header t y) (subst (λ (is : List RankItem). In is (item.Offer c o)) (waiting_reply header t p y back f) i)
  | inr f ↦
      (let k : In (item.Ended false ∷ []) (item.Offer c o) = subst (λ (is : List RankItem). In is (item.Offer c o)) (waiting_misfit header t p y back f) i in grind (arith, nat_tests))
]

next_single : (header : Header) (back : List OwnerItem) (g : Going) (c : ℕ) (o : Offer) → ((t : Going) (p : Offer) → In (waiting header t p back) (item.Offer c o) → IsSingleOffer o)
    → (p : Going × Option Offer) → advance header g ≡ p → In (offered_by header p back) (item.Offer c o) → IsSingleOffer o
next_single header back g c o again p e xs = grind (arith, nat_tests, single_go)

single_offered : (header : Header) (back : List OwnerItem) (g : Going) (c : ℕ) (o : Offer) → In (offered header g back) (item.Offer c o) → IsSingleOffer o
single_offered header [] g c o i = next_single header [] g c o (λ t p j. absurd j) (advance header g) refl i
single_offered header (Stop ∷ back) g c o i = grind (arith, nat_tests, next_single)
single_offered header (Reply y ∷ back) g c o i = grind (arith, nat_tests, next_single, waiting_single, single_offered header back)

-- under its number
in_own : (arrivals : List Arrival) (r : ℕ) (i : RankItem) → In arrivals (r, i) → In (own_items r arrivals) i
in_own [] r i k = absurd k
in_own ((q, j) ∷ arrivals) r i k = grind (arith, nat_tests, in_own arrivals r i, eqb_tells, own_here, own_other)

pub single_begun : (script : Script) (header : Header) (arrivals : List Arrival) (taken : ℕ → List OwnerItem) → length script.calls ≡ script.ranks → HasOffered script header arrivals taken → AreSingle arrivals
single_begun script header arrivals taken long h (r, item.Ended m) i = tt
single_begun script header arrivals taken long h (r, item.Offer c o) i =
    let low = ltb-true r script.ranks (each_in (λ (a : Arrival). nat_lt a.0 script.ranks ≡ true) arrivals (r, item.Offer c o) (passes_each (λ (a : Arrival). nat_lt a.0 script.ranks) arrivals h.numbers) i) in
    let own = entry_below script.calls r (omega arith) in
    by_begin own.0 (h.each r own.0 own.1) (in_own arrivals r (item.Offer c o) i)
  where
    by_begin : (own : List Call) → IsBeginning (own_items r arrivals) (offered header (first_going header own) (taken r)) → In (own_items r arrivals) (item.Offer c o) → IsSingleOffer o
    by_begin own (front, (more, b), e) k =
        grind (arith, nat_tests, single_offered header (taken r) (first_going header own) c o, in_left front more (item.Offer c o), in_either front (item.Ended true ∷ []) (item.Offer c o))
