-- All ranks, of whose items the owner saw a beginning each, at one arrival more that is not strange.
use Rattle.thread_run.proofs.Words.{lt_of_le_of_lt, mapped_entry, one_held, same_le, ◌≡◌, ℕ, ◌<◌, ◌≤◌, refl, sym, ◌∙◌, ap, subst, List, [], ◌∷◌, ◌++◌, length, map, max, set, Bool, true, false, Option, Some, None, arith, ltb-false, or_from, eqb_tells, nat_tests, length-map, length-set, same_Some, slice_get, flat_map, fold, enumerate_from, list_all, passes_at, some_or_none, entry_set, entry_set_other, entry_beside, or_first_false, or_second_false, solo_goes, Header, Offer, OwnerItem, Reply, RankItem, Owner, Event, Client, does_meeting, does_solo, event, freed, holds, is_strange, keeps, needed_now, offers_held, own_items, strange_offer, to_each, Setting, Counted, meeting, puts_of, solo, Arrival, record_limit, Going, advance, after_mark, hears, offers_of, less_max, meeting_small, solo_small, to_one_here, to_one_other, own_here, own_other, fit_passes, meeting_fits, solo_fits, going_after, goings_after, goings_long, meeting_is, meeting_within, offer_at, offers_long, replied, same_offers, solo_of_is, solo_within, by_event, strange_alone, client_ended, client_held}
use Rattle.nc_base.specs.declared.step.RankItem.TheVariants as item
use Rattle.nc_base.specs.declared.step.Reply as reply
use Rattle.thread_run.proofs.CutRank.{begin_ended, IsPaired, Waits, offered_now, held_now, hold_it, heard_now, sits_as}

-- ---- all ranks

pub record Stands (s : Setting) (d : Owner) (goings : List Going) (coming : ℕ → List RankItem) (given : ℕ → List OwnerItem) (end : ℕ → Going) : Type 0 where
  pub long : length d.clients ≡ length goings
  pub paired_at : (q : ℕ) (x : Client) (g : Going) → slice_get d.clients q ≡ Some x → slice_get goings q ≡ Some g → IsPaired s.header x g (coming q) (given q) (end q)
  pub held : (q : ℕ) (x : Client) (o : Offer) → slice_get d.clients q ≡ Some x → x.held ≡ Some o → strange_offer s.header d.reached (Some o) ≡ false
  pub counted : d.state.records ≤ d.reached
  pub small : d.reached < record_limit s.header.version

pub record Stepped (s : Setting) (d : Owner) (goings : List Going) (coming : ℕ → List RankItem) (e : Event) (given : ℕ → List OwnerItem) (end : ℕ → Going) : Type 0 where
  pub after : List Going
  pub folded : fold (after_mark s) (d.state, goings) e.marks ≡ (e.owner.state, after)
  pub ranks : length e.owner.clients ≡ length d.clients
  pub stands : Stands s e.owner after coming given end

by_number : (P : ℕ → Type 0) (q r : ℕ) → P r → ((q ≡ r → ⊥) → P q) → P q
by_number P q r here there = grind (arith, nat_tests, eqb_tells)

known_low : (header : Header) (n : ℕ) (o : Offer) → strange_offer header n (Some o) ≡ false → o.known ≤ n
unfolding strange_offer
known_low header n o h = ltb-false n o.known (or_first_false _ _ h)

not_stray : (header : Header) (n m : ℕ) (o : Offer) → n ≤ m → strange_offer header n (Some o) ≡ false → strange_offer header m (Some o) ≡ false
unfolding strange_offer
not_stray header n m o l h = grind (arith, nat_tests, ltb-false, or_first_false, or_from, or_second_false)

pub fits_now : (s : Setting) (d : Owner) (r c : ℕ) (o : Offer) → is_strange s d (r, item.Offer c o) ≡ false → strange_offer s.header d.reached (Some o) ≡ false
unfolding is_strange
fits_now s d r c o h = grind (arith, nat_tests)

ended_sits : (header : Header) (x : Client) (g : Going) (m : Bool) (items : List RankItem) (given : List OwnerItem) (end : Going) → IsPaired header x g (item.Ended m ∷ items) given end
    → IsPaired header (client_ended x m) g items given end
ended_sits header x g m items given end t = grind (arith, nat_tests, begin_ended header x.held g t.back m items t.stream)

-- ---- a meeting of all

held_each : (clients : List Client) (P : Offer → Type 0) → list_all holds clients ≡ true → ((q : ℕ) (x : Client) (o : Offer) → slice_get clients q ≡ Some x → x.held ≡ Some o → P o)
    → (q : ℕ) (o : Offer) → slice_get (offers_held clients) q ≡ Some o → P o
held_each clients P all f q o e = grind (arith, nat_tests, offers_long clients all, entry_beside, some_or_none, passes_at, same_Some, offer_at)

meeting_stands : (s : Setting) (d : Owner) (goings : List Going) (coming : ℕ → List RankItem) (clients : List Client) (given : ℕ → List OwnerItem) (end : ℕ → Going) → list_all holds clients ≡ true
    → length clients ≡ length d.clients
    → Stands s (keeps d clients).owner goings coming (λ q. (does_meeting s d clients).given q ++ given q) end → Stepped s d goings coming (does_meeting s d clients) given end
meeting_stands s d goings coming clients given end all same t = record {
  after = goings_after s (offers_held clients) d.state goings;
  folded = meeting_is s (offers_held clients) d.state goings offers;
  ranks = length-map clients freed ∙ same;
  stands = record {
    long = length-map clients freed ∙ t.long ∙ sym (goings_long s (offers_held clients) d.state goings (offers_long clients all ∙ t.long));
    paired_at = λ q z h e f. paired_at q z h e f;
    held = λ q z o e f. let never : None ≡ Some o = ap (λ (w : Client). w.held) (mapped_entry freed clients q z e).1.1 ∙ f in absurd cc;
    counted = within;
    small = below;
  };
}
  where
    offers : offers_of (map (advance s.header) goings) ≡ offers_held clients
    offers = same_offers s.header clients goings t.long all (λ q x g o a b h. (t.paired_at q x g a b).waits o h)

    within : (meeting s (offers_held clients) d.state).0.records ≤ max d.reached (needed_now s (flat_map puts_of (enumerate_from 0 (offers_held clients))))
    within = meeting_within s (offers_held clients) d.state d.reached t.counted (held_each clients (λ o. o.known ≤ d.reached) all (λ q x o a h. known_low s.header d.reached o (t.held q x o a h)))

    below : max d.reached (needed_now s (flat_map puts_of (enumerate_from 0 (offers_held clients)))) < record_limit s.header.version
    below =
        less_max d.reached (needed_now s (flat_map puts_of (enumerate_from 0 (offers_held clients)))) (record_limit s.header.version) t.small
        (meeting_small s d.reached (offers_held clients) (held_each clients (λ o. strange_offer s.header d.reached (Some o) ≡ false) all t.held))

    paired_at : (q : ℕ) (z : Client) (h : Going) → slice_get (map freed clients) q ≡ Some z → slice_get (goings_after s (offers_held clients) d.state goings) q ≡ Some h → IsPaired s.header z h (coming q) (given q) (end q)
    paired_at q z h e f =
        let x = mapped_entry freed clients q z e in
        let g = entry_beside clients goings q x.0 t.long x.1.0 in
        let o = one_held clients q x.0 all x.1.0 in
        let told = offer_at clients q x.0 o.0 all x.1.0 o.1 in
        let y = replied s (offers_held clients) d.state q o.0 told in
        let few : y.reply.records < record_limit s.header.version = lt_of_le_of_lt (same_le _ _ _ y.records within) below in
        let at_going = going_after s (offers_held clients) d.state goings q g.0 y.reply g.1 y.is in
        subst (λ (p : Client × Going). IsPaired s.header p.0 p.1 (coming q) (given q) (end q)) (λ i. (x.1.1 i, same_Some _ h (sym at_going ∙ f) i))
        (heard_now s.header (freed x.0) (advance s.header g.0).0 o.0 y.reply (coming q) (given q) (end q) refl
        (fit_passes s o.0 y.reply (meeting_fits s (offers_held clients) d.state q o.0 y.reply told y.is) few)
        (held_now s.header x.0 g.0 o.0 (coming q) (Reply y.reply ∷ given q) (end q) o.1
        (sits_as s.header x.0 x.0 g.0 (coming q) (coming q) (to_each (meeting s (offers_held clients) d.state).1 q ++ given q) (Reply y.reply ∷ given q) (end q) refl refl
        (ap (λ (m : Option reply.Reply). elim m [ None ↦ [] | Some z ↦ Reply z ∷ [] ] ++ given q) y.is) (t.paired_at q x.0 g.0 x.1.0 g.1))))

-- ---- one rank's arrival

module _ (s : Setting) (d : Owner) (goings : List Going) (r : ℕ) (rest : List Arrival) (x : Client) (g : Going) (end : ℕ → Going) (a : slice_get d.clients r ≡ Some x) (b : slice_get goings r ≡ Some g) where
  -- where this item of it comes first
  abbrev Comes : RankItem → (ℕ → List OwnerItem) → Type 0
  Comes i given = Stands s d goings (λ q. own_items q ((r, i) ∷ rest)) given end

  mine_first : (i : RankItem) (given : ℕ → List OwnerItem) → Comes i given → IsPaired s.header x g (i ∷ own_items r rest) (given r) (end r)
  mine_first i given t = subst (λ (items : List RankItem). IsPaired s.header x g items (given r) (end r)) (own_here r i rest) (t.paired_at r x g a b)

  -- its client alone changes
  set_one : (i : RankItem) (y : Client) (given : ℕ → List OwnerItem) → IsPaired s.header y g (own_items r rest) (given r) (end r)
      → ((o : Offer) → y.held ≡ Some o → strange_offer s.header d.reached (Some o) ≡ false) → Comes i given → Stands s (keeps d (set d.clients r y)).owner goings (λ q. own_items q rest) given end
  set_one i y given mine own t = record {
    long = length-set d.clients r y ∙ t.long;
    paired_at = λ q z h c e. by_number (λ p. slice_get (set d.clients r y) p ≡ Some z → slice_get goings p ≡ Some h → IsPaired s.header z h (own_items p rest) (given p) (end p)) q r here (λ n. there q z h n) c e;
    held = λ q z o c e. grind (arith, nat_tests, set d.clients r y, entry_set d.clients r x y a, by_number, same_Some, entry_set_other);
    counted = t.counted;
    small = t.small;
  }
    where
      here : {z : Client} {h : Going} → slice_get (set d.clients r y) r ≡ Some z → slice_get goings r ≡ Some h → IsPaired s.header z h (own_items r rest) (given r) (end r)
      here {z} {h} c e = grind (arith, nat_tests, entry_set, s.header)

      there : (q : ℕ) (z : Client) (h : Going) → (q ≡ r → ⊥) → slice_get (set d.clients r y) q ≡ Some z → slice_get goings q ≡ Some h → IsPaired s.header z h (own_items q rest) (given q) (end q)
      there q z h n c e =
          sits_as s.header z z h (own_items q ((r, i) ∷ rest)) (own_items q rest) (given q) (given q) (end q) refl (own_other q r i rest n) refl
          (t.paired_at q z h (sym (entry_set_other d.clients r q y n) ∙ c) e)

  -- its offer is its next
  pub own_offer : (c : ℕ) (o : Offer) (given : ℕ → List OwnerItem) → x.held ≡ None → Comes (item.Offer c o) given → (advance s.header g).1 ≡ Some o
  own_offer c o given free t = (offered_now s.header x g c o (own_items r rest) (given r) (end r) free (mine_first (item.Offer c o) given t)).0

  -- and is held
  pub held_keeps : (c : ℕ) (o : Offer) (given : ℕ → List OwnerItem) → x.held ≡ None → strange_offer s.header d.reached (Some o) ≡ false → Comes (item.Offer c o) given
      → Stands s (keeps d (set d.clients r (client_held x o))).owner goings (λ q. own_items q rest) given end
  held_keeps c o given free fit t =
      let now = offered_now s.header x g c o (own_items r rest) (given r) (end r) free (mine_first (item.Offer c o) given t) in
      grind (arith, nat_tests, set_one (item.Offer c o) (client_held x o) given, hold_it s.header (client_held x o) g o (own_items r rest) (given r) (end r))

  -- it makes its step alone
  solo_stands : (c : ℕ) (o : Offer) (given : ℕ → List OwnerItem) → x.held ≡ None → strange_offer s.header d.reached (Some o) ≡ false → Comes (item.Offer c o) (λ q. (does_solo s d r c o).given q ++ given q)
      → Stepped s d goings (λ q. own_items q rest) (does_solo s d r c o) given end
  solo_stands c o given free fit t = record {
    after = set goings r heard;
    folded = solo_goes s r d.state goings g b ∙ ap (λ (p : Counted × Going). (p.0, set goings r p.1)) (solo_of_is s r d.state (advance s.header g) o now.0);
    ranks = refl;
    stands = record {
      long = t.long ∙ sym (length-set goings r heard);
      paired_at = λ q z h e f. by_number (λ p. slice_get d.clients p ≡ Some z → slice_get (set goings r heard) p ≡ Some h → IsPaired s.header z h (own_items p rest) (given p) (end p)) q r here (λ n. there q z h n) e f;
      held = λ q z p e f. not_stray s.header d.reached (max d.reached (needed_now s (puts_of (r, o)))) p (omega arith) (t.held q z p e f);
      counted = let k = t.counted in omega arith;
      small = within;
    };
  }
    where
      heard : Going
      heard = hears s.header (advance s.header g).0 (solo s r o d.state).1

      now : ((advance s.header g).1 ≡ Some o) × Waits s.header (advance s.header g).0 o (own_items r rest) (Reply (solo s r o d.state).1 ∷ given r) (end r)
      now =
          offered_now s.header x g c o (own_items r rest) (Reply (solo s r o d.state).1 ∷ given r) (end r) free
          (subst (λ (xs : List OwnerItem). IsPaired s.header x g (item.Offer c o ∷ own_items r rest) (xs ++ given r) (end r)) (to_one_here r (solo s r o d.state).1)
          (mine_first (item.Offer c o) (λ q. (does_solo s d r c o).given q ++ given q) t))

      within : max d.reached (needed_now s (puts_of (r, o))) < record_limit s.header.version
      within = less_max d.reached (needed_now s (puts_of (r, o))) (record_limit s.header.version) t.small (solo_small s r d.reached o fit)

      few : (solo s r o d.state).1.records < record_limit s.header.version
      few = grind (arith, nat_tests, solo_within s r d.reached o d.state (known_low s.header d.reached o fit), known_low, within)

      here : {z : Client} {h : Going} → slice_get d.clients r ≡ Some z → slice_get (set goings r heard) r ≡ Some h → IsPaired s.header z h (own_items r rest) (given r) (end r)
      here {z} {h} e f =
          subst (λ (w : Client). IsPaired s.header w h (own_items r rest) (given r) (end r)) (same_Some x z (sym a ∙ e))
          (subst (λ (w : Going). IsPaired s.header x w (own_items r rest) (given r) (end r)) (same_Some heard h (sym (entry_set goings r g heard b) ∙ f))
          (heard_now s.header x (advance s.header g).0 o (solo s r o d.state).1 (own_items r rest) (given r) (end r) free (fit_passes s o (solo s r o d.state).1 (solo_fits s r o d.state) few) now.1))

      there : (q : ℕ) (z : Client) (h : Going) → (q ≡ r → ⊥) → slice_get d.clients q ≡ Some z → slice_get (set goings r heard) q ≡ Some h → IsPaired s.header z h (own_items q rest) (given q) (end q)
      there q z h n e f =
          sits_as s.header z z h (own_items q ((r, item.Offer c o) ∷ rest)) (own_items q rest) ((does_solo s d r c o).given q ++ given q) (given q) (end q) refl (own_other q r (item.Offer c o) rest n)
          (ap (λ (xs : List OwnerItem). xs ++ given q) (to_one_other q r (solo s r o d.state).1 n)) (t.paired_at q z h e (sym (entry_set_other goings r q heard n) ∙ f))

  pub arrival_stands : (i : RankItem) (given : ℕ → List OwnerItem) → is_strange s d (r, i) ≡ false → Comes i (λ q. (event s d (r, i)).given q ++ given q)
      → Stepped s d goings (λ q. own_items q rest) (event s d (r, i)) given end
  arrival_stands i given fit =
      by_event s d r x a (λ j e. is_strange s d (r, j) ≡ false → Comes j (λ q. e.given q ++ given q) → Stepped s d goings (λ q. own_items q rest) e given end)
      (λ m f t. record {
        after = goings;
        folded = refl;
        ranks = length-set d.clients r (client_ended x m);
        stands = set_one (item.Ended m) (client_ended x m) given (ended_sits s.header x g m (own_items r rest) (given r) (end r) (mine_first (item.Ended m) given t)) (λ o e. t.held r x o a e) t;
      })
      (λ c o free k f t. solo_stands c o given free (fits_now s d r c o f) t)
      (λ c o kind free k some f t. record {
        after = goings;
        folded = refl;
        ranks = length-set d.clients r (client_held x o);
        stands = held_keeps c o given free (fits_now s d r c o f) t;
      })
      (λ c o kind free k all f t. meeting_stands s d goings (λ q. own_items q rest) (set d.clients r (client_held x o)) given end all (length-set d.clients r (client_held x o))
      (held_keeps c o (λ q. (does_meeting s d (set d.clients r (client_held x o))).given q ++ given q) free (fits_now s d r c o f) t)) i (strange_alone s d r i x a fit) fit
