-- The owner finds the arrivals strange that are.
use Rattle.owner_laws.proofs.Words.{◌≡◌, ℕ, suc, ◌+◌, refl, sym, ◌∙◌, ap, subst, inl, inr, ◌⊎◌, List, [], ◌∷◌, ◌++◌, length, map, set, max, Bool, true, false, cond, Option, Some, None, arith, length-append, length-map, length-set, eqb-false, nat_tests, option_map, option_or, slice_get, filter_map, ◌==◌, is_some, list_all, list_any, range_with_len, entry_set, MeetKind, Offer, OfferKind, RankItem, at_item, at_offer, Owner, event, freed, has_ended, holds, is_strange, meets_if, needed_now, offers_held, Client, puts_of, Setting, Arrival, is_offer, kind_of_meeting, meeting_kind, Puts, are_left_behind, end_of_item, ends, is_strange_after, last, meeting_offer, meeting_offers, puts_brought, puts_complete, puts_met, waits, entry_map, client_ended, client_held}
use Rattle.nc_base.specs.declared.step.OfferKind.TheVariants as offer
use Rattle.nc_base.specs.declared.step.RankItem.TheVariants as item
use Rattle.join_laws.proofs.StrangeLaws.{strange_alone, freed_none as none_hold}
use Rattle.join_laws.proofs.TurnLaws.{by_event}
use Rattle.join_laws.proofs.StepLaws.{Free, not_all, one_held}
use Rattle.list_laws.proofs.Maps.{mapped_entry}
use Rattle.list_laws.proofs.Optional.{some_or_none}
use Rattle.list_laws.proofs.Places.{set_own}
use Rattle.owner_laws.proofs.HeldClients.{set_cases, one_or_none, brought_here, brought_other, last_here, one_if, Kept, OfNumber, Next, nothing_reached, free_set, some_holds, held_all, kinds_are, left_is, numbers_any, waits_is}

-- ---- what is held after an arrival

one_long : (m : Option Offer) → length (one_or_none m) ≡ one_if m
one_long m = grind (arith, nat_tests)

or_else : (m n l : Option Offer) (o : Offer) → option_or m n ≡ Some o → (n ≡ Some o → l ≡ Some o) → option_or m l ≡ Some o
or_else m n l o e f = grind (arith, nat_tests)

module _ (s : Setting) (ranks : ℕ) (before : List Arrival) (d : Owner) (kept : Kept ranks before d) (r : ℕ) (x : Client) (at : slice_get d.clients r ≡ Some x) where
  -- an item of its own, by which its client becomes x'
  set_each : (i : RankItem) (x' : Client) → one_if x'.held ≡ one_if x.held + one_if (meeting_offer i) → x'.held ≡ option_or (meeting_offer i) x.held → x'.ended ≡ option_or (end_of_item i) x.ended
      → (q : ℕ) (y : Client) → slice_get (set d.clients r x') q ≡ Some y → OfNumber (before ++ (r, i) ∷ []) d.met q y
  set_each i x' count held ended q y g = by (set_cases d.clients r q x' y g)
    where
      own : OfNumber before d.met r x
      own = kept.each r x at

      mine : OfNumber (before ++ (r, i) ∷ []) d.met r x'
      mine = grind (arith, nat_tests, one_long, brought_here, length-append, last_here, or_else, own.count, own.held, own.ended, meeting_offer, end_of_item)

      by : ((q ≡ r) × (y ≡ x')) ⊎ (((r == q) ≡ false) × (slice_get d.clients q ≡ Some y)) → OfNumber (before ++ (r, i) ∷ []) d.met q y
      by (inl (z, w)) = let z' = sym z in let w' = sym w in subst (λ (p : ℕ × Client). OfNumber (before ++ (r, i) ∷ []) d.met p.0 p.1) (λ j. (z' j, w' j)) mine
      by (inr (b, g)) =
          let k = kept.each q y g in
          let apart : q ≡ r → ⊥ = λ z. eqb-false r q b (sym z) in
          let offers = brought_other meeting_offer q r i before apart in
          record {
            count = ap (λ (xs : List Offer). length xs) offers ∙ k.count;
            held = λ o h. ap (λ (xs : List Offer). last xs) offers ∙ k.held o h;
            ended = k.ended ∙ ap (λ (xs : List Bool). last xs) (sym (brought_other end_of_item q r i before apart));
          }

  end_next : (m : Bool) → Next s ranks before d r (item.Ended m) (at_item s d r x (item.Ended m))
  end_next m = record {
    kept = record {
      long = length-set d.clients r (client_ended x m) ∙ kept.long;
      some_free = free_set d.clients r x (client_ended x m) at refl kept.some_free;
      each = set_each (item.Ended m) (client_ended x m) (omega arith) refl refl;
    };
    reached = nothing_reached s d.reached [] refl;
  }

  -- ---- a solo offer

  abbrev puts_by : ℕ → Offer → OfferKind → Puts
  puts_by c o k = elim (kind_of_meeting k) as (λ z. Puts) [ None ↦ puts_of (r, o) | Some kind ↦ puts_complete ranks (before ++ (r, item.Offer c o) ∷ []) ]

  solo_next : (c : ℕ) (o : Offer) → o.kind ≡ offer.Solo → Next s ranks before d r (item.Offer c o) (at_offer s d r c o x offer.Solo)
  solo_next c o k =
      let none : meeting_offer (item.Offer c o) ≡ None = ap (λ (z : OfferKind). option_map (λ (kind : MeetKind). o) (kind_of_meeting z)) k in
      record {
        kept = record {
          long = kept.long;
          some_free = kept.some_free;
          each = λ q y g. set_each (item.Offer c o) x (rw none (omega arith)) (rw none refl) refl q y (rw (set_own d.clients r x at) g);
        };
        reached = ap (λ (ps : Puts). max d.reached (needed_now s ps)) (sym (ap (λ (z : OfferKind). puts_by c o z) k));
      }

  -- ---- a meeting offer

  module _ (c : ℕ) (o : Offer) (kind : MeetKind) (k : o.kind ≡ offer.Meet kind) (idle : x.held ≡ None) where
    abbrev after : List Arrival
    after = before ++ (r, item.Offer c o) ∷ []

    abbrev clients : List Client
    clients = set d.clients r (client_held x o)

    brings : meeting_offer (item.Offer c o) ≡ Some o
    brings = ap (λ (z : OfferKind). option_map (λ (kind : MeetKind). o) (kind_of_meeting z)) k

    held_each : (q : ℕ) (y : Client) → slice_get clients q ≡ Some y → OfNumber after d.met q y
    held_each = set_each (item.Offer c o) (client_held x o) (rw (brings, idle) (omega arith)) (rw brings refl) refl

    there : slice_get clients r ≡ Some (client_held x o)
    there = entry_set d.clients r x (client_held x o) at

    -- whether some number waits, as the owner holds offers
    some_wait : (e : Owner) → Kept ranks after e → list_any (waits ranks after) (range_with_len 0 ranks) ≡ list_any holds e.clients
    some_wait e now = sym (numbers_any ranks after e now holds (waits ranks after) (λ q y g. sym (waits_is ranks after e now q y g)))

    abbrev complete_by : Bool → Puts
    complete_by t = cond t [] (puts_met (filter_map (λ q. last (meeting_offers q after)) (range_with_len 0 ranks)))

    puts_are : puts_brought ranks before (r, item.Offer c o) ≡ puts_complete ranks after
    puts_are = ap (λ (z : OfferKind). puts_by c o z) k

    waits_next : list_all holds clients ≡ false → Next s ranks before d r (item.Offer c o) (meets_if s d clients false)
    waits_next e =
        let now : Kept ranks after (meets_if s d clients false).owner = record { long = length-set d.clients r (client_held x o) ∙ kept.long; some_free = not_all clients e; each = held_each } in
        let some = some_wait (meets_if s d clients false).owner now ∙ some_holds clients r (client_held x o) there refl in
        record { kept = now; reached = nothing_reached s d.reached (puts_brought ranks before (r, item.Offer c o)) (puts_are ∙ ap complete_by some) }

    meets_next : list_all holds clients ≡ true → Next s ranks before d r (item.Offer c o) (meets_if s d clients true)
    meets_next e =
        let free : Free (map freed clients) = record { number = r; free = freed (client_held x o); at_free = entry_map freed clients r (client_held x o) there; is_free = refl } in
        let now : Kept ranks after (meets_if s d clients true).owner = record {
          long = length-map clients freed ∙ length-set d.clients r (client_held x o) ∙ kept.long;
          some_free = free;
          each = λ q y g.
              let z = mapped_entry freed clients q y g in
              let own = held_each q z.0 z.1.0 in
              let p = one_held clients q z.0 e z.1.0 in
              let count = own.count in
              let free : OfNumber after (suc d.met) q (freed z.0) = record { count = grind (arith, nat_tests); held = λ v h. absurd cc; ended = own.ended } in
              subst (λ (v : Client). OfNumber after (suc d.met) q v) z.1.1 free;
        } in
        let none = some_wait (meets_if s d clients true).owner now ∙ none_hold clients in
        let brought_puts : puts_brought ranks before (r, item.Offer c o) ≡ puts_met (offers_held clients) = puts_are ∙ ap complete_by none ∙ sym (ap puts_met offers_are) in
        record { kept = now; reached = ap (λ (ps : Puts). max d.reached (needed_now s ps)) (sym brought_puts) }
      where
        held_is : (q : ℕ) (y : Client) → slice_get clients q ≡ Some y → y.held ≡ last (meeting_offers q after)
        held_is q y g = let p = one_held clients q y e g in p.1 ∙ sym ((held_each q y g).held p.0 p.1)

        offers_are : offers_held clients ≡ filter_map (λ q. last (meeting_offers q after)) (range_with_len 0 ranks)
        offers_are =
            let long : length clients ≡ ranks = length-set d.clients r (client_held x o) ∙ kept.long in
            held_all clients (λ q. last (meeting_offers q after)) 0
            (λ q y g. let z : q ≡ 0 + q = omega arith in held_is q y g ∙ ap (λ (j : ℕ). last (meeting_offers j after)) z)
            ∙ ap (λ (n : ℕ). filter_map (λ q. last (meeting_offers q after)) (range_with_len 0 n)) long

  pub event_next : (i : RankItem) → (is_offer i ≡ true → x.held ≡ None) → Next s ranks before d r i (event s d (r, i))
  event_next =
      by_event s d r x at (Next s ranks before d r) end_next (λ c o idle k. solo_next c o k) (λ c o kind idle k some. waits_next c o kind k idle some)
      (λ c o kind idle k all. meets_next c o kind k idle all)

-- ---- a strange arrival

module _ (s : Setting) (ranks : ℕ) (before : List Arrival) (d : Owner) (kept : Kept ranks before d) (r : ℕ) (x : Client) (at : slice_get d.clients r ≡ Some x) (i : RankItem) where
  pub same_strange : is_strange s d (r, i) ≡ is_strange_after s ranks d.reached before (r, i)
  unfolding is_strange
  same_strange =
      let ended : has_ended (slice_get d.clients r) ≡ is_some (last (ends r before)) = ap has_ended at ∙ ap (λ (m : Option Bool). is_some m) ((kept.each r x at).ended) in
      grind (arith, nat_tests, waits_is ranks before d kept r x at, kinds_are ranks before d kept (meeting_kind i), left_is ranks (before ++ (r, i) ∷ []) (event s d (r, i)).owner, event_next s ranks before d kept r x at i, some_or_none, s.header, d.reached, are_left_behind)

  pub not_taken : is_strange s d (r, i) ≡ false → is_offer i ≡ true → x.held ≡ None
  not_taken e = strange_alone s d r i x at e
