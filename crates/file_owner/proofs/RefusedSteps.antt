-- What a refused step leaves, as the owner's event has it.
use Rattle.file_owner.proofs.Words.{◌≡◌, ℕ, ◌<◌, length, refl, sym, ◌∙◌, ap, subst, inl, inr, ◌⊎◌, List, [], ◌∷◌, ◌++◌, max, set, Bool, true, false, Option, Some, None, arith, append-nil, same_Some, slice_get, flat_map, enumerate_from, list_all, byte_len, Batch, MeetKind, Offer, RankItem, StepErr, Memory, after, BothTold, Owner, Client, holds, is_strange, meets_if, needed_now, offers_at, offers_held, step_offers, Setting, puts_of, solo, count_width, Arrival, Puts, covered, IsTorn, OwnerStoodAt, at_arrival, between_arrivals, counted, puts_in, torn_by, torn_wider, batches_of, known_of, met, IsOneRise, met_count, met_done, met_torn, event_is, met_is, puts_same, owner_at, HoldSingle, IsSingle, IsSingleOffer, Standing, IsFaultAt, IsRefusedAlone, IsRefusedArrival, IsRefusedTogether, entry_below, client_held, nat_tests, IfSome_then, some_each}
use Rattle.nc_base.specs.declared.step.OfferKind.TheVariants as offer
use Rattle.nc_base.specs.declared.step.RankItem.TheVariants as item
use Rattle.file_owner.proofs.ArriveSteps.{offer_event, single_set, with_clients}

-- ---- a number's own step

pub refused_alone : (s : Setting) (r c : ℕ) (o : Offer) (b : Standing) (left : Option (List ℕ))
    → BothTold (λ old left. IsTorn (covered s.header (puts_of (r, o))) 0 old (solo s r o (counted old 0)).0.file left) b.told left → IsRefusedAlone s c (r, o) b left b.records
refused_alone s r c o b left torn = grind (arith, nat_tests, torn_wider)

-- ---- a meeting

pub refused_together : (s : Setting) (b : Standing) (batches : List Batch) (known n : ℕ) (left : Option (List ℕ)) → batches ≡ batches_of (offers_held b.clients) → known ≡ known_of (offers_held b.clients)
    → BothTold (λ old left. IsTorn (covered s.header (puts_in batches)) (byte_len (count_width s.header.version)) old (met s batches known (counted old b.records)).file left) b.told left
    → (n ≡ b.records) ⊎ (n ≡ max b.records (max (needed_now s (puts_in batches)) known)) → IsRefusedTogether s b left n
refused_together s b batches known n left e f torn count = grind (arith, nat_tests, puts_same, met_is, met_count)

-- nothing was begun
pub none_once : (s : Setting) (b : Standing) (n : ℕ) (left : Option (List ℕ)) → left ≡ b.told → n ≡ b.records → HoldSingle b.clients → IsRefusedTogether s b left n
none_once s b n left same count single =
    let batches = batches_of (offers_held b.clients) in
    let known = known_of (offers_held b.clients) in
    refused_together s b batches known n left refl refl (by_told batches known b.told same) (inl count)
  where
    by_told : (batches : List Batch) (known : ℕ) (m : Option (List ℕ)) → left ≡ m
        → BothTold (λ old left. IsTorn (covered s.header (puts_in batches)) (byte_len (count_width s.header.version)) old (met s batches known (counted old b.records)).file left) m left
    by_told batches known None e = e
    by_told batches known (Some file) e =
        let t = met_torn s batches b.records known file in
        let long = t.long in (
          file,
          e,
          torn_by (covered s.header (puts_in batches)) (byte_len (count_width s.header.version)) file (met s batches known (counted file b.records)).file file (omega arith) (omega arith)
              (λ x h. inl refl) (λ x h l k. inl refl) (λ x h k. refl),
        )

-- by the steps of the call
pub refused_once : (s : Setting) (b : Standing) (batches : List Batch) (known n : ℕ) (left : Option (List ℕ)) → batches ≡ batches_of (offers_held b.clients) → known ≡ known_of (offers_held b.clients)
    → (HoldSingle b.clients → IsOneRise (known_of (offers_held b.clients)) (batches_of (offers_held b.clients)))
    → (IsOneRise known batches → BothTold (λ old left. IsTorn (covered s.header (puts_in batches)) (byte_len (count_width s.header.version)) old (met s batches known (counted old b.records)).file left) b.told left)
    → (IsOneRise known batches → (n ≡ b.records) ⊎ (n ≡ max b.records (max (needed_now s (puts_in batches)) known))) → HoldSingle b.clients → IsRefusedTogether s b left n
refused_once s b batches known n left e f once torn count single = grind (arith, nat_tests, refused_together)

pub done_once : (s : Setting) (b : Standing) (batches : List Batch) (known n : ℕ) (left : Option (List ℕ)) → batches ≡ batches_of (offers_held b.clients) → known ≡ known_of (offers_held b.clients)
    → left ≡ after (λ file. (met s batches known (counted file b.records)).file) b.told → n ≡ max b.records (max (needed_now s (puts_in batches)) known) → HoldSingle b.clients → IsRefusedTogether s b left n
done_once s b batches known n left e f bytes count single = refused_together s b batches known n left e f (met_done s batches b.records known b.told left bytes) (inr count)

-- ---- an arrival

-- that brings an end, at which nothing is done
pub arrival_ended : (s : Setting) (b : Standing) (r n : ℕ) (i : RankItem) (memory : Bool) (left : Option (List ℕ)) → i ≡ item.Ended memory → r < length b.clients → left ≡ b.told → n ≡ b.records
    → IsRefusedArrival s (r, i) b left n
arrival_ended s b r n i memory left is low same count =
    subst (λ (j : RankItem). IsRefusedArrival s (r, j) b left n) (sym is) (some_each b.told (λ file there.
    let x = entry_below b.clients r low in grind (arith, nat_tests, event_is s (owner_at b file) r (item.Ended memory) x.0 x.1)))

-- that brings its number's own step
pub arrival_alone : (s : Setting) (b : Standing) (r c n : ℕ) (i : RankItem) (o : Offer) (x : Client) (left : Option (List ℕ)) → i ≡ item.Offer c o → slice_get b.clients r ≡ Some x → o.kind ≡ offer.Solo
    → IsRefusedAlone s c (r, o) b left n → IsRefusedArrival s (r, i) b left n
arrival_alone s b r c n i o x left is e k h =
    let offers : (file : List ℕ) → step_offers (owner_at b file) (r, item.Offer c o) ≡ (r, o) ∷ [] =
    λ file. ap (λ (m : Option Client). elim m [ None ↦ [] | Some y ↦ offers_at (owner_at b file) r o y o.kind ]) e ∙ ap (offers_at (owner_at b file) r o x) k in
    let bytes : (file : List ℕ) → covered s.header (puts_of (r, o)) ≡ covered s.header (flat_map puts_of (step_offers (owner_at b file) (r, item.Offer c o))) =
    λ file. sym (ap (λ (os : List (ℕ × Offer)). covered s.header (flat_map puts_of os)) (offers file) ∙ ap (λ (ps : Puts). covered s.header ps) (append-nil (puts_of (r, o)))) in
    subst (λ (j : RankItem). IsRefusedArrival s (r, j) b left n) (sym is)
    (IfSome_then b.told h (λ file t. grind (arith, nat_tests, bytes file, offer_event s (owner_at b file) r c o x offer.Solo e k)))

-- that brings a meeting
pub arrival_together : (s : Setting) (b : Standing) (r c n : ℕ) (i : RankItem) (o : Offer) (x y : Client) (kind : MeetKind) (left : Option (List ℕ)) → i ≡ item.Offer c o → slice_get b.clients r ≡ Some x
    → y ≡ client_held x o → o.kind ≡ offer.Meet kind → list_all holds (set b.clients r y) ≡ true
    → (HoldSingle (set b.clients r y) → IsRefusedTogether s (with_clients b (set b.clients r y)) left n) → HoldSingle b.clients → IsSingle i → IsRefusedArrival s (r, i) b left n
arrival_together s b r c n i o x y kind left is e f k all h held single =
    let own : IsSingleOffer o = subst (λ (j : RankItem). IsSingle j) is single in
    let alone = single_set b.clients r x y e held (λ p g. subst IsSingleOffer (same_Some o p (sym (ap (λ (z : Client). z.held) f) ∙ g)) own) in
    let every : list_all holds (set b.clients r (client_held x o)) ≡ true = ap (λ (z : Client). list_all holds (set b.clients r z)) (sym f) ∙ all in
    let offers : (file : List ℕ) → step_offers (owner_at b file) (r, item.Offer c o) ≡ enumerate_from 0 (offers_held (set b.clients r (client_held x o))) = λ file. grind (arith, nat_tests, set, every) in
    subst (λ (j : RankItem). IsRefusedArrival s (r, j) b left n) (sym is)
    (IfSome_then b.told (subst (λ (z : Client). IsRefusedTogether s (with_clients b (set b.clients r z)) left n) f (h alone)) (λ file t.
    let to = offer_event s (owner_at b file) r c o x (offer.Meet kind) e k ∙ ap (meets_if s (owner_at b file) (set b.clients r (client_held x o))) every in
    grind (arith, nat_tests, offers file, to)))

-- ---- where the owner stood

pub fault_at : (s : Setting) (e : StepErr) (b : Standing) (a : Arrival) (n : ℕ) (left : Option (List ℕ)) → ((file : List ℕ) → is_strange s (owner_at b file) a ≡ false)
    → (HoldSingle b.clients → IsSingle a.1 → IsRefusedArrival s a b left n) → IsFaultAt s e b (a ∷ []) n left
fault_at s e b a n left fit h = λ held single. IfSome_then b.told (h held (single a (inl refl))) (λ file t. (t.0, t.1, at_arrival a [] refl (fit file) t.2))

-- nothing arrived yet
pub fault_none : (s : Setting) (e : StepErr) (b : Standing) (n : ℕ) (left : Option (List ℕ)) → e ≡ Memory → left ≡ b.told → n ≡ b.records → IsFaultAt s e b [] n left
fault_none s e b n left memory same count = grind (arith, nat_tests)

-- whatever comes later
pub stood_later : (s : Setting) (e : StepErr) (d : Owner) (later more : List Arrival) (left : List ℕ) (n : ℕ) → OwnerStoodAt s e d later left n → OwnerStoodAt s e d (later ++ more) left n
stood_later s e d later more left n (at_arrival a others is fit l) = at_arrival a (others ++ more) (ap (λ (xs : List Arrival). xs ++ more) is) fit l
stood_later s e d later more left n (between_arrivals memory l k) = between_arrivals memory l k
