-- The offers that are held, one after another.
use Rattle.file_owner.proofs.Words.{◌≡◌, ℕ, suc, ◌+◌, ◌≤◌, refl, sym, ◌∙◌, ap, subst, inr, List, [], ◌∷◌, ◌++◌, length, map, max, take, drop, set, replicate, true, Some, None, arith, length-map, map-append, slice_get, list_all, AllByRecursion, option_to_list, same_Some, and_first, Header, Batch, Offer, Client, freed, holds, offers_held, IsCount, IsFit, IsRise, some_or_none, AreOfOneKind, HoldAll, HoldSingle, IsSteady, Standing, IsSingleOffer, batches_of, known_of, IsJob, IsOneRise, count_longer, count_max, offers_job, one_rise, rise_brought, known_less, greatest_joined, take_next, nat_tests, value_of_some, replicate-append-replicate, filter_map-append, zero}
use Rattle.nc_base.specs.declared.step.OfferKind.TheVariants as offer

pub all_held : (P : Offer → Type 0) (clients : List Client) → HoldAll P clients → AllByRecursion P (offers_held clients)
all_held P [] h = tt
all_held P (x ∷ clients) h = grind (arith, nat_tests, some_or_none x.held, h 0 x, all_held P clients (λ r y o e f. h (suc r) y o e f))

held_few : (clients : List Client) → length (offers_held clients) ≤ length clients
held_few [] = omega arith
held_few (x ∷ clients) = grind (arith, nat_tests, held_few clients)

-- ---- clients from which the offers are taken, one after another

offers_next : (clients : List Client) (i : ℕ) (x : Client) → slice_get clients i ≡ Some x → offers_held (take (i + 1) clients) ≡ offers_held (take i clients) ++ option_to_list x.held
offers_next clients i x e = grind (arith, nat_tests, take_next clients i x e, filter_map-append (λ (y : Client). y.held) (take i clients) (x ∷ []))

pub batches_on : (clients : List Client) (i : ℕ) (x : Client) (batches more : List Batch) → slice_get clients i ≡ Some x → batches ≡ batches_of (offers_held (take i clients))
    → more ≡ batches ++ batches_of (option_to_list x.held) → more ≡ batches_of (offers_held (take (i + 1) clients))
batches_on clients i x batches more e b m = grind (arith, nat_tests, offers_next clients i x e, map-append)

pub known_on : (clients : List Client) (i : ℕ) (x : Client) (known own more : ℕ) → slice_get clients i ≡ Some x → known ≡ known_of (offers_held (take i clients))
    → own ≡ known_of (option_to_list x.held) → more ≡ max known own → more ≡ known_of (offers_held (take (i + 1) clients))
known_on clients i x known own more e k o m = grind (arith, nat_tests, offers_next clients i x e, greatest_joined, map-append)

pub freed_at : (xs : List Client) (i : ℕ) → slice_get (map freed (take i xs) ++ drop i xs) i ≡ slice_get xs i
freed_at [] zero = refl
freed_at [] (suc i) = refl
freed_at (z ∷ xs) zero = refl
freed_at (z ∷ xs) (suc i) = freed_at xs i

pub freed_on : (xs now : List Client) (i : ℕ) (x y : Client) → slice_get xs i ≡ Some x → now ≡ map freed (take i xs) ++ drop i xs → y ≡ freed x → set now i y ≡ map freed (take (i + 1) xs) ++ drop (i + 1) xs
freed_on xs now i x y e f g = ap (λ (ss : List Client). set ss i y) f ∙ ap (set (map freed (take i xs) ++ drop i xs) i) g ∙ step xs i e
  where
    step : (xs : List Client) (i : ℕ) → slice_get xs i ≡ Some x → set (map freed (take i xs) ++ drop i xs) i (freed x) ≡ map freed (take (i + 1) xs) ++ drop (i + 1) xs
    step (z ∷ xs) (suc i) h =
        let k : suc (i + 1) ≡ suc i + 1 = omega arith in
        ap (λ (ss : List Client). freed z ∷ ss) (step xs i h) ∙ ap (λ (n : ℕ). map freed (take n (z ∷ xs)) ++ drop n (z ∷ xs)) k
    step xs i h = grind (arith, nat_tests, same_Some)

pub replicate_more : (n : ℕ) (x : Client) → replicate n x ++ x ∷ [] ≡ replicate (n + 1) x
replicate_more n x = replicate-append-replicate n 1 x

pub freed_none : (clients : List Client) (r : ℕ) (x : Client) → slice_get (map freed clients) r ≡ Some x → x.held ≡ None
freed_none (y ∷ clients) (suc r) x e = freed_none clients r x e
freed_none clients r x e = grind (arith, nat_tests)

-- ---- what the ranks know

known_low : (n : ℕ) (offers : List Offer) → AllByRecursion (λ o. o.known ≤ n) offers → known_of offers ≤ n
known_low n [] all = omega arith
known_low n (o ∷ offers) all = grind (arith, nat_tests, known_low n offers all.1, known_less)

-- ---- a meeting of what is held

pub held_job : (header : Header) (len : ℕ) (x : Standing) → IsSteady header len x → IsJob header len (batches_of (offers_held x.clients))
held_job header len x h =
    let few = h.few in
    let less = held_few x.clients in
    offers_job header len (offers_held x.clients) (omega arith) (all_held (IsFit header len) x.clients (λ r y o e f. (h.held r y o e f).fit))

pub held_rise : (header : Header) (len : ℕ) (x : Standing) → IsSteady header len x → IsRise header len (known_of (offers_held x.clients))
held_rise header len x h = rise_brought header len (offers_held x.clients) (all_held (IsFit header len) x.clients (λ r y o e f. (h.held r y o e f).fit))

pub held_low : (header : Header) (len : ℕ) (x : Standing) → IsSteady header len x → known_of (offers_held x.clients) ≤ x.reached
held_low header len x h = known_low x.reached (offers_held x.clients) (all_held (λ o. o.known ≤ x.reached) x.clients (λ r y o e f. (h.held r y o e f).known))

pub held_once : (header : Header) (len : ℕ) (x : Standing) → IsSteady header len x → list_all holds x.clients ≡ true → HoldSingle x.clients → IsOneRise (known_of (offers_held x.clients)) (batches_of (offers_held x.clients))
held_once header len x h all single = by_list x.clients h.same all single
  where
    by_list : (clients : List Client) → AreOfOneKind clients → list_all holds clients ≡ true → HoldSingle clients → IsOneRise (known_of (offers_held clients)) (batches_of (offers_held clients))
    by_list [] same a alone = one_rise offer.Solo [] tt tt
    by_list (y ∷ clients) same a alone =
        let o = value_of_some y.held (and_first (holds y) (list_all holds clients) a) in
        one_rise o.0.kind (offers_held (y ∷ clients)) (all_held IsSingleOffer (y ∷ clients) alone)
        (all_held (λ p. p.kind ≡ o.0.kind) (y ∷ clients) (λ r z p f g. same r 0 z y p o.0 f refl g o.1))

-- ---- when nothing is held any more

pub steady_freed : (header : Header) (len more : ℕ) (x y : Standing) → IsSteady header len x → y.clients ≡ map freed x.clients → length y.lines ≡ length x.lines → len ≤ more
    → IsCount header more y.records → y.reached ≡ max x.reached y.records → IsSteady header more y
steady_freed header len more x y h clients lines l count reached =
    let long : length y.clients ≡ length x.clients = ap (λ (ss : List Client). length ss) clients ∙ length-map x.clients freed in
    let none : (r : ℕ) (z : Client) (o : Offer) → slice_get y.clients r ≡ Some z → z.held ≡ Some o → ⊥ = λ r z o e f. grind (arith, nat_tests, freed_none x.clients r z) in
    let few = h.few in
    let each = h.one_each in
    record {
      few = omega arith;
      one_each = lines ∙ each ∙ sym long;
      count = count;
      reached = subst (λ (n : ℕ). IsCount header more n) (sym reached) (count_max header more x.reached y.records (count_longer header len more x.reached l h.reached) (inr count));
      below = omega arith;
      held = λ r z o e f. absurd (none r z o e f);
      same = λ r q z w o p e f g k. absurd (none r z o e g);
    }
