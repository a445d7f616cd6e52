-- What is told of an arrival by the tests on it.
use Rattle.file_owner.proofs.Words.{◌≡◌, ℕ, zero, suc, ◌*◌, refl, sym, ◌∙◌, ap, List, [], ◌∷◌, length, map, set, Bool, true, false, not, ◌&&◌, ◌||◌, Option, Some, None, arith, slice_get, is_some, IfSome, list_all, list_any, or_parts, and_right, not-false, nat_tests, same_Some, and_second, or_false, Header, Post, Direction, MeetKind, Offer, RankItem, In, size_of, Setting, is_sound, is_offer, meeting_kind, offer_of, product, check, is_ok_code, Owner, Event, Client, at_item, bad_batch, differs, event, freed, has_ended, has_held, has_left, holds, is_strange, kind_held, left_behind, meets_if, refused, same_kind, some_true, strange_offer, wrong_length, IsPut, IsSoundOffer, HasOwnElements, own_bytes, ok_is, IsCount, IsFit, fails_at, entry_set, at_in, fails_as_offer, fails_test, leaves_behind, any_passes_from_place, client_held, not_some, any_member}
use Rattle.nc_base.specs.declared.answer.Code.TheVariants as code
use Rattle.nc_base.specs.declared.request.Direction.TheVariants as way
use Rattle.nc_base.specs.declared.step.OfferKind.TheVariants as offer
use Rattle.nc_base.specs.declared.step.RankItem.TheVariants as item
use Rattle.join_laws.proofs.StrangeLaws.{event_is, freed_none as none_held}

-- ---- one element of a list is changed

any_set : {X : Type 0} (p : X → Bool) (xs : List X) (r : ℕ) (x y : X) → slice_get xs r ≡ Some x → p x ≡ false → list_any p (set xs r y) ≡ (list_any p xs || p y)
any_set p [] r x y e h = absurd cc
any_set p (z ∷ xs) zero x y e h = grind (arith, nat_tests, same_Some)
any_set p (z ∷ xs) (suc r) x y e h = grind (arith, nat_tests, any_set p xs r x y e h)

any_same : {X : Type 0} (p : X → Bool) (xs : List X) (r : ℕ) (x y : X) → slice_get xs r ≡ Some x → p y ≡ p x → list_any p (set xs r y) ≡ list_any p xs
any_same p (z ∷ xs) (suc r) x y e h = ap (λ (t : Bool). p z || t) (any_same p xs r x y e h)
any_same p xs r x y e h = grind (arith, nat_tests)

-- ---- who is left behind

none_left : (clients : List Client) → list_all holds clients ≡ true → list_any has_left clients ≡ false
none_left [] h = refl
none_left (x ∷ clients) h = grind (arith, nat_tests, none_left clients (and_second (holds x) (list_all holds clients) h))

stays : (x : Client) → x.ended ≡ None → has_left x ≡ false
stays x e = grind (arith, nat_tests)

meeting_leaves : (s : Setting) (d : Owner) (r : ℕ) (x : Client) (o : Offer) → slice_get d.clients r ≡ Some x → x.ended ≡ None → (there : slice_get (set d.clients r (client_held x o)) r ≡ Some (client_held x o))
    → (t : Bool) → list_all holds (set d.clients r (client_held x o)) ≡ t → left_behind (meets_if s d (set d.clients r (client_held x o)) t).owner.clients ≡ list_any has_left d.clients
meeting_leaves s d r x o e f there true h =
    and_right (list_any has_left (map freed (set d.clients r (client_held x o)))) (list_any holds (map freed (set d.clients r (client_held x o)))) (none_held (set d.clients r (client_held x o)))
    ∙ sym (none_left (set d.clients r (client_held x o)) h) ∙ any_set has_left d.clients r x (client_held x o) e (stays x f) ∙ or_false (list_any has_left d.clients)
meeting_leaves s d r x o e f there false h = grind (arith, nat_tests, set, any_passes_from_place, any_set, stays, or_false)

leaves : (s : Setting) (d : Owner) (r : ℕ) (i : RankItem) (x : Client) → slice_get d.clients r ≡ Some x → x.ended ≡ None → left_behind (at_item s d r x i).owner.clients ≡ leaves_behind d.clients x i
leaves s d r (item.Ended memory) x e f = grind (arith, nat_tests, any_same, not, set, any_set, stays)
leaves s d r (item.Offer c o) x e f = grind (arith, nat_tests, entry_set d.clients r x (client_held x o) e, set d.clients r (client_held x o), meeting_leaves)

-- ---- the tests

pub no_kind : (clients : List Client) → list_any (λ y. differs (kind_held y) None) clients ≡ false
no_kind [] = refl
no_kind (x ∷ clients) = grind (arith, nat_tests, no_kind clients)

four : (a b c d e : Bool) → some_true (a ∷ b ∷ c ∷ d ∷ e ∷ []) ≡ (a || (d || (b || (c || e))))
four a b c d e = grind (arith, nat_tests)

offer_tests : (header : Header) (clients : List Client) (reached : ℕ) (x : Client) (i : RankItem)
    → ((is_offer i && holds x) || (list_any (λ y. differs (kind_held y) (meeting_kind i)) clients || strange_offer header reached (offer_of i))) ≡ fails_as_offer header clients reached x i
unfolding strange_offer
offer_tests header clients reached x (item.Ended memory) = ap (λ (t : Bool). t || false) (no_kind clients)
offer_tests header clients reached x (item.Offer c o) = refl

ended_or : (t a b : Bool) → (t ≡ false → a ≡ b) → (t || a) ≡ (t || b)
ended_or t a b h = grind (arith, nat_tests)

pub strange_is : (s : Setting) (d : Owner) (r : ℕ) (i : RankItem) (x : Client) → slice_get d.clients r ≡ Some x
    → is_strange s d (r, i) ≡ fails_test s.header d.clients d.reached x i
unfolding is_strange
strange_is s d r i x e =
    four (has_ended (slice_get d.clients r)) (is_offer i && has_held (slice_get d.clients r)) (list_any (λ y. differs (kind_held y) (meeting_kind i)) d.clients)
    (left_behind (event s d (r, i)).owner.clients) (strange_offer s.header d.reached (offer_of i))
    ∙ ap (λ (m : Option Client). has_ended m || (left_behind (event s d (r, i)).owner.clients || ((is_offer i && has_held m) || (list_any (λ y. differs (kind_held y) (meeting_kind i)) d.clients || strange_offer s.header d.reached (offer_of i))))) e
    ∙ ended_or (is_some x.ended) _ _ (λ f.
    let behind = ap (λ (ev : Event). left_behind ev.owner.clients) (event_is s d r i x e) ∙ leaves s d r i x e (not_some x.ended f) in (λ j. behind j || offer_tests s.header d.clients d.reached x i j))

-- ---- its posts

none_in : {X : Type 0} (p : X → Bool) (xs : List X) (x : X) → list_any p xs ≡ false → In xs x → p x ≡ false
none_in p xs x h i = grind (arith, nat_tests, any_member p xs x i)

not_refused : (header : Header) (known : ℕ) (way : Direction) (p : Post) → refused header known way p ≡ false → check header p.var p.region known way ≡ code.Ok
not_refused header known way p e = ok_is (check header p.var p.region known way) (not-false (is_ok_code (check header p.var p.region known way)) e)

pub whole_length : (header : Header) (p : Post) → wrong_length header p ≡ false → IfSome (slice_get header.vars p.var) (λ v. length p.bytes ≡ product p.region.count * size_of v.kind)
whole_length header p e = grind (arith, nat_tests, not, not-false)

sound_offer : (header : Header) (o : Offer) → is_sound header ≡ true → bad_batch header o ≡ false → HasOwnElements o.batch.puts → IsSoundOffer header o
sound_offer header o sound e own =
    let a = or_parts (list_any (λ p. refused header o.known way.Put p || wrong_length header p) o.batch.puts || list_any (λ p. refused header o.known way.Get p) o.batch.gets) _ e in
    let b = or_parts (list_any (λ p. refused header o.known way.Put p || wrong_length header p) o.batch.puts) (list_any (λ p. refused header o.known way.Get p) o.batch.gets) a.0 in
    let put : (p : Post) → In o.batch.puts p → IsPut header o.known p =
    λ p i. let f = none_in (λ p. refused header o.known way.Put p || wrong_length header p) o.batch.puts p b.0 i in grind (arith, nat_tests, or_parts, not_refused, whole_length, f) in
    record {
      puts = put;
      gets = λ p i. not_refused header o.known way.Get p (none_in (λ p. refused header o.known way.Get p) o.batch.gets p b.1 i);
      own = own_bytes header o.batch.puts sound
          (λ i p f. (o.known, way.Put, (put p (at_in o.batch.puts i p f)).accepted)) own;
    }

pub fits : (header : Header) (len reached : ℕ) (o : Offer) → is_sound header ≡ true → bad_batch header o ≡ false → HasOwnElements o.batch.puts → IsCount header len o.known → IsFit header len o
fits header len reached o sound e own known = record { sound = sound_offer header o sound e own; known = known; few = grind (arith, nat_tests, or_parts) }

-- ---- its kind

one_kind : (a b : MeetKind) → not (same_kind a b) ≡ false → a ≡ b
one_kind a b e = grind (arith, nat_tests)

pub kind_is : (clients : List Client) (kind : MeetKind) (r : ℕ) (x : Client) (o : Offer) (own : MeetKind) → list_any (λ y. differs (kind_held y) (Some kind)) clients ≡ false → slice_get clients r ≡ Some x
    → x.held ≡ Some o → o.kind ≡ offer.Meet own → own ≡ kind
kind_is clients kind r x o own h e f k = grind (arith, nat_tests, one_kind, fails_at, same_Some)
