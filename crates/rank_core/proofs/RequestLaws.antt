-- What is kept of the requests of a rank.
use Rattle.rank_core.proofs.Words.{◌≡◌, ℕ, ◌+◌, ◌≤◌, ◌∙◌, ap, sym, refl, subst, inl, inr, List, [], ◌∷◌, ◌++◌, map, sum, length, Bool, true, false, cond, either, holds_or_not, eqb, None, arith, filter, flat_map, or_parts, eqb-false, length-append, Header, Post, Item, Choice, Iput, Iget, Bput, Direction, In, filter_in, flat_in, Posted, Status, Waiting, Gone, named, puts_in, gets_in, status_of, items_from, items_of, has_id, is_ok_code, IsOwnOnce, not_posted, has_posted, status_of-push, IsPut, IsGet, posts_of_status, AreGets, ArePuts, AreTowards, IsRequest, AreRequests, AreOnce, direction_of_kind, nat_tests, common_steps}
use Rattle.nc_base.specs.declared.request.Direction.TheVariants as way
use Rattle.serial_spec.specs.RankMachine as machine
use Rattle.rank_core.proofs.KnownLaws.{check_more}
use Rattle.rank_core.proofs.OwnLaws.{own_append, own_none, held_by, held_append, keys_apart}

-- ---- the rank knows of more records

gets_more : (header : Header) (known more : ℕ) (posts : List Post) → known ≤ more → AreGets header known posts → AreGets header more posts
gets_more header known more posts le h = record { each = λ p m. check_more header p.var p.region known more way.Get le (h.each p m); var = h.var }

pub puts_more : (header : Header) (known more : ℕ) (posts : List Post) → known ≤ more → ArePuts header known posts → ArePuts header more posts
puts_more header known more posts le h = grind (arith, nat_tests, check_more header)

towards_more : (d : Direction) (header : Header) (known more : ℕ) (posts : List Post) → known ≤ more → AreTowards d header known posts → AreTowards d header more posts
towards_more way.Put header known more posts le h = puts_more header known more posts le h
towards_more way.Get header known more posts le h = gets_more header known more posts le h

request_more : (header : Header) (known more id : ℕ) (s : Status) → known ≤ more → IsRequest header known id s → IsRequest header more id s
request_more header known more id (Waiting kind posts) le h = (h.0, towards_more (direction_of_kind kind) header known more posts le h.1)
request_more header known more id xs le h = tt

pub requests_more : (header : Header) (known more : ℕ) (ps : List Posted) → known ≤ more → AreRequests header known ps → AreRequests header more ps
requests_more header known more [] le h = tt
requests_more header known more (p ∷ ps) le h = (request_more header known more p.id p.status le h.0, h.1, requests_more header known more ps le h.2)

-- ---- a request more

new_later : (p : Posted) (ps : List Posted) (id : ℕ) → status_of (p ∷ ps) id ≡ None → (eqb p.id id ≡ false) × (status_of ps id ≡ None)
new_later p ps id fresh = let parts = or_parts (eqb p.id id) (has_posted ps id) (not_posted (p ∷ ps) id fresh) in (parts.0, rw parts.0 at fresh)

pub requests_push : (header : Header) (known : ℕ) (ps : List Posted) (id : ℕ) (s : Status) → status_of ps id ≡ None → IsRequest header known id s
    → AreRequests header known ps → AreRequests header known (ps ++ record { id = id; status = s } ∷ [])
requests_push header known [] id s fresh r h = (r, refl, tt)
requests_push header known (p ∷ ps) id s fresh r h =
    grind (arith, nat_tests, new_later, status_of-push, requests_push header known ps id s (new_later p ps id fresh).1 r h.2, h.0, h.1)

-- ---- requests that are taken

abbrev pub gone_where : (Posted → Bool) → Posted → Posted
gone_where f p = cond (f p) (record p { status = Gone }) p

same_id : (f : Posted → Bool) (p : Posted) → (gone_where f p).id ≡ p.id
same_id f p = either (λ (q : Posted). q.id ≡ p.id) (f p) _ _ (λ t. refl) (λ t. refl)

stays_new : (f : Posted → Bool) (ps : List Posted) (id : ℕ) → status_of ps id ≡ None → status_of (map (gone_where f) ps) id ≡ None
stays_new f [] id h = refl
stays_new f (p ∷ ps) id h = grind (arith, nat_tests, new_later, same_id, stays_new f ps id (new_later p ps id h).1, gone_where)

pub requests_without : (header : Header) (known : ℕ) (f : Posted → Bool) (ps : List Posted) → AreRequests header known ps → AreRequests header known (map (gone_where f) ps)
requests_without header known f [] h = tt
requests_without header known f (p ∷ ps) h = grind (arith, nat_tests, same_id, stays_new, requests_without header known f ps h.2, h.0, gone_where)

request_in : (header : Header) (known : ℕ) (ps : List Posted) (p : Posted) → AreRequests header known ps → In ps p → IsRequest header known p.id p.status
request_in header known [] p h m = absurd m
request_in header known (q ∷ ps) p h (inl e) = subst (λ (x : Posted). IsRequest header known x.id x.status) e h.0
request_in header known (q ∷ ps) p h (inr m) = request_in header known ps p h.2 m

put_in : (header : Header) (known id : ℕ) (s : Status) (p : Post) → IsRequest header known id s → In (puts_in s) p → IsPut header known p × (p.id ≡ id)
put_in header known id (Waiting Iput posts) p r m = (r.1.each p m, r.0 p m)
put_in header known id (Waiting Bput posts) p r m = (r.1.each p m, r.0 p m)
put_in header known id xs p r m = absurd m

get_in : (header : Header) (known id : ℕ) (s : Status) (p : Post) → IsRequest header known id s → In (gets_in s) p → IsGet header known p × (p.id ≡ id)
get_in header known id (Waiting Iget posts) p r m = (r.1.each p m, r.0 p m)
get_in header known id xs p r m = absurd m

one_var : (header : Header) (known id : ℕ) (s : Status) (p q : Post) → IsRequest header known id s → In (gets_in s) p → In (gets_in s) q → p.id ≡ q.id → p.var ≡ q.var
one_var header known id (Waiting Iget posts) p q r m n e = r.1.var p q m n e
one_var header known id xs p q r m n e = absurd m

own_puts : (header : Header) (known id rank : ℕ) (s : Status) → IsRequest header known id s → IsOwnOnce (held_by header rank (puts_in s))
own_puts header known id rank (Waiting Iput posts) r = r.1.own rank
own_puts header known id rank (Waiting Bput posts) r = r.1.own rank
own_puts header known id rank xs r = own_none

-- no later request has the id of an earlier one
id_in : (ps : List Posted) (p : Posted) (id : ℕ) → status_of ps id ≡ None → In ps p → p.id ≡ id → ⊥
id_in [] p id h m e = absurd m
id_in (q ∷ ps) p id h (inl g) e = eqb-false q.id id (new_later q ps id h).0 (ap (λ (x : Posted). x.id) g ∙ e)
id_in (q ∷ ps) p id h (inr m) e = id_in ps p id (new_later q ps id h).1 m e

one_request : (header : Header) (known : ℕ) (ps : List Posted) (p q : Posted) → AreRequests header known ps → In ps p → In ps q → p.id ≡ q.id → p ≡ q
one_request header known [] p q h m n e = absurd m
one_request header known (x ∷ ps) p q h (inl a) (inl b) e = sym a ∙ b
one_request header known (x ∷ ps) p q h (inl a) (inr n) e = absurd (id_in ps q x.id h.1 n (sym e ∙ ap (λ (y : Posted). y.id) (sym a)))
one_request header known (x ∷ ps) p q h (inr m) (inl b) e = absurd (id_in ps p x.id h.1 m (e ∙ ap (λ (y : Posted). y.id) (sym b)))
one_request header known (x ∷ ps) p q h (inr m) (inr n) e = one_request header known ps p q h.2 m n e

abbrev pub puts_where : (Posted → Bool) → List Posted → List Post
puts_where f ps = flat_map (λ (p : Posted). puts_in p.status) (filter f ps)

abbrev pub gets_where : (Posted → Bool) → List Posted → List Post
gets_where f ps = flat_map (λ (p : Posted). gets_in p.status) (filter f ps)

-- the request that a post is of
module _ (header : Header) (known : ℕ) (f : Posted → Bool) (ps : List Posted) (h : AreRequests header known ps) where
  record IsOfRequest (of : Status → List Post) (p : Post) : Type 0 where
    posted : Posted
    here : In ps posted
    right : IsRequest header known posted.id posted.status
    is_one : In (of posted.status) p

  of_request : (of : Status → List Post) (p : Post) → In (flat_map (λ (q : Posted). of q.status) (filter f ps)) p → IsOfRequest of p
  of_request of p m = grind (arith, nat_tests, flat_in, filter_in, request_in, filter)

  one_var_of : (p q : Post) → In (gets_where f ps) p → In (gets_where f ps) q → p.id ≡ q.id → p.var ≡ q.var
  one_var_of p q m n e =
      let a = of_request gets_in p m in
      grind (arith, nat_tests, of_request gets_in q n, get_in header known a.posted.id a.posted.status p a.right a.is_one, get_in header known (of_request gets_in q n).posted.id (of_request gets_in q n).posted.status q, one_request header known ps a.posted (of_request gets_in q n).posted h a.here (of_request gets_in q n).here, one_var header known a.posted.id a.posted.status p q a.right a.is_one)

own_where : (header : Header) (known rank : ℕ) (f : Posted → Bool) (ps : List Posted) → AreRequests header known ps → IsOwnOnce (held_by header rank (puts_where f ps))
own_where header known rank f [] h = own_none
own_where header known rank f (p ∷ ps) h =
    let rest = own_where header known rank f ps h.2 in
    either (λ (qs : List Posted). IsOwnOnce (held_by header rank (flat_map (λ (q : Posted). puts_in q.status) qs))) (f p) (p ∷ filter f ps) (filter f ps)
    (λ t. subst IsOwnOnce (sym (held_append header rank (puts_in p.status) (puts_where f ps)))
    (own_append (held_by header rank (puts_in p.status)) (held_by header rank (puts_where f ps)) (own_puts header known p.id rank p.status h.0) rest
    (keys_apart header rank (puts_in p.status) (puts_where f ps) (λ a b m n e.
    grind (arith, common_steps, of_request header known f ps h.2 puts_in b n, id_in ps (of_request header known f ps h.2 puts_in b n).posted p.id h.1 (of_request header known f ps h.2 puts_in b n).here, put_in header known (of_request header known f ps h.2 puts_in b n).posted.id (of_request header known f ps h.2 puts_in b n).posted.status b, put_in header known p.id p.status a h.0 m)))))
    (λ t. rest)

pub puts_taken : (header : Header) (known : ℕ) (f : Posted → Bool) (ps : List Posted) → AreRequests header known ps → ArePuts header known (puts_where f ps)
puts_taken header known f ps h = record {
  each = λ p m. let r = of_request header known f ps h puts_in p m in (put_in header known r.posted.id r.posted.status p r.right r.is_one).0;
  own = λ rank. own_where header known rank f ps h;
}

pub gets_taken : (header : Header) (known : ℕ) (f : Posted → Bool) (ps : List Posted) → AreRequests header known ps → AreGets header known (gets_where f ps)
gets_taken header known f ps h = record {
  each = λ p m. let r = of_request header known f ps h gets_in p m in (get_in header known r.posted.id r.posted.status p r.right r.is_one).0;
  var = one_var_of header known f ps h;
}

-- ---- how many posts there are

abbrev pub held_posts : List Posted → ℕ
held_posts ps = sum (map (λ (p : Posted). posts_of_status p.status) ps)

first_held : (p : Posted) (ps : List Posted) → held_posts (p ∷ ps) ≡ posts_of_status p.status + held_posts ps
first_held p ps = grind (arith, common_steps)

pub held_without : (f : Posted → Bool) (ps : List Posted) → held_posts (map (gone_where f) ps) ≤ held_posts ps
held_without f [] = omega arith
held_without f (p ∷ ps) = grind (arith, nat_tests, held_without f ps, first_held, p.status, held_posts, gone_where, posts_of_status)

-- what is taken and what is left
pub taken_few : (f : Posted → Bool) (ps : List Posted) → length (puts_where f ps) + length (gets_where f ps) + held_posts (map (gone_where f) ps) ≤ held_posts ps
taken_few f [] = omega arith
taken_few f (p ∷ ps) = grind (arith, nat_tests, taken_few f ps, holds_or_not, length-append, first_held, puts_where, gets_where, held_posts, gone_where)

-- ---- the items

ok_new : (posted : List Posted) (earlier ids : List ℕ) (j : Item) → In (items_from posted earlier ids) j → is_ok_code j.code ≡ true → has_id earlier j.id ≡ false
ok_new posted earlier [] j m h = absurd m
ok_new posted earlier (id ∷ ids) j (inl e) h = grind (arith, nat_tests)
ok_new posted earlier (id ∷ ids) j (inr m) h = (or_parts (eqb id j.id) (has_id earlier j.id) (ok_new posted (id ∷ earlier) ids j m h)).1

once_from : (posted : List Posted) (earlier ids : List ℕ) → AreOnce (items_from posted earlier ids)
once_from posted earlier [] = tt
once_from posted earlier (id ∷ ids) = grind (arith, nat_tests, ok_new, once_from posted (id ∷ earlier) ids)

pub once_items : (r : machine.Rank) (choice : Choice) → AreOnce (items_of r choice)
once_items r choice = once_from r.posted [] (named r choice)
