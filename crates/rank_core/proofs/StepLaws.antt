-- What the calls of the queue leave, by what they answered.
use Rattle.rank_core.proofs.Words.{◌≡◌, ℕ, ◌<◌, ◌≤◌, sym, refl, subst, inl, List, [], ◌∷◌, length, get_or, true, cond, eqb, Some, None, Result, Ok, Err, arith, IfOk, OnOk, OnErr, option_map, bytes_eq, position-Some, slice_get_read, and_parts, Header, Post, Dim, Call, Given, Choice, Queued, rank_with, with_request, id_of, find_dim, Status, is_chosen, named, without_chosen, status_of, dim_at, is_lawful_call, is_given, most_parts, are_values, is_post_of, HaveId, IsRequest, AreRequests, most_of, most_posts, nat_tests}
use Rattle.nc_base.specs.declared.request.Call.TheVariants as call
use Rattle.rank_core.proofs.RequestLaws.{requests_without, requests_push}

pub ok_both : {A E : Type 0} (r : Result A E) (P Q R : A → Type 0) → ((x : A) → P x → Q x → R x) → IfOk r P → IfOk r Q → IfOk r R
ok_both (Ok x) P Q R f p q = f x p q
ok_both (Err e) P Q R f p q = tt

-- what a take or a cancel leaves
pub requests_after : {A E : Type 0} (r : Result A E) (header : Header) (known : ℕ) (before after : Queued) (choice : Choice) → AreRequests header known before.posted
    → OnOk r (after ≡ record before { posted = (without_chosen (rank_with before) choice).posted }) → OnErr r (after ≡ before) → AreRequests header known after.posted
requests_after (Ok x) header known before after choice h e f =
    subst (λ (q : Queued). AreRequests header known q.posted) (sym e) (requests_without header known (is_chosen (named (rank_with before) choice)) before.posted h)
requests_after (Err x) header known before after choice h e f = subst (λ (q : Queued). AreRequests header known q.posted) (sym f) h

-- what a post leaves
pub requests_kept : {A E : Type 0} (r : Result A E) (header : Header) (known id : ℕ) (s : Status) (before after : Queued) → status_of before.posted id ≡ None → IsRequest header known id s
    → AreRequests header known before.posted → OnOk r (after ≡ with_request before id s) → OnErr r (after ≡ before) → AreRequests header known after.posted
requests_kept (Ok x) header known id s before after fresh new h e f =
    subst (λ (q : Queued). AreRequests header known q.posted) (sym e) (requests_push header known before.posted id s fresh new h)
requests_kept (Err x) header known id s before after fresh new h e f = subst (λ (q : Queued). AreRequests header known q.posted) (sym f) h

pub id_is : (id : ℕ) (posts : List Post) → 0 < length posts → HaveId id posts → id_of posts ≡ id
id_is id [] some h = absurd (omega arith)
id_is id (p ∷ posts) some h = h p (inl refl)

-- the length of a dimension that is found
pub dim_is : (header : Header) (name : List ℕ) (known k : ℕ) (d : Dim) → find_dim header name ≡ Some k → d ≡ get_or header.dims k d
    → option_map (λ (d : Dim). cond (eqb d.len 0) known d.len) (dim_at header (find_dim header name)) ≡ Some (cond (eqb d.len 0) known d.len)
dim_is header name known k d e at =
    let within = (position-Some (λ (x : Dim). bytes_eq x.name name) header.dims k d e).0 in
    let there = slice_get_read header.dims (length header.dims) k d refl within at in
    grind (arith, nat_tests)

-- ---- how many posts a lawful call brings

given_few : (g : Given) → is_given g ≡ true → most_of g ≤ most_parts
given_few g h = grind (arith, nat_tests)

pub call_few : (ranks r : ℕ) (c : Call) → is_lawful_call ranks r c ≡ true → most_posts c ≤ most_parts
call_few ranks r (call.Put all name given values) h = given_few given (and_parts (is_given given) (are_values values) h).0
call_few ranks r (call.Get all name given) h = given_few given h
call_few ranks r (call.Post id kind name given values) h = given_few given (and_parts (is_given given) (is_post_of kind values) h).0
call_few ranks r xs h = omega arith
