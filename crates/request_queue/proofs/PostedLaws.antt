-- A request that is posted under a new id stands last, and the others keep their states.
use Rattle.request_queue.proofs.Words.{◌≡◌, ◌≤◌, ℕ, ◌+◌, ap, refl, List, [], ◌∷◌, ◌++◌, map, Bool, false, cond, eqb, ◌||◌, Option, Some, None, length, arith, filter, option_map, count_by, list_any, or_parts, or_from, cond_both, ne_eqb, eqb-false, cond-false, cond-true, eq-eqb, eqb-true, filter-append, sum_by_push, length-filter, map-append, any_map, Account, Post, PostKind, Posted, Status, NullRequest, Waiting, Gone, is_waiting, is_bput, buffered, status_of, Posting, Request, status_in, standing, has_waiting, posted_of, as_posted, is_null, is_buffered, Accounts, nat_tests, common_steps}

-- some posted entry has the id
abbrev pub has_posted : List Posted → ℕ → Bool
has_posted posted id = list_any (λ (p : Posted). eqb p.id id) posted

pub not_posted : (posted : List Posted) (id : ℕ) → status_of posted id ≡ None → has_posted posted id ≡ false
not_posted [] id h = refl
not_posted (p ∷ posted) id h = grind (arith, nat_tests, not_posted posted id, eqb p.id id, or_from)

filter_lacks : (f : Posted → Bool) (posted : List Posted) (id : ℕ) → has_posted posted id ≡ false → has_posted (filter f posted) id ≡ false
filter_lacks f [] id h = refl
filter_lacks f (p ∷ posted) id h =
    grind (arith, nat_tests, filter_lacks f posted id (or_parts (eqb p.id id) (has_posted posted id) h).1, or_parts, eqb, cond_both, or_from)

status_in-push : (waiting : List Request) (r : Request) (id : ℕ) → eqb r.id id ≡ false → status_in (waiting ++ r ∷ []) id ≡ status_in waiting id
status_in-push [] r id h = cond-false (eqb r.id id) (Waiting r.kind r.posts) Gone h
status_in-push (s ∷ waiting) r id h = ap (λ (x : Status). cond (eqb s.id id) (Waiting s.kind s.posts) x) (status_in-push waiting r id h)

status_in-new : (waiting : List Request) (r : Request) → has_waiting waiting r.id ≡ false → status_in (waiting ++ r ∷ []) r.id ≡ Waiting r.kind r.posts
status_in-new [] r h = cond-true (eqb r.id r.id) (Waiting r.kind r.posts) Gone (eq-eqb r.id r.id refl)
status_in-new (s ∷ waiting) r h =
    grind (arith, nat_tests, status_in-new waiting r (or_parts (eqb s.id r.id) (has_waiting waiting r.id) h).1, or_parts, eqb, cond-false)

others_stay : (history : List Posting) (waiting : List Request) (r : Request) → has_posted (posted_of history waiting) r.id ≡ false
    → posted_of history (waiting ++ r ∷ []) ≡ posted_of history waiting
others_stay [] waiting r h = refl
others_stay (p ∷ history) waiting r h =
    grind (arith, common_steps, status_in-push, others_stay history waiting r (or_parts (eqb p.id r.id) (has_posted (posted_of history waiting) r.id) h).1)

pub new_lacks : (h : List Posting) (w : List Request) (id : ℕ) → status_of (posted_of h w) id ≡ None
    → filter (λ (x : Posted). is_waiting x.status) (posted_of h w) ≡ map as_posted w → has_waiting w id ≡ false
new_lacks h w id fresh kept = grind (arith, nat_tests, not_posted (posted_of h w) id fresh, any_map (λ (p : Posted). eqb p.id id) as_posted w, filter_lacks)

pub posted-push : (h h' : List Posting) (w w' : List Request) (p : Posting) (r : Request) → h' ≡ h ++ p ∷ [] → w' ≡ w ++ r ∷ [] → p.id ≡ r.id → p.null ≡ false
    → status_of (posted_of h w) r.id ≡ None → filter (λ (x : Posted). is_waiting x.status) (posted_of h w) ≡ map as_posted w
    → posted_of h' w' ≡ posted_of h w ++ as_posted r ∷ []
posted-push h h' w w' p r eh ew i n fresh kept =
    grind (
      arith,
      nat_tests,
      map-append (standing (w ++ r ∷ [])) h (p ∷ []),
      not_posted (posted_of h w) r.id fresh,
      status_in-new w r (new_lacks h w r.id fresh kept),
      others_stay,
      new_lacks,
    )

-- a new entry that is no null request makes no id null
pub is_null-push : (posted : List Posted) (x : Posted) (id : ℕ) → is_null (Some x.status) ≡ false → is_null (status_of (posted ++ x ∷ []) id) ≡ is_null (status_of posted id)
is_null-push [] x id h = grind (arith, nat_tests, eqb x.id id, cond_both)
is_null-push (p ∷ posted) x id h = grind (arith, nat_tests, is_null-push posted x id h, eqb p.id id)

pub waiting-push : (posted : List Posted) (w : List Request) (r : Request) → filter (λ (x : Posted). is_waiting x.status) posted ≡ map as_posted w
    → filter (λ (x : Posted). is_waiting x.status) (posted ++ as_posted r ∷ []) ≡ map as_posted (w ++ r ∷ [])
waiting-push posted w r kept = grind (arith, nat_tests, map-append as_posted w (r ∷ []), filter-append)

pub not_held : (kind : PostKind) (posts : List Post) → is_bput (Waiting kind posts) ≡ false → buffered (Waiting kind posts) ≡ 0
not_held kind posts h = grind (arith, nat_tests)

pub count-push : (w : List Request) (r : Request) → count_by is_buffered (w ++ r ∷ []) ≡ count_by is_buffered w + cond (is_buffered r) 1 0
count-push w r = sum_by_push (λ (x : Request). cond (is_buffered x) 1 0) w r

-- no more bputs wait than requests were posted
pub held_posted : (history : List Posting) (w : List Request) (buffered : ℕ) → filter (λ (x : Posted). is_waiting x.status) (posted_of history w) ≡ map as_posted w
    → buffered ≡ count_by is_buffered w → buffered ≤ length history
held_posted history w buffered kept count =
    let posted = posted_of history w in
    let among = length-filter (λ (x : Posted). is_waiting x.status) posted in
    grind (arith, common_steps)

pub accounts-push : (room : Option Account) (w : List Request) (r : Request) → is_buffered r ≡ false → Accounts room w → Accounts room (w ++ r ∷ [])
accounts-push room w r h a = grind (arith, common_steps, count-push, not_held, is_buffered)

-- ---- a null request

pub null-push : (posted : List Posted) (k id : ℕ) → has_posted posted k ≡ false
    → is_null (status_of (posted ++ record { id = k; status = NullRequest } ∷ []) id) ≡ (eqb k id || is_null (status_of posted id))
null-push [] k id h = grind (arith, nat_tests, eqb k id)
null-push (p ∷ posted) k id h = grind (arith, nat_tests, null-push posted k id (or_parts (eqb p.id k) (has_posted posted k) h).1, or_parts, eqb, ne_eqb, eqb-false, eqb-true)

pub waiting-null : (posted : List Posted) (k : ℕ) → filter (λ (p : Posted). is_waiting p.status) (posted ++ record { id = k; status = NullRequest } ∷ []) ≡ filter (λ (p : Posted). is_waiting p.status) posted
waiting-null [] k = refl
waiting-null (p ∷ posted) k = ap (λ (l : List Posted). cond (is_waiting p.status) (p ∷ l) l) (waiting-null posted k)

-- ---- other ids stay new

pub status_of-push : (posted : List Posted) (x : Posted) (k : ℕ) → eqb x.id k ≡ false → status_of posted k ≡ None → status_of (posted ++ x ∷ []) k ≡ None
status_of-push [] x k e h = ap (option_map (λ (q : Posted). q.status)) (cond-false (eqb x.id k) (Some x) None e)
status_of-push (p ∷ posted) x k e h = grind (arith, nat_tests, status_of-push posted x k e, eqb p.id k)
