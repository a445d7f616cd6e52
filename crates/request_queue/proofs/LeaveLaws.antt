-- The listed requests leave: what waits is what is not listed, and the others keep their states.
use Rattle.request_queue.proofs.Words.{◌≡◌, ℕ, ◌+◌, ◌∙◌, ap, sym, refl, inr, ◌⊎◌, List, [], ◌∷◌, map, Bool, true, false, cond, eqb, not, Option, Some, None, length, arith, Post, filter, sum_by, cond_both, cond-false, cond-true, ne_eqb, cases_Bool, and_right, and_from, both_ways, sum_by-filter_both, map_map, Account, Posted, Status, NullRequest, Waiting, Gone, is_waiting, status_of, Posting, Request, status_in, posted_of, as_posted, is_null, held, is_buffered, Accounts, Holds, is_listed, removed, freed, nat_tests, common_steps}

abbrev pub left : (ℕ → Bool) → List Request → List Request
left listed w = filter (λ (r : Request). not (listed r.id)) w

abbrev pub taken : (ℕ → Bool) → List Request → List Request
taken listed w = filter (λ (r : Request). listed r.id) w

abbrev marked : (ℕ → Bool) → Posted → Posted
marked listed p = cond (is_listed listed p) (record p { status = Gone }) p

-- ---- states

listed_gone : (listed : ℕ → Bool) (w : List Request) (id : ℕ) → listed id ≡ true → status_in (left listed w) id ≡ Gone
listed_gone listed [] id t = refl
listed_gone listed (r ∷ w) id t = grind (arith, nat_tests, listed_gone listed w id t, listed r.id, eqb r.id id, ne_eqb, both_ways, cond-false)

other_stays : (listed : ℕ → Bool) (w : List Request) (id : ℕ) → listed id ≡ false → status_in (left listed w) id ≡ status_in w id
other_stays listed [] id f = refl
other_stays listed (r ∷ w) id f = grind (arith, nat_tests, other_stays listed w id f, listed r.id, eqb r.id id, ne_eqb, both_ways, cond-false)

waits_or_gone : (w : List Request) (id : ℕ) → (is_waiting (status_in w id) ≡ true) ⊎ (status_in w id ≡ Gone)
waits_or_gone [] id = inr refl
waits_or_gone (r ∷ w) id = grind (arith, nat_tests, waits_or_gone w id, eqb r.id id, cond_both)

mark_standing : (listed : ℕ → Bool) (w : List Request) (id : ℕ) (null : Bool)
    → record { id = id; status = cond null NullRequest (status_in (left listed w) id) } ≡ marked listed (record { id = id; status = cond null NullRequest (status_in w id) })
mark_standing listed w id null = grind (arith, nat_tests, cases_Bool, cond-true, and_from, cond-false, and_right, listed_gone, other_stays, waits_or_gone)

pub posted-left : (listed : ℕ → Bool) (history : List Posting) (w : List Request) → posted_of history (left listed w) ≡ removed listed (posted_of history w)
posted-left listed [] w = refl
posted-left listed (p ∷ history) w = λ i. mark_standing listed w p.id p.null i ∷ posted-left listed history w i

-- ---- null requests

pub is_null-removed : (listed : ℕ → Bool) (posted : List Posted) (id : ℕ) → is_null (status_of (removed listed posted) id) ≡ is_null (status_of posted id)
is_null-removed listed [] id = refl
is_null-removed listed (p ∷ posted) id =
    grind (arith, nat_tests, is_null-removed listed posted id, eqb p.id id, cond_both)

-- ---- what waits

waiting-removed : (listed : ℕ → Bool) (posted : List Posted)
    → filter (λ (p : Posted). is_waiting p.status) (removed listed posted) ≡ filter (λ (p : Posted). not (listed p.id)) (filter (λ (p : Posted). is_waiting p.status) posted)
waiting-removed listed [] = refl
waiting-removed listed (p ∷ posted) = grind (arith, nat_tests, waiting-removed listed posted, p.status, listed p.id, not)

filter-as_posted : (test : ℕ → Bool) (w : List Request) → filter (λ (p : Posted). test p.id) (map as_posted w) ≡ map as_posted (filter (λ (r : Request). test r.id) w)
filter-as_posted test [] = refl
filter-as_posted test (r ∷ w) = grind (arith, nat_tests, filter-as_posted test w)

pub waiting-left : (listed : ℕ → Bool) (history : List Posting) (w : List Request) → filter (λ (p : Posted). is_waiting p.status) (posted_of history w) ≡ map as_posted w
    → filter (λ (p : Posted). is_waiting p.status) (posted_of history (left listed w)) ≡ map as_posted (left listed w)
waiting-left listed history w kept =
    ap (filter (λ (p : Posted). is_waiting p.status)) (posted-left listed history w) ∙ waiting-removed listed (posted_of history w)
    ∙ ap (filter (λ (p : Posted). not (listed p.id))) kept ∙ filter-as_posted (λ (n : ℕ). not (listed n)) w

chosen-waiting : (listed : ℕ → Bool) (posted : List Posted)
    → filter (is_listed listed) posted ≡ filter (λ (p : Posted). listed p.id) (filter (λ (p : Posted). is_waiting p.status) posted)
chosen-waiting listed [] = refl
chosen-waiting listed (p ∷ posted) = grind (arith, nat_tests, chosen-waiting listed posted, p.status, listed p.id)

pub taken_is : (listed : ℕ → Bool) (history : List Posting) (w : List Request) → filter (λ (p : Posted). is_waiting p.status) (posted_of history w) ≡ map as_posted w
    → map as_posted (taken listed w) ≡ filter (is_listed listed) (posted_of history w)
taken_is listed history w kept = grind (arith, nat_tests, chosen-waiting listed (posted_of history w), filter-as_posted listed w)

-- ---- the account

pub sum_by-parts : (f : Request → ℕ) (listed : ℕ → Bool) (w : List Request) → sum_by f (taken listed w) + sum_by f (left listed w) ≡ sum_by f w
sum_by-parts f listed w = sum_by-filter_both (λ (r : Request). listed r.id) (λ (r : Request). not (listed r.id)) (λ r. refl) f w

pub holds_taken : (room : Option Account) (listed : ℕ → Bool) (w : List Request) → Accounts room w → Holds room (taken listed w)
holds_taken room listed w a = grind (arith, nat_tests, sum_by-parts)

pub accounts_left : (room : Option Account) (listed : ℕ → Bool) (w : List Request) → Accounts room w → Accounts (freed room (sum_by held (taken listed w))) (left listed w)
accounts_left None listed w a = omega (arith, sum_by-parts (λ (r : Request). cond (is_buffered r) 1 0) listed w, a)
accounts_left (Some room) listed w a = grind (arith, nat_tests, sum_by-parts held listed w)

-- ---- the posts

sum-as_posted : (f : Status → List Post) (w : List Request) → sum_by (λ (p : Posted). length (f p.status)) (map as_posted w) ≡ sum_by (λ (r : Request). length (f (Waiting r.kind r.posts))) w
sum-as_posted f w = grind (arith, common_steps, map_map (λ (p : Posted). length (f p.status)) as_posted w)

-- the same requests have as many posts
pub same_posts : (f : Status → List Post) (a b : List Request) → map as_posted a ≡ map as_posted b
    → sum_by (λ (r : Request). length (f (Waiting r.kind r.posts))) a ≡ sum_by (λ (r : Request). length (f (Waiting r.kind r.posts))) b
same_posts f a b h = sym (sum-as_posted f a) ∙ ap (sum_by (λ (p : Posted). length (f p.status))) h ∙ sum-as_posted f b
