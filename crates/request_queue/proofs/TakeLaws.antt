-- What a wait or a cancel leaves, and what it takes.
use Rattle.request_queue.proofs.Words.{◌≡◌, ℕ, refl, List, [], ◌∷◌, map, Bool, true, false, cond, eqb, ◌||◌, Some, arith, filter, nat_cmp, is_at, or_from, or_left, or_right, cond_both, cond-true, eq-eqb, eqb-true, ne_eqb, cases_order, Posted, Status, Gone, is_waiting, status_of, items_from, has_id, Posting, Request, status_in, has_waiting, posted_of, as_posted, is_null, any_map, items_by, nat_tests}
use Rattle.request_queue.proofs.PostedLaws.{has_posted, new_lacks}

-- ---- a set with one more number

pub insert_is : (k q : ℕ) (b : Bool) → cond (is_at (nat_cmp k) q) true b ≡ (eqb k q || b)
insert_is k q b = grind (arith, nat_tests, cases_order k q, eqb k q, eq-eqb, ne_eqb)

-- ---- the items

in_filter : (posted : List Posted) (id : ℕ) (s : Status) → is_waiting s ≡ true → status_of posted id ≡ Some s → has_posted (filter (λ (p : Posted). is_waiting p.status) posted) id ≡ true
in_filter [] id s waits h = cc
in_filter (p ∷ posted) id s waits h = grind (arith, nat_tests, in_filter posted id s waits, cond-true, or_left, eqb p.id id, cond_both, or_right)

gone_lacks : (w : List Request) (id : ℕ) → status_in w id ≡ Gone → has_waiting w id ≡ false
gone_lacks [] id h = refl
gone_lacks (r ∷ w) id h = grind (arith, nat_tests, gone_lacks w id, eqb r.id id, or_from)

gone_waits : (history : List Posting) (w : List Request) (id : ℕ) → status_of (posted_of history w) id ≡ Some Gone → has_waiting w id ≡ false
gone_waits [] w id h = cc
gone_waits (p ∷ history) w id h = grind (arith, nat_tests, gone_waits history w id, eqb p.id id, eqb-true, gone_lacks)

pub items_is : (history : List Posting) (w : List Request) (null waits : ℕ → Bool) (earlier ids : List ℕ)
    → filter (λ (x : Posted). is_waiting x.status) (posted_of history w) ≡ map as_posted w
    → ((id : ℕ) → null id ≡ is_null (status_of (posted_of history w) id)) → ((id : ℕ) → waits id ≡ has_waiting w id)
    → items_by null waits (has_id earlier) ids ≡ items_from (posted_of history w) earlier ids
items_is history w null waits earlier [] kept n s = refl
items_is history w null waits earlier (id ∷ ids) kept n s = grind (arith, nat_tests, items_is history w null waits (id ∷ earlier) ids kept n s, new_lacks, gone_waits, any_map, in_filter)

pub or_swap : (a b : Bool) → (a || b) ≡ (b || a)
or_swap a b = grind (arith, nat_tests)
