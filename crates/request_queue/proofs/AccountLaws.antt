-- The account of the buffer is the bytes of the waiting bputs, and refuses as the rank does.
use Rattle.request_queue.proofs.Words.{◌≡◌, ℕ, ◌+◌, ◌-◌, ◌^◌, ◌<◌, ◌≤◌, ◌∙◌, ap, sym, refl, List, [], ◌∷◌, map, Bool, true, cond, ltb, eqb, Option, min, length, get_or, take, arith, filter, option_map, is_some, sum, sum_by, count_by, ltb-false, lt-ltb, le-ltb, cases_lt, list_any, sum_by-cons, sum_by_more_le, any-filter_same, map_map, sum-map, Bput, Account, new_code, Posted, is_waiting, buffered, buffer_code, is_bput, detach_code, Request, Queued, rank_with, as_posted, held, is_buffered, freed, Accounts, Holds, HasUsed, claim_code, nat_tests}
use Rattle.nc_base.specs.declared.answer.Code.TheVariants as code
use Rattle.request_queue.proofs.PostedLaws.{not_held}

-- what waits holds all the bytes
used-cons : (p : Posted) (posted : List Posted) → sum (map (λ (p : Posted). buffered p.status) (p ∷ posted)) ≡ buffered p.status + sum (map (λ (p : Posted). buffered p.status) posted)
used-cons p posted = sum_by-cons (λ (x : ℕ). x) (buffered p.status) (map (λ (p : Posted). buffered p.status) posted)

used-filter : (posted : List Posted)
    → sum (map (λ (p : Posted). buffered p.status) posted) ≡ sum (map (λ (p : Posted). buffered p.status) (filter (λ (p : Posted). is_waiting p.status) posted))
used-filter [] = refl
used-filter (p ∷ posted) = grind (arith, nat_tests, p.status, used-cons p posted, used-cons p (filter (λ (q : Posted). is_waiting q.status) posted), used-filter posted)

used-as_posted : (w : List Request) → sum (map (λ (p : Posted). buffered p.status) (map as_posted w)) ≡ sum_by held w
used-as_posted w = ap sum (map_map (λ (p : Posted). buffered p.status) as_posted w) ∙ sum-map held w

pub same_code : (room : Option Account) (w : List Request) (posted : List Posted) (len : ℕ) → filter (λ (p : Posted). is_waiting p.status) posted ≡ map as_posted w
    → Accounts room w → claim_code room (min len (2 ^ 64 - 1)) ≡ buffer_code (rank_with (record { posted = posted; attached = option_map (λ (a : Account). a.size) room })) Bput len
same_code room w posted len kept a = grind (arith, nat_tests, cases_lt, ltb, lt-ltb, le-ltb, used-filter, used-as_posted)

-- ---- attaching and detaching

pub none_held : (w : List Request) → count_by is_buffered w ≡ 0 → sum_by held w ≡ 0
none_held [] h = refl
none_held (r ∷ w) h = grind (arith, nat_tests, is_buffered r, none_held w, not_held r.kind r.posts, sum_by-cons (λ (x : Request). cond (is_buffered x) 1 0) r w, sum_by-cons held r w)

pub new_fits : (size : ℕ) → new_code size ≡ code.Ok → size ≤ 2 ^ 26
new_fits size h = grind (arith, nat_tests, eqb size 0, ltb (2 ^ 26) size, ltb-false)

any-filter : (posted : List Posted) → list_any (λ (p : Posted). is_bput p.status) posted
    ≡ list_any (λ (p : Posted). is_bput p.status) (filter (λ (p : Posted). is_waiting p.status) posted)
any-filter posted = sym (any-filter_same (λ (p : Posted). is_bput p.status) (λ (p : Posted). is_waiting p.status) true (λ p h. grind (arith, nat_tests)) posted)

any-count : (w : List Request) → list_any (λ (p : Posted). is_bput p.status) (map as_posted w) ≡ ltb 0 (count_by is_buffered w)
any-count [] = refl
any-count (r ∷ w) = grind (arith, nat_tests, is_buffered r, any-count w, lt-ltb, sum_by-cons (λ (x : Request). cond (is_buffered x) 1 0) r w)

abbrev pub attached_by : Option Account → List Posted → Queued
attached_by room posted = record { posted = posted; attached = option_map (λ (a : Account). a.size) room }

-- a buffer can't be detached while a bput waits
pub detach_is : (room : Option Account) (posted : List Posted) (w : List Request) (b : Bool) → filter (λ (p : Posted). is_waiting p.status) posted ≡ map as_posted w → is_some room ≡ true
    → ltb 0 (count_by is_buffered w) ≡ b → detach_code (rank_with (attached_by room posted)) ≡ cond b code.EPendingBput code.Ok
detach_is room posted w b kept some h = grind (arith, nat_tests, any-filter, any-count)

-- ---- giving back

pub has_used : (room : Option Account) (taken : List Request) (i len : ℕ) (d : Request) → Holds room taken → i < length taken → len ≤ held (get_or taken i d)
    → HasUsed (freed room (sum_by held (take i taken))) len
has_used room taken i len d holds lt le = grind (arith, nat_tests, sum_by_more_le held taken i d lt)
