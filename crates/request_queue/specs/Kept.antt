-- What the queue keeps: each id that was posted, in order, and by themselves the requests that wait.
use Rattle.std.specs.Prelude.{◌≡◌, ◌≤◌, ◌+◌, ◌-◌, ◌&&◌, ◌||◌, ◌^◌, nat_lt, ℕ, List, [], ◌∷◌, map, filter, sum_by, count_by, Bool, true, false, ◌==◌, if◌then◌else◌, Option, Some, None, option_map}
use Rattle.std.specs.List.{list_any}
use Rattle.std.specs.Ordering.{nat_cmp}
use Rattle.std.specs.BTreeSet.{contains}
use Rattle.nc_base.specs.declared.answer.Code.{Code}
use Rattle.nc_base.specs.declared.answer.Code.TheVariants as code
use Rattle.nc_base.specs.declared.request.Direction.{Direction}
use Rattle.nc_base.specs.declared.request.Direction.TheVariants.{Put, Get}
use Rattle.nc_base.specs.declared.answer.Item.{Item}
use Rattle.nc_base.specs.declared.plan.Post.{Post}
use Rattle.serial_spec.specs.RankMachine.{Posted, Status, NullRequest, Waiting, Gone, is_waiting, status_of, buffered, is_bput, puts_in, gets_in}
use Rattle.request_queue.specs.declared.queue.Posting.{Posting}
use Rattle.request_queue.specs.declared.queue.Request.{Request}
use Rattle.request_queue.specs.declared.queue.Queue.TheInside.{Inside}
use Rattle.request_queue.specs.Queued.{Queued}
use Rattle.request_queue.specs.Buffer.{Account}

abbrev pub status_in : List Request → ℕ → Status
status_in [] id = Gone
status_in (r ∷ waiting) id = if r.id == id then Waiting r.kind r.posts else status_in waiting id

-- some waiting request has the id
abbrev pub has_waiting : List Request → ℕ → Bool
has_waiting waiting id = list_any (λ (r : Request). r.id == id) waiting

abbrev pub standing : List Request → Posting → Posted
standing waiting p = record { id = p.id; status = if p.null then NullRequest else status_in waiting p.id }

abbrev pub posted_of : List Posting → List Request → List Posted
posted_of history waiting = map (standing waiting) history

abbrev pub queued : Inside → Queued
queued a = record {
  posted = posted_of a.history.items a.waiting;
  attached = option_map (λ (room : Account). room.size) a.room;
}

abbrev pub as_posted : Request → Posted
as_posted r = record { id = r.id; status = Waiting r.kind r.posts }

abbrev pub is_null : Option Status → Bool
is_null (Some NullRequest) = true
is_null _ = false

abbrev pub held : Request → ℕ
held r = buffered (Waiting r.kind r.posts)

abbrev pub is_buffered : Request → Bool
is_buffered r = is_bput (Waiting r.kind r.posts)

-- the buffer's account is that of the waiting bputs; without a buffer there are none
abbrev pub Accounts : Option Account → List Request → Type 0
Accounts None waiting = count_by is_buffered waiting ≡ 0
Accounts (Some room) waiting = (room.used ≡ sum_by held waiting) × (room.size ≤ 2 ^ 26) × (room.used ≤ room.size)

-- ---- the account

abbrev pub claim_code : Option Account → ℕ → Code
claim_code None len = code.ENullABuf
claim_code (Some room) len = if nat_lt room.size (room.used + len) then code.EInsuffBuf else code.Ok

abbrev pub claimed : Option Account → ℕ → Option Account
claimed room len = option_map (λ (a : Account). record a { used = a.used + len }) room

pub record IsKept (a : Inside) : Type 0 where
  pub nulls : (id : ℕ) → contains nat_cmp a.nulls id ≡ is_null (status_of (posted_of a.history.items a.waiting) id)
  pub waiting : filter (λ p. is_waiting p.status) (posted_of a.history.items a.waiting) ≡ map as_posted a.waiting
  pub room : Accounts a.room a.waiting
  pub buffered : a.buffered ≡ count_by is_buffered a.waiting

-- ---- what leaves

abbrev pub puts_of : Request → List Post
puts_of r = puts_in (Waiting r.kind r.posts)

abbrev pub gets_of : Request → List Post
gets_of r = gets_in (Waiting r.kind r.posts)

abbrev pub posts_of : Direction → Request → List Post
posts_of Put r = puts_of r
posts_of Get r = gets_of r

abbrev pub is_listed : (ℕ → Bool) → Posted → Bool
is_listed listed p = is_waiting p.status && listed p.id

abbrev pub removed : (ℕ → Bool) → List Posted → List Posted
removed listed posted = map (λ (p : Posted). if is_listed listed p then record p { status = Gone } else p) posted

-- the account has at least what the requests hold; without a buffer they hold nothing
abbrev pub Holds : Option Account → List Request → Type 0
Holds None taken = count_by is_buffered taken ≡ 0
Holds (Some room) taken = (sum_by held taken ≤ room.used) × (room.used ≤ 2 ^ 26)

abbrev pub HasUsed : Option Account → ℕ → Type 0
HasUsed None len = Unit {0}
HasUsed (Some room) len = len ≤ room.used

abbrev pub freed : Option Account → ℕ → Option Account
freed room len = option_map (λ (a : Account). record a { used = a.used - len }) room

-- the code of an item: the id is of a null request, waits, was listed before
abbrev pub code_by : Bool → Bool → Bool → Code
code_by true _ _ = code.Null
code_by false true false = code.Ok
code_by _ _ _ = code.EInvalRequest

abbrev pub items_by : (ℕ → Bool) → (ℕ → Bool) → (ℕ → Bool) → List ℕ → List Item
items_by null waits earlier [] = []
items_by null waits earlier (id ∷ ids) =
    record { id = id; code = code_by (null id) (waits id) (earlier id); values = None }
    ∷ items_by null waits (λ (q : ℕ). id == q || earlier q) ids
