use Rattle.request_queue.proofs.Words.{◌≡◌, ◌-◌, ◌^◌, ◌∷◌, ◌++◌, [], min, refl, sym, ◌∙◌, ap, subst, ℕ, List, arith, None, Some, Option, false, Account, Post, status_of, bytes_in, Posting, Request, Queued, as_posted, posted_of, claimed, claim_code, option_map, nat_tests, ltb, sum_by_push}
use Rattle.nc_base.specs.declared.answer.Code.TheVariants as code
use Rattle.nc_base.specs.declared.request.PostKind.TheVariants as kind
use Rattle.request_queue.proofs.PostedLaws.{held_posted, posted-push, is_null-push, waiting-push, count-push, new_lacks}
use Rattle.request_queue.proofs.AccountLaws.{same_code}
use Rattle.request_queue.proofs.queue.Queue.push_buffered.Goals as goal

abbrev queued_by : List Posting → List Request → Option Account → Queued
queued_by history waiting room = record { posted = posted_of history waiting; attached = option_map (λ (a : Account). a.size) room }

abbrev most : ℕ
most = 2 ^ 64 - 1

pub returns-in-Err-clause-refused : goal.returns-in-Err-clause-refused
returns-in-Err-clause-refused c =
    let a = c.self.inside in
    grind (arith, nat_tests, same_code a.room a.waiting (posted_of a.history.items a.waiting) (bytes_in c.args.posts), c.len_of-len.ensures, c.as_slice.ensures, c.self.invariant.waiting, c.self.invariant.room, c.in-Err.ensures.refused.0, c.in-Err.ensures.refused.1)

pub push-requires : goal.push-requires
push-requires c = grind (arith, nat_tests, new_lacks, c.requires.fresh, c.self.invariant.waiting)

pub overflow_add-self : goal.overflow_add-self
overflow_add-self c = grind (arith, nat_tests, held_posted, c.self.invariant.buffered, c.make_room.ensures.room)

abbrev posting : goal.After-push_reserved → Posting
posting c = record { id = c.args.id; null = false }

abbrev request : goal.After-push_reserved → Request
request c = record { id = c.args.id; kind = kind.Bput; posts = c.args.posts }

len_is : (c : goal.After-push_reserved) → c.len_of-len.result ≡ min (bytes_in c.args.posts) most
len_is c = c.len_of-len.ensures ∙ ap (λ (l : List Post). min (bytes_in l) most) c.as_slice.ensures

listed : (c : goal.After-push_reserved) → posted_of c.push_reserved.new.self.items c.push.new.self
    ≡ posted_of c.self.inside.history.items c.self.inside.waiting ++ as_posted (request c) ∷ []
listed c =
    posted-push c.self.inside.history.items c.push_reserved.new.self.items c.self.inside.waiting c.push.new.self
    (posting c) (request c) (c.push_reserved.ensures.items ∙ ap (λ (l : List Posting). l ++ posting c ∷ []) c.make_room.ensures.items)
    c.in-Ok-push.ensures.ok refl refl
    (subst (λ (q : Queued). status_of q.posted c.args.id ≡ None) (sym c.self.view_is) c.requires.fresh) c.self.invariant.waiting

claims : (c : goal.After-push_reserved) → claim_code c.self.inside.room (min (bytes_in c.args.posts) most) ≡ code.Ok
claims c = ap (claim_code c.self.inside.room) (sym (len_is c)) ∙ c.in-Ok.ensures.right

room_is : (c : goal.After-push_reserved) → c.claim.new.room ≡ claimed c.self.inside.room (min (bytes_in c.args.posts) most)
room_is c = c.in-Ok.ensures.ok ∙ ap (claimed c.self.inside.room) (len_is c)

pub invariant_of-self-2 : goal.invariant_of-self-2
invariant_of-self-2 c =
    let a = c.self.inside in
    grind (arith, nat_tests, ltb, sum_by_push, c.self.invariant.room, is_null-push (posted_of a.history.items a.waiting) (as_posted (request c)), listed c, waiting-push (posted_of a.history.items a.waiting) a.waiting (request c) c.self.invariant.waiting, room_is c, claims c, count-push a.waiting (request c), c.self.invariant.nulls, c.in-Ok-push.ensures.ok, c.self.invariant.buffered)

size_stays : (room : Option Account) (len : ℕ) → option_map (λ (a : Account). a.size) (claimed room len) ≡ option_map (λ (a : Account). a.size) room
size_stays None len = refl
size_stays (Some room) len = refl

pub returns-clause-ok : goal.returns-clause-ok
returns-clause-ok c = grind (arith, nat_tests, room_is, size_stays, listed)

pub returns-clause-right : goal.returns-clause-right
returns-clause-right c = grind (arith, nat_tests, same_code c.self.inside.room c.self.inside.waiting, claims c, c.self.invariant.waiting, c.self.invariant.room)
