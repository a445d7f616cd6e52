use Rattle.request_queue.proofs.Words.{◌≡◌, ◌∙◌, ap, sym, arith, List, Option, cond, Posting, sum_by, count_by, option_map, Account, Posted, status_of, has_id, Request, Queued, removed, held, is_buffered, freed, is_null, posted_of, nat_tests}
use Rattle.request_queue.proofs.LeaveLaws.{taken, posted-left, is_null-removed, waiting-left, taken_is, sum_by-parts, holds_taken, accounts_left}
use Rattle.request_queue.proofs.queue.Queue.remove.Goals as goal

abbrev queued_by : List Request → List Posting → Option Account → Queued
queued_by w history room = record { posted = posted_of history w; attached = option_map (λ (o : Account). o.size) room }

pub free-requires-clause-count : goal.free-requires-clause-count
free-requires-clause-count c =
    let listed = has_id c.args.ids.now in
    let w = c.self.inside.waiting in
    let all = c.in_ok-taken.ensures.taken in
    let count = ap (count_by is_buffered) (c.as_slice.ensures.value ∙ all) in
    omega (arith, count, sum_by-parts (λ (r : Request). cond (is_buffered r) 1 0) listed w, c.self.invariant.buffered)

pub free-requires-clause-bytes : goal.free-requires-clause-bytes
free-requires-clause-bytes c =
    let listed = has_id c.args.ids.now in
    grind (arith, nat_tests, holds_taken c.self.inside.room listed c.self.inside.waiting c.self.invariant.room, c.in_ok-taken.ensures.taken, c.as_slice.ensures.value)

pub invariant_of-self-2 : goal.invariant_of-self-2
invariant_of-self-2 c =
    let a = c.self.inside in
    let listed = has_id c.args.ids.now in
    let w = a.waiting in
    let gone = c.in_ok-taken.ensures.taken in
    let kept = c.in_ok-taken.ensures.left in
    let slice = c.as_slice.ensures.value ∙ gone in
    let count = ap (count_by is_buffered) slice in
    let posted : posted_of a.history.items c.remove.new.self ≡ removed listed (posted_of a.history.items w) =
    ap (λ (l : List Request). posted_of a.history.items l) kept ∙ posted-left listed a.history.items w in
    let room = c.free.ensures.room ∙ ap (λ (l : List Request). freed a.room (sum_by held l)) slice in
    record {
      nulls = λ id. c.self.invariant.nulls id ∙ sym (is_null-removed listed (posted_of a.history.items w) id) ∙ ap (λ (l : List Posted). is_null (status_of l id)) (sym posted);
      waiting = rw kept (waiting-left listed a.history.items w c.self.invariant.waiting);
      room = grind (arith, nat_tests, taken listed w, accounts_left a.room listed w c.self.invariant.room);
      buffered = rw kept (omega (arith, count, c.free.ensures.count, sum_by-parts (λ (r : Request). cond (is_buffered r) 1 0) listed w, c.self.invariant.buffered));
    }

pub returns-clause-taken : goal.returns-clause-taken
returns-clause-taken c =
    grind (arith, nat_tests, taken_is (has_id c.args.ids.now) c.self.inside.history.items c.self.inside.waiting c.self.invariant.waiting, c.in_ok-taken.ensures.taken)

pub returns-clause-after : goal.returns-clause-after
returns-clause-after c = grind (arith, nat_tests, posted-left, c.in_ok-taken.ensures.left, c.free.ensures.room)
