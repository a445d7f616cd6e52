use Rattle.request_queue.proofs.Words.{◌≤◌, subst, List, length, sum_by, nat_cmp, vec_capacity, contains, Request, puts_of, gets_of}
use Rattle.request_queue.proofs.IndexLaws.{listed_values}
use Rattle.request_queue.proofs.requests.Requests.rooms.Goals as goal

pub returns-clause-puts : goal.returns-clause-puts
returns-clause-puts c =
    let a = c.self.inside in
    let same = listed_values a.places a.by_place c.self.invariant.ordered c.self.invariant.index (λ b. b) c.args.ids.now (contains nat_cmp c.in_ok-places.places) _ c.in_ok-places.ensures c.self.view_is in
    subst (λ (w : List Request). sum_by (λ (r : Request). length (puts_of r)) w ≤ vec_capacity c.in_ok-puts.puts) same c.in_ok-puts.ensures.room

pub returns-clause-gets : goal.returns-clause-gets
returns-clause-gets c =
    let a = c.self.inside in
    let same = listed_values a.places a.by_place c.self.invariant.ordered c.self.invariant.index (λ b. b) c.args.ids.now (contains nat_cmp c.in_ok-places.places) _ c.in_ok-places.ensures c.self.view_is in
    subst (λ (w : List Request). sum_by (λ (r : Request). length (gets_of r)) w ≤ vec_capacity c.in_ok-gets.gets) same c.in_ok-gets.ensures.room
