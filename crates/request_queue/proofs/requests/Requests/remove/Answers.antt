use Rattle.request_queue.proofs.Words.{◌<◌, ◌++◌, ◌∙◌, ℕ, ap, sym, subst, List, not, filter, All, nat_cmp, values_of, contains, All-filter, Request}
use Rattle.request_queue.proofs.IndexLaws.{listed_values}
use Rattle.request_queue.proofs.requests.Requests.remove.Goals as goal

pub invariant_of-self : goal.invariant_of-self
invariant_of-self c =
    let a = c.self.inside in
    let earlier = λ (e : ℕ × Request). e.0 < a.next in
    record {
      ordered = c.take_all.ensures.ordered;
      earlier = subst (λ (es : List (ℕ × Request)). All earlier es) (sym c.take_all.ensures.left)
          (All-filter (λ (e : ℕ × Request). not (contains nat_cmp c.in_ok-listed.listed e.0)) earlier a.by_place.entries c.self.invariant.earlier);
      index = c.take_all.ensures.index;
    }

pub returns-clause-taken : goal.returns-clause-taken
returns-clause-taken c =
    let a = c.self.inside in
    let listed = contains nat_cmp c.in_ok-listed.listed in
    c.take_all.ensures.taken
    ∙ ap (λ (w : List Request). w ++ values_of (filter (λ (e : ℕ × Request). listed e.0) a.by_place.entries)) c.in_ok-taken.ensures.items
    ∙ listed_values a.places a.by_place c.self.invariant.ordered c.self.invariant.index (λ b. b) c.args.ids.now listed _ c.in_ok-listed.ensures c.self.view_is

pub returns-clause-left : goal.returns-clause-left
returns-clause-left c =
    let a = c.self.inside in
    ap values_of c.take_all.ensures.left
    ∙ listed_values a.places a.by_place c.self.invariant.ordered c.self.invariant.index not c.args.ids.now (contains nat_cmp c.in_ok-listed.listed) _ c.in_ok-listed.ensures c.self.view_is
