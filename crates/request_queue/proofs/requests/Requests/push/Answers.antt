use Rattle.request_queue.proofs.Words.{◌≡◌, ◌<◌, ◌+◌, ◌∷◌, ◌++◌, [], ◌∙◌, ℕ, ap, sym, subst, List, arith, rules, All, values_of, map_push, recursion_from_All, All-weaker, All-push, Request, has_waiting, nat_tests}
use Rattle.request_queue.proofs.IndexLaws.{index_added, index_lacks, index_same}
use Rattle.request_queue.proofs.PlaceLaws.{insert_last, remove_last, lookup_past}
use Rattle.request_queue.proofs.requests.Requests.push.Goals as goal

abbrev Entry : Type 0
Entry = ℕ × Request

pub invariant_of-self-in-Ok : goal.invariant_of-self-in-Ok
invariant_of-self-in-Ok c =
    let a = c.self.inside in
    let r = c.args.request in
    let before = c.self.invariant.earlier in
    let earlier = recursion_from_All (λ (e : Entry). e.0 < a.next) a.by_place.entries before in
    let entries = c.in_ok-insert.ensures.entries ∙ insert_last a.by_place.entries a.next r earlier in
    let next : c.in_ok-next.next ≡ a.next + 1 = search rules in
    let fresh = index_lacks a.places a.by_place c.self.invariant.ordered c.self.invariant.index r.id (ap (λ (w : List Request). has_waiting w r.id) c.self.view_is ∙ c.requires.fresh) in
    record {
      ordered = c.in_ok-insert.ensures.ordered;
      earlier = subst (λ (es : List Entry). All (λ (e : Entry). e.0 < c.in_ok-next.next) es) (sym entries)
          (All-push (λ (e : Entry). e.0 < c.in_ok-next.next) a.by_place.entries (a.next, r)
          (All-weaker (λ (e : Entry). e.0 < a.next) (λ (e : Entry). e.0 < c.in_ok-next.next) (λ e h. omega (arith, h, next)) a.by_place.entries before) (omega (arith, next)));
      index = grind (arith, nat_tests, index_added, lookup_past, c.in_ok-insert.ensures.updates.0, c.in-Ok.ensures.updates.0);
    }

pub returns-in-Ok-clause-ok : goal.returns-in-Ok-clause-ok
returns-in-Ok-clause-ok c =
    let a = c.self.inside in
    let r = c.args.request in
    let earlier = recursion_from_All (λ (e : Entry). e.0 < a.next) a.by_place.entries c.self.invariant.earlier in
    let entries = c.in_ok-insert.ensures.entries ∙ insert_last a.by_place.entries a.next r earlier in
    ap values_of entries ∙ map_push (λ (e : Entry). e.1) a.by_place.entries (a.next, r) ∙ ap (λ (w : List Request). w ++ r ∷ []) c.self.view_is

pub invariant_of-self-in-Err : goal.invariant_of-self-in-Err
invariant_of-self-in-Err c =
    let a = c.self.inside in
    let r = c.args.request in
    let earlier = recursion_from_All (λ (e : Entry). e.0 < a.next) a.by_place.entries c.self.invariant.earlier in
    grind (arith, nat_tests, insert_last, remove_last, index_same, c.in_ok-insert.ensures.entries, c.remove.ensures.entries, c.remove.ensures.ordered, c.self.invariant.earlier, c.self.invariant.index)

pub returns-in-Err-clause-err : goal.returns-in-Err-clause-err
returns-in-Err-clause-err c =
    let a = c.self.inside in
    let r = c.args.request in
    let earlier = recursion_from_All (λ (e : Entry). e.0 < a.next) a.by_place.entries c.self.invariant.earlier in
    grind (arith, nat_tests, insert_last, remove_last, values_of, c.in_ok-insert.ensures.entries, c.remove.ensures.entries)
