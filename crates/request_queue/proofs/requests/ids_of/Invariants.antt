use Rattle.request_queue.proofs.Words.{◌≡◌, ◌++◌, map, values, Request}
use Rattle.request_queue.proofs.requests.ids_of.Given as goal

abbrev pub invariant-loop-request : goal.invariant-loop-request
invariant-loop-request l = l.ids.items ++ map (λ (r : Request). r.id) l.request-iterator ≡ map (λ (r : Request). r.id) (values l.by_place)
