use Rattle.redef_mover.proofs.Words.{◌≡◌, ◌∙◌, ◌+◌, ◌<◌, List, ℕ, [], ◌∷◌, ◌++◌, length, take, get_or, cond, bytes_eq, Some, None, sym, ap, arith, take_more, length-take-le, option_or, place_of}
use Rattle.redef_mover.proofs.IndexLaws.{places_next}
use Rattle.redef_mover.proofs.name_index.first_places.Goals as goal

pub loop-place-preserved : goal.loop-place-preserved
loop-place-preserved g c =
    let items = c.args.items.now in
    let k = c.loop-place.place in
    let item = c.index-items-place.result in
    let old = c.loop-place.places in
    let within : k < length items = omega arith in
    let more = ◌∙◌ {b = take k items ++ get_or items k item ∷ []} (take_more items k item within) (ap (λ x. take k items ++ x ∷ []) (sym c.index-items-place.is)) in
    let put : (q : List ℕ) → place_of c.add_place.new.places q ≡ option_or (place_of old q) (cond (bytes_eq (g.T.Named.name_of item) q) (Some k) None) =
    λ q. c.in_ok-add_place.ensures q ∙ ap (λ (n : List ℕ). option_or (place_of old q) (cond (bytes_eq n q) (Some k) None)) c.name.ensures in
    places_next g.T.Named.name_of (take k items) (take (k + 1) items) item k old c.add_place.new.places more (sym (length-take-le k items (omega arith))) c.loop-place.invariant put
