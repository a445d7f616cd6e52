use Rattle.rank_core.proofs.Words.{◌≡◌, ◌∙◌, sym, true, false, arith, bytes_eq, both_ways, length-map, bytes_eq-Decides}
use Rattle.rank_core.proofs.NameLaws.{first_found, none_other, none_past, place_within}
use Rattle.rank_core.proofs.names.first_named.Goals as goal

pub returns-in_err-place-clause-found : goal.returns-in_err-place-clause-found
returns-in_err-place-clause-found g c = c.from_residual.ensures ∙ none_past _ _ c.requires.order _ _ c.first_not_below-at.ensures c.in_err-place.ensures.lookup.3

pub returns-then-eq-clause-found : goal.returns-then-eq-clause-found
returns-then-eq-clause-found g c =
    let lookup = c.in_ok-place.ensures.lookup.3 in
    let equal : bytes_eq c.name_at.result.now c.args.name.now ≡ true = sym c.eq.ensures ∙ c.if-eq.true in
    first_found _ _ c.requires.order _ _ c.first_not_below-at.ensures _ lookup.0 (sym (lookup.1 0)) (sym c.name_at.ensures ∙ (bytes_eq-Decides c.name_at.result.now c.args.name.now).0 equal)

pub returns-then-eq-clause-there : goal.returns-then-eq-clause-there
returns-then-eq-clause-there g c =
    let lookup = c.in_ok-place.ensures.lookup.3 in
    let within = place_within _ _ c.requires.order _ _ c.first_not_below-at.ensures c.in_ok-place.field-0.now lookup.0 (sym (lookup.1 0)) in
    omega (arith, within, length-map c.args.items.now g.T.Named.name_of)

pub returns-else-eq-clause-found : goal.returns-else-eq-clause-found
returns-else-eq-clause-found g c =
    let lookup = c.in_ok-place.ensures.lookup.3 in
    let other : bytes_eq c.name_at.result.now c.args.name.now ≡ false = sym c.eq.ensures ∙ c.if-eq.false in
    none_other _ _ c.requires.order _ _ c.first_not_below-at.ensures _ lookup.0 (sym (lookup.1 0))
    (λ e. both_ways (bytes_eq c.name_at.result.now c.args.name.now) other ((bytes_eq-Decides c.name_at.result.now c.args.name.now).1 (c.name_at.ensures ∙ e)))
