-- What goes between ranks and aggregators, one thing more.
use Rattle.plan_sums.proofs.Words.{◌≡◌, ◌<◌, ℕ, ◌+◌, ◌-◌, ◌^◌, refl, sym, ◌∙◌, ap, List, [], ◌∷◌, ◌++◌, length, map, take, get_or, min, Bool, true, false, cond, arith, ◌==◌, filter, flat_map, range_with_len, sum_by, append-nil, append_assoc, map-append, take_more, filter-append, flat_map-map, sum_by_push, flat_map-append, Direction, Put, Get, Share, windows_in, DomainPlan, StepPlan, bytes_of, cell, cells_in, domains_in, is_served_by, shares_by, shares_in, shares_of, some_cell, phase_of, cell_of, served_by, Cell, Served}
use Rattle.plan_sums.proofs.ListLaws.{flat_next, flat_push}
use Rattle.list_laws.proofs.Ranges.{range_next}

-- ---- a rank's bytes

pub share_more : (rank : ℕ) (shares : List Share) (s : Share) (bytes own now : ℕ) → bytes ≡ bytes_of rank shares → own ≡ cond (s.rank == rank) s.bytes 0
    → now ≡ min (bytes + own) (2 ^ 64 - 1) → now ≡ bytes_of rank (shares ++ s ∷ [])
share_more rank shares s bytes own now before is sum = by_test (s.rank == rank) refl is
  where
    ours : List Share
    ours = filter (λ x. x.rank == rank) shares

    joined : (t : Bool) → s.rank == rank ≡ t → bytes_of rank (shares ++ s ∷ []) ≡ min (sum_by (λ x. x.bytes) (ours ++ cond t (s ∷ []) [])) (2 ^ 64 - 1)
    joined t e = ap (λ (ss : List Share). min (sum_by (λ x. x.bytes) ss) (2 ^ 64 - 1))
        (filter-append (λ x. x.rank == rank) shares (s ∷ []) ∙ ap (λ (b : Bool). ours ++ cond b (s ∷ []) []) e)

    by_test : (t : Bool) → s.rank == rank ≡ t → own ≡ cond t s.bytes 0 → now ≡ bytes_of rank (shares ++ s ∷ [])
    by_test true e one = let whole = joined true e in let more = sum_by_push (λ (x : Share). x.bytes) ours s in omega arith
    by_test false e one = let whole = joined false e ∙ ap (λ (ss : List Share). min (sum_by (λ x. x.bytes) ss) (2 ^ 64 - 1)) (append-nil ours) in omega arith

-- ---- the shares of domains

pub shares_join : (aggregator : ℕ) (xs ys : List DomainPlan)
    → shares_in (filter (is_served_by aggregator) (xs ++ ys)) ≡ shares_in (filter (is_served_by aggregator) xs) ++ shares_in (filter (is_served_by aggregator) ys)
shares_join aggregator xs ys =
    rw (filter-append (is_served_by aggregator) xs ys, flat_map-append (λ (d : DomainPlan). d.windows) (filter (is_served_by aggregator) xs) (filter (is_served_by aggregator) ys))
    (flat_map-append shares_of (windows_in (filter (is_served_by aggregator) xs)) (windows_in (filter (is_served_by aggregator) ys)))

-- of one step more
pub step_more : (aggregator : ℕ) (direction : Direction) (steps : List StepPlan) (i : ℕ) (step : StepPlan) (domains : List DomainPlan) (old new : List Share) → i < length steps
    → step ≡ get_or steps i step → old ≡ shares_by aggregator direction (take i steps) → domains ≡ (phase_of direction step).domains
    → new ≡ old ++ shares_in (filter (is_served_by aggregator) domains) → new ≡ shares_by aggregator direction (take (i + 1) steps)
step_more aggregator direction steps i step domains old new there is before own more =
    rw (more, before, own, ← flat_next (λ (s : StepPlan). (phase_of direction s).domains) steps i step there is)
    (sym (shares_join aggregator (domains_in direction (take i steps)) (phase_of direction step).domains))

-- of one domain more
pub domain_more : (aggregator : ℕ) (domains : List DomainPlan) (i : ℕ) (d : DomainPlan) (begun old new : List Share) → i < length domains → d ≡ get_or domains i d
    → old ≡ begun ++ shares_in (filter (is_served_by aggregator) (take i domains)) → new ≡ old ++ shares_in (filter (is_served_by aggregator) (d ∷ []))
    → new ≡ begun ++ shares_in (filter (is_served_by aggregator) (take (i + 1) domains))
domain_more aggregator domains i d begun old new there is before more =
    rw (more, before, take_more domains i d there, ← is, shares_join aggregator (take i domains) (d ∷ []))
    (append_assoc begun (shares_in (filter (is_served_by aggregator) (take i domains))) (shares_in (filter (is_served_by aggregator) (d ∷ []))))

-- ---- one rank or aggregator more

pub served_more : (steps : List StepPlan) (n : ℕ) (puts gets : List Share) (old new : List Served) → puts ≡ shares_by n Put steps → gets ≡ shares_by n Get steps
    → old ≡ map (served_by steps) (range_with_len 0 n) → new ≡ old ++ record { aggregator = n; puts = puts; gets = gets } ∷ []
    → new ≡ map (served_by steps) (range_with_len 0 (n + 1))
served_more steps n puts gets old new given taken before more =
    rw (more, before, given, taken, range_next n, map-append (served_by steps) (range_with_len 0 n) (n ∷ []))

pub rank_more : (steps : List StepPlan) (rank nodes : ℕ) (all : List Served) (old new : List Cell) → all ≡ map (served_by steps) (range_with_len 0 nodes)
    → old ≡ cells_in steps rank nodes → new ≡ old ++ flat_map (λ served. some_cell (cell_of rank served)) all → new ≡ cells_in steps (rank + 1) nodes
rank_more steps rank nodes all old new are before more =
    rw (more, before, are, flat_map-map (λ (served : Served). some_cell (cell_of rank served)) (served_by steps) (range_with_len 0 nodes), range_next rank)
    (sym (flat_push (λ (r : ℕ). flat_map (λ a. some_cell (cell steps r a)) (range_with_len 0 nodes)) (range_with_len 0 rank) rank))
