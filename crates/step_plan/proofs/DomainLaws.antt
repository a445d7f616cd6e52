-- One domain more is planned, and the windows of all are those of the model.
use Rattle.step_plan.proofs.Words.{◌≡◌, ℕ, ◌+◌, ◌-◌, ◌^◌, ◌<◌, ◌≤◌, refl, ap, List, [], ◌∷◌, ◌++◌, length, map, take, Option, Some, get_or, append_assoc, arith, flat_map-append, append-nil, map-append, take_more, take_all, length_push, flat_map-map, same_Some, flat_map, IfOk, Result, range_with_len, no_none_some, Extent, Owned, Hints, DiskCall, collective_windows, in_order, loads, overlays, sieving_windows, spans, load_calls, store_calls, ranges, HaveSame, told_of, IsCover, cover_in_order, in_either, turns_of, AreDomains, loads_are, stores_are, get_calls, put_calls, told_plan, AreShared, WindowPlan, in_one_range, last_end, reach_of, windows_in, AreDivided, AreDomainPlans, AreSievedPlans, IsDomainPlan, DomainPlan, min, slice_get, nat_tests}
use Rattle.list_laws.proofs.Ranges.{range_next}

-- ---- the calls of windows that are told

pub stores_told : (plans : List WindowPlan) (ws : List (List ℕ)) → map told_plan plans ≡ map told_of ws → flat_map put_calls plans ≡ flat_map overlays ws
stores_told plans ws told = rw (← flat_map-map store_calls told_plan plans, told) (stores_are ws)

pub loads_told : (plans : List WindowPlan) (ws : List (List ℕ)) → map told_plan plans ≡ map told_of ws → flat_map get_calls plans ≡ flat_map loads ws
loads_told plans ws told = rw (← flat_map-map load_calls told_plan plans, told) (loads_are ws)

-- ---- domains

pub none_divided : (hints : Hints) (list : List Owned) (cover domains : List Extent) → AreDivided hints list cover domains 0 []
none_divided hints list cover domains = record { many = refl; extents = refl; numbered = refl; each = λ d m. absurd m; told = refl }

one_plan : (plan : DomainPlan) → windows_in (plan ∷ []) ≡ plan.windows
one_plan plan = append-nil plan.windows

pub divided_more : (hints : Hints) (list : List Owned) (cover domains : List Extent) (count : ℕ) (none : Extent) (plans : List DomainPlan) (plan : DomainPlan)
    → count < length domains → plan.extent ≡ get_or domains count none → plan.aggregator ≡ Some count
    → IsDomainPlan hints list cover plan → AreDivided hints list cover domains count plans
    → AreDivided hints list cover domains (count + 1) (plans ++ plan ∷ [])
divided_more hints list cover domains count none plans plan l extent number here h = record {
  many = grind (arith, length_push plans plan, h.many);
  extents = rw (map-append (λ (d : DomainPlan). d.extent) plans (plan ∷ []), h.extents, extent, take_more domains count none l) refl;
  numbered = rw (map-append (λ (d : DomainPlan). d.aggregator) plans (plan ∷ []), h.numbered, number, range_next count, map-append Some (range_with_len 0 count) (count ∷ [])) refl;
  each = grind (arith, nat_tests, in_either, h.each);
  told = rw (
    flat_map-append (λ (d : DomainPlan). d.windows) plans (plan ∷ []),
    map-append told_plan (windows_in plans) (windows_in (plan ∷ [])),
    h.told,
    one_plan plan,
    here.windows,
    extent,
    take_more domains count none l,
    flat_map-append (λ d. turns_of hints.cb_buffer d cover) (take count domains) (get_or domains count none ∷ []),
    append-nil (turns_of hints.cb_buffer (get_or domains count none) cover),
  ) refl;
}

pub all_divided : (hints : Hints) (list : List Owned) (cover domains : List Extent) (plans : List DomainPlan)
    → IsCover cover → HaveSame (spans cover) (ranges list) → AreDomains cover domains
    → flat_map (λ d. turns_of hints.cb_buffer d cover) domains ≡ map told_of (collective_windows hints (spans cover))
    → AreDivided hints list cover domains (length domains) plans → AreDomainPlans hints list plans
all_divided hints list cover domains plans covers bytes div windows h =
    let all : take (length domains) domains ≡ domains = take_all (length domains) domains (omega arith) in
    grind (arith, nat_tests, cover_in_order cover (ranges list) covers bytes, h.extents, h.numbered, h.many, h.each, h.told, range_with_len)

pub divided_all : (hints : Hints) (list : List Owned) (cover domains : List Extent) (count : ℕ) (plans : List DomainPlan) → length domains ≤ count → count ≤ length domains
    → AreDivided hints list cover domains count plans → AreDivided hints list cover domains (length domains) plans
divided_all hints list cover domains count plans over within h = grind (arith, nat_tests)

-- what holds of a value where there is one
pub ok_so : {T E : Type 0} {P Q : T → Type 0} (r : Result T E) → ((x : T) → P x → Q x) → IfOk r P → IfOk r Q
ok_so r f h = grind (arith, nat_tests)

-- ---- sieving

last_ends : (w : WindowPlan) (ws : List WindowPlan) (last : WindowPlan) → slice_get (w ∷ ws) (length ws) ≡ Some last → last_end w ws ≡ last.hull.at + last.hull.len
last_ends w [] last g = ap (λ (v : WindowPlan). v.hull.at + v.hull.len) (same_Some w last g)
last_ends w (v ∷ ws) last g = last_ends v ws last g

abbrev pub from_to : ℕ → ℕ → Option Extent
from_to at end = Some (record { at = at; len = end - at })

pub reach_is : (windows : List WindowPlan) (first last : WindowPlan) → slice_get windows 0 ≡ Some first → slice_get windows (length windows - 1) ≡ Some last
    → from_to first.hull.at (min (last.hull.at + last.hull.len) (2 ^ 64 - 1)) ≡ reach_of windows
reach_is windows first last e f = grind (arith, nat_tests, no_none_some, last_ends)

-- the windows of one range are those that stand in it
range_windows : (windows : List WindowPlan) → windows_in (in_one_range windows) ≡ windows
range_windows [] = refl
range_windows (w ∷ ws) = append-nil (w ∷ ws)

pub sieved_so : (size : ℕ) (list entries : List Owned) (windows : List WindowPlan) (domains : List DomainPlan) → entries ≡ list
    → map told_plan windows ≡ map told_of (sieving_windows size (in_order (ranges entries))) → AreShared entries windows → domains ≡ in_one_range windows
    → AreSievedPlans size list domains
sieved_so size list entries windows domains same told shared one = grind (arith, nat_tests, range_windows windows, in_order)

-- ---- the calls of one domain more

pub domain_more : (f : WindowPlan → List DiskCall) (domains : List DomainPlan) (i : ℕ) (none : DomainPlan) (begun old new : List DiskCall) (windows : List WindowPlan) → i < length domains
    → old ≡ begun ++ flat_map f (windows_in (take i domains)) → new ≡ old ++ flat_map f windows → windows ≡ (get_or domains i none).windows
    → new ≡ begun ++ flat_map f (windows_in (take (i + 1) domains))
domain_more f domains i none begun old new windows l before more own =
    let last = get_or domains i none in
    rw (more, before, own, take_more domains i none l, flat_map-append (λ (d : DomainPlan). d.windows) (take i domains) (last ∷ []), append-nil last.windows, flat_map-append f (windows_in (take i domains)) last.windows)
    (append_assoc begun (flat_map f (windows_in (take i domains))) (flat_map f last.windows))
