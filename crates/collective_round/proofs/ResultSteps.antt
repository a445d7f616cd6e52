-- What a step's entries are divided into: its domains lie on the disk, and its calls are those of the model's windows.
use Rattle.collective_round.proofs.Words.{◌≡◌, ℕ, List, Option, Result, OnOk, flat_map-map, flat_map, map, sym, arith, nat_tests, subst, Extent, Hints, Owned, DiskCall, AreDomains, AreOn, Division, IsDivision, LieOn, with_end, collective_windows, in_order, overlays, loads, load_calls, ranges, store_calls, told_of, turns_of, Told, common_steps}

pub stores_are : (ws : List (List ℕ)) → flat_map store_calls (map told_of ws) ≡ flat_map overlays ws
stores_are ws = flat_map-map store_calls told_of ws

pub loads_are : (ws : List (List ℕ)) → flat_map load_calls (map told_of ws) ≡ flat_map loads ws
loads_are ws = flat_map-map load_calls told_of ws

calls_done : (f : Told → List DiskCall) (g : List ℕ → List DiskCall) (old now : Option (List DiskCall)) (ts : List Told) (ws : List (List ℕ))
    → ts ≡ map told_of ws → flat_map f (map told_of ws) ≡ flat_map g ws → now ≡ with_end old (flat_map f ts) → now ≡ with_end old (flat_map g ws)
calls_done f g old now ts ws told are done = grind (arith, nat_tests)

pub division_on : (list : List Owned) (hints : Hints) (division : Division) (domains : List Extent) (len : ℕ) → IsDivision list hints division → LieOn 0 len list → domains ≡ division.domains.items
    → AreOn list division.cover domains len
division_on list hints division domains len d on is = record { covers = d.covers; bytes = d.bytes; on = on; div = subst (λ (ds : List Extent). AreDomains division.cover ds) (sym is) d.div }

pub division_calls : {T E : Type 0} (f : Told → List DiskCall) (g : List ℕ → List DiskCall) (list : List Owned) (hints : Hints) (division : Division) (domains : List Extent) (old now : Option (List DiskCall)) (end : Result T E)
    → IsDivision list hints division → domains ≡ division.domains.items → ((ws : List (List ℕ)) → flat_map f (map told_of ws) ≡ flat_map g ws)
    → OnOk end (now ≡ with_end old (flat_map f (flat_map (λ d. turns_of hints.cb_buffer d division.cover) domains))) → OnOk end (now ≡ with_end old (flat_map g (collective_windows hints (in_order (ranges list)))))
division_calls f g list hints division domains old now end d is are done = grind (arith, common_steps, in_order (ranges list), calls_done f g old now)
