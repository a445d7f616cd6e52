-- The calls of a step's puts and gets are those of the model.
use Rattle.step_plan.proofs.Words.{◌≡◌, ℕ, ◌≤◌, refl, sym, ◌∙◌, ap, List, [], ◌∷◌, ◌++◌, max, Option, Some, None, arith, append-nil, flat_map, Pair, Header, Batch, Owned, Hints, collective_windows, get_bytes, grow_to, in_order, loads, overlays, sieving_windows, end_for, told, Setting, needed_now, needed_by, bytes_of, Puts, ranges, source_of, AreLaid, gets_in, puts_in, puts_of_batch, setting, order_by, laid_calls_by, laid_needs, none_windows, same_order, shared_calls, shared_needs, get_calls, put_calls, HaveGetDomains, HaveGetWindows, grow_call, windows_in, AreDomainPlans, AreSievedPlans, DomainPlan}
use Rattle.serial_spec.specs.DeviceCalls as device
use Rattle.step_plan.proofs.DomainLaws.{loads_told, stores_told}

-- ---- puts that are refused

pub refused_calls : (s : Setting) (cut : List ℕ → List (List ℕ)) (puts : Puts) (size : ℕ) (pair : Pair) → told s puts ≡ Some pair
    → grow_call None ++ flat_map put_calls (windows_in []) ≡ device.put_calls s cut puts size
refused_calls s cut puts size pair e = sym (shared_calls s cut puts size pair e)

pub refused_size : (s : Setting) (puts : Puts) (size : ℕ) (pair : Pair) → told s puts ≡ Some pair → end_for s 0 ≤ size → size ≡ max size (end_for s (needed_now s puts))
refused_size s puts size pair e long = rw (shared_needs s puts pair e) (omega arith)

-- ---- puts that are laid

pub laid_size : (s : Setting) (puts : Puts) (size n : ℕ) → told s puts ≡ None → n ≡ needed_by s.header puts → max size (end_for s n) ≡ max size (end_for s (needed_now s puts))
laid_size s puts size n none is = ap (λ (m : ℕ). max size (end_for s m)) (is ∙ sym (laid_needs s puts none))

laid_plans : (s : Setting) (cut : List ℕ → List (List ℕ)) (source : ℕ → ℕ → List ℕ) (puts : Puts) (size n : ℕ) (grow : Option ℕ) (list : List Owned) (domains : List DomainPlan)
    → told s puts ≡ None → cut [] ≡ [] → end_for s 0 ≤ size → n ≡ needed_by s.header puts → AreLaid s.header source puts list
    → flat_map put_calls (windows_in domains) ≡ flat_map overlays (cut (in_order (ranges list))) → grow_call grow ≡ grow_to size (end_for s n)
    → grow_call grow ++ flat_map put_calls (windows_in domains) ≡ device.put_calls s cut puts size
laid_plans s cut source puts size n grow list domains none empty long is laid windows grown =
    rw (grown, windows) (sym (laid_calls_by s cut puts size n (ranges list) none empty long is laid.bytes))

pub collective_calls : (header : Header) (hints : Hints) (batches : List Batch) (size n : ℕ) (grow : Option ℕ) (list : List Owned) (domains : List DomainPlan)
    → told (setting header hints) (puts_in batches) ≡ None → end_for (setting header hints) 0 ≤ size → n ≡ needed_by header (puts_in batches)
    → AreLaid header (source_of 0 batches) (puts_in batches) list → AreDomainPlans hints list domains
    → grow_call grow ≡ grow_to size (end_for (setting header hints) n)
    → grow_call grow ++ flat_map put_calls (windows_in domains) ≡ device.put_calls (setting header hints) (collective_windows hints) (puts_in batches) size
collective_calls header hints batches size n grow list domains none long is laid plans grown =
    laid_plans (setting header hints) (collective_windows hints) (source_of 0 batches) (puts_in batches) size n grow list domains none (none_windows hints) long is laid
    (stores_told (windows_in domains) (collective_windows hints (in_order (ranges list))) plans.windows) grown

pub sieved_calls : (header : Header) (hints : Hints) (rank : ℕ) (batch : Batch) (size n : ℕ) (grow : Option ℕ) (list : List Owned) (domains : List DomainPlan)
    → told (setting header hints) (puts_of_batch (rank, batch)) ≡ None → end_for (setting header hints) 0 ≤ size → n ≡ needed_by header (puts_of_batch (rank, batch))
    → AreLaid header (source_of rank (batch ∷ [])) (puts_of_batch (rank, batch)) list → AreSievedPlans hints.wr_buffer list domains
    → grow_call grow ≡ grow_to size (end_for (setting header hints) n)
    → grow_call grow ++ flat_map put_calls (windows_in domains) ≡ device.put_calls (setting header hints) (sieving_windows hints.wr_buffer) (puts_of_batch (rank, batch)) size
sieved_calls header hints rank batch size n grow list domains none long is laid plans grown =
    laid_plans (setting header hints) (sieving_windows hints.wr_buffer) (source_of rank (batch ∷ [])) (puts_of_batch (rank, batch)) size n grow list domains none refl long is laid
    (stores_told (windows_in domains) (sieving_windows hints.wr_buffer (in_order (ranges list))) plans.windows) grown

-- ---- gets

pub collective_gets : (header : Header) (hints : Hints) (batches : List Batch) (domains : List DomainPlan) → HaveGetDomains header hints batches domains
    → flat_map get_calls (windows_in domains) ≡ flat_map loads (collective_windows hints (get_bytes (setting header hints) (gets_in batches)))
collective_gets header hints batches domains h =
    grind (arith, loads_told (windows_in domains) (collective_windows hints (in_order (ranges h.list))) h.plans.windows, order_by (setting header hints) batches batches h.list refl h.got)

pub sieved_gets : (header : Header) (hints : Hints) (rank : ℕ) (batch : Batch) (domains : List DomainPlan) → HaveGetWindows header hints rank batch domains
    → flat_map get_calls (windows_in domains) ≡ flat_map loads (sieving_windows hints.rd_buffer (get_bytes (setting header hints) batch.gets))
sieved_gets header hints rank batch domains h =
    grind (arith, loads_told (windows_in domains) (sieving_windows hints.rd_buffer (in_order (ranges h.list))) h.plans.windows, same_order (ranges h.list) (flat_map (λ p. bytes_of header p) (flat_map (λ (b : Batch). b.gets) (batch ∷ []))) h.got.bytes, append-nil batch.gets)
