-- A step: gathered entries, written window by window over hulls, make the file of the model.
use Rattle.overlay_laws.proofs.Words.{◌≡◌, ℕ, ◌≤◌, sym, ◌∙◌, List, length, None, flat_map, map, Hints, Owned, longer, Puts, covered, holdings, holdings_of_entries, shared_pair_of, needed_by, Setting, end_for, after_puts, in_order, collective_windows, sieving_windows, IsOwnOnce, Source, cell_of, IsGathered, HaveSame, written_over, AreHints, origins, AreFound, IsResolved, IsOnceEach, IsInOrder, HasRoom, arith, nat_tests}
use Rattle.overlay_laws.proofs.EntryLaws.{list_told}
use Rattle.overlay_laws.proofs.ShareLaws.{no_pair_once}
use Rattle.overlay_laws.proofs.HolderLaws.{entries_pair}
use Rattle.overlay_laws.proofs.OriginLaws.{resolved_told}
use Rattle.overlay_laws.proofs.HullLaws.{collective_done, sieving_done}

-- a collective step without a pair
pub collective_step : (hints : Hints) (s : Setting) (source : Source) (puts : Puts) (ess : List (List Owned)) (list : List Owned) (file : List ℕ)
    → AreHints hints → IsGathered s.header source puts ess → HaveSame (flat_map (λ os. os) ess) list
    → shared_pair_of (holdings_of_entries list) ≡ None → IsOwnOnce (holdings s.header puts)
    → HasRoom s source puts list (length (longer file (end_for s (needed_by s.header puts))))
    → written_over (longer file (end_for s (needed_by s.header puts))) (map (λ o. cell_of source o) list) (collective_windows hints (in_order (covered s.header puts)))
    ≡ after_puts s puts None file
collective_step hints s source puts ess list file h g same none own room =
    grind (arith, nat_tests, no_pair_once s.header puts (sym (entries_pair s.header source puts ess list g same) ∙ none) own, collective_done, list_told, entries_pair)

-- a solo step without a pair
pub solo_step : (buffer : ℕ) (s : Setting) (source : Source) (puts : Puts) (ess : List (List Owned)) (list : List Owned) (file : List ℕ)
    → 1 ≤ buffer → IsGathered s.header source puts ess → HaveSame (flat_map (λ os. os) ess) list
    → shared_pair_of (holdings_of_entries list) ≡ None → IsOwnOnce (holdings s.header puts)
    → HasRoom s source puts list (length (longer file (end_for s (needed_by s.header puts))))
    → written_over (longer file (end_for s (needed_by s.header puts))) (map (λ o. cell_of source o) list) (sieving_windows buffer (in_order (covered s.header puts)))
    ≡ after_puts s puts None file
solo_step buffer s source puts ess list file h g same none own room =
    grind (arith, nat_tests, no_pair_once s.header puts (sym (entries_pair s.header source puts ess list g same) ∙ none) own, sieving_done, list_told, entries_pair)

-- a collective step under the serial rule
pub serial_step : (hints : Hints) (s : Setting) (source : Source) (puts : Puts) (ess : List (List Owned)) (list result : List Owned) (file : List ℕ)
    → AreHints hints → IsGathered s.header source puts ess → HaveSame (flat_map (λ os. os) ess) list → IsInOrder (flat_map (λ os. os) ess)
    → IsOnceEach (origins (flat_map (λ os. os) ess)) → IsResolved list result → AreFound source (flat_map (λ os. os) ess) → AreFound source result
    → HasRoom s source puts result (length (longer file (end_for s (needed_by s.header puts))))
    → written_over (longer file (end_for s (needed_by s.header puts))) (map (λ o. cell_of source o) result) (collective_windows hints (in_order (covered s.header puts)))
    ≡ after_puts s puts None file
serial_step hints s source puts ess list result file h g same order once resolved found found_result room =
    grind (arith, nat_tests, resolved_told s.header source puts ess list result g same order once resolved found found_result, collective_done)
