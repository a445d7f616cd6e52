-- The owner's whole run beside the serial run: its device calls, its offers, and the count to which it is closed.
use Rattle.thread_run.proofs.Words.{lt_of_le_of_lt, max-le, same_le, ◌≡◌, ℕ, suc, ◌+◌, ◌≤◌, refl, sym, ◌∙◌, ap, subst, List, [], ◌∷◌, ◌++◌, map, true, Option, Some, None, arith, slice_get, fold, nat_lt, enumerate_from, Header, Call, Script, MeetKind, Offer, Owner, free_client, served, run_calls, store_records, Counted, Setting, header_len, is_sound, Arrival, IsJoined, back_of, opening_owner, rank_ends, run_of, is_lawful, greatest, rank_end, Going, advance, after_mark, first_going, first_state, serial_from, setting_of, end_grows, counted_sound, calls_close, sound_small, Good, good_first, lasting, Joins, Stands, join, closes, AreSingle, owner_calls, map_map, entry_beside}
use Rattle.join_laws.proofs.WholeLaws.{client_of, first_stands, going_of, lawful_agrees}
use Rattle.thread_run.proofs.ThreadCalls.{calls_along, single_along}
use Rattle.thread_run.proofs.ThreadKnown.{EndsNear, near_along, near_first}

rows_within : {B : Type 0} (h : ℕ × B → ℕ) (n : ℕ) (ys : List B) (from : ℕ) → ((q : ℕ) (b : B) → slice_get ys q ≡ Some b → h (from + q, b) ≤ n) → greatest (map h (enumerate_from from ys)) ≤ n
rows_within h n [] from f = omega arith
rows_within h n (b ∷ ys) from f =
    let zero_more : from + 0 ≡ from = omega arith in
    let one : h (from, b) ≤ n = subst (λ (k : ℕ). h (k, b) ≤ n) zero_more (f 0 b refl) in
    let more = rows_within h n ys (from + 1) (λ q b' e. let next : from + suc q ≡ (from + 1) + q = omega arith in subst (λ (k : ℕ). h (k, b') ≤ n) next (f (suc q) b' e)) in
    max-le one more

module _ (script : Script) (header : Header) (file : List ℕ) (arrivals : List Arrival) (sound : is_sound header ≡ true) (lawful : is_lawful script ≡ true)
    (joined : IsJoined script header file arrivals) where
  abbrev s : Setting
  s = setting_of script header

  abbrev owner : Owner
  owner = opening_owner script header file

  abbrev goings : List Going
  goings = map (first_going header) script.calls

  abbrev meetings : List MeetKind
  meetings = (lawful_agrees script lawful).meetings

  stands : Stands s (Good header script.ranks) meetings owner goings arrivals
  stands =
      first_stands script header file arrivals (Good header script.ranks) (lasting header sound script.ranks) (λ r own e. good_first script header r own lawful e) (sound_small header sound)
      (lawful_agrees script lawful) joined

  whole : Joins s (Good header script.ranks) owner goings arrivals
  whole = join s (Good header script.ranks) (lasting header sound script.ranks) meetings owner goings arrivals stands

  pub single_all : AreSingle arrivals
  single_all = single_along s (Good header script.ranks) (lasting header sound script.ranks) meetings owner goings arrivals stands

  -- the device calls of the run are the owner's, and that of the close
  pub calls_all : run_calls script header file (run_of script header file arrivals).marks
      ≡ owner_calls script.hints (setting_of script header) (opening_owner script header file) arrivals
      ++ store_records (setting_of script header) (nat_lt (run_of script header file arrivals).owner.state.records (serial_from script header file (run_of script header file arrivals).marks).records)
  calls_all =
      let marks = (run_of script header file arrivals).marks in
      let state = first_state header file script.calls in
      let along = calls_along script.hints s (Good header script.ranks) (lasting header sound script.ranks) meetings owner goings arrivals stands in
      let count : (fold (after_mark s) state marks).0.records ≡ (run_of script header file arrivals).owner.state.records = ap (λ (z : Counted × List Going). z.0.records) whole.folded in
      calls_close script.hints s state marks
      ∙ (λ i. sym along i ++ store_records s (nat_lt (count i) (serial_from script header file marks).records))

  known_each : (q : ℕ) (own : List Call) → slice_get script.calls q ≡ Some own
      → (rank_end header (first_going header own) (back_of script header file arrivals q)).rank.known ≤ (run_of script header file arrivals).owner.reached
  known_each q own e =
      let back = back_of script header file arrivals q in
      let cm = whole.ranks q free_client (first_going header own) (client_of script header file arrivals q own e) (going_of script header file arrivals q own e) in
      let ends : advance header cm.going ≡ (rank_end header (first_going header own) back, None) = cm.ends in
      let y = entry_beside whole.last (served s owner arrivals).owner.clients q cm.going (sym whole.stands.paired.long) cm.at_last in
      let good = (whole.stands.paired.paired_at q y.0 cm.going y.1 cm.at_last).good in
      let kept = (closes header q 0 cm.going (ap (λ (p : Going × Option Offer). p.1) ends)).known in
      let same = ap (λ (p : Going × Option Offer). p.0.rank.known) ends in
      same_le _ _ _ (sym same ∙ kept) good.known

  -- the header can have the count to which the file is closed
  pub known_sound : is_sound (record header { records = greatest (map (λ g. g.rank.known) (rank_ends script header file arrivals)) }) ≡ true
  unfolding EndsNear
  known_sound =
      let reached = (run_of script header file arrivals).owner.reached in
      let most = greatest (map (λ g. g.rank.known) (rank_ends script header file arrivals)) in
      let below : most ≤ reached = subst (λ (ns : List ℕ). greatest ns ≤ reached) (sym (map_map (λ (g : Going). g.rank.known) (λ (p : ℕ × List Call). rank_end header (first_going header p.1) (back_of script header file arrivals p.0)) (enumerate_from 0 script.calls)))
      (rows_within (λ (p : ℕ × List Call). (rank_end header (first_going header p.1) (back_of script header file arrivals p.0)).rank.known) reached script.calls 0
      (λ q own e. let same : q ≡ 0 + q = omega arith in subst (λ (k : ℕ). (rank_end header (first_going header own) (back_of script header file arrivals k)).rank.known ≤ reached) same (known_each q own e))) in
      let near = near_along s sound (Good header script.ranks) (lasting header sound script.ranks) meetings owner goings arrivals stands (near_first header sound header.records (omega arith)) in
      let grows = end_grows header (header_len header) most reached below in
      counted_sound header most sound (lt_of_le_of_lt below whole.stands.small) (lt_of_le_of_lt grows near)
