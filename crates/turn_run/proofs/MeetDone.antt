-- The runners after a meeting.
use Rattle.turn_run.proofs.Words.{◌≡◌, ℕ, ◌≤◌, sym, ◌∙◌, subst, List, [], ◌∷◌, ◌++◌, length, map, Option, Some, None, arith, slice_get, is_some, slice_get_within, Pair, Header, Batch, Script, Mark, Meet, Reply, hear, wanted, meetings, hears_keeps, call_waits, meeting_of_known, way_hears, HasBegun, IsCount, asking, calls_of, reply_of, AreFreed, AreHeard, AreRunners, HasHeard, HaveArrived, HaveMet, IsRunner, IsToHear, batches_of, held_offers, known_of, is_lawful, ranks_lawful, true, Runner, entry_below, entry_map, nat_tests, common_steps}
use Rattle.turn_run.proofs.AloneLaws.{fits_open}
use Rattle.turn_run.proofs.CountLaws.{count_longer, count_max}
use Rattle.turn_run.proofs.MeetOffers.{held_at, held_long, meets_at}
use Rattle.turn_run.proofs.MeetStep.{AreDone, FitsGets, HaveDone, IsTaken}
use Rattle.turn_run.proofs.RunnerLaws.{answered_is, way_rest}
use Rattle.turn_run.proofs.TurnSteps.{runners_begun}

-- ---- what the meeting requires

pub taken_by : {script : Script} {header : Header} {len : ℕ} {order : List Mark} {runners : List Runner} {batches : List Batch} {known : ℕ} → is_lawful script ≡ true
    → AreRunners script header len order runners → HaveMet runners → batches ≡ batches_of (held_offers runners) → known ≡ known_of (held_offers runners) → IsTaken script.calls runners batches known
taken_by {script} lawful all met e f = record { long = (ranks_lawful script lawful).one_each ∙ sym all.all; hold = met; offered = e; most = f }

pub table_long : (header : Header) (runners : List Runner) (batches : List Batch) (table : List (List (List ℕ))) → HaveMet runners → batches ≡ batches_of (held_offers runners)
    → FitsGets header batches table → length table ≡ length runners
table_long header runners batches table met e f = grind (arith, common_steps, held_long runners met)

pub to_hear : {script : Script} {header : Header} {len : ℕ} {order : List Mark} {runners mid : List Runner} {batches : List Batch} (table : List (List (List ℕ)))
    → AreRunners script header len order runners → HaveMet runners → HaveArrived script runners → AreFreed runners mid → batches ≡ batches_of (held_offers runners)
    → FitsGets header batches table → (r : ℕ) (runner : Runner) (blobs : List (List ℕ)) → slice_get mid r ≡ Some runner → slice_get table r ≡ Some blobs → IsToHear runner blobs
to_hear {script} {header} {order} {runners} {mid} {batches} table all met come freed e f r runner blobs h t =
    let l = slice_get_within mid r runner h in let long = freed.long in let a = entry_below runners r (omega arith) in
    let m = meets_at all met come r a.0 a.1 in let o = m.0 in
    let keeps = call_waits script order r (asking (calls_of script r) a.0) o m.1.way in
    let own : slice_get batches r ≡ Some o.batch = grind (arith, nat_tests, entry_map, held_at runners met r a.0 o a.1 m.1.held, held_offers) in
    let row : map (λ blob. length blob) blobs ≡ map (wanted header) o.batch.gets = grind (arith, common_steps, entry_map (λ (bs : List (List ℕ)). map (λ blob. length blob) bs) table r blobs t, entry_map (λ (b : Batch). map (wanted header) b.gets) batches r o.batch own) in
    grind (arith, nat_tests, fits_open, keeps.0, is_some)

-- ---- one rank after the meeting

pub heard_before : (m a b : Runner) (reply : Reply) → m.rank ≡ a.rank → m.answers ≡ a.answers → HasHeard m b reply → HasHeard a b reply
heard_before m a b reply e f h = grind (arith, nat_tests)

module _ {script : Script} {header : Header} {before : ℕ} {order : List Mark} {runners mid now : List Runner} {pair : Option Pair} {n : ℕ} {table : List (List (List ℕ))}
    (all : AreRunners script header before order runners) (met : HaveMet runners) (come : HaveArrived script runners) (freed : AreFreed runners mid) (heard : AreHeard pair n table mid now) where
  are_done : AreDone header pair n runners now table
  are_done r a b blobs g h t =
      let l = slice_get_within runners r a g in let long = freed.long in let m = entry_below mid r (omega arith) in
      grind (arith, nat_tests, meets_at all met come r a g, heard_before m.0 a b (reply_of pair n blobs) (freed.each r a m.0 g m.1).rank, heard.each, reply_of)

  pub have_done : length table ≡ length runners → HaveDone header pair n runners now table
  have_done wide = record { long = heard.long ∙ freed.long; wide = wide; each = are_done }

  -- ---- all ranks after the meeting

  one_after : length table ≡ length runners → (len : ℕ) → before ≤ len → IsCount header len n → (r : ℕ) (b : Runner) → slice_get now r ≡ Some b
      → IsRunner script header (order ++ Meet (meetings order) ∷ []) r b × IsCount header len b.rank.state.known
  one_after wide len longer count r b h =
      let l = slice_get_within now r b h in let p = heard.long in let a = entry_below runners r (omega arith) in let row = entry_below table r (omega arith) in
      grind (arith, common_steps, are_done r a.0 b row.0 a.1 h row.1, meets_at all met come r a.0 a.1, call_waits script order r (asking (calls_of script r) a.0) (meets_at all met come r a.0 a.1).0 (meets_at all met come r a.0 a.1).1.way, hears_keeps header a.0.rank.state b.rank.state (reply_of pair n row.0) (are_done r a.0 b row.0 a.1 h row.1).1.heard.answer, answered_is (calls_of script r) a.0.rank.state b.rank.state a.0.answers b.answers (are_done r a.0 b row.0 a.1 h row.1).1.heard.answer, way_hears script order r header (asking (calls_of script r) a.0) b.rank.state (meets_at all met come r a.0 a.1).0 (reply_of pair n row.0), (are_done r a.0 b row.0 a.1 h row.1).1.free, count_max header len a.0.rank.state.known n, count_longer header before len a.0.rank.state.known longer (meets_at all met come r a.0 a.1).1.known)

  pub runners_after : {len : ℕ} {now_order : List Mark} → length table ≡ length runners → before ≤ len → IsCount header len n → now_order ≡ order ++ Meet (meetings order) ∷ []
      → AreRunners script header len now_order now
  runners_after {len} wide longer count e = subst (λ (ms : List Mark). AreRunners script header len ms now) (sym e) (record {
    all = heard.long ∙ freed.long ∙ all.all;
    known_ranks = meeting_of_known script.ranks (meetings order) order all.known_ranks;
    each = λ r b h. (one_after wide len longer count r b h).0;
    known = λ r b h. (one_after wide len longer count r b h).1;
  })

pub free_after : {runners mid now : List Runner} {pair : Option Pair} {n : ℕ} {table : List (List (List ℕ))}
    → AreFreed runners mid → AreHeard pair n table mid now → length table ≡ length runners → (r : ℕ) (b : Runner) → slice_get now r ≡ Some b → b.held ≡ None
free_after {runners} {mid} {now} {table} freed heard wide r b h =
    let l = slice_get_within now r b h in let q = freed.long in let a = entry_below runners r (omega arith) in
    let m = entry_below mid r (omega arith) in let row = entry_below table r (omega arith) in
    (heard.each r m.0 b row.0 m.1 h row.1).held ∙ (freed.each r a.0 m.0 a.1 m.1).held

-- ---- the marks

pub begun_after : {script : Script} {header : Header} {len : ℕ} {order now_order : List Mark} {runners : List Runner} → AreRunners script header len order runners → HaveMet runners → HaveArrived script runners
    → now_order ≡ order ++ Meet (meetings order) ∷ [] → HasBegun script now_order
begun_after {script} {header} {order} {runners} all met come e = subst (λ (ms : List Mark). HasBegun script ms) (sym e) (record {
  known_ranks = meeting_of_known script.ranks (meetings order) order all.known_ranks;
  each_rank = λ r l.
      let long = all.all in let a = entry_below runners r (omega arith) in
      let m = meets_at all met come r a.0 a.1 in let none = reply_of None 0 [] in
      grind (arith, common_steps, way_rest script (order ++ Meet (meetings order) ∷ []) r, way_hears script order r header (asking (calls_of script r) a.0) (hear header a.0.rank.state none).0 m.0 none (hear header a.0.rank.state none).1 m.1.way);
})

pub begun_still : {script : Script} {header : Header} {len : ℕ} {order now_order : List Mark} {runners : List Runner} → AreRunners script header len order runners → now_order ≡ order → HasBegun script now_order
begun_still {script} {header} {len} {order} {runners} all e = subst (λ (ms : List Mark). HasBegun script ms) (sym e) (runners_begun script header len order runners all)
