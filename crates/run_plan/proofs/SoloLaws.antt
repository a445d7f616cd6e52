-- A step of one rank that is planned.
use Rattle.run_plan.proofs.Words.{◌≡◌, ℕ, ◌≤◌, refl, sym, ◌∙◌, ap, subst, List, [], ◌∷◌, ◌++◌, length, map, max, set, true, Some, None, append-nil, flat_map, slice_get, list_all, Hints, DiskCall, Mark, Solo, Offer, Reply, get_bytes, gets_of, loads, put_calls, sieving_windows, after_puts, end_for, puts_of, told, Setting, needed_now, wanted, advance, hears, Going, is_sound, ArePuts, is_solo_of, Arrived, Stand, one_of, count_call, file_calls, grow_call, windows_in, FilePlan, StepPlan, alone_alike, call_alone, step_at, caller, plan_stage, rank_plan, Follows, HasPlanned, IsSoloPlan, Option, offer_at, IsSoloOf}
use Rattle.window_plan.specs.Windows as window
use Rattle.run_plan.proofs.FileLengths.{puts_long}
use Rattle.run_plan.proofs.NearLaws.{offer_beside}

pub alone_planned : (hints : Hints) (s : Setting) (r n : ℕ) (steps : List StepPlan) (size later : ℕ) (t : Going) (o : Offer) (step : StepPlan) (reply : Reply) (to : Arrived)
    → is_sound s.header ≡ true → ArePuts s.header (puts_of (r, o)) → end_for s 0 ≤ size → step.mark ≡ Solo r n
    → file_calls step.file ≡ put_calls s (sieving_windows hints.wr_buffer) (puts_of (r, o)) size ++ flat_map loads (sieving_windows hints.rd_buffer (get_bytes s (gets_of o)))
    → IsSoloPlan s.header hints r o.batch step.file → step.callers ≡ caller r n ∷ []
    → reply.pair ≡ told s (puts_of (r, o)) → reply.records ≡ max o.known (needed_now s (puts_of (r, o))) → map (λ b. length b) reply.got ≡ map (wanted s.header) o.batch.gets
    → later ≡ max size (end_for s (needed_now s (puts_of (r, o)))) → to ≡ advance s.header (hears s.header t reply)
    → HasPlanned hints s r (rank_plan steps size (t, Some o)) (rank_plan (steps ++ step ∷ []) later to)
alone_planned hints s r n steps size later t o step reply to sound are long mark device plan callers pair records row grows up = record {
  more = step ∷ [];
  grown = refl;
  own = ap (λ (m : Mark). list_all (is_solo_of r) (m ∷ [])) mark ∙ one_of r n;
  led = led;
}
  where
    follow : (count : ℕ) (ranks : List Arrived) → slice_get ranks r ≡ Some (t, Some o)
        → Follows hints s (record step { mark = Solo r n } ∷ []) (plan_stage size count ranks) (plan_stage later count (set ranks r to))
    follow count ranks g (c, ps) beside =
        let there = offer_beside ps ranks r t o beside.like.beside g in
        let offered : offer_at ps r ≡ Some o = ap (λ (m : Option Arrived). elim m [ None ↦ None | Some a ↦ a.1 ]) there.1 in
        let wide : length (after_puts s (puts_of (r, o)) (told s (puts_of (r, o))) c.file) ≡ later =
        rw (puts_long s (puts_of (r, o)) c.file sound are (rw beside.long long), beside.long) (sym grows) in
        record {
          beside = record {
            long = ap (λ (x : Stand). length x.0.file) (step_at s r n c ps there.0 o there.1) ∙ wide;
            like = alone_alike s r n t o reply to pair records row up count ranks g (c, ps) beside.like;
          };
          over = ap (λ (cs : List DiskCall). cs ++ [])
              (call_alone hints s r n c ps there.0 o there.1
              ∙ ap (λ (k : ℕ). put_calls s (sieving_windows hints.wr_buffer) (puts_of (r, o)) k ++ flat_map loads (sieving_windows hints.rd_buffer (get_bytes s (gets_of o)))) beside.long
              ∙ sym device);
          each = (record { callers = callers; file = subst (λ (m : Option Offer). IsSoloOf s.header hints r m step.file) (sym offered) plan }, tt);
        }

    led : (count : ℕ) (ranks : List Arrived) → slice_get ranks r ≡ Some (t, Some o) → Follows hints s (step ∷ []) (plan_stage size count ranks) (plan_stage later count (set ranks r to))
    led count ranks g =
        let same : step ≡ record step { mark = Solo r n } = λ i. record step { mark = mark i } in
        subst (λ (x : StepPlan). Follows hints s (x ∷ []) (plan_stage size count ranks) (plan_stage later count (set ranks r to))) (sym same) (follow count ranks g)

-- the calls of the step, by those of its puts and of its gets
pub alone_device : (hints : Hints) (s : Setting) (r size : ℕ) (o : Offer) (file : FilePlan)
    → grow_call file.grow ++ flat_map window.put_calls (windows_in file.puts.domains) ≡ put_calls s (sieving_windows hints.wr_buffer) (puts_of (r, o)) size → file.count ≡ None
    → flat_map window.get_calls (windows_in file.gets.domains) ≡ flat_map loads (sieving_windows hints.rd_buffer (get_bytes s (gets_of o)))
    → file_calls file ≡ put_calls s (sieving_windows hints.wr_buffer) (puts_of (r, o)) size ++ flat_map loads (sieving_windows hints.rd_buffer (get_bytes s (gets_of o)))
alone_device hints s r size o file puts none gets =
    let written = put_calls s (sieving_windows hints.wr_buffer) (puts_of (r, o)) size in
    let read = flat_map loads (sieving_windows hints.rd_buffer (get_bytes s (gets_of o))) in
    (λ i. puts i ++ count_call (none i) ++ gets i) ∙ ap (λ (cs : List DiskCall). cs ++ read) (append-nil written)
