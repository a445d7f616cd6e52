-- A run on threads that a fault cut off, from what the owner tells and what the close tells.
use Rattle.thread_run.proofs.Words.{filter-append, some_or_none, ◌≡◌, ℕ, ◌-◌, ◌<◌, ◌≤◌, refl, sym, ◌∙◌, ap, subst, inl, inr, ◌⊎◌, List, [], ◌∷◌, ◌++◌, length, map, max, replicate, true, false, Option, Some, None, append_assoc, arith, append-nil, length-map, length-replicate, list_all-append, slice_get_within, same_Some, slice_get, nat_lt, filter, byte_len, list_all, entry_below, entry_beside, and_second, Answer, Header, Call, RankEnd, RunEnd, ServeEnd, Script, Mark, OwnerItem, Stop, RankItem, StepErr, BothTold, Owner, event, free_client, given_along, is_strange, offers_in, own_items, served, Counted, raised, count_width, is_sound, Arrival, IsLegal, is_offer, opening_owner, run_of, is_lawful, rank_end, told_of, Going, advance, after_mark, first_going, first_state, serial_from, setting_of, state_after, Begins, HasAnswers, IsCutRun, IsLeft, IsTorn, OwnerStoodAt, StoodAt, in_close, as_setting, counted, HasOffered, completed, completed_by, contents_of, point, HasBegun, HasSaid, calls_of, cut_rows, no_answers, said_here, said_part, said_up, told_along, counts_along, owner_told, AreSingle, HasCutService, IsDone, IsDoneSo, passed, HasCut, EndedAt, NoneBroke, most_known_of, EndOfCut, served_on, goes_on, mapped_entry, nat_tests, stood_as, some_each, if_some_at, DiskCall, length-append}
use Rattle.nc_base.specs.declared.run.RankStop.TheVariants as stop
use Rattle.nc_base.specs.declared.step.StepErr.TheVariants as fault
use Rattle.serial_spec.specs.Torn.StoodAt.{between}
use Rattle.turn_run.specs.RankEnds.EndedAt.{as_left, in_close as in_closing}
use Rattle.thread_run.proofs.CutRank.{last_end}
use Rattle.thread_run.proofs.CutJoin.{Ran, cut_run, end_of_rank}
use Rattle.thread_run.proofs.CutStood.{single_begun, stood_run}
use Rattle.thread_run.proofs.TellLaws.{count_of}
use Rattle.thread_run.proofs.ThreadRuns.{finished, finished_so, finished_alike}
use Rattle.thread_run.proofs.ThreadTies.{Told, begun, broke_or_not, offered_all, own_of, takes, OwnerSide}
use Rattle.thread_run.proofs.ServiceCut.{Service, service_cut, service_done}

-- ---- the ranks

module _ {script : Script} {header : Header} {arrivals : List Arrival} {given : ℕ → List OwnerItem} {ends : List RankEnd} (t : Told script header arrivals given ends) (sound : is_sound header ≡ true) (lawful : is_lawful script ≡ true)
    (file : List ℕ) {order : List Mark} (h : Service (setting_of script header) (opening_owner script header file) script.ranks arrivals given order) where
  stopped : ℕ → ℕ
  stopped q = length (given q) - length (given_along (setting_of script header) (opening_owner script header file) h.first q)

  offered_of : HasOffered script header (h.first ++ h.later) (takes t)
  offered_of = subst (λ (xs : List Arrival). HasOffered script header xs (takes t)) h.all (offered_all t)

  own_at : (r : ℕ) → r < script.ranks → (own : List Call) × (slice_get script.calls r ≡ Some own)
  own_at r l = entry_below script.calls r (let k = t.calls in omega arith)

  came : (r : ℕ) → r < script.ranks → Begins (takes t r) (given_along (setting_of script header) (opening_owner script header file) h.first r ++ replicate (stopped r) Stop)
  unfolding stopped
  came r l =
      let own = own_at r l in
      let o = own_of t r own.0 own.1 in
      let g = h.gives r l in
      let long = ap (λ (items : List OwnerItem). length items) g.1 ∙ length-append (given_along (setting_of script header) (opening_owner script header file) h.first r) (replicate g.0 Stop) in
      let wide = length-replicate g.0 Stop in
      let count : g.0 ≡ length (given r) - length (given_along (setting_of script header) (opening_owner script header file) h.first r) = omega arith in
      (o.came_back.0, o.came_back.1 ∙ g.1 ∙ ap (λ (k : ℕ). given_along (setting_of script header) (opening_owner script header file) h.first r ++ replicate k Stop) count)

  offers_front : (xs ys : List RankItem) → offers_in xs ≤ offers_in (xs ++ ys)
  offers_front xs ys = grind (arith, nat_tests, filter-append is_offer xs ys, length-append (filter is_offer xs) (filter is_offer ys))

  enough : (r : ℕ) → r < script.ranks → offers_in (own_items r (h.first ++ h.later)) ≤ length (takes t r)
  enough r l = grind (arith, nat_tests, own_at r l, own_of t r (own_at r l).0 (own_at r l).1, offers_front)

  run : Ran (setting_of script header) (opening_owner script header file) (map (first_going header) script.calls) h.first h.later stopped (end_of_rank script header (takes t))
  run = cut_run script header file h.first h.later (takes t) stopped sound t.calls h.none offered_of enough came

  state_is : state_after script header file order ≡ ((run_of script header file h.first).owner.state, run.last)
  state_is = ap (λ (ms : List Mark). state_after script header file ms) h.order_is ∙ run.folded

  -- each step of the order was told with the count that the serial run has after it
  pub told_is : owner_told (setting_of script header) (opening_owner script header file) h.first ≡ told_of script header file order
  told_is =
      run.told
      ∙ ap (λ (ms : List Mark). counts_along (after_mark (setting_of script header)) count_of (first_state header file script.calls) ms) (sym h.order_is)
      ∙ sym (told_along script header file order)

  -- ---- its answers

  own_answers : (e : StepErr) → (e ≡ fault.Disk → NoneBroke ends) → (r : ℕ) (g : Going) (end : RankEnd) → slice_get run.last r ≡ Some g → slice_get ends r ≡ Some end → HasAnswers header e g end.answers
  own_answers e whole r g end a b =
      let low : r < script.ranks = (let l = slice_get_within ends r end b in let k = t.long in omega arith) in
      let own = own_at r low in
      let o = own_of t r own.0 own.1 in
      let same : o.end ≡ end = same_Some o.end end (sym o.at_end ∙ b) in
      let x = entry_beside run.last (run_of script header file h.first).owner.clients r g (sym run.stands.long) a in
      let ended : (advance header g).0 ≡ end_of_rank script header (takes t) r =
      last_end header x.0 g (own_items r h.later) (stopped r) (end_of_rank script header (takes t) r) (run.stands.paired_at r x.0 g x.1 a) in
      let its : calls_of script r ≡ own.0 = ap (λ (m : Option (List Call)). elim m [ None ↦ [] | Some cs ↦ cs ]) own.1 in
      let all : (advance header g).0.answers ≡ (rank_end header (first_going header own.0) (takes t r)).answers =
      ap (λ (v : Going). v.answers) ended ∙ ap (λ (cs : List Call). (rank_end header (first_going header cs) (takes t r)).answers) its in
      said_up header e g end.answers (subst (λ (z : RankEnd). HasSaid e (advance header g) z.answers) same (elim (broke_or_not o.end.end) [
        | inl memory ↦
            (let b = o.attended.broken memory in
            said_part e (advance header g) o.end.answers (by_cause e (λ disk. whole disk r o.end o.at_end memory)) (b.unanswered, b.answers ∙ sym all))
        | inr n ↦ said_here e (advance header g) o.end.answers ((o.attended.finished n).answers ∙ sym all)
      ]))
    where
      by_cause : (x : StepErr) → (x ≡ fault.Disk → ⊥) → x ≡ fault.Memory
      by_cause fault.Memory n = refl
      by_cause fault.Disk n = absurd (n refl)

  all_answers : (e : StepErr) → (e ≡ fault.Disk → NoneBroke ends) → (answers : List (List Answer)) → (answers ≡ map (λ end. end.answers) ends) ⊎ (answers ≡ [])
      → (r : ℕ) (g : Going) (own : List Answer) → slice_get (state_after script header file order).1 r ≡ Some g → slice_get answers r ≡ Some own → HasAnswers header e g own
  all_answers e whole answers (inr none) r g own a b = no_answers script header e order file answers none r g own a b
  all_answers e whole answers (inl are) r g own a b =
      let row = mapped_entry (λ (end : RankEnd). end.answers) ends r own (ap (λ (rows : List (List Answer)). slice_get rows r) (sym are) ∙ b) in
      subst (λ (xs : List Answer). HasAnswers header e g xs) row.1.1
      (own_answers e whole r g row.0 (ap (λ (st : Counted × List Going). slice_get st.1 r) (sym state_is) ∙ a) row.1.0)

  -- ---- where it stood

  begun_order : HasBegun script order
  begun_order = subst (λ (ms : List Mark). HasBegun script ms) (sym h.order_is) (begun t file h.first h.later h.all lawful)

  may_follow : (later : List Mark) × IsLegal script (order ++ later)
  may_follow = completed script order lawful begun_order.known_ranks begun_order.each_rank

  next_mark : (a : Arrival) (others : List Arrival) → h.later ≡ a ∷ others → is_strange (setting_of script header) (run_of script header file h.first).owner a ≡ false → (m : Mark)
      → (event (setting_of script header) (run_of script header file h.first).owner a).marks ≡ m ∷ [] → (rest : List Mark) × IsLegal script (order ++ m ∷ rest)
  next_mark a others is fit m marks =
      let s = setting_of script header in
      let d = opening_owner script header file in
      let on = goes_on script.hints s d h.first (a ∷ []) h.none in
      let one = served_on s (served s d h.first).owner a [] fit in
      let same : (run_of script header file (h.first ++ a ∷ [])).marks ≡ order ++ m ∷ [] =
      on.marks ∙ ap (λ (ms : List Mark). (served s d h.first).marks ++ ms) (one.marks ∙ append-nil (event s (served s d h.first).owner a).marks ∙ marks)
      ∙ ap (λ (ms : List Mark). ms ++ m ∷ []) (sym h.order_is) in
      let b = subst (λ (ms : List Mark). HasBegun script ms) same
      (begun t file (h.first ++ a ∷ []) others (h.all ∙ ap (λ (xs : List Arrival). h.first ++ xs) is ∙ sym (append_assoc h.first (a ∷ []) others)) lawful) in
      completed_by script order m lawful b.known_ranks b.each_rank

  stood_served : (e : StepErr) (left : List ℕ) (records : ℕ) → OwnerStoodAt (setting_of script header) e (run_of script header file h.first).owner h.later left records
      → StoodAt script (setting_of script header) e (state_after script header file order) order left records
  stood_served e left records at =
      let clients = run.stands.long ∙ run.long ∙ length-replicate (length script.calls) free_client ∙ t.calls in
      let both = sym (list_all-append (λ (a : Arrival). nat_lt a.0 script.ranks) h.first h.later) ∙ offered_of.numbers in
      subst (λ (st : Counted × List Going). StoodAt script (setting_of script header) e st order left records) (sym state_is)
      (stood_run script (setting_of script header) e (run_of script header file h.first).owner run.last order h.later left records (λ q. replicate (stopped q) Stop)
      (end_of_rank script header (takes t)) run.stands
      (ap (λ (k : ℕ). list_all (λ (b : Arrival). nat_lt b.0 k) h.later) clients ∙ and_second (list_all (λ (a : Arrival). nat_lt a.0 script.ranks) h.first) _ both) may_follow next_mark at)

-- ---- the run

module _ {script : Script} {header : Header} {arrivals : List Arrival} {given : ℕ → List OwnerItem} {ends : List RankEnd} (t : Told script header arrivals given ends) (sound : is_sound header ≡ true) (lawful : is_lawful script ≡ true)
    (file : List ℕ) where
  pub ranks_are : script.ranks ≡ length (opening_owner script header file).clients
  ranks_are = sym t.calls ∙ sym (length-replicate (length script.calls) free_client)

  module _ {e : StepErr} {before : ServeEnd} {held : Option (List ℕ)} {count : ℕ} {left : Option (List ℕ)} {records : ℕ} {end : RunEnd} (c : EndOfCut header ends before e held count left records end) where
    as_run : (h : Service (setting_of script header) (opening_owner script header file) script.ranks arrivals given before.order) → (bytes : List ℕ)
        → StoodAt script (setting_of script header) e (state_after script header file before.order) before.order bytes records → IsCutRun script header file e end.order bytes records end.answers
    as_run h bytes at = subst (λ (ms : List Mark). IsCutRun script header file e ms bytes records end.answers) (sym c.order) (record {
      stood = at;
      each_rank = cut_rows script e (map (λ (x : RankEnd). x.answers) ends) end.answers (length-map ends (λ (x : RankEnd). x.answers) ∙ t.long ∙ sym t.calls) c.kept c.rows;
      some_answers = all_answers t sound lawful file h e c.whole end.answers c.rows;
    })

    -- the owner met a fault
    cut_served : (x : StepErr) → (x ≡ e) ⊎ (e ≡ fault.Memory) → left ≡ held → records ≡ count
        → HasCutService (setting_of script header) x (opening_owner script header file) (passed arrivals script.ranks given) (point before.order held count)
        → (bytes : List ℕ) × (left ≡ Some bytes) × IsCutRun script header file e end.order bytes records end.answers
    unfolding service_cut
    cut_served x which l k service =
        let h = service_cut (setting_of script header) (opening_owner script header file) script.ranks count x arrivals given before.order held ranks_are service in
        let alone = single_begun script header (h.first ++ h.later) (takes t) t.calls (offered_of t sound lawful file h) in
        let told = service.told (subst AreSingle (sym service.all) alone) in
        let at = stood_served t sound lawful file h x service.left count (service.service.stood alone) in (
          service.left,
          l ∙ told,
          as_run h service.left
              (subst (λ (n : ℕ). StoodAt script (setting_of script header) e (state_after script header file before.order) before.order service.left n) (sym k)
              (stood_as which at)),
        )

    -- a rank had no memory, and the owner met no fault
    cut_broken : e ≡ fault.Memory → left ≡ held → records ≡ count
        → IsDone (setting_of script header) (opening_owner script header file) (passed arrivals script.ranks given) before.order before.stranger
        → IsDoneSo (setting_of script header) (opening_owner script header file) (passed arrivals script.ranks given) held count
        → (bytes : List ℕ) × (left ≡ Some bytes) × IsCutRun script header file e end.order bytes records end.answers
    cut_broken memory l k done so =
        let s = setting_of script header in
        let h = service_done script.hints s (opening_owner script header file) script.ranks arrivals given before.order done.order so.given in
        let state = state_is t sound lawful file h.0 in
        let there : (run_of script header file arrivals).owner.state ≡ (state_after script header file before.order).0 =
        ap (λ (x : Owner). x.state) (sym h.1) ∙ sym (ap (λ (st : Counted × List Going). st.0) state) in
        let may = may_follow t sound lawful file h.0 in (
          (run_of script header file arrivals).owner.state.file,
          l ∙ so.told,
          as_run h.0 (run_of script header file arrivals).owner.state.file
              (between may.0 may.1 memory (ap (λ (x : Counted). x.file) there) (k ∙ so.records ∙ ap (λ (x : Counted). x.records) there)),
        )

    -- the close was refused, or done before there was no memory
    cut_closing : NoneBroke ends → BothTold (λ old now. IsTorn [] (byte_len (count_width header.version)) old (raised (as_setting header) (counted old count) (most_known_of ends)).file now) held left
        → (records ≡ count) ⊎ (records ≡ max count (most_known_of ends))
        → ((f : List ℕ) → IsDone (setting_of script header) (opening_owner script header f) (passed arrivals script.ranks given) before.order before.stranger)
        → IsDoneSo (setting_of script header) (opening_owner script header file) (passed arrivals script.ranks given) held count
        → (bytes : List ℕ) × (left ≡ Some bytes) × IsCutRun script header file e end.order bytes records end.answers
    cut_closing whole torn which done so =
        let s = setting_of script header in
        let h = service_done script.hints s (opening_owner script header file) script.ranks arrivals given before.order (done file).order so.given in
        let state = state_is t sound lawful file h.0 in
        let there : (run_of script header file arrivals).owner.state ≡ (state_after script header file before.order).0 =
        ap (λ (x : Owner). x.state) (sym h.1) ∙ sym (ap (λ (st : Counted × List Going). st.0) state) in
        let fin = finished t sound lawful before.order before.stranger whole done in
        let last = finished_so t sound lawful before.order before.stranger whole done file held count so in
        let near = finished_alike t sound lawful before.order before.stranger whole done file in
        let st = (run_of script header file arrivals).owner.state in
        let b = subst (λ (m : Option (List ℕ)). BothTold (λ old now. IsTorn [] (byte_len (count_width header.version)) old (raised (as_setting header) (counted old count) (most_known_of ends)).file now) m left) so.told torn in
        let file_is : (raised (as_setting header) (counted st.file count) (most_known_of ends)).file ≡ (serial_from script header file before.order).bytes =
        ap (λ (n : ℕ). (raised (as_setting header) (counted st.file n) (most_known_of ends)).file) so.records ∙ last.bytes in (
          b.0,
          b.1,
          as_run h.0 b.0
              (in_close fin.legal
              (subst (λ (old : Counted). IsLeft header [] old (record { file = (serial_from script header file before.order).bytes; records = (serial_from script header file before.order).records }) b.0 records) there (
                subst (λ (f : List ℕ). IsTorn [] (byte_len (count_width header.version)) st.file f b.0) file_is b.2,
                elim which [ inl q ↦ inl (q ∙ so.records) | inr q ↦ inr (q ∙ ap (λ (k : ℕ). max k (most_known_of ends)) so.records ∙ near.records) ],
              ))),
        )

    cut_at : EndedAt header ends before.fault e (contents_of held count) (contents_of left records)
        → (before.fault ≡ None → (f : List ℕ) → IsDone (setting_of script header) (opening_owner script header f) (passed arrivals script.ranks given) before.order before.stranger)
        → (before.fault ≡ None → IsDoneSo (setting_of script header) (opening_owner script header file) (passed arrivals script.ranks given) held count)
        → ((x : StepErr) → before.fault ≡ Some x → HasCutService (setting_of script header) x (opening_owner script header file) (passed arrivals script.ranks given) (point before.order held count))
        → (bytes : List ℕ) × (left ≡ Some bytes) × IsCutRun script header file e end.order bytes records end.answers
    cut_at (in_closing none whole torn which) done so cut = cut_closing whole torn which (done none) (so none)
    cut_at (as_left (inl some) l k) done so cut = cut_served e (inl refl) l k (cut e some)
    cut_at (as_left (inr memory) l k) done so cut = elim (some_or_none before.fault) [
      | inl f ↦ cut_broken memory l k (done f file) (so f)
      | inr w ↦ cut_served w.0 (inr memory) l k (cut w.0 w.1)
    ]

pub run_cut : {script : Script} {header : Header} {arrivals : List Arrival} {given : ℕ → List OwnerItem} {ends : List RankEnd} → Told script header arrivals given ends → is_sound header ≡ true → is_lawful script ≡ true
    → {held : Option (List ℕ)} {calls : Option (List DiskCall)} {faults : ℕ} {told : Option (List (Mark × ℕ))} {left : Option (List ℕ)} {made : Option (List DiskCall)}
    {failed count : ℕ} {heard : Option (List (Mark × ℕ))} {before : ServeEnd} {now : Option (List ℕ)} {records : ℕ} {end : RunEnd}
    → OwnerSide script header arrivals given script.ranks (length script.calls) held calls faults told left made failed count heard before
    → ((e : StepErr) → end.fault ≡ Some e → EndOfCut header ends before e left count now records end) → HasCut script header held now records end
run_cut {script} {header} {arrivals} {given} t sound lawful {held} {left} {count} {before} {now} {records} {end} o c e is = some_each held (λ file there.
    cut_at t sound lawful file (c e is) (c e is).at o.done
    (λ none. if_some_at (λ (f : List ℕ). IsDoneSo (setting_of script header) (opening_owner script header f) (passed arrivals script.ranks given) left count) held file there (o.bytes none))
    (λ x some. if_some_at (λ (f : List ℕ). HasCutService (setting_of script header) x (opening_owner script header f) (passed arrivals script.ranks given) (point before.order left count)) held file there (o.cut x some)))
