-- What the owner's ends tell when it is done.
use Rattle.file_owner.proofs.Words.{point, ◌≡◌, ℕ, ◌+◌, ◌<◌, refl, sym, ◌∙◌, ap, subst, List, [], ◌++◌, length, replicate, Bool, true, Option, Some, None, arith, append-nil, length-append, length-map, length-replicate, slice_get, nat_lt, filter, IfSome, list_all, same_Some, Hints, DiskCall, Mark, OwnerItem, Stop, RankItem, StepErr, with_end, In, End, Receiver, Owner, Client, free_client, given_along, offers_in, owed, own_items, served, stops, IsGivenInPart, Setting, Arrival, is_offer, OwnerStoodAt, counted, of_fault, of_stranger, IsHaltAt, Outcome, taken_from, stopped_with, owner_at, owner_calls, run, AreSingle, GoesSo, Grows, HoldSingle, Standing, HasCutService, arrived, gained, opening, HasFailed, HasTaken, HasToldAlong, HavePut, IsCutOff, IsDone, IsDoneSo, passed, Outlets, Halt, one_if, owed_count, alike_same, alike_two, if_some_at, entry_below, entry_replicate, own_two, nat_tests, in_left, in_right, filter-append, and_first, list_all-append, IfSome_then}
use Rattle.nc_outside.specs.declared.disk.Disk.{Ghosts as DiskGhosts}
use Rattle.nc_outside.specs.declared.told.Told.{Ghosts as ToldGhosts}
use Rattle.file_owner.specs.declared.service.Halt.TheVariants as halt
use Rattle.file_owner.proofs.AlikeLaws.{alike_by, alike_long, lines_twice}
use Rattle.file_owner.proofs.OwnerRuns.{goes_on, GoesOn}
use Rattle.file_owner.proofs.RefusedSteps.{stood_later}
use Rattle.file_owner.proofs.StopLaws.{only_stops}
use Rattle.file_owner.proofs.GainedLaws.{gained_is, have_put, arrived_is, StoppedAt, stopped_at, left_at}

fault_is : (h : Halt) (e : StepErr) → Some e ≡ of_fault h → h ≡ halt.Fault e
fault_is h e f = grind (arith, nat_tests, same_Some)

-- ---- the clauses

module _ (hints : Hints) (s : Setting) (old now : Receiver RankItem) (left : List Bool) (before : Standing) (n : ℕ) (held : Option (List ℕ)) (made : Option (List DiskCall)) (marks : List Mark)
    (heard : Option (List (Mark × ℕ))) (lines : List (End OwnerItem)) (h : Halt) (o : Outcome hints s (taken_from old now left) before (stopped_with n held made marks heard lines) h) where
  all_lines : Grows before.lines (λ q. o.run.moved.more q ++ stops (owner_at o.middle []) o.last q) lines
  all_lines = lines_twice before.lines o.middle.lines lines o.run.moved.more (stops (owner_at o.middle []) o.last) o.run.moved.lines o.stopped

  arrivals_are : arrived old now ≡ o.first ++ o.last
  arrivals_are = arrived_is old now (o.first ++ o.last) o.taken

  pub out_taken : HasTaken old now
  out_taken = grind (arith, nat_tests, arrivals_are)

  pub out_put : HavePut before.lines lines
  out_put = have_put before.lines lines (λ q. o.run.moved.more q ++ stops (owner_at o.middle []) o.last q) all_lines

  gains : (q : ℕ) → q < length before.lines → gained before.lines lines q ≡ o.run.moved.more q ++ stops (owner_at o.middle []) o.last q
  gains q l = gained_is before.lines lines (λ q. o.run.moved.more q ++ stops (owner_at o.middle []) o.last q) q all_lines l

  on : (file : List ℕ) → GoesOn hints s (owner_at before file) o.first o.last
  on file = goes_on hints s (owner_at before file) o.first o.last (o.run.none_strange file)

  at : (file : List ℕ) → of_fault h ≡ None → StoppedAt hints s (served s (owner_at before file) o.first).owner o.last (of_stranger h)
  at file f = stopped_at hints s before o.middle o.first o.later o.more o.last (stopped_with n held made marks heard lines) h file o.run o.parts o.halted o.none f

  -- the stops are those of the owner that was reached
  owes_stops : (file : List ℕ) (q : ℕ) → of_fault h ≡ None → owed s (owner_at before file) (o.first ++ o.last) q ≡ given_along s (owner_at before file) o.first q ++ stops (owner_at o.middle []) o.last q
  owes_stops file q f = grind (arith, nat_tests, on file, at file f)

  -- each step was told
  pub out_told : before.order ≡ [] → (file : List ℕ) → HasToldAlong s (owner_at before file) (arrived old now) marks before.heard heard
  out_told none file = grind (arith, nat_tests, arrivals_are)

  pub out_records : of_fault h ≡ None → (file : List ℕ) → n ≡ (served s (owner_at before file) (arrived old now)).owner.state.records
  out_records f file = grind (arith, nat_tests, left_at, on, at, arrivals_are)

  told_so : (m : Option (List ℕ)) → before.told ≡ m → IfSome m (λ file. GoesSo (HoldSingle before.clients × AreSingle o.first) (run s (owner_at before file) o.first) (owner_calls hints s (owner_at before file) o.first) o.run.moved.more before o.middle)
  told_so m e = subst (λ (t : Option (List ℕ)). IfSome t (λ file. GoesSo (HoldSingle before.clients × AreSingle o.first) (run s (owner_at before file) o.first) (owner_calls hints s (owner_at before file) o.first) o.run.moved.more before o.middle)) e o.run.moved.exact

  single_first : AreSingle (arrived old now) → AreSingle o.first
  single_first alone a i = alone a (subst (λ (xs : List Arrival). In xs a) (sym arrivals_are) (in_left o.first o.last a i))

  -- ---- one item for each offer

  out_stood : (e : StepErr) → h ≡ halt.Fault e → HoldSingle before.clients → AreSingle (arrived old now) → (file : List ℕ) → before.told ≡ Some file
      → (bytes : List ℕ) × (held ≡ Some bytes) × OwnerStoodAt s e (served s (owner_at before file) o.first).owner o.last bytes n
  out_stood e is free alone file there =
      let single_later : AreSingle o.later =
      λ a i. alone a (subst (λ (xs : List Arrival). In xs a) (sym arrivals_are) (in_right o.first o.last a (subst (λ (xs : List Arrival). In xs a) (sym o.parts) (in_left o.later o.more a i)))) in
      let fault = subst (λ (k : Halt). IsHaltAt s o.middle o.later (stopped_with n held made marks heard lines) k) is o.halted in
      let told = (told_so (Some file) there).told in
      let at = if_some_at (λ (f : List ℕ). (bytes : List ℕ) × (held ≡ Some bytes) × OwnerStoodAt s e (owner_at o.middle f) o.later bytes n) o.middle.told
      (served s (owner_at before file) o.first).owner.state.file told (fault (o.run.moved.single (free, single_first alone)) single_later) in (
        at.0,
        at.1,
        subst (λ (d : Owner). OwnerStoodAt s e d o.last at.0 n) (sym (o.run.moved.alike file).owner)
            (subst (λ (xs : List Arrival). OwnerStoodAt s e (owner_at o.middle (served s (owner_at before file) o.first).owner.state.file) xs at.0 n) (sym o.parts)
            (stood_later s e (owner_at o.middle (served s (owner_at before file) o.first).owner.state.file) o.later o.more at.0 n at.2)),
      )

  -- ---- from the opening

  module _ (fault : Option StepErr) (number : Option ℕ) (as_fault : fault ≡ of_fault h) (as_number : number ≡ of_stranger h) (none : before.order ≡ [])
      (clients : before.clients ≡ replicate old.senders free_client) (long : length before.lines ≡ old.senders) where
    low : (q : ℕ) → q < old.senders → q < length before.lines
    low q l = subst (λ (k : ℕ). q < k) (sym long) l

    clients_long : length before.clients ≡ old.senders
    clients_long = ap (λ (ss : List Client). length ss) clients ∙ length-replicate old.senders free_client

    frees : (q : ℕ) (x : Client) → slice_get before.clients q ≡ Some x → x.held ≡ None
    frees q x e = ap (λ (y : Client). y.held) (entry_replicate old.senders q free_client x (ap (λ (ss : List Client). slice_get ss q) (sym clients) ∙ e))

    none_single : HoldSingle before.clients
    none_single r x p e f = let no : x.held ≡ None = frees r x e in absurd cc

    pub end_done : fault ≡ None → (file : List ℕ) → IsDone s (owner_at before file) (passed (arrived old now) old.senders (gained before.lines lines)) marks number
    end_done e file =
        let f = sym as_fault ∙ e in
        subst (λ (xs : List Arrival). IsDone s (owner_at before file) (passed xs old.senders (gained before.lines lines)) marks number) (sym arrivals_are) (record {
          order = grind (arith, nat_tests, none, on file, at file f, append-nil (served s (owner_at before file) o.first).marks);
          stranger = as_number ∙ sym ((on file).stranger ∙ (at file f).stranger);
          given = λ q l.
              alike_by (gained before.lines lines q) (o.run.moved.more q ++ stops (owner_at o.middle []) o.last q) (given_along s (owner_at before file) o.first q ++ stops (owner_at o.middle []) o.last q)
              (owed s (owner_at before file) (o.first ++ o.last) q) (gains q (low q l)) (owes_stops file q f)
              (alike_two (o.run.moved.more q) (given_along s (owner_at before file) o.first q) (stops (owner_at o.middle []) o.last q) (stops (owner_at o.middle []) o.last q)
              ((o.run.moved.alike file).given q (low q l)) (alike_same (stops (owner_at o.middle []) o.last q)));
        })

    pub end_bytes : fault ≡ None → IfSome before.told (λ file. IsDoneSo s (owner_at before file) (passed (arrived old now) old.senders (gained before.lines lines)) held n)
    end_bytes e =
        let f = sym as_fault ∙ e in
        let left = left_at s o.middle o.later (stopped_with n held made marks heard lines) h o.halted f in
        IfSome_then before.told o.run.moved.exact (λ file so. grind (arith, nat_tests, so.told, so.given, left, on file, at file f, o.run.moved.alike file, arrivals_are, gains, low, owes_stops file))

    pub end_calls : fault ≡ None → AreSingle (arrived old now) → IfSome before.told (λ file. made ≡ with_end before.calls (owner_calls hints s (owner_at before file) (arrived old now)))
    end_calls e alone =
        let f = sym as_fault ∙ e in
        IfSome_then before.told o.run.moved.exact (λ file so.
        (left_at s o.middle o.later (stopped_with n held made marks heard lines) h o.halted f).calls ∙ so.calls (none_single, single_first alone)
        ∙ ap (λ (cs : List DiskCall). with_end before.calls cs)
        (sym ((on file).calls ∙ ap (λ (cs : List DiskCall). owner_calls hints s (owner_at before file) o.first ++ cs) (at file f).calls ∙ append-nil (owner_calls hints s (owner_at before file) o.first)))
        ∙ ap (λ (xs : List Arrival). with_end before.calls (owner_calls hints s (owner_at before file) xs)) (sym arrivals_are))

    one_item_each : (q : ℕ) → q < old.senders → length (gained before.lines lines q) ≡ offers_in (own_items q (o.first ++ o.last))
    one_item_each q l =
        let all : owed s (owner_at before []) o.first q ≡ given_along s (owner_at before []) o.first q ++ stops (owner_at o.middle []) [] q = grind (arith, nat_tests, append-nil o.first, goes_on hints s (owner_at before []) o.first [] (o.run.none_strange [])) in
        let many : length (stops (owner_at o.middle []) o.last q) ≡ length (stops (owner_at o.middle []) [] q) + offers_in (own_items q o.last) = grind (arith, nat_tests, length-append, length-map) in
        let both : offers_in (own_items q (o.first ++ o.last)) ≡ offers_in (own_items q o.first) + offers_in (own_items q o.last) = grind (arith, nat_tests, own_two q o.first o.last, filter-append is_offer, length-append) in
        let low_number = λ (a : Arrival). nat_lt a.0 old.senders in
        let front = and_first (list_all low_number o.first) (list_all low_number o.last) (sym (list_all-append low_number o.first o.last) ∙ o.taken.numbers) in
        let numbers = subst (λ (k : ℕ). list_all (λ (a : Arrival). nat_lt a.0 k) o.first ≡ true) (sym clients_long) front in
        let client = entry_below before.clients q (subst (λ (k : ℕ). q < k) (sym clients_long) l) in
        let count = owed_count s (owner_at before []) o.first q client.0 numbers client.1 in
        let none : one_if client.0.held ≡ 0 = ap one_if (frees q client.0 client.1) in
        let given = ap (λ (items : List OwnerItem). length items) all ∙ length-append (given_along s (owner_at before []) o.first q) (stops (owner_at o.middle []) [] q) in
        let like = alike_long (o.run.moved.more q) (given_along s (owner_at before []) o.first q) ((o.run.moved.alike []).given q (low q l)) in
        let whole = ap (λ (items : List OwnerItem). length items) (gains q (low q l)) ∙ length-append (o.run.moved.more q) (stops (owner_at o.middle []) o.last q) in
        omega arith

    pub end_failed : (k : ℕ) (e : StepErr) → ((file : List ℕ) → owner_at before file ≡ opening old.senders (counted file k)) → fault ≡ Some e
        → HasFailed s (opening old.senders) k (passed (arrived old now) old.senders (gained before.lines lines)) marks number
    end_failed k e opened is = record {
      first = o.first;
      later = o.last;
      all = arrivals_are;
      cut_off = λ file. subst (λ (d : Owner). IsCutOff s d o.first old.senders (gained before.lines lines) marks) (opened file) (record {
        none_strange = o.run.none_strange file;
        order = o.order ∙ (o.run.moved.alike file).marks ∙ ap (λ (ms : List Mark). ms ++ (served s (owner_at before file) o.first).marks) none;
        given = λ q l.
            let stops = only_stops (slice_get o.middle.clients q) (filter is_offer (own_items q o.last)) in (
              stops.0,
              alike_by (gained before.lines lines q) (o.run.moved.more q ++ replicate stops.0 Stop) (given_along s (owner_at before file) o.first q ++ replicate stops.0 Stop)
                  (given_along s (owner_at before file) o.first q ++ replicate stops.0 Stop)
                  (gains q (low q l) ∙ ap (λ (items : List OwnerItem). o.run.moved.more q ++ items) stops.1) refl
                  (alike_two (o.run.moved.more q) (given_along s (owner_at before file) o.first q) (replicate stops.0 Stop) (replicate stops.0 Stop) ((o.run.moved.alike file).given q (low q l)) (alike_same (replicate stops.0 Stop))),
            );
      });
      one_each = λ q l. one_item_each q l ∙ ap (λ (xs : List Arrival). offers_in (own_items q xs)) (sym arrivals_are);
      stranger = as_number ∙ ap of_stranger (fault_is h e (sym is ∙ as_fault));
    }

    -- the replies are all that the owner made, and the rest are stops
    out_gives : (file : List ℕ) → before.told ≡ Some file → (q : ℕ) → q < length before.clients → (given : IsGivenInPart s (owner_at before file) o.first o.last q (gained before.lines lines q)) × (given.unheard ≡ [])
    out_gives file e q wide =
        let l = subst (λ (k : ℕ). q < k) clients_long wide in
        let stops = only_stops (slice_get o.middle.clients q) (filter is_offer (own_items q o.last)) in
        let g = told_so (Some file) e in (
          record {
            replies = given_along s (owner_at before file) o.first q;
            unheard = [];
            stopped = stops.0;
            begins = append-nil (given_along s (owner_at before file) o.first q);
            whole = gains q (low q l) ∙ (λ i. g.given q (low q l) i ++ stops.1 i);
            one_each = one_item_each q l;
          },
          refl,
        )

    pub end_cut : (e : StepErr) → fault ≡ Some e → (m : Option (List ℕ)) → before.told ≡ m
        → IfSome m (λ file. HasCutService s e (owner_at before file) (passed (arrived old now) old.senders (gained before.lines lines)) (point marks held n))
    end_cut e is None there = tt
    end_cut e is (Some file) there =
        let bytes_or : Option (List ℕ) → List ℕ = λ m. elim m [ None ↦ [] | Some xs ↦ xs ] in
        let stands = λ (alone : AreSingle (arrived old now)). out_stood e (fault_is h e (sym is ∙ as_fault)) none_single alone file there in
        record {
          first = o.first;
          later = o.last;
          all = arrivals_are;
          left = bytes_or held;
          told = λ alone. let at = stands alone in at.1 ∙ ap (λ (xs : List ℕ). Some xs) (sym (ap bytes_or at.1));
          service = record {
            no_stranger = o.run.none_strange file;
            in_order = o.order ∙ (o.run.moved.alike file).marks ∙ ap (λ (ms : List Mark). ms ++ (served s (owner_at before file) o.first).marks) none;
            stood = λ alone.
                let at = stands (subst (λ (xs : List Arrival). AreSingle xs) (sym arrivals_are) alone) in
                subst (λ (xs : List ℕ). OwnerStoodAt s e (served s (owner_at before file) o.first).owner o.last xs n) (sym (ap bytes_or at.1)) at.2;
            gives = λ q l. (out_gives file there q l).0;
            all_heard = λ disk q l. (out_gives file there q l).1;
          };
          all_heard = λ q l. (out_gives file there q l).1;
        }

-- the same where what was lent is given back
pub outcome_given : {D T : Type 0} (disk : DiskGhosts D) (told : ToldGhosts T) (hints : Hints) (s : Setting) (old now : Receiver RankItem) (left : List Bool) (before : Standing) (out : Outlets D T) (marks : List Mark) (h : Halt)
    (d : D) (n : ℕ) (t : T) (lines : List (End OwnerItem)) → d ≡ out.disk.now → n ≡ out.records.now → t ≡ out.told.now → lines ≡ out.back.now
    → Outcome hints s (taken_from old now left) before (stopped_with out.records.now (disk.held out.disk.now) (disk.calls out.disk.now) marks (told.heard out.told.now) out.back.now) h
    → Outcome hints s (taken_from old now left) before (stopped_with n (disk.held d) (disk.calls d) marks (told.heard t) lines) h
outcome_given {D} {T} disk told hints s old now left before out marks h d n t lines same_disk same_records same_told same_back o = grind (arith, nat_tests)
