-- The windows of all parts, each read of its own part, are the file's bytes of all entries.
use Rattle.get_exchange.proofs.Words.{◌≡◌, ℕ, ◌+◌, ◌-◌, ◌<◌, ◌≤◌, inl, inr, refl, sym, ◌∙◌, ap, subst, List, [], ◌∷◌, ◌++◌, length, map, Option, Some, None, Result, Ok, Err, arith, slice_get_within, append-nil, length-map, slice_get, zip, IfErr, IfSome, IsErrOf, OnOk, result_and, entry_below, Extent, StepErr, Disk, Memory, at, read, read_at, read_same, In, in_either, in_left, in_right, at_in, in_at, in_map, in_zip, map_in, zip_in, IsCovered, AreAsLong, FitTable, HasRead, HaveOnePlaces, get_turns, AreRead, IsGetPlanned, told_in, HasReadParts, HasReadTurns, HasTaken, HaveTakenTurns, IsKept, IsReadOf, Log, IsDomainOf, domain_of, part_of, turns_due, IsFresh, Told, ReadWorker, GetPlan, domain_part, domain_windows, nat_tests, take, drop, zip_split, IsSplit, AreKept, HaveServed, DiskGhosts, IsErr, came_back, zip_next, err_not_ok, suc, common_steps}
use Rattle.get_exchange.proofs.FetchLaws.{GotBy}
use Rattle.get_exchange.proofs.ReadLaws.{log_joined, read_law}
use Rattle.get_exchange.proofs.TakeLaws.{items_read}

-- ---- part after part

told_at : (held : Option (List ℕ)) (start : ℕ) (log : Log) (e : Told × List ℕ) → In log e
    → IfSome held (λ file. (u : Told × List ℕ) → In log u → u.1 ≡ read file (u.0.0 - start) u.0.1) → IfSome held (λ file. e.1 ≡ read file (e.0.0 - start) e.0.1)
told_at None start log e m h = tt
told_at (Some file) start log e m h = h e m

module _ {D : Type 0} (from : D → ℕ) (held : D → Option (List ℕ)) (plan : GetPlan) where
  pub parts_none : (table : List (List (List ℕ))) → HasReadParts from held plan [] table table
  parts_none table = record { log = []; collected = λ r s. refl; all = λ p t m k. absurd m; only = λ e m. absurd m }

  one_part : (pair : D × Extent) (mid now : List (List (List ℕ))) → HasReadTurns plan.list.now (get_turns plan pair.1) (from pair.0) (held pair.0) mid now
      → HasReadParts from held plan (pair ∷ []) mid now
  one_part pair mid now t = record {
    log = t.log;
    collected = t.collected;
    all = grind (arith, nat_tests);
    only = λ e m. record {
      pair = pair;
      inside = inl refl;
      turn = subst (λ (ts : List Told). In ts e.0) t.turns (in_map (λ (u : Told × List ℕ). u.0) t.log e m);
      told = told_at (held pair.0) (from pair.0) t.log e m t.told;
    };
  }

  parts_both : (pairs more : List (D × Extent)) (old mid now : List (List (List ℕ))) → HasReadParts from held plan pairs old mid → HasReadParts from held plan more mid now
      → HasReadParts from held plan (pairs ++ more) old now
  parts_both pairs more old mid now h t = record {
    log = h.log ++ t.log;
    collected = log_joined plan.list.now h.log t.log old mid now h.collected t.collected;
    all = grind (arith, common_steps, in_either pairs more, in_left (told_in h.log) (told_in t.log), in_right (told_in h.log) (told_in t.log));
    only = λ e m. elim (in_either h.log t.log e m) [
      | inl g ↦ (let r = h.only e g in record { pair = r.pair; inside = in_left pairs more r.pair r.inside; turn = r.turn; told = r.told })
      | inr g ↦ (let r = t.only e g in record { pair = r.pair; inside = in_right pairs more r.pair r.inside; turn = r.turn; told = r.told })
    ];
  }

  pub parts_next : (parts : List D) (domains : List Extent) (k : ℕ) (part : D) (domain : Extent) (old mid now : List (List (List ℕ))) → slice_get parts k ≡ Some part → slice_get domains k ≡ Some domain
      → HasReadParts from held plan (zip (take k parts) domains) old mid → HasReadTurns plan.list.now (get_turns plan domain) (from part) (held part) mid now
      → HasReadParts from held plan (zip (take (k + 1) parts) domains) old now
  parts_next parts domains k part domain old mid now at is h t =
      let next : suc k ≡ k + 1 = omega arith in
      grind (arith, nat_tests, zip_next parts domains k part domain at is, parts_both (zip (take k parts) domains) ((part, domain) ∷ []) old mid now h, one_part (part, domain) mid now t)

  -- the first parts, which helpers read, and those behind them, which are read in turn
  pub parts_joined : {T E : Type 0} (n : ℕ) (parts rest : List D) (domains more : List Extent) (old mid now : List (List (List ℕ))) (end came both : Result T E) → IsSplit n parts rest domains more
      → both ≡ result_and end came → OnOk end (HasReadParts from held plan (zip (take n parts) (take n domains)) old mid) → OnOk came (HasReadParts from held plan (zip rest more) mid now)
      → OnOk both (HasReadParts from held plan (zip parts domains) old now)
  parts_joined n parts rest domains more old mid now end came (Err x) split is h t = tt
  parts_joined n parts rest domains more old mid now (Ok y) (Ok x) (Ok z) split is h t =
      rw (zip_split n parts domains split.long)
      (parts_both (zip (take n parts) (take n domains)) (zip (drop n parts) (drop n domains)) old mid now h (rw (split.behind, split.later) at t))
  parts_joined _ _ _ _ _ old mid now _ _ _ split is h t = absurd cc

-- ---- helpers of which all was taken

own_told : {D : Type 0} (plan : GetPlan) (mid last : ReadWorker D) (own : Log) → IsFresh plan mid → IsKept mid last → turns_due last.shelf ≡ [] → HasTaken own mid.shelf last.shelf
    → told_in own ≡ get_turns plan (domain_of last)
own_told plan mid last own r k none t = grind (arith, nat_tests, append-nil (told_in own))

-- the hulls of a helper's windows were taken off its line, as far as it went
abbrev pub WasRead : {D : Type 0} → (D → ℕ) → (D → Option (List ℕ)) → GetPlan → ReadWorker D → Type 0
WasRead from held plan worker = AreRead (get_turns plan (domain_of worker)) (from (part_of worker)) (held (part_of worker)) worker.shelf.line.items

own_read : {D : Type 0} (from : D → ℕ) (held : D → Option (List ℕ)) (plan : GetPlan) (mid last : ReadWorker D) (own : Log) → IsFresh plan mid → IsKept mid last → turns_due last.shelf ≡ []
    → HasTaken own mid.shelf last.shelf → WasRead from held plan last → IfSome (held (part_of last)) (λ file. (e : Told × List ℕ) → In own e → e.1 ≡ read file (e.0.0 - from (part_of last)) e.0.1)
own_read from held plan mid last own r k none t read = grind (arith, nat_tests, own_told plan mid last own r k none t, items_read)

abbrev paired : {D : Type 0} → ReadWorker D → D × Extent
paired worker = (part_of worker, domain_of worker)

zip_paired : {D : Type 0} (ws : List (ReadWorker D)) → zip (map (λ worker. part_of worker) ws) (map (λ worker. domain_of worker) ws) ≡ map paired ws
zip_paired [] = refl
zip_paired {D} (w ∷ ws) = ap (λ (ps : List (D × Extent)). paired w ∷ ps) (zip_paired ws)

module _ {D : Type 0} (from : D → ℕ) (held : D → Option (List ℕ)) (plan : GetPlan) {mids lasts whole : List (ReadWorker D)} (kept : AreKept IsKept mids lasts whole)
    (ready : (worker : ReadWorker D) → In mids worker → IsFresh plan worker) (none : (k : ℕ) (worker : ReadWorker D) → slice_get lasts k ≡ Some worker → turns_due worker.shelf ≡ []) where
  own_turns : (k : ℕ) (mid last : ReadWorker D) (own : Log) → slice_get mids k ≡ Some mid → slice_get lasts k ≡ Some last → HasTaken own mid.shelf last.shelf → told_in own ≡ get_turns plan (domain_of last)
  own_turns k mid last own e f t = own_told plan mid last own (ready mid (at_in mids k mid e)) (kept.each k mid last e f) (none k last f) t

  workers_read : (old now : List (List (List ℕ))) → HaveTakenTurns plan.list.now mids lasts old now → ((worker : ReadWorker D) → In lasts worker → WasRead from held plan worker)
      → HasReadParts from held plan (map paired lasts) old now
  workers_read old now t read = record {
    log = t.log;
    collected = t.collected;
    all = λ p u m k. all_in p u (map_in paired lasts p m) k;
    only = λ e m. (
        let r = t.only e m in
        let last = at_in lasts r.number r.new r.at_new in
        record {
          pair = paired r.new;
          inside = in_map paired lasts r.new last;
          turn = subst (λ (ts : List Told). In ts e.0) (own_turns r.number r.old r.new r.own r.at_old r.at_new r.taken) (in_map (λ (v : Told × List ℕ). v.0) r.own e r.inside);
          told = grind (arith, nat_tests, told_at (held (part_of r.new)) (from (part_of r.new)) r.own e r.inside, own_read from held plan r.old r.new r.own (ready r.old (at_in mids r.number r.old r.at_old)), at_in mids r.number r.old r.at_old);
        }
        );
  }
    where
      all_in : (p : D × Extent) (u : Told) → (worker : ReadWorker D) × In lasts worker × (paired worker ≡ p) → In (get_turns plan p.1) u → In (told_in t.log) u
      all_in p u s m =
          let last = in_at lasts s.0 s.1 in
          let low = slice_get_within lasts last.0 s.0 last.1 in
          let long = kept.long in
          let mid = entry_below mids last.0 (omega arith) in
          let w = t.each last.0 mid.0 s.0 mid.1 last.1 in
          let told = own_turns last.0 mid.0 s.0 w.own mid.1 last.1 w.taken in
          let found = map_in (λ (e : Told × List ℕ). e.0) w.own u (subst (λ (ts : List Told). In ts u) (sym told) (subst (λ (q : D × Extent). In (get_turns plan q.1) u) (sym s.2) m)) in
          subst (λ (v : Told). In (told_in t.log) v) found.2 (in_map (λ (e : Told × List ℕ). e.0) t.log found.0 (w.inside found.0 found.1))

  pub all_read : {T E : Type 0} {rest back parts : List D} {domains : List Extent} (old now : List (List (List ℕ))) (end came both : Result T E) → both ≡ result_and end came
      → HaveServed (λ worker. part_of worker) (λ worker. domain_of worker) lasts rest back parts domains → OnOk came (HaveTakenTurns plan.list.now mids lasts old now)
      → OnOk end ((worker : ReadWorker D) → In whole worker → WasRead from held plan worker)
      → OnOk both (HasReadParts from held plan (zip (take (length back) parts) (take (length back) domains)) old now)
  all_read old now end came (Err x) is served taken read = tt
  all_read old now (Ok y) (Ok x) (Ok z) is served taken read = grind (arith, nat_tests, zip_paired lasts, workers_read old now taken)
  all_read old now _ _ _ is served taken read = absurd cc

-- ---- all parts have the bytes of one file

read_of_read : (file : List ℕ) (from len x n : ℕ) → from ≤ x → x + n ≤ from + len → read (read file from len) (x - from) n ≡ read file x n
read_of_read file from len x n low high = read_same (read file from len) file (x - from) x n
    (λ j l. let same : from + (x - from + j) ≡ x + j = omega arith in read_at file from len (x - from + j) (omega arith) ∙ ap (λ (k : ℕ). at file k) same)

told_file : (held : Option (List ℕ)) (file : List ℕ) (from len x n : ℕ) (bytes : List ℕ) → held ≡ Some (read file from len) → from ≤ x → x + n ≤ from + len
    → IfSome held (λ f. bytes ≡ read f (x - from) n) → bytes ≡ read file x n
told_file held file from len x n bytes e low high told = grind (arith, nat_tests, read_of_read file from len x n low high)

-- each covered byte lies on one of the parts, and in its domain
pub parts_read : {D : Type 0} (from len : D → ℕ) (held : D → Option (List ℕ)) (plan : GetPlan) (parts : List D) (domains : List Extent) (file : List ℕ) (old now : List (List (List ℕ)))
    → IsGetPlanned plan → length domains ≡ length parts
    → ((k : ℕ) (part : D) (domain : Extent) → slice_get parts k ≡ Some part → slice_get domains k ≡ Some domain → IsDomainOf plan.list.now (from part) (len part) domain)
    → ((x : ℕ) → IsCovered plan.list.now x → (part : D) × In parts part × (from part ≤ x) × (x < from part + len part))
    → FitTable old plan.list.now → HaveOnePlaces plan.list.now → ((part : D) → In parts part → held part ≡ Some (read file (from part) (len part)))
    → HasReadParts from held plan (zip parts domains) old now → HasRead file plan.list.now old now
parts_read {D} from len held plan parts domains file old now p long each whole fit once slices h = read_law file plan.list.now h.log old now p.ends once fit
    (λ x c. has_hull x c (whole x c)) (λ e m. has_bytes e (h.only e m)) h.collected
  where
    size : ℕ
    size = plan.hints.now.cb_buffer

    cover : List Extent
    cover = plan.cover.now

    has_hull : (x : ℕ) → IsCovered plan.list.now x → (part : D) × In parts part × (from part ≤ x) × (x < from part + len part)
        → (t : Told) × In (told_in h.log) t × (t.0 ≤ x) × (x < t.0 + t.1)
    has_hull x c w =
        let k = in_at parts w.0 w.1 in
        let low = slice_get_within parts k.0 w.0 k.1 in
        let d = entry_below domains k.0 (omega arith) in
        let here = each k.0 w.0 d.0 k.1 d.1 in
        let t = domain_windows size (from w.0) (len w.0) d.0 plan.list.now cover p.some p.covers p.cover_bytes here.whole x w.2 w.3 c in
        (t.0, h.all (w.0, d.0) t.0 (in_zip parts domains k.0 w.0 d.0 k.1 d.1) t.1, t.2, t.3)

    has_bytes : (e : Told × List ℕ) → IsReadOf from held plan (zip parts domains) e → e.1 ≡ read file e.0.0 e.0.1
    has_bytes e r =
        let k = zip_in parts domains r.pair r.inside in
        let here = each k.0 r.pair.0 r.pair.1 k.1 k.2 in
        let on = domain_part size r.pair.1 cover (from r.pair.0) (len r.pair.0) p.some p.covers here.low here.high e.0 r.turn in
        told_file (held r.pair.0) file (from r.pair.0) (len r.pair.0) e.0.0 e.0.1 e.1 (slices r.pair.0 (at_in parts k.0 r.pair.0 k.1)) on.0 on.1 r.told

-- each keeps its part and its domain
pub kept_same : {D : Type 0} (old new : ReadWorker D) → IsKept old new → (part_of new ≡ part_of old) × (domain_of new ≡ domain_of old)
kept_same old new k = (ap (λ helper. helper.awaited.ends.value.part) k.helper, ap (λ helper. helper.domain) k.helper)

-- want of memory is no fault
pub and_memory : {T : Type 0} (end came both : Result T StepErr) → both ≡ result_and end came → IfErr came (λ e. e ≡ Memory) → IsErrOf both Disk → IsErrOf end Disk
and_memory end came both is h f = grind (arith, nat_tests)

-- as many lists of blobs as before
pub rows_long : (old now : List (List (List ℕ))) → AreAsLong old now → length now ≡ length old
rows_long old now h = grind (arith, nat_tests, length-map)

-- nothing was read
pub got_kept : {D : Type 0} (disk : DiskGhosts D) (plan : GetPlan) (end : Result (Unit {0}) StepErr) → IsErr end → (p : D × Extent) → GotBy disk plan end p p.0
got_kept disk plan end cut p = record { from = refl; len = refl; held = refl; device = err_not_ok _ end cut; later = omega arith }

-- a table that was lent, and came back filled
pub table_back : (len : ℕ) (table lent filled : List (List (List ℕ))) → lent ≡ table → len ≡ length table → AreAsLong lent filled → take len (filled ++ drop (length filled) table) ≡ filled
table_back len table lent filled given room long = came_back len filled lent table room given (rows_long lent filled long)
