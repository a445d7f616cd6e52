-- A meeting that was cut off.
use Rattle.turn_run.proofs.Words.{◌≡◌, ℕ, ◌+◌, ◌<◌, ◌≤◌, sym, ◌∙◌, ap, subst, inl, inr, ◌⊎◌, List, [], ◌∷◌, ◌++◌, length, max, true, false, Option, Some, None, arith, append-nil, nat_lt, ◌==◌, if◌then◌else◌, list_any, byte_len, Batch, Call, Mark, Meet, StepErr, Memory, after, BothTold, needed_now, at, Setting, Counted, after_puts, raised, told, count, count_width, with_records, Puts, covered, IsTorn, at-written_before, after_keeps, after_round, counted, puts_in, counted_past, torn_by, torn_sides, round_grows, told_as, Header, Script, is_lawful, meetings, completed_by, point, AreRunners, HaveArrived, HaveMet, HasStopped, IsNext, bytes_at, in_step, arrived_all, met, Runner, after_grows, raised_grows, ext_get_or, may_change, nat_tests}
use Rattle.turn_run.proofs.MeetDone.{begun_after}
use Rattle.turn_run.specs.Cuts.StopsAt.{between}
use Rattle.turn_run.proofs.HalfLaws.{needed_of_none}
use Rattle.turn_run.proofs.MeetFile.{raised_none, twice_raised}
use Rattle.turn_run.proofs.MeetStep.{meet_at, offers_are, puts_same, IsTaken}
pub use Rattle.turn_run.proofs.MeetStep.{met_count}
use Rattle.turn_run.proofs.StageLaws.{some_each}

abbrev field_of : Setting → ℕ
field_of s = byte_len (count_width s.header.version)

-- file and count after the puts, before the count is raised
abbrev laid : Setting → Puts → List ℕ → ℕ → Counted
laid s puts file r = counted (after_puts s puts (told s puts) file) r

-- the puts alone, and the whole meeting, torn
abbrev RoundTorn : Setting → List Batch → ℕ → List ℕ → List ℕ → Type 0
RoundTorn s batches r = λ old left. IsTorn (covered s.header (puts_in batches)) (field_of s) old (after_round s (puts_in batches) (counted old r)).file left

abbrev MetTorn : Setting → List Batch → ℕ → ℕ → List ℕ → List ℕ → Type 0
MetTorn s batches r known = λ old left. IsTorn (covered s.header (puts_in batches)) (field_of s) old (met s batches known (counted old r)).file left

-- ---- puts of no byte

none_covered : (s : Setting) (puts : Puts) → puts ≡ [] → (x : ℕ) → list_any (λ y. y == x) (covered s.header puts) ≡ false
none_covered s puts e x = ap (λ (ps : Puts). list_any (λ y. y == x) (covered s.header ps)) e

round_none : (s : Setting) (puts : Puts) (r : ℕ) (old : List ℕ) → puts ≡ [] → (after_round s puts (counted old r)).file ≡ after_puts s puts (told s puts) old
round_none s puts r old e = grind (arith, nat_tests, raised, needed_of_none, raised_none, after_round, counted, laid)

keeps_none : (s : Setting) (puts : Puts) (r : ℕ) (old : List ℕ) → puts ≡ [] → (x : ℕ) → at (after_round s puts (counted old r)).file x ≡ at old x
keeps_none s puts r old e x = ap (λ (f : List ℕ). at f x) (round_none s puts r old e) ∙ after_keeps s puts (told s puts) old x (none_covered s puts e x)

either : {a b c : ℕ} → (a ≡ b) ⊎ (a ≡ c) → c ≡ b → a ≡ b
either (inl p) q = p
either (inr p) q = p ∙ q

-- what is torn of the puts' own count is torn of the meeting
pub round_met : (s : Setting) (batches : List Batch) (r known : ℕ) (held left : Option (List ℕ)) → BothTold (RoundTorn s batches r) held left
    → (known ≡ 0) ⊎ (puts_in batches ≡ []) → BothTold (MetTorn s batches r known) held left
round_met s batches r known held left b one = told_as (RoundTorn s batches r) (MetTorn s batches r known) held left (λ old bytes t. elim one [
  | inl e ↦ grind (arith, nat_tests, raised s (laid s (puts_in batches) old r))
  | inr e ↦
      let u = torn_sides _ _ _ _ _ t in let keep = keeps_none s (puts_in batches) r old e in
      let short = t.short in let wide = ap (λ (f : List ℕ). length f) (round_none s (puts_in batches) r old e) in
      let grown = raised_grows s (laid s (puts_in batches) old r) (max (needed_now s (puts_in batches)) known) in
      torn_by _ _ old _ bytes t.long (omega arith) (λ x h. cc (none_covered s (puts_in batches) e x)) (λ x h l k. inl (either (u.beside x l k) (keep x))) u.outside
]) b

-- ---- the count that the ranks know

pub raised_kept : (s : Setting) (c : Counted) (n x : ℕ) → (x < 4) ⊎ (4 + byte_len (count_width s.header.version) ≤ x) → at (raised s c n).file x ≡ at c.file x
raised_kept s c n x h = grind (arith, nat_tests, at-written_before c.file (count s.header.version n) 4 x, counted_past s.header.version n c.file x, h)

pub met_torn : (s : Setting) (batches : List Batch) (r known : ℕ) (old : List ℕ) → MetTorn s batches r known old (met s batches known (counted old r)).file
met_torn s batches r known old =
    let grown = after_grows s (puts_in batches) (told s (puts_in batches)) old in
    grind (arith, nat_tests, raised_grows s (laid s (puts_in batches) old r) (max (needed_now s (puts_in batches)) known), torn_by, raised_kept s (laid s (puts_in batches) old r) (max (needed_now s (puts_in batches)) known), after_keeps s (puts_in batches) (told s (puts_in batches)) old, told s (puts_in batches), laid, puts_in)

-- all was written, and a later call was refused
pub met_done : (s : Setting) (batches : List Batch) (r known : ℕ) (held now : Option (List ℕ)) → now ≡ after (λ file. (met s batches known (counted file r)).file) held
    → BothTold (MetTorn s batches r known) held now
met_done s batches r known None now e = e
met_done s batches r known (Some old) now e = (_, e, met_torn s batches r known old)

pub met_done_of : (s : Setting) (batches : List Batch) (r known : ℕ) (held now : Option (List ℕ)) → now ≡ after (λ file. (met s batches known (counted file r)).file) held
    → (known ≡ 0) ⊎ (puts_in batches ≡ []) → BothTold (MetTorn s batches r known) held now
met_done_of s batches r known held now e one = met_done s batches r known held now e

-- what is torn between a file and itself is that file
pub torn_same : (bytes : List ℕ) (field : ℕ) (old left : List ℕ) → IsTorn bytes field old old left → left ≡ old
torn_same bytes field old left t = ext_get_or 0 left old (omega arith) (λ x l. grind (arith, nat_tests, t.changed x l, t.kept x l, may_change bytes field x))

-- the write of the count that the ranks know was refused
pub count_met : (s : Setting) (batches : List Batch) (r n known : ℕ) (held mid now : Option (List ℕ))
    → mid ≡ after (λ file. (after_round s (puts_in batches) (counted file r)).file) held → n ≡ max r (needed_now s (puts_in batches))
    → BothTold (λ old left. IsTorn [] (byte_len (count_width s.header.version)) old (if nat_lt n known then with_records s.header.version old known else old) left) mid now
    → (known ≡ 0) ⊎ (puts_in batches ≡ []) → BothTold (MetTorn s batches r known) held now
count_met s batches r n known None mid now e k b one = rw e at b
count_met s batches r n known (Some old) mid now e k b one =
    let t = rw e at b in (
      t.0,
      t.1,
      let torn : IsTorn [] (field_of s) (after_round s (puts_in batches) (counted old r)).file (met s batches known (counted old r)).file t.0 =
          subst (λ (f : List ℕ). IsTorn [] (field_of s) (after_round s (puts_in batches) (counted old r)).file f t.0) (twice_raised s (laid s (puts_in batches) old r) n (needed_now s (puts_in batches)) known k) t.2 in
          elim one [
            | inl z ↦
                let same : needed_now s (puts_in batches) ≡ max (needed_now s (puts_in batches)) known = omega arith in
                let whole = ap (λ (m : ℕ). (raised s (laid s (puts_in batches) old r) m).file) same in
                let is = torn_same [] (field_of s) (met s batches known (counted old r)).file t.0
                (subst (λ (f : List ℕ). IsTorn [] (field_of s) f (met s batches known (counted old r)).file t.0) whole torn) in
                subst (λ (f : List ℕ). MetTorn s batches r known old f) (sym is) (met_torn s batches r known old)
            | inr z ↦ grind (arith, nat_tests, torn, torn_sides, round_grows s (puts_in batches) r old, keeps_none s (puts_in batches) r old z, torn_by, none_covered s (puts_in batches) z)
          ],
    )

-- ---- the step of the runners

pub stopped_meet : {F : Mark → Type 0} {s : Setting} {fault : StepErr} (k : ℕ) {before now : List Mark} {held left : Option (List ℕ)} {calls : List (List Call)} {runners : List Runner} {batches : List Batch}
    {known r n : ℕ} → IsTaken calls runners batches known → F (Meet k) → now ≡ before → BothTold (MetTorn s batches r known) held left
    → (n ≡ r) ⊎ (n ≡ max r (max (needed_now s (puts_in batches)) known)) → HasStopped F s fault (point before held r) (arrived_all s.header calls runners) (point now left n)
stopped_meet {F} {s} {fault} k {before} {now} {held} {left} {calls} {runners} {batches} {known} {r} {n} t f same torn count =
    record {
      more = [];
      grown = same ∙ sym (append-nil before);
      ends = some_each held (λ file there.
          let b = rw there at torn in (
            b.0,
            b.1,
            in_step (Meet k) f (grind (arith, nat_tests, offers_are s.header calls runners t.long t.hold, puts_same, bytes_at, meet_at s k (counted file r) t, met_count s batches known file r)),
          ));
    }

-- the meeting was done, and some ranks did not hear
pub stopped_deaf : {F : Mark → Type 0} {s : Setting} {fault : StepErr} (k : ℕ) {before now : List Mark} {held left : Option (List ℕ)} {calls : List (List Call)} {runners : List Runner} {batches : List Batch}
    {known r n : ℕ} → IsTaken calls runners batches known → fault ≡ Memory → now ≡ before ++ Meet k ∷ [] → left ≡ after (λ file. (met s batches known (counted file r)).file) held
    → n ≡ max r (max (needed_now s (puts_in batches)) known) → HasStopped F s fault (point before held r) (arrived_all s.header calls runners) (point now left n)
stopped_deaf {F} {s} {fault} k {before} {now} {held} {left} {calls} {runners} {batches} {known} {r} {n} t memory grown bytes count =
    record {
      more = Meet k ∷ [];
      grown = grown;
      ends = some_each held (λ file there.
          let same = meet_at s k (counted file r) t in grind (arith, nat_tests, at, met_count));
    }

pub count_left : (s : Setting) (puts : Puts) (r n m known : ℕ) → n ≡ max r (needed_now s puts) → m ≡ n → (known ≡ 0) ⊎ (puts ≡ []) → (m ≡ r) ⊎ (m ≡ max r (max (needed_now s puts) known))
count_left s puts r n m known e f one = grind (arith, nat_tests, needed_of_none s puts, one)

pub count_all : (s : Setting) (puts : Puts) (r n m known : ℕ) → n ≡ max r (needed_now s puts) → m ≡ max n known → (known ≡ 0) ⊎ (puts ≡ []) → (m ≡ r) ⊎ (m ≡ max r (max (needed_now s puts) known))
count_all s puts r n m known e f one = inr (omega arith)

-- a meeting may follow
pub next_meets : {script : Script} {header : Header} {len : ℕ} {order same : List Mark} {runners : List Runner} → is_lawful script ≡ true → AreRunners script header len order runners → HaveMet runners
    → HaveArrived script runners → same ≡ order → IsNext script same (Meet (meetings order))
next_meets {script} {header} {len} {order} {same} {runners} lawful a m come e =
    grind (arith, nat_tests, begun_after {now_order = order ++ Meet (meetings order) ∷ []} a m come, completed_by script order (Meet (meetings order)) lawful)
