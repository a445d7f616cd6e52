-- A run that was cut off, step by step.
use Rattle.turn_run.proofs.Words.{IfSome_then, ◌≡◌, ℕ, ◌<◌, refl, sym, ◌∙◌, List, [], ◌∷◌, ◌++◌, set, true, Option, Some, Result, Err, append-nil, slice_get, byte_len, Hints, Script, Mark, Solo, Offer, StepErr, Memory, after, BothTold, Setting, Counted, puts_of, solo, count_width, Going, covered, IsTorn, counted, torn_wider, Header, DiskCall, is_lawful, completed_by, point, AreRunners, Arrived, step_to, HasGone, IsGrownBy, rank_stage, HasStopped, MayFollow, IsNext, bytes_at, Runner, in_step, entry_set, IsErrAnd, arith, nat_tests, common_steps}
use Rattle.turn_run.proofs.AloneLaws.{grown_then}
use Rattle.turn_run.proofs.TurnSteps.{step_begun}
use Rattle.turn_run.specs.Cuts.StopsAt.{between}
use Rattle.turn_run.proofs.SaidLaws.{reached_then}
use Rattle.turn_run.proofs.StageLaws.{gone_beside, some_each}
use Rattle.turn_run.specs.Cuts.{IsLeftAt}

-- ---- where nothing more was done

-- as the next mark may be known by more
pub stopped_as : {F G : Mark → Type 0} {s : Setting} {fault : StepErr} {before now : List Mark} {held left : Option (List ℕ)} {records count : ℕ} {ranks : List Arrived} → ((m : Mark) → F m → G m)
    → HasStopped F s fault (point before held records) ranks (point now left count) → HasStopped G s fault (point before held records) ranks (point now left count)
stopped_as {F} {G} {s} {fault} {held} {records} {count} {ranks} f h = record {
  more = h.more;
  grown = h.grown;
  ends = IfSome_then held h.ends (λ file k. (k.0, k.1, elim k.2 [ in_step m next l ↦ in_step m (f m next) l | between e b l ↦ between e b l ]));
}

-- want of memory where nothing was begun
pub stopped_between : {F : Mark → Type 0} {s : Setting} {fault : StepErr} {before now : List Mark} {held left : Option (List ℕ)} {records count : ℕ} {ranks : List Arrived}
    → fault ≡ Memory → now ≡ before → left ≡ held → count ≡ records → HasStopped F s fault (point before held records) ranks (point now left count)
stopped_between {before} {held} e o l k = record { more = []; grown = o ∙ sym (append-nil before); ends = some_each held (λ file there. (file, l ∙ there, between e refl k)) }

-- ---- a solo step

pub solo_at : (s : Setting) (r n : ℕ) (c : Counted) (ranks : List Arrived) (t : Going) (o : Offer) → slice_get ranks r ≡ Some (t, Some o)
    → (solo s r o c).0 ≡ (step_to s (c, ranks) (Solo r n)).0
solo_at s r n c ranks t o e = grind (arith, nat_tests, step_to)

-- in which the disk was refused, or memory after it
pub stopped_solo : (F : Mark → Type 0) (r n : ℕ) (t : Going) (o : Offer) {s : Setting} {fault : StepErr} {before now : List Mark} {held left : Option (List ℕ)} → F (Solo r n) → now ≡ before
    → BothTold (λ old left. IsTorn (covered s.header (puts_of (r, o))) 0 old (solo s r o (counted old 0)).0.file left) held left
    → (records : ℕ) (ranks : List Arrived) → slice_get ranks r ≡ Some (t, Some o) → HasStopped F s fault (point before held records) ranks (point now left records)
stopped_solo F r n t o {s} {before} {held} f same torn records ranks e = record {
  more = [];
  grown = same ∙ sym (append-nil before);
  ends = some_each held (λ file there.
      let b = rw there at torn in (
        b.0,
        b.1,
        in_step (Solo r n) f
            (grind (arith, common_steps, bytes_at s ranks (Solo r n), e, solo_at s r n (counted file records) ranks t o e, torn_wider (covered s.header (puts_of (r, o))) (byte_len (count_width s.header.version)) file (solo s r o (counted file records)).0.file b.0 b.2)),
      ));
}

-- ---- the cause of an answer

-- want of memory that is handed on
pub memory_of : {T : Type 0} (r : Result T StepErr) (e : StepErr) → IsErrAnd r (λ y. y ≡ Memory) → r ≡ Err e → e ≡ Memory
memory_of r e h is = grind (arith, nat_tests)

-- an error that is handed on
pub same_err : {T U : Type 0} {x : StepErr} (r : Result T StepErr) (e : StepErr) → IsErrAnd r (λ y. y ≡ x) → r ≡ Err e → ◌≡◌ {A = Result U StepErr} (Err x) (Err e)
same_err r e h is = grind (arith, nat_tests)

-- ---- one rank's steps

pub gone_stopped : (F : Mark → Type 0) (mid : List Mark) {hints : Hints} {s : Setting} {r : ℕ} {fault : StepErr} {before now : List Mark} {held left last : Option (List ℕ)}
    {calls made : Option (List DiskCall)} {from to : Arrived} → HasGone hints s r (rank_stage before held calls from) (rank_stage mid left made to)
    → ((records : ℕ) (ranks : List Arrived) → slice_get ranks r ≡ Some to → HasStopped F s fault (point mid left records) ranks (point now last records))
    → (records : ℕ) (ranks : List Arrived) → slice_get ranks r ≡ Some from → HasStopped F s fault (point before held records) ranks (point now last records)
gone_stopped F mid {s} {r} {fault} {last} {from} {to} g next records ranks e =
    reached_then (IsLeftAt F s fault last records) mid (gone_beside g records ranks e) (next records (set ranks r to) (entry_set ranks r from to e))

-- a step that rank n may do next is one that a history of the script has next
pub follows_next : (script : Script) (header : Header) (len : ℕ) (before now : List Mark) (runners : List Runner) (n : ℕ) → is_lawful script ≡ true
    → AreRunners script header len before runners → n < script.ranks → IsGrownBy n before now → (m : Mark) → MayFollow script n now m → IsNext script now m
follows_next script header len before now runners n lawful a l g m f =
    grind (arith, nat_tests, step_begun script header len before (now ++ m ∷ []) runners n a l, grown_then n before now (now ++ m ∷ []) g, completed_by script now m lawful)
