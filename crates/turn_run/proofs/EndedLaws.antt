-- How a run ended, by the ends of its ranks.
use Rattle.turn_run.proofs.Words.{◌≡◌, ℕ, ◌≤◌, ◌⊎◌, List, [], map, true, Option, Some, None, Result, Err, OnErr, byte_len, Header, RankEnd, RunEnd, ServeEnd, DiskCall, StepErr, Rose, BothTold, raised, count_width, is_sound, IsTorn, as_setting, counted, contents_of, EndedAt, HasClosed, NoneBroke, most_known_of, as_left, in_close, arith, nat_tests}
use Rattle.nc_base.specs.declared.step.StepErr.TheVariants as fault

-- what the end of a run tells
pub record Closing (header : Header) (ends : List RankEnd) (before : ServeEnd) (held : Option (List ℕ)) (calls : Option (List DiskCall)) (faults count : ℕ)
    (left : Option (List ℕ)) (made : Option (List DiskCall)) (failed records : ℕ) (end : RunEnd) : Type 0 where
  pub order : end.order ≡ before.order
  pub went : end.fault ≡ None → (before.fault ≡ None) × NoneBroke ends
  pub closed : end.fault ≡ None → HasClosed header (most_known_of ends) (contents_of held count) (contents_of left records) calls made
  pub sound : end.fault ≡ None → is_sound (record header { records = records }) ≡ true
  pub answers : end.fault ≡ None → end.answers ≡ map (λ x. x.answers) ends
  pub pending : end.fault ≡ None → end.pending ≡ map (λ x. x.pending) ends
  pub none_pending : (e : StepErr) → end.fault ≡ Some e → end.pending ≡ []
  pub first : (e : StepErr) → before.fault ≡ Some e → end.fault ≡ Some fault.Disk → e ≡ fault.Disk
  pub cause : before.fault ≡ None → end.fault ≡ Some fault.Disk → Rose faults failed
  pub later : faults ≤ failed

-- the same with a fault
pub record EndOfCut (header : Header) (ends : List RankEnd) (before : ServeEnd) (e : StepErr) (held : Option (List ℕ)) (count : ℕ) (left : Option (List ℕ)) (records : ℕ) (end : RunEnd) : Type 0 where
  pub order : end.order ≡ before.order
  pub at : EndedAt header ends before.fault e (contents_of held count) (contents_of left records)
  pub rows : (end.answers ≡ map (λ x. x.answers) ends) ⊎ (end.answers ≡ [])
  pub whole : e ≡ fault.Disk → NoneBroke ends
  pub kept : e ≡ fault.Disk → end.answers ≡ map (λ x. x.answers) ends

-- want of memory may follow it
pub ended_as : (header : Header) (ends : List RankEnd) (before : Option StepErr) (x e : StepErr) (held left : Option (List ℕ)) (count records : ℕ) → (e ≡ x) ⊎ (e ≡ fault.Memory)
    → EndedAt header ends before x (contents_of held count) (contents_of left records) → EndedAt header ends before e (contents_of held count) (contents_of left records)
ended_as header ends before x e held left count records which (as_left w l k) = as_left (grind (arith, nat_tests, which, w)) l k
ended_as header ends before x e held left count records which (in_close none whole torn k) = in_close none whole torn k

-- of an answer that handed on its error
pub ended_err : {T : Type 0} (header : Header) (ends : List RankEnd) (before : Option StepErr) (r : Result T StepErr) (e : StepErr) (held left : Option (List ℕ)) (count records known : ℕ) → r ≡ Err e → before ≡ None → NoneBroke ends
    → known ≡ most_known_of ends
    → OnErr r (BothTold (λ old now. IsTorn [] (byte_len (count_width header.version)) old (raised (as_setting header) (counted old count) known).file now) held left) → OnErr r (records ≡ count)
    → EndedAt header ends before e (contents_of held count) (contents_of left records)
ended_err {T} header ends before r e held left count records known is none whole same torn k = grind (arith, nat_tests, raised (as_setting header))

pub err_is : {T : Type 0} (x e : StepErr) → ◌≡◌ {A = Result T StepErr} (Err x) (Err e) → x ≡ e
err_is x e h = cc
