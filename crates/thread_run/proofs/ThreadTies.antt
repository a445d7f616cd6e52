-- What each rank's thread and the owner tell by themselves, and that it ties them.
use Rattle.thread_run.proofs.Words.{◌≡◌, ℕ, ◌<◌, refl, sym, ◌∙◌, ap, subst, inl, inr, ◌⊎◌, List, [], ◌++◌, length, take, drop, true, Option, Some, None, append_assoc, arith, slice_get_within, slice_get, nat_lt, IsTrue, list_all, entry_below, Header, Call, RankEnd, RankStop, Script, OwnerItem, RankItem, own_items, Arrival, HasEnd, IsAgreed, IsJoined, IsTied, back_of, run_of, is_lawful, first_going, AreAlike, HasOffered, offered_alike, begun_each, begun_known, long_whole, tied_each, tied_joins, HasAttended, HasFinished, HasBegun, IsSettled, calls_of, NoneBroke, alike_take, alike_long, take-append-drop, length-take-le, first_of, prefix_long, front_or_all, nat_tests, ◌≤◌, IfSome, ServeEnd, DiskCall, Mark, StepErr, Rose, with_end, served, counted, setting_of, AreSingle, owner_calls, HasCutService, HasFailed, HasToldAlong, IsDone, IsDoneSo, opening, passed, point}
use mathlib.Core.List.{IsPrefix}
use Rattle.nc_base.specs.declared.run.RankStop.TheVariants as stop
use Rattle.nc_base.specs.declared.step.RankItem.TheVariants as item
use Rattle.nc_base.specs.declared.step.StepErr.TheVariants as fault

-- what the threads came to, and what the owner took
pub record Told (script : Script) (header : Header) (arrivals : List Arrival) (given : ℕ → List OwnerItem) (ends : List RankEnd) : Type 0 where
  pub numbers : IsTrue (list_all (λ a. nat_lt a.0 script.ranks) arrivals)
  pub ended : (q : ℕ) → q < script.ranks → HasEnd (own_items q arrivals)
  pub long : length ends ≡ script.ranks
  pub calls : length script.calls ≡ script.ranks
  pub each : (r : ℕ) (end : RankEnd) → slice_get ends r ≡ Some end → IsSettled header (calls_of script r) (own_items r arrivals) (given r) end

-- what the owner tells, who served n senders and opened with m clients
pub record OwnerSide (script : Script) (header : Header) (arrivals : List Arrival) (given : ℕ → List OwnerItem) (n m : ℕ) (held : Option (List ℕ)) (calls : Option (List DiskCall)) (faults : ℕ)
    (told : Option (List (Mark × ℕ))) (left : Option (List ℕ)) (made : Option (List DiskCall)) (failed records : ℕ) (heard : Option (List (Mark × ℕ))) (end : ServeEnd) : Type 0 where
  pub done : end.fault ≡ None → (file : List ℕ) → IsDone (setting_of script header) (opening m (counted file header.records)) (passed arrivals n given) end.order end.stranger
  pub counts : end.fault ≡ None → (file : List ℕ) → records ≡ (served (setting_of script header) (opening m (counted file header.records)) arrivals).owner.state.records
  pub bytes : end.fault ≡ None → IfSome held (λ file. IsDoneSo (setting_of script header) (opening m (counted file header.records)) (passed arrivals n given) left records)
  pub device : end.fault ≡ None → AreSingle arrivals → IfSome held (λ file. made ≡ with_end calls (owner_calls script.hints (setting_of script header) (opening m (counted file header.records)) arrivals))
  pub cut_off : (e : StepErr) → end.fault ≡ Some e → HasFailed (setting_of script header) (opening m) header.records (passed arrivals n given) end.order end.stranger
  pub cut : (x : StepErr) → end.fault ≡ Some x
      → IfSome held (λ file. HasCutService (setting_of script header) x (opening m (counted file header.records)) (passed arrivals n given) (point end.order left records))
  pub told_along : (file : List ℕ) → HasToldAlong (setting_of script header) (opening m (counted file header.records)) arrivals end.order told heard
  pub cause : end.fault ≡ Some fault.Disk → Rose faults failed
  pub later : faults ≤ failed

calls_at : (script : Script) (r : ℕ) (own : List Call) → slice_get script.calls r ≡ Some own → calls_of script r ≡ own
calls_at script r own e = ap (λ (m : Option (List Call)). elim m [ None ↦ [] | Some z ↦ z ]) e

pub broke_or_not : (x : RankStop) → (x ≡ stop.Memory) ⊎ (x ≡ stop.Memory → ⊥)
broke_or_not x = grind (arith, nat_tests)

-- one rank of the script
pub record Own (header : Header) (own : List Call) (arrived : List RankItem) (given : List OwnerItem) (ends : List RankEnd) (r : ℕ) (put : List RankItem) (taken : List OwnerItem) : Type 0 where
  pub end : RankEnd
  pub at_end : slice_get ends r ≡ Some end
  pub attended : HasAttended header own put taken end
  pub arrived_of : IsPrefix arrived put
  pub came_back : IsPrefix taken given

module _ {script : Script} {header : Header} {arrivals : List Arrival} {given : ℕ → List OwnerItem} {ends : List RankEnd} (t : Told script header arrivals given ends) where
  went : (r : ℕ) (m : Option RankEnd) → slice_get ends r ≡ m → List RankItem × List OwnerItem
  went r None e = ([], [])
  went r (Some end) e = ((t.each r end e).put, (t.each r end e).taken)

  pub puts : ℕ → List RankItem
  puts r = (went r (slice_get ends r) refl).0

  pub takes : ℕ → List OwnerItem
  takes r = (went r (slice_get ends r) refl).1

  pub low_rank : (r : ℕ) (own : List Call) → slice_get script.calls r ≡ Some own → r < script.ranks
  low_rank r own e = let a = slice_get_within script.calls r own e in let b = t.calls in omega arith

  pub own_of : (r : ℕ) (own : List Call) → slice_get script.calls r ≡ Some own → Own header own (own_items r arrivals) (given r) ends r (puts r) (takes r)
  unfolding went puts takes
  own_of r own e = by (slice_get ends r) refl
    where
      low : r < length ends
      low = let a = low_rank r own e in let b = t.long in omega arith

      by : (m : Option RankEnd) (q : slice_get ends r ≡ m) → Own header own (own_items r arrivals) (given r) ends r (went r m q).0 (went r m q).1
      by None q = grind (arith, nat_tests, entry_below ends r low, low)
      by (Some end) q = grind (arith, nat_tests, calls_at script r own e)

  -- ---- where the run may have been cut off

  pub offered_all : HasOffered script header arrivals takes
  offered_all = record {
    numbers = t.numbers;
    each = λ r own e.
        let o = own_of r own e in elim (broke_or_not o.end.end) [
          | inl m ↦
              (let b = o.attended.broken m in elim (front_or_all (own_items r arrivals) b.sent (item.Ended true) (o.arrived_of.0, o.arrived_of.1 ∙ b.put_some)) [
                | inl f ↦ (own_items r arrivals, (f.0 ++ b.unsent, sym (append_assoc (own_items r arrivals) f.0 b.unsent) ∙ ap (λ (v : List RankItem). v ++ b.unsent) f.1 ∙ b.begins), inl refl)
                | inr f ↦ (b.sent, (b.unsent, b.begins), inr f)
              ])
          | inr n ↦ (own_items r arrivals, (o.arrived_of.0, o.arrived_of.1 ∙ (o.attended.finished n).put_all), inl refl)
        ];
  }

  pub begun : (file : List ℕ) (first later : List Arrival) → arrivals ≡ first ++ later → is_lawful script ≡ true → HasBegun script (run_of script header file first).marks
  begun file first later all lawful =
      let h = subst (λ (u : List Arrival). HasOffered script header u takes) all offered_all in
      record { known_ranks = begun_known script header file first later takes h; each_rank = begun_each script header file first later takes lawful h }

  -- ---- where no rank ended for want of memory, and the lines gained what is owed but for the bytes of gets

  module _ (agreed : IsAgreed script) (whole : NoneBroke ends) (file : List ℕ)
      (alike : (q : ℕ) → q < script.ranks → AreAlike (given q) (back_of script header file arrivals q)) where
    -- as many of what the owner owes as were taken
    taken_of : ℕ → List OwnerItem
    taken_of r = take (length (takes r)) (back_of script header file arrivals r)

    pub finished_of : (r : ℕ) (own : List Call) (e : slice_get script.calls r ≡ Some own) → HasFinished header own (puts r) (takes r) (own_of r own e).end
    finished_of r own e = let o = own_of r own e in o.attended.finished (whole r o.end o.at_end)

    taken_alike : (r : ℕ) (own : List Call) → slice_get script.calls r ≡ Some own → AreAlike (takes r) (taken_of r)
    unfolding taken_of
    taken_alike r own e =
        let o = own_of r own e in
        subst (λ (v : List OwnerItem). AreAlike v (taken_of r)) (sym (first_of (takes r) (given r) o.came_back))
        (alike_take (length (takes r)) (given r) (back_of script header file arrivals r) (alike r (low_rank r own e)))

    taken_long : (r : ℕ) (own : List Call) → slice_get script.calls r ≡ Some own → length (taken_of r) ≡ length (takes r)
    unfolding taken_of
    taken_long r own e =
        let o = own_of r own e in
        let a = prefix_long (takes r) (given r) o.came_back in
        let b = alike_long (given r) (back_of script header file arrivals r) (alike r (low_rank r own e)) in
        length-take-le (length (takes r)) (back_of script header file arrivals r) (omega arith)

    tied : IsTied script header file arrivals puts taken_of
    unfolding taken_of
    tied = record {
      numbers = t.numbers;
      puts = λ r own e. (finished_of r own e).put_all ∙ offered_alike header (first_going header own) (takes r) (taken_of r) (taken_alike r own e);
      one_each = λ r own e. taken_long r own e ∙ (own_of r own e).attended.one_each;
      ended = λ r own e. t.ended r (low_rank r own e);
      arrived = λ r own e. (own_of r own e).arrived_of;
      came_back = λ r own e. (drop (length (takes r)) (back_of script header file arrivals r), take-append-drop (length (takes r)) (back_of script header file arrivals r));
    }

    pub joined : IsJoined script header file arrivals
    joined = tied_joins script header file arrivals puts taken_of agreed tied

    -- each took all that its line gained
    pub took_all : (r : ℕ) (own : List Call) → slice_get script.calls r ≡ Some own → takes r ≡ given r
    took_all r own e =
        let o = own_of r own e in
        let same = tied_each script header file arrivals puts taken_of agreed tied r own e in
        let a = taken_long r own e in
        let b = ap (λ (v : List OwnerItem). length v) same.back in
        let c = alike_long (given r) (back_of script header file arrivals r) (alike r (low_rank r own e)) in
        long_whole (takes r) o.came_back.0 (given r) o.came_back.1 (omega arith)
