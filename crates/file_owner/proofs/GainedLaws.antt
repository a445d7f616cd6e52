-- What the owner's ends gained, what was taken from them, and where nothing more is done.
use Rattle.file_owner.proofs.Words.{◌≡◌, ℕ, ◌+◌, ◌<◌, refl, sym, ◌∙◌, ap, subst, List, [], ◌++◌, length, drop, Bool, Option, None, append_assoc, arith, drop-append_seam, slice_get, Hints, DiskCall, Mark, OwnerItem, RankItem, End, Receiver, Owner, owed, served, stop_held, stops, Setting, Arrival, owed_stop, of_fault, of_stranger, HasFinished, HasHalted, IsHaltAt, IsLeft, IsNoMore, Outcome, taken_from, stopped_with, Stopped, owner_at, owner_calls, run, Grows, HasRun, Standing, arrived, gained, HavePut, stops_for, AllHaveEnded, HaveEnded, IsMore, Halt, entry_below, nat_tests}
use Rattle.file_owner.proofs.AlikeLaws.{lines_as, lines_twice}
use Rattle.file_owner.proofs.OwnerRuns.{calls_stop, stops_at}
use Rattle.file_owner.proofs.StopLaws.{more_twice, stops_joined}

-- ---- what ends gained

pub gained_is : (old now : List (End OwnerItem)) (more : ℕ → List OwnerItem) (q : ℕ) → Grows old more now → q < length old → gained old now q ≡ more q
gained_is old now more q g l = grind (arith, nat_tests, entry_below old q l, drop-append_seam (entry_below old q l).0.items (more q))

pub have_put : (old now : List (End OwnerItem)) (more : ℕ → List OwnerItem) → Grows old more now → HavePut old now
have_put old now more g =
    let same = lines_as old now more (gained old now) (λ q l. gained_is old now more q g l) g in
    record { long = same.long; each = same.each }

pub arrived_is : (old now : Receiver RankItem) (more : List Arrival) → IsMore old more now → arrived old now ≡ more
arrived_is old now more h = ap (drop (length old.items)) h.items ∙ drop-append_seam old.items more

-- ---- all that was taken

pub outcome : (hints : Hints) (s : Setting) (old mid now : Receiver RankItem) (flags left : List Bool) (before : Standing) (n : ℕ) (held : Option (List ℕ)) (made : Option (List DiskCall)) (marks : List Mark)
    (heard : Option (List (Mark × ℕ))) (mid_lines lines : List (End OwnerItem)) (h : Halt) → HasHalted hints s (taken_from old mid flags) before (stopped_with n held made marks heard mid_lines) h
    → HasFinished (taken_from mid now left) mid_lines lines flags h → Outcome hints s (taken_from old now left) before (stopped_with n held made marks heard lines) h
outcome hints s old mid now flags left before n held made marks heard mid_lines lines h a b = record {
  first = a.first;
  last = a.later ++ b.more;
  middle = a.middle;
  taken = subst (λ (xs : List Arrival). IsMore old xs now) (append_assoc a.first a.later b.more) (more_twice old mid now (a.first ++ a.later) b.more a.taken b.taken);
  ended = subst (λ (xs : List Arrival). HaveEnded left xs) (append_assoc a.first a.later b.more) (b.noted (a.first ++ a.later) a.ended);
  all = subst (λ (k : ℕ). AllHaveEnded k left) a.taken.senders b.all;
  run = a.run;
  order = a.order;
  heard_all = a.heard_all;
  stopped = lines_as a.middle.lines lines (λ q. stops (owner_at a.middle []) a.later q ++ stops_for b.more q) (stops (owner_at a.middle []) (a.later ++ b.more)) (λ q l. ap (λ (items : List OwnerItem). stop_held (slice_get a.middle.clients q) ++ items) (stops_joined q a.later b.more) ∙ sym (append_assoc (stop_held (slice_get a.middle.clients q)) (stops_for a.later q) (stops_for b.more q)))
      (lines_twice a.middle.lines mid_lines lines (stops (owner_at a.middle []) a.later) (stops_for b.more) a.stopped b.stopped);
  later = a.later;
  more = b.more;
  parts = refl;
  halted = a.halted;
  none = b.last;
}

-- ---- where nothing more is done

pub record StoppedAt (hints : Hints) (s : Setting) (d : Owner) (last : List Arrival) (number : Option ℕ) : Type 0 where
  pub owner : (served s d last).owner ≡ d
  pub marks : (served s d last).marks ≡ []
  pub stranger : (served s d last).stranger ≡ number
  pub owes : (q : ℕ) → owed s d last q ≡ stops d last q
  pub calls : owner_calls hints s d last ≡ []

stopped_none : (hints : Hints) (s : Setting) (d : Owner) (last : List Arrival) → last ≡ [] → StoppedAt hints s d last None
stopped_none hints s d last e = grind (arith, nat_tests)

pub stopped_at : (hints : Hints) (s : Setting) (before middle : Standing) (first later more last : List Arrival) (left : Stopped) (h : Halt) (file : List ℕ)
    → HasRun hints s first before middle → last ≡ later ++ more → IsHaltAt s middle later left h → IsNoMore more h → of_fault h ≡ None
    → StoppedAt hints s (served s (owner_at before file) first).owner last (of_stranger h)
stopped_at hints s before middle first later more last left h file run parts at none f =
    grind (arith, nat_tests, stopped_none, stops_at, owed_stop, calls_stop)

pub left_at : (s : Setting) (middle : Standing) (later : List Arrival) (left : Stopped) (h : Halt) → IsHaltAt s middle later left h → of_fault h ≡ None → IsLeft middle left.records left.told left.calls
left_at s middle later left h at f = grind (arith, nat_tests)
