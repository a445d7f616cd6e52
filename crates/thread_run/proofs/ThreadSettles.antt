-- What the threads tell when all are joined.
use Rattle.thread_run.proofs.Words.{◌≡◌, ℕ, ◌<◌, sym, ◌∙◌, ap, subst, List, [], ◌∷◌, ◌++◌, All, length, Some, true, slice_get, nat_lt, IsTrue, list_all, same_Some, Header, RankEnd, Script, OwnerItem, RankItem, End, Receiver, items_under, own_items, Arrival, is_lawful, ranks_lawful, AreRankHandles, AreSettled, IsSettled, IsSettledOf, IsToldToGo, calls_of, HasTaken, HavePut, arrived, gained, RankHandle, Go, entry_beside, arith, nat_tests}
use Rattle.thread_run.proofs.ThreadStarts.{all_at}
use Rattle.thread_run.proofs.ThreadTies.{Told}
use Rattle.thread_run.specs.Threads.{HaveStarted}
use Rattle.thread_run.specs.declared.rank_threads.StartedRanks.{StartedRanks}

abbrev pub AreTold : List RankHandle → List RankHandle → Type 0
AreTold ones now = (r : ℕ) (a b : RankHandle) → slice_get ones r ≡ Some a → slice_get now r ≡ Some b → IsToldToGo a b

-- the line of a thread after the owner has put on it
put_on : (old now : List (End OwnerItem)) (r : ℕ) (before after : End OwnerItem) → HavePut old now → slice_get old r ≡ Some before → slice_get now r ≡ Some after
    → after ≡ record { of = before.of; items = before.items ++ gained old now r }
put_on old now r before after h a b = same_Some _ _ (sym b ∙ h.each r before a)

-- threads that were told to go, and served
pub record AreServed (script : Script) (header : Header) (started : StartedRanks) (told : List RankHandle) (lines back : List (End OwnerItem)) (now : Receiver RankItem) : Type 0 where
  pub begun : HaveStarted header script started
  pub handles : AreRankHandles started.inbox.of [] started.ones.items lines
  pub empty : All (λ l. l.items ≡ []) lines
  pub go : AreTold started.ones.items told
  pub long : length told ≡ length started.ones.items
  pub taken : HasTaken started.inbox now
  pub put : HavePut lines back

pub are_served : {script : Script} {header : Header} (started : StartedRanks) {ones told : List RankHandle} {lines back : List (End OwnerItem)} {now : Receiver RankItem} → HaveStarted header script started
    → ones ≡ started.ones.items → lines ≡ started.lines.items → AreTold ones told → length told ≡ length ones → HasTaken started.inbox now → HavePut lines back
    → AreServed script header started told lines back now
are_served started {told} s e f go long taken put = record {
  begun = s;
  handles = subst (λ (v : List (End OwnerItem)). AreRankHandles started.inbox.of [] started.ones.items v) (sym f) s.handles;
  empty = subst (λ (v : List (End OwnerItem)). All (λ l. l.items ≡ []) v) (sym f) s.empty;
  go = subst (λ (v : List RankHandle). AreTold v told) e go;
  long = long ∙ ap (λ (v : List RankHandle). length v) e;
  taken = taken;
  put = put;
}

pub handles_told : {script : Script} {header : Header} {started : StartedRanks} {told : List RankHandle} {lines back : List (End OwnerItem)} {now : Receiver RankItem}
    → AreServed script header started told lines back now → AreRankHandles now.of (Go ∷ []) told back
handles_told {started} {told} {lines} {back} s = record {
  long = s.long ∙ s.handles.long ∙ sym s.put.long;
  each = λ r b after at_one at_line.
      let a = entry_beside told started.ones.items r b s.long at_one in
      let before = entry_beside back lines r after s.put.long at_line in
      let go = s.go r a.0 b a.1 at_one in
      grind (arith, nat_tests, put_on lines back r before.0 after s.put before.1 at_line);
}

pub told_all : {script : Script} {header : Header} {started : StartedRanks} {told : List RankHandle} {lines back : List (End OwnerItem)} {now : Receiver RankItem} {ends : List RankEnd} → is_lawful script ≡ true
    → AreServed script header started told lines back now → AreSettled now.items told back ends → Told script header (arrived started.inbox now) (gained lines back) ends
told_all {script} {header} {started} {told} {lines} {back} {now} {ends} lawful s settled = record {
  numbers = subst (λ (n : ℕ). IsTrue (list_all (λ a. nat_lt a.0 n) (arrived started.inbox now))) s.begun.senders s.taken.numbers;
  ended = λ q l. s.taken.ended q (subst (λ (n : ℕ). q < n) (sym s.begun.senders) l);
  long = settled.long ∙ s.long ∙ s.begun.all;
  calls = (ranks_lawful script lawful).one_each;
  each = each;
}
  where
    items_are : now.items ≡ arrived started.inbox now
    items_are = s.taken.items ∙ ap (λ (v : List Arrival). v ++ arrived started.inbox now) s.begun.taken

    each : (r : ℕ) (end : RankEnd) → slice_get ends r ≡ Some end → IsSettled header (calls_of script r) (own_items r (arrived started.inbox now)) (gained lines back r) end
    each r end e =
        let b = entry_beside ends told r end settled.long e in
        let a = entry_beside told started.ones.items r b.0 s.long b.1 in
        let before = entry_beside started.ones.items lines r a.0 s.handles.long a.1 in
        let after = entry_beside lines back r before.0 (sym s.put.long) before.1 in
        let mine = s.go r a.0 b.0 a.1 b.1 in
        let own = s.begun.of r a.0 a.1 in
        let line = put_on lines back r before.0 after.0 s.put before.1 after.1 in
        let items : after.0.items ≡ gained lines back r = ap (λ (z : End OwnerItem). z.items) line ∙ ap (λ (v : List OwnerItem). v ++ gained lines back r) (all_at (λ l. l.items ≡ []) lines r before.0 s.empty before.1) in
        let head : b.0.child.promise.header.value.now ≡ header = ap (λ z. z.promise.header.value.now) mine.child ∙ own.of_header in
        let text : b.0.child.promise.script.value.now ≡ script = ap (λ z. z.promise.script.value.now) mine.child ∙ own.of_script in
        let number : b.0.child.promise.ends.value.out.number ≡ r = ap (λ z. z.promise.ends.value.out.number) mine.child ∙ (s.handles.each r a.0 before.0 a.1 before.1).number in
        let got : IsSettledOf b.0 (items_under r now.items) after.0.items end = settled.each r b.0 after.0 end b.1 after.1 e in
        subst (λ (p : Header × Script × ℕ × List Arrival × List OwnerItem). IsSettled p.0 (calls_of p.1 p.2) (items_under r p.3) p.4 end) (λ i. (head i, text i, number i, items_are i, items i)) got
