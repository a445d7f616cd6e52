-- Hulls that are taken off the lines of helpers, one after another.
use Rattle.get_exchange.proofs.Words.{◌≡◌, ℕ, ◌+◌, ◌-◌, inl, inr, refl, sym, ◌∙◌, ap, subst, List, [], ◌∷◌, ◌++◌, length, map, set, Option, Some, Result, Ok, Err, arith, append-nil, length-map, same_Some, slice_get_within, slice_get, IfErr, IfSome, OnOk, result_and, entry_below, entry_set, entry_set_other, Owned, StepErr, Memory, read, In, in_either, in_left, in_right, turns_due, IsFresh, IsStartedFor, FitTable, HasCollected, HaveOnePlaces, AreServed, reading_of, AreRead, told_in, HasTaken, HasTakenOf, HasTakenTurn, HaveTakenTurns, IsKept, IsTakenOf, Log, Told, Reading, Hull, Shelf, ReadWorker, GetPlan, set_each, nat_tests, AreKept, kept_all, eqb_tells, common_steps}
use Rattle.get_exchange.proofs.ReadLaws.{hull_collected, log_joined, log_one}

-- ---- hulls of one helper

taken_twice : (first second : Log) (old mid new : Shelf) → HasTaken first old mid → HasTaken second mid new → HasTaken (first ++ second) old new
taken_twice first second old mid new f g = grind (arith, common_steps)

-- a hull that came, where it is as long as it is to be
pub taken_turn : {T E : Type 0} (list begun : List Owned) (t : Told) (bytes : List ℕ) (old new : Shelf) (before now : List (List (List ℕ))) (came : Result T E)
    → t ∷ turns_due new ≡ turns_due old → new.line.items ≡ old.line.items ++ Hull bytes ∷ [] → HaveOnePlaces list → FitTable before list → AreServed list begun t.0 (t.0 + t.1)
    → OnOk came (length bytes ≡ t.1) → OnOk came (HasCollected t.0 (t.0 + t.1) bytes begun before now) → OnOk came (HasTakenTurn list old new before now)
taken_turn list begun t bytes old new before now (Err e) turns items once fit served long got = tt
taken_turn list begun t bytes old new before now (Ok x) turns items once fit served long got = record {
  own = (t, bytes) ∷ [];
  taken = record { turns = turns; items = items };
  collected = log_one list t bytes before now (hull_collected t.0 t.1 bytes list begun before now long once fit served got);
}

-- ---- one hull more of one of the helpers

pub taken_more : {D : Type 0} (list : List Owned) (olds mids : List (ReadWorker D)) (k : ℕ) (mid new : ReadWorker D) (before between now : List (List (List ℕ))) → length mids ≡ length olds
    → slice_get mids k ≡ Some mid → HaveTakenTurns list olds mids before between → HasTakenTurn list mid.shelf new.shelf between now
    → HaveTakenTurns list olds (set mids k new) before now
taken_more {D} list olds mids k mid new before between now long at h t = record {
  log = h.log ++ t.own;
  collected = log_joined list h.log t.own before between now h.collected t.collected;
  each = λ j o n e f. set_each (λ r s. (o : ReadWorker D) → slice_get olds r ≡ Some o → HasTakenOf (h.log ++ t.own) o.shelf s.shelf) mids k mid new at
      (λ o e. grown o (h.each k o mid e at)) (λ r s e o f. wider o s (h.each r o s f e)) j n f o e;
  only = λ e m. elim (in_either h.log t.own e m) [
    | inl g ↦
        let r = h.only e g in
        elim (eqb_tells r.number k) [
          | inl s ↦
              let here : r.new ≡ mid = same_Some r.new mid (sym r.at_new ∙ ap (λ (n : ℕ). slice_get mids n) s.1 ∙ at) in
              at_it e r.own r.old (ap (λ (n : ℕ). slice_get olds n) (sym s.1) ∙ r.at_old) (subst (λ (w : ReadWorker D). HasTaken r.own r.old.shelf w.shelf) here r.taken) (in_left r.own t.own e r.inside)
          | inr s ↦ record {
            number = r.number;
            old = r.old;
            new = r.new;
            at_old = r.at_old;
            at_new = entry_set_other mids k r.number new s.1 ∙ r.at_new;
            own = r.own;
            taken = r.taken;
            inside = r.inside;
          }
        ]
    | inr g ↦
        let low = slice_get_within mids k mid at in
        let first = entry_below olds k (omega arith) in
        let w = h.each k first.0 mid first.1 at in
        at_it e w.own first.0 first.1 w.taken (in_right w.own t.own e g)
  ];
}
  where
    grown : (o : ReadWorker D) → HasTakenOf h.log o.shelf mid.shelf → HasTakenOf (h.log ++ t.own) o.shelf new.shelf
    grown o w = record {
      own = w.own ++ t.own;
      taken = taken_twice w.own t.own o.shelf mid.shelf new.shelf w.taken t.taken;
      inside = λ e m. elim (in_either w.own t.own e m) [ inl g ↦ in_left h.log t.own e (w.inside e g) | inr g ↦ in_right h.log t.own e g ];
    }

    wider : (o s : ReadWorker D) → HasTakenOf h.log o.shelf s.shelf → HasTakenOf (h.log ++ t.own) o.shelf s.shelf
    wider o s w = record { own = w.own; taken = w.taken; inside = λ e m. in_left h.log t.own e (w.inside e m) }

    at_it : (e : Told × List ℕ) (own : Log) (old : ReadWorker D) → slice_get olds k ≡ Some old → HasTaken own old.shelf mid.shelf → In (own ++ t.own) e → IsTakenOf olds (set mids k new) e
    at_it e own old at_old taken m = record {
      number = k;
      old = old;
      new = new;
      at_old = at_old;
      at_new = entry_set mids k mid new at;
      own = own ++ t.own;
      taken = taken_twice own t.own old.shelf mid.shelf new.shelf taken t.taken;
      inside = m;
    }

pub taken_on : {D T E : Type 0} (list : List Owned) (olds mids : List (ReadWorker D)) (k : ℕ) (mid new : ReadWorker D) (before between now : List (List (List ℕ))) (end came : Result T E)
    → length mids ≡ length olds → slice_get mids k ≡ Some mid → OnOk end (HaveTakenTurns list olds mids before between) → OnOk came (HasTakenTurn list mid.shelf new.shelf between now)
    → OnOk (result_and end came) (HaveTakenTurns list olds (set mids k new) before now)
taken_on list olds mids k mid new before between now (Ok y) (Ok x) long at h t = taken_more list olds mids k mid new before between now long at h t
taken_on list olds mids k mid new before between now _ _ long at h t = tt

pub both_memory : {T : Type 0} (end came : Result T StepErr) → IfErr end (λ e. e ≡ Memory) → IfErr came (λ e. e ≡ Memory) → IfErr (result_and end came) (λ e. e ≡ Memory)
both_memory (Err x) came h g = h
both_memory (Ok y) came h g = g

pub kept_more : {D : Type 0} (old mid new : ReadWorker D) → IsKept old mid → new.helper ≡ mid.helper → new.shelf.line.of ≡ mid.shelf.line.of → IsKept old new
kept_more old mid new k helper of = record { helper = helper ∙ k.helper; of = of ∙ k.of }

-- nothing was taken
pub kept_none : {D : Type 0} (old new : ReadWorker D) → old ≡ new → IsKept old new
kept_none old new e = record { helper = ap (λ s. s.helper) (sym e); of = ap (λ s. s.shelf.line.of) (sym e) }

pub taken_none : {D : Type 0} (list : List Owned) (workers : List (ReadWorker D)) (table : List (List (List ℕ))) → HaveTakenTurns list workers workers table table
taken_none {D} list workers table = record {
  log = [];
  collected = λ r s. refl;
  each = λ k o n e f. record { own = []; taken = subst (λ (s : ReadWorker D). HasTaken [] o.shelf s.shelf) (same_Some o n (sym e ∙ f)) (untouched o.shelf); inside = λ e m. absurd m };
  only = λ e m. absurd m;
}
  where
    untouched : (shelf : Shelf) → HasTaken [] shelf shelf
    untouched shelf = record { turns = refl; items = sym (append-nil shelf.line.items) }

-- ---- what was taken is what was read

each_read : (from : ℕ) (file : List ℕ) (own : Log) → map (λ e. Hull e.1) own ≡ map (λ t. reading_of from file t) (told_in own) → (e : Told × List ℕ) → In own e → e.1 ≡ read file (e.0.0 - from) e.0.1
each_read from file [] h e m = absurd m
each_read from file (u ∷ own) h e (inl same) = grind (arith, nat_tests)
each_read from file (u ∷ own) h e (inr m) = grind (arith, nat_tests, each_read from file own, read file (u.0.0 - from) u.0.1)

pub items_read : (from : ℕ) (held : Option (List ℕ)) (own : Log) (items : List Reading) → items ≡ map (λ e. Hull e.1) own → AreRead (told_in own) from held items
    → IfSome held (λ file. (e : Told × List ℕ) → In own e → e.1 ≡ read file (e.0.0 - from) e.0.1)
items_read from held own items is taken = grind (arith, nat_tests, length-map, each_read)

kept_worker : {D : Type 0} (plan : GetPlan) (old new : ReadWorker D) → IsKept old new → IsFresh plan old → IsStartedFor plan new
kept_worker plan old new k f = grind (arith, nat_tests)

pub kept_workers : {D : Type 0} (plan : GetPlan) {first last whole : List (ReadWorker D)} → AreKept IsKept first last whole → ((worker : ReadWorker D) → In first worker → IsFresh plan worker)
    → (worker : ReadWorker D) → In whole worker → IsStartedFor plan worker
kept_workers plan kept = kept_all IsKept (IsFresh plan) (IsStartedFor plan) kept (kept_worker plan)
