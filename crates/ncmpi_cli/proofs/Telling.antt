-- What the top call tells, by how a run ended.
use Rattle.ncmpi_cli.proofs.Words.{◌≡◌, ℕ, List, Option, Some, None, inl, inr, ◌⊎◌, refl, ap, arith, nat_tests, IfSome, IsSomeAnd, ScriptErr, Script, script_fault, Reads, script_line, IsMadeStatus, creation_fault, Asks, AsksFor, AsksForBadLayout, IsBadDataset, IsFaultyText, IsLaid, IsMislaid, IsRight, IsSoundFile, IsWrong, TellsDataset, TellsHeader, TellsRedefinition, TellsScript, line_of, status_of, Stop, laid-mislaid, of_bad_layout, some_not_none, if_some_at, holds_or_not, asked_for, not_unread, read-faulty}
use Rattle.dataset_start.specs.declared.stop.Stop.TheVariants as stops
use Rattle.ncmpi_cli.proofs.Statuses.{by_cause, IsEnded, IsTold}

-- ---- what is wrong with a dataset is not right

tells-right : (script : Script) (held : Option (List ℕ)) (line : List ℕ) → TellsDataset script held line → IsRight script held → ⊥
tells-right script held line t r = elim (holds_or_not script.fresh) [
  | inl f ↦ let c = t.created f in some_not_none c.0 (creation_fault script) c.1.0 (r.created f)
  | inr f ↦ of_opened held (t.opened f) (r.opened f)
]
  where
    of_opened : (h : Option (List ℕ)) → TellsHeader h line ⊎ TellsRedefinition script h line → IsSomeAnd h (IsSoundFile script) → ⊥
    of_opened None x n = absurd n
    of_opened (Some file) (inl x) n = n.header x.0 x.1.0
    of_opened (Some file) (inr x) n = n.redefinition x.0 x.1.0

-- ---- the clauses of a run that ended early

-- a dataset with a fault
four_line : (stop : Stop) → status_of stop ≡ 4 → (line : List ℕ) × (line_of stop ≡ Some line)
four_line (stops.Header e) s = (_, refl)
four_line (stops.Layout e) s = (_, refl)
four_line (stops.Redefinition e) s = (_, refl)
four_line stop s = absurd (omega (arith, s))

-- the text of the source is faulty where a stop says so
abbrev pub IsToldBy : Option (List ℕ) → Stop → Type 0
IsToldBy left stop = (e : ScriptErr) → stop ≡ stops.Script e → IfSome left (λ text. script_fault text ≡ Some e)

-- the fault of a script
pub told_script : {Gives : List ℕ → Type 0} (left : Option (List ℕ)) (stop : Stop) (status : ℕ) → IsTold stop status
    → IsToldBy left stop → (status ≡ status_of stop → IfSome (line_of stop) Gives)
    → status ≡ 3 → (line : List ℕ) × (TellsScript left line × Gives line)
told_script left (stops.Script e) status (inl own) told gives s = (script_line e, ((e, (told e refl, refl)), gives own))
told_script left stop status (inl own) told gives s = absurd (omega (arith, own, s))
told_script left stop status (inr m) told gives s = absurd (omega (arith, m, s))

-- no script is asked for by a text with a fault
faulty_asked : {Q : Type 0} (P : Script → Type 0) (left : Option (List ℕ)) (e : ScriptErr) → IfSome left (λ text. script_fault text ≡ Some e)
    → IsSomeAnd left (λ text. (script : Script) × Reads text script × P script) → Q
faulty_asked P None e f a = absurd a
faulty_asked P (Some text) e f a = read-faulty text a.0 e a.1 f

pub dataset : {Gives : List ℕ → Type 0} {Untouched : Type 0} (left held : Option (List ℕ)) (stop : Stop) (status : ℕ) → IsTold stop status
    → (status_of stop ≡ 4 → IfSome (line_of stop) (IsBadDataset left held Untouched))
    → (status ≡ status_of stop → IfSome (line_of stop) Gives)
    → status ≡ 4 → (line : List ℕ) × (IsBadDataset left held Untouched line × Gives line)
dataset left held stop status (inr e) bad gives s = absurd (omega (arith, e, s))
dataset left held stop status (inl e) bad gives s =
    let own : status_of stop ≡ 4 = omega (arith, e, s) in
    grind (arith, nat_tests, four_line, if_some_at)

-- the dataset that a stop tells of
told_dataset : {Untouched : Type 0} (left held : Option (List ℕ)) (stop : Stop) → (status_of stop ≡ 4 → IfSome (line_of stop) (IsBadDataset left held Untouched))
    → status_of stop ≡ 4 → (line : List ℕ) × IsBadDataset left held Untouched line
told_dataset left held stop bad own = let line = four_line stop own in (line.0, if_some_at _ (line_of stop) line.0 line.1 (bad own))

-- a run without its words or its source at fault
module _ (left held : Option (List ℕ)) (stop : Stop) (status : ℕ) (told : IsTold stop status) (formed : stop ≡ stops.Usage → ⊥) (source : stop ≡ stops.Source → ⊥) where
  -- a script with a fault is refused
  pub refused : (Untouched : Type 0) → (status_of stop ≡ 4 → IfSome (line_of stop) (IsBadDataset left held Untouched))
      → (status_of stop ≡ 7 → (script : Script) × (Asks left script × IsLaid script)) → IsSomeAnd left IsFaultyText → (status ≡ 3) ⊎ (status ≡ 8)
  refused Untouched bad laid asks = grind (arith, nat_tests, by_cause, told_dataset, not_unread, status_of)

  -- a layout with a fault is refused
  pub mislaid : IsToldBy left stop → (status_of stop ≡ 7 → (script : Script) × (Asks left script × IsLaid script))
      → IsSomeAnd left AsksForBadLayout → (status ≡ 4) ⊎ (status ≡ 8)
  mislaid faulted laid asks =
      by_cause stop status told formed source (λ e x own. faulty_asked IsMislaid left e (faulted e x) asks) (λ four own. inl own)
      (λ x own. let l = laid (ap status_of x) in of_bad_layout left l.0 l.1.0 (laid-mislaid l.0 l.1.1) asks) inr

  -- a dataset with a fault is refused
  pub faulty : (stop ≡ stops.Disk → ⊥) → IsToldBy left stop → IsSomeAnd left (λ text. AsksFor IsWrong text held) → (status ≡ 4) ⊎ (status ≡ 8)
  faulty disk faulted asks =
      by_cause stop status told formed source (λ e x own. faulty_asked (λ s. IsWrong s held) left e (faulted e x) asks) (λ four own. inl own)
      (λ x own. absurd (disk x)) inr

  -- a run of which nothing is at fault wants memory
  pub wants_memory : (Untouched : Type 0) → (stop ≡ stops.Disk → ⊥) → IsToldBy left stop → (status_of stop ≡ 4 → IfSome (line_of stop) (IsBadDataset left held Untouched))
      → IsSomeAnd left (λ text. AsksFor IsRight text held) → (status ≡ 0) ⊎ (status ≡ 8)
  wants_memory Untouched disk faulted bad asks =
      by_cause stop status told formed source (λ e x own. faulty_asked (λ s. IsRight s held) left e (faulted e x) asks)
      (λ four own. let d = told_dataset left held stop bad four in
      absurd (tells-right d.1.script held d.0 d.1.tells (asked_for IsRight left held d.1.script d.1.asks asks)))
      (λ x own. absurd (disk x)) inr

-- ---- the statuses of a run whose text is given, or wants memory

pub whole_or_memory : (status : ℕ) → IsEnded status → (status ≡ 6 → ⊥) → (status ≡ 0) ⊎ (status ≡ 8)
whole_or_memory status ended still = grind (arith, nat_tests)

pub made_end : (status : ℕ) → IsEnded status → IsMadeStatus status
made_end status ended = grind (arith, nat_tests)

pub no_disk : {Q : Type 0} (status : ℕ) → IsEnded status → status ≡ 7 → Q
no_disk status ended e = absurd (grind (arith, nat_tests))
