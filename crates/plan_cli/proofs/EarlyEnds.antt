-- What the status of a plan that ends early leaves.
use Rattle.plan_cli.proofs.Words.{◌≡◌, ℕ, true, false, List, Option, Some, None, inl, inr, ◌⊎◌, refl, subst, arith, IfSome, IsSomeAnd, both_ways, some_not_none, header_line, layout_line, redef_line, script_line, creation_fault, Asks, AsksFor, AsksForBadLayout, IsBadDataset, IsBeforeStart, IsFaultyFile, IsFaultyText, IsRight, IsSoundFile, IsWrong, TellsDataset, TellsScript, status_of, Stop, laid-mislaid, of_bad_layout, read-faulty, same_script, LacksDataset, line_of, renamed, IsStoppedBy, IsUnprepared, nat_tests}
use Rattle.nc_base.specs.declared.script.Script as script_type
use Rattle.dataset_start.specs.declared.stop.Stop.TheVariants as stops

-- ---- a plan that was given

pub whole : (status : ℕ) → (status ≡ 0) ⊎ (status ≡ 6) → (status ≡ 6 → ⊥) → (status ≡ 0) ⊎ (status ≡ 8)
whole status given still = grind (arith, nat_tests)

-- ---- a plan that was not

-- no stop has a status with which a plan is given
pub not_given : (stop : Stop) → (status_of stop ≡ 0 → ⊥) × (status_of stop ≡ 6 → ⊥)
not_given stops.Usage = (λ s. omega (arith, s), λ s. omega (arith, s))
not_given stop = (λ s. omega (arith, s), λ s. omega (arith, s))

module _ (held named : Option (List ℕ)) (Untouched SourceFailed DatasetFailed : Type 0) where
  abbrev Stopped : Option (List ℕ) → Stop → Type 0
  Stopped left stop = IsStoppedBy left held named Untouched SourceFailed DatasetFailed stop

  -- the line of the script's fault
  pub script_told : (Gives : List ℕ → Type 0) (left : Option (List ℕ)) (stop : Stop) → Stopped left stop → IfSome (line_of stop) Gives → status_of stop ≡ 3
      → (line : List ℕ) × (TellsScript left line × Gives (renamed line))
  script_told Gives left (stops.Script e) w g s = (script_line e, ((e, (w.1, refl)), g))
  script_told Gives left stop w g s = absurd (omega (arith, s))

  -- a line that tells what is wrong with the dataset of the script
  bad_line : (Gives : List ℕ → Type 0) (left : Option (List ℕ)) (line : List ℕ) (script : script_type.Script) → Asks left script → TellsDataset script held line
      → (script.fresh ≡ true → Untouched) → Gives (renamed line) → (line : List ℕ) × (IsBadDataset left held Untouched line × Gives (renamed line))
  bad_line Gives left line script a t u g = (line, (record { script = script; asks = a; tells = t; unlaid = u }, g))

  -- the line of the dataset's fault
  pub dataset_told : (Gives : List ℕ → Type 0) (left : Option (List ℕ)) (stop : Stop) → Stopped left stop → IfSome (line_of stop) Gives → status_of stop ≡ 4
      → (line : List ℕ) × (IsBadDataset left held Untouched line × Gives (renamed line))
  dataset_told Gives left (stops.Header e) w g s =
      bad_line Gives left (header_line e) w.0 w.1.0
      (record { created = λ c. absurd (both_ways w.0.fresh w.1.1.0 c); opened = λ _. inl (e, (w.1.1.1, refl)) }) w.1.2 g
  dataset_told Gives left (stops.Layout e) w g s =
      bad_line Gives left (layout_line e) w.0 w.1.0
      (record { created = λ _. (e, (w.1.1.1, refl)); opened = λ o. absurd (both_ways w.0.fresh o w.1.1.0) }) w.1.2 g
  dataset_told Gives left (stops.Redefinition e) w g s =
      bad_line Gives left (redef_line e) w.0 w.1.0
      (record { created = λ c. absurd (both_ways w.0.fresh w.1.1.0 c); opened = λ _. inr (e, (w.1.1.1, refl)) }) w.1.2 g
  dataset_told Gives left stop w g s = absurd (omega (arith, s))

  -- the dataset can't be read, or is not named
  pub unread : (left : Option (List ℕ)) (stop : Stop) → Stopped left stop → status_of stop ≡ 7 → DatasetFailed ⊎ LacksDataset named left
  unread left stops.Disk w s = elim w.1.1.1 [ inl f ↦ inl f | inr n ↦ inr (record { unnamed = n; script = w.0; asks = w.1.0; opens = w.1.1.0 }) ]
  unread left stop w s = absurd (omega (arith, s))

  -- no dataset was looked at
  pub untouched : (left : Option (List ℕ)) (stop : Stop) → Stopped left stop → IsBeforeStart (status_of stop) → Untouched
  untouched left stops.Usage w b = absurd w
  untouched left (stops.Script e) w b = w.0
  untouched left stops.Source w b = w.0
  untouched left stop w b = absurd (grind (arith, nat_tests))

  -- a text with a fault is refused
  pub refused : (left : Option (List ℕ)) (stop : Stop) → Stopped left stop → IsSomeAnd left IsFaultyText → (SourceFailed → ⊥) → (status_of stop ≡ 3) ⊎ (status_of stop ≡ 8)
  refused None stop w f s = absurd f
  refused (Some text) stops.Usage w f s = absurd w
  refused (Some text) (stops.Script e) w f s = inl refl
  refused (Some text) stops.Source w f s = absurd (s w.1)
  refused (Some text) stops.Memory w f s = inr refl
  refused (Some text) stop w f s = read-faulty text w.0 f.0 w.1.0 f.1

  -- a layout with a fault is refused
  pub mislaid : (left : Option (List ℕ)) (stop : Stop) → Stopped left stop → IsSomeAnd left AsksForBadLayout → (SourceFailed → ⊥) → (status_of stop ≡ 4) ⊎ (status_of stop ≡ 8)
  mislaid None stop w a s = absurd a
  mislaid (Some text) stops.Usage w a s = absurd w
  mislaid (Some text) (stops.Script e) w a s = read-faulty text a.0 e a.1 w.1
  mislaid (Some text) stops.Source w a s = absurd (s w.1)
  mislaid (Some text) stops.Disk w a s = of_bad_layout (Some text) w.0 w.1.0 (laid-mislaid w.0 (λ f. absurd (both_ways w.0.fresh w.1.1.0 f))) a
  mislaid (Some text) stops.Memory w a s = inr refl
  mislaid (Some text) stop w a s = inl refl

  -- the fault of a dataset that is opened: one of which something is known is named
  not_read : (P : List ℕ → Type 0) → (named ≡ None → held ≡ None) → (DatasetFailed → ⊥) → DatasetFailed ⊎ (named ≡ None) → IsSomeAnd held P → ⊥
  not_read P h d (inl f) k = d f
  not_read P h d (inr n) k = subst (λ (o : Option (List ℕ)). IsSomeAnd o P) (h n) k

  -- a dataset with a fault is refused
  pub faulty : (left : Option (List ℕ)) (stop : Stop) → Stopped left stop → (named ≡ None → held ≡ None) → IsSomeAnd left (λ text. AsksFor IsWrong text held) → (SourceFailed → ⊥)
      → (DatasetFailed → ⊥) → (status_of stop ≡ 4) ⊎ (status_of stop ≡ 8)
  faulty None stop w h a s d = absurd a
  faulty (Some text) stops.Usage w h a s d = absurd w
  faulty (Some text) (stops.Script e) w h a s d = read-faulty text a.0 e a.1 w.1
  faulty (Some text) stops.Source w h a s d = absurd (s w.1)
  faulty (Some text) stops.Disk w h a s d =
      let opens : a.0.fresh ≡ false = subst (λ (s : script_type.Script). s.fresh ≡ false) (same_script text w.0 a.0 w.1.0 a.1) w.1.1.0 in
      absurd (not_read (IsFaultyFile a.0) h d w.1.1.1 (a.2.opened opens))
  faulty (Some text) stops.Memory w h a s d = inr refl
  faulty (Some text) stop w h a s d = inl refl

  -- nothing is wrong with the file, and something is
  sound-and-faulty : (script : script_type.Script) {P : List ℕ → Type 0} (h : Option (List ℕ)) → IfSome h P → IsSomeAnd h (IsSoundFile script) → ((file : List ℕ) → IsSoundFile script file → P file → ⊥) → ⊥
  sound-and-faulty script None t n never = n
  sound-and-faulty script (Some file) t n never = never file n t

  -- what is wrong with the dataset of a script is not right
  not_right : (script : script_type.Script) (stop : Stop) → IsUnprepared script held named DatasetFailed stop → (named ≡ None → held ≡ None) → (DatasetFailed → ⊥)
      → IsRight script held → status_of stop ≡ 8
  not_right script (stops.Layout e) w h d r = absurd (some_not_none e (creation_fault script) w.1 (r.created w.0))
  not_right script (stops.Header e) w h d r = absurd (sound-and-faulty script held w.1 (r.opened w.0) (λ file n t. n.header e t))
  not_right script (stops.Redefinition e) w h d r = absurd (sound-and-faulty script held w.1 (r.opened w.0) (λ file n t. n.redefinition e t))
  not_right script stops.Disk w h d r = absurd (not_read (IsSoundFile script) h d w.1 (r.opened w.0))
  not_right script stops.Memory w h d r = refl
  not_right script stop w h d r = absurd w

  -- where nothing is at fault memory is wanting
  pub wants_memory : (left : Option (List ℕ)) (stop : Stop) → Stopped left stop → (named ≡ None → held ≡ None) → IsSomeAnd left (λ text. AsksFor IsRight text held) → (SourceFailed → ⊥)
      → (DatasetFailed → ⊥) → status_of stop ≡ 8
  wants_memory None stop w h a s d = absurd a
  wants_memory (Some text) stops.Usage w h a s d = absurd w
  wants_memory (Some text) (stops.Script e) w h a s d = read-faulty text a.0 e a.1 w.1
  wants_memory (Some text) stops.Source w h a s d = absurd (s w.1)
  wants_memory (Some text) stops.Memory w h a s d = refl
  wants_memory (Some text) stop w h a s d = grind (arith, nat_tests, not_right a.0 stop, same_script text w.0 a.0 w.1.0 a.1)
