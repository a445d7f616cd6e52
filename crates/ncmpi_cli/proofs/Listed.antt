-- How a list of offsets ends.
use Rattle.ncmpi_cli.proofs.Words.{ap, subst, sym, ◌∙◌, ◌≡◌, ℕ, List, Option, Some, None, inl, inr, ◌⊎◌, refl, arith, IfSome, HeaderErr, HasFault, header_line, front, TellsHeader, IsFaultyFront, IsSoundFront, IsListStatus, IsOfReadHeader, IsOfHeader, line_of, status_of, nat_tests, Stop}
use Rattle.dataset_start.specs.declared.stop.Stop.TheVariants as stops
use Rattle.ncmpi_cli.proofs.Statuses.{IsTold}

-- by the cause of a stop that ends the reading of a header
by_header : {Q : Type 0} (stop : Stop) (status : ℕ) → IsTold stop status → IsOfHeader stop → ((e : HeaderErr) → stop ≡ stops.Header e → status ≡ 4 → Q)
    → (stop ≡ stops.Disk → status ≡ 7 → Q) → (status ≡ 8 → Q) → Q
by_header (stops.Header e) status (inl own) only header disk memory = header e refl own
by_header stops.Disk status (inl own) only header disk memory = disk refl own
by_header stops.Memory status (inl own) only header disk memory = memory own
by_header stop status (inl own) only header disk memory = absurd only
by_header stop status (inr m) only header disk memory = memory m

module _ (held : Option (List ℕ)) where
  abbrev HasHeaderFault : HeaderErr → Type 0
  HasHeaderFault e = IfSome held (λ file. HasFault (front file) e)

  -- the header is told where it has a fault
  pub dataset : {Gives : List ℕ → Type 0} (stop : Stop) (status : ℕ) → IsTold stop status → IsOfHeader stop
      → ((e : HeaderErr) → stop ≡ stops.Header e → HasHeaderFault e) → (status ≡ status_of stop → IfSome (line_of stop) Gives)
      → status ≡ 4 → (line : List ℕ) × (TellsHeader held line × Gives line)
  dataset {Gives} stop status told only fault gives s =
      by_header stop status told only
      (λ e x own. (header_line e, ((e, (fault e x, refl)), subst (λ (x : Stop). IfSome (line_of x) Gives) x (gives (own ∙ ap status_of (sym x))))))
      (λ x own. absurd (omega (arith, own, s))) (λ m. absurd (omega (arith, m, s)))

  -- a header with a fault is refused
  pub refused : (stop : Stop) (status : ℕ) → IsTold stop status → IsOfHeader stop → (stop ≡ stops.Disk → ⊥)
      → (status ≡ 4) ⊎ (status ≡ 8)
  refused stop status told only still = by_header stop status told only (λ e x own. inl own) (λ x own. absurd (still x)) inr

  both_fault : (h : Option (List ℕ)) (e : HeaderErr) → IsSoundFront h → IfSome h (λ file. HasFault (front file) e) → ⊥
  both_fault None e sound fault = sound
  both_fault (Some file) e sound fault = sound e fault

  -- where nothing is at fault, memory is wanting
  pub wants_memory : (stop : Stop) (status : ℕ) → IsTold stop status → IsOfHeader stop → (stop ≡ stops.Disk → ⊥)
      → ((e : HeaderErr) → stop ≡ stops.Header e → HasHeaderFault e) → IsSoundFront held → (status ≡ 0) ⊎ (status ≡ 8)
  wants_memory stop status told only still fault sound =
      by_header stop status told only (λ e x own. absurd (both_fault held e sound (fault e x))) (λ x own. absurd (still x)) inr

-- a header that was read has no fault
pub not_faulty : {Q : Type 0} (held : Option (List ℕ)) → IfSome held (λ file. (e : HeaderErr) → HasFault (front file) e → ⊥) → IsFaultyFront held → Q
not_faulty None sound faulty = absurd faulty
not_faulty (Some file) sound faulty = absurd (sound faulty.0 faulty.1)

-- the status of a stop is one of a list's
pub list_status : (stop : Stop) (status : ℕ) → IsTold stop status → IsOfHeader stop → IsListStatus status
list_status stop status told only = grind (arith, nat_tests)

-- where a stop's status is one at which the header was read, it has a fault
pub header_read : {Q : Type 0} (stop : Stop) (status : ℕ) → IsTold stop status → IsOfHeader stop
    → ((e : HeaderErr) → stop ≡ stops.Header e → Q) → IsOfReadHeader status → Q
header_read (stops.Header e) status told only made s = made e refl
header_read stop status told only made s = absurd (grind (arith, nat_tests))
