-- A plan that is given ends with 0, or with 6 where the sink failed.
use Rattle.plan_cli.proofs.Words.{◌≡◌, ◌⊎◌, ℕ, List, inl, inr, arith, IfSome, IsBeforeStart, IsSilent, IsStatus, line_of_status, nat_tests}

module _ (status : ℕ) (given : (status ≡ 0) ⊎ (status ≡ 6)) where
  pub given_status : IsStatus status
  given_status = elim given [ inl e ↦ inl e | inr e ↦ inr (inr (inr (inr (inr (inl e))))) ]

  pub given_after_start : IsBeforeStart status → ⊥
  given_after_start s = omega (arith, given, s)

  pub given_is_told : IsSilent status → ⊥
  given_is_told s = omega (arith, given, s)

  -- no line stands for it
  pub given_without_line : (Told : List ℕ → Type 0) → IfSome (line_of_status status) Told
  given_without_line Told = grind (arith, nat_tests)
