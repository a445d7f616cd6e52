-- The rule of a reply (own): until the promise is named there is one pass and no item; from then on each pass knows the promise, and each
-- item keeps it.
use Rattle.std.specs.Prelude.{◌≡◌, List, [], ◌∷◌, Option, Some, None}
use Rattle.std.specs.List.{AllByRecursion}
use Rattle.std.proofs.Common.{◌⊎◌}
use Rattle.promised_reply.specs.declared.reply_rule.ReplyView.{ReplyView}

abbrev pub reply_view : {P : Type 0} → Option P → ReplyView P
reply_view promise = record { promise = promise }

module _ {T P : Type 0} where
  -- no promise was named yet
  abbrev pub IsUnnamed : List T → List (ReplyView P) → Type 0
  IsUnnamed items views = (items ≡ []) × (views ≡ reply_view None ∷ [])

  -- this promise was named
  abbrev pub IsNamed : (P → T → Type 0) → P → List T → List (ReplyView P) → Type 0
  IsNamed kept_by promise items views = AllByRecursion (kept_by promise) items × AllByRecursion (λ v. v.promise ≡ Some promise) views

  abbrev pub ReplyHolds : (P → T → Type 0) → List T → List (ReplyView P) → Type 0
  ReplyHolds kept_by items views = IsUnnamed items views ⊎ ((promise : P) × IsNamed kept_by promise items views)
