-- Each move on a reply keeps its rule.
use Rattle.std.proofs.lemmas.Bool.Decides.{nat_tests}
use native.Mathlib.Omega.{arith}
use Rattle.std.proofs.Common.{◌≡◌, ℕ, zero, suc, List, [], ◌∷◌, ◌++◌, Option, Some, None, set, sym, refl, ◌∙◌, subst, ap, inl, inr}
use Rattle.std.specs.Prelude.{IsSome}
use Rattle.std.specs.Option.{ForSome}
use Rattle.std.specs.List.{AllByRecursion}
use mathlib.Core.Option.{some, some-ne-none, some-injective}
use lib.ListN.{get_elem?}
use Rattle.std.proofs.lemmas.Option.{same_Some}
use Rattle.list_laws.proofs.Each.{each_push}
use Rattle.crossbeam_channel.specs.Fifo.{Pushes, Pops, Forks}
use Rattle.promised_reply.specs.declared.reply_rule.ReplyView.{ReplyView}
use Rattle.promised_reply.specs.ReplyRule.{reply_view, IsNamed, ReplyHolds}

module _ {V : Type 0} (F : V → Type 0) where
  each_elem : (views : List V) (seat : ℕ) (v : V) → AllByRecursion F views → get_elem? views seat ≡ some v → F v
  each_elem [] seat v h e = absurd (some-ne-none v (sym e))
  each_elem (w ∷ views) zero v h e = subst F (some-injective w v e) h.0
  each_elem (w ∷ views) (suc seat) v h e = each_elem views seat v h.1 e

  each_set : (views : List V) (seat : ℕ) (w : V) → F w → AllByRecursion F views → AllByRecursion F (set views seat w)
  each_set [] seat w f h = tt
  each_set (v ∷ views) zero w f h = (f, h.1)
  each_set (v ∷ views) (suc seat) w f h = (h.0, each_set views seat w f h.1)

module _ {T P : Type 0} (kept_by : P → T → Type 0) where
  abbrev Knows : P → ReplyView P → Type 0
  Knows promise v = v.promise ≡ Some promise

  unnamed_known : {A : Type 0} (promise : P) (v : ReplyView P) → Knows promise v → v.promise ≡ None → A
  unnamed_known promise v knows none = absurd cc

  -- a promise that a pass knows is the one that was named
  named_to : (promise : P) (v : ReplyView P) (seat : ℕ) (items : List T) (views : List (ReplyView P)) → Knows promise v → get_elem? views seat ≡ some v
      → ReplyHolds kept_by items views → IsNamed kept_by promise items views
  named_to promise v seat items views knows at xs = grind (arith, nat_tests, unnamed_known, same_Some, each_elem)

  pub begins : ReplyHolds kept_by [] (reply_view None ∷ [])
  begins = inl (refl, refl)

  pub opens : (seat : ℕ) (v : ReplyView P) (named : Option P) (promise : P) → v.promise ≡ None → named ≡ Some promise
      → Forks (ReplyHolds kept_by) seat v (reply_view named) (reply_view named)
  opens seat v named promise none is items views (inl (empty, alone)) at =
      inr (
        promise,
        (
          subst (AllByRecursion (kept_by promise)) (sym empty) tt,
          each_push (Knows promise) (set views seat (reply_view named)) (reply_view named) (only views seat alone at) is,
        ),
      )
    where
      only : (us : List (ReplyView P)) (place : ℕ) → us ≡ reply_view None ∷ [] → get_elem? us place ≡ some v → AllByRecursion (Knows promise) (set us place (reply_view named))
      only [] place one e = absurd (some-ne-none v (sym e))
      only (u ∷ us) zero one e = (is, let rest : us ≡ [] = cc in subst (AllByRecursion (Knows promise)) (sym rest) tt)
      only (u ∷ us) (suc place) one e = let rest : us ≡ [] = cc in absurd (some-ne-none v (sym e ∙ ap (λ l. get_elem? l place) rest))
  opens seat v named promise none is items views (inr (other, kept)) at = grind (arith, nat_tests, unnamed_known, each_elem, reply_view)

  pub gives : (n seat : ℕ) (v : ReplyView P) (x : T) → IsSome v.promise → ForSome v.promise (λ p. kept_by p x) → Pushes (ReplyHolds kept_by) n seat v x (λ w. w ≡ v)
  gives n seat v x some_named keeps items views short h at = by v.promise refl some_named keeps
    where
      by : (o : Option P) → v.promise ≡ o → IsSome o → ForSome o (λ p. kept_by p x)
          → (w : ReplyView P) × ReplyHolds kept_by (items ++ x ∷ []) (set views seat w) × (w ≡ v)
      by None is some_named keeps = absurd cc
      by (Some promise) is some_named keeps =
          let named = named_to promise v seat items views is at h in
          (v, inr (promise, (each_push (kept_by promise) items x named.0 (keeps promise refl), each_set (Knows promise) views seat v is named.1)), refl)

  pub takes : (seat : ℕ) (v : ReplyView P) → Pops (ReplyHolds kept_by) seat v (λ x w. (w ≡ v) × ForSome v.promise (λ promise. kept_by promise x))
  takes seat v x items views xs at = grind (arith, nat_tests, each_elem, each_set, same_Some)
