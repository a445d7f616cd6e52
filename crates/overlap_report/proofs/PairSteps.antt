-- The two least requests of the entries so far that hold a byte.
use Rattle.overlap_report.proofs.Words.{◌≡◌, ℕ, ◌⊎◌, sym, ◌∙◌, inl, inr, List, true, key_equal, Owned, Key, same_key, key_below, Request, Least, Nobody, One, Two, key_of, Covers, HasHolder, ArePairAt, key, with_key, AreLeast, arith, nat_tests}
use Rattle.list_laws.proofs.Truth.{either, holds_or_not}
use Rattle.overlap_report.proofs.KeySteps.{below_or_above, IsNext, for_next}

-- an entry that holds the byte is of one of the two, or of a later request
abbrev IsOneOf : ℕ → Key → Key → Owned → Type 0
IsOneOf x a b p = Covers p x → (key_of p ≡ a) ⊎ (key_of p ≡ b) ⊎ (key_below b (key_of p) ≡ true)

kept : (seen more : List Owned) (o : Owned) (k : Key) (x : ℕ) → IsNext seen more o → HasHolder seen k x → HasHolder more k x
kept seen more o k x next h = record { holder = h.holder; is_one = next.keeps h.holder h.is_one; covers = h.covers; key = h.key }

-- an entry that does not hold the byte
pub least_same : (seen more : List Owned) (o : Owned) (x : ℕ) (l : Least) → IsNext seen more o → (Covers o x → ⊥) → AreLeast seen x l → AreLeast more x l
least_same seen more o x l next far h = grind (arith, nat_tests)

-- the second and what is above it are above what is below the second
above_both : (a b k : Key) → key_below a b ≡ true → (k ≡ b) ⊎ (key_below b k ≡ true) → key_below a k ≡ true
above_both a b k h xs = grind (arith, nat_tests)

-- an entry that holds it
pub least_next : (seen more : List Owned) (o : Owned) (x : ℕ) (l : Least) (r : Request) → IsNext seen more o → Covers o x → key r ≡ key_of o
    → AreLeast seen x l → AreLeast more x (with_key l r)
least_next seen more o x Nobody r next c e h = grind (arith, nat_tests, for_next)
least_next seen more o x (One a) r next c e h =
    let here : HasHolder more (key r) x = record { holder = o; is_one = next.has; covers = c; key = sym e } in
    let first : HasHolder more (key a) x = kept seen more o (key a) x next h.0 in
    grind (arith, nat_tests, here, first, below_or_above, key_equal (key r) (key a), next.splits, h.1)
least_next seen more o x (Two a b) r next c e h =
    let here : HasHolder more (key r) x = record { holder = o; is_one = next.has; covers = c; key = sym e } in
    let first : HasHolder more (key a) x = kept seen more o (key a) x next h.first in
    let both : IsOneOf x (key a) (key b) o → ArePairAt more (key a) (key b) x = λ its.
    record { first = first; second = kept seen more o (key b) x next h.second; in_order = h.in_order; least = for_next (IsOneOf x (key a) (key b)) next h.least its }
    in
    either (AreLeast more x) (same_key (key r) (key a)) _ _ (λ f. both (λ d. inl (sym e ∙ key_equal (key r) (key a) f)))
    (λ f. either (AreLeast more x) (key_below (key r) (key a)) _ _
    (λ g. record {
      first = here;
      second = first;
      in_order = g;
      least = for_next (IsOneOf x (key r) (key a)) next
          (λ p z d. elim (h.least p z d) [ inl y ↦ inr (inl y) | inr y ↦ inr (inr (above_both (key a) (key b) (key_of p) h.in_order y)) ]) (λ d. inl (sym e));
    })
    (λ g. either (AreLeast more x) (key_below (key r) (key b)) _ _
    (λ k. record {
      first = first;
      second = here;
      in_order = below_or_above (key r) (key a) f g;
      least = for_next (IsOneOf x (key a) (key r)) next
          (λ p z d. elim (h.least p z d) [ inl y ↦ inl y | inr y ↦ inr (inr (above_both (key r) (key b) (key_of p) k y)) ]) (λ d. inr (inl (sym e)));
    })
    (λ k. both (λ d. grind (e, key_equal (key r) (key b), below_or_above (key r) (key b), holds_or_not (same_key (key r) (key b)), arith)))))
