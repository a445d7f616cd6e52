-- The first one of the least round, of those so far.
use Rattle.exchange_crew.proofs.Words.{◌≡◌, ◌≤◌, ◌<◌, ◌+◌, ℕ, refl, List, Option, None, Some, IfSome, IfNone, arith, nat_tests, length, slice_get, slice_get_within, true, false, is_some, same_Some, sym, subst, ◌∙◌, HasRound, common_steps, some_or_none, inl, inr}

pub record IsLeast {T : Type 0} (next : T → Option ℕ) (all : List T) (n : ℕ) (first least : Option ℕ) : Type 0 where
  pub alike : is_some least ≡ is_some first
  pub held : (k r : ℕ) → first ≡ Some k → least ≡ Some r → (k < n) × HasRound next all k r
  pub lowest : (k r j s : ℕ) → first ≡ Some k → least ≡ Some r → j < n → HasRound next all j s → (r ≤ s) × (j < k → r < s)
  pub nobody : least ≡ None → (j s : ℕ) → j < n → HasRound next all j s → ⊥

module _ {T : Type 0} (next : T → Option ℕ) (all : List T) where
  pub least_none : IsLeast next all 0 None None
  least_none = grind (arith, common_steps)

  module _ (n : ℕ) (first least : Option ℕ) (one : T) (h : IsLeast next all n first least) (at : slice_get all n ≡ Some one) where
    round_of_one : (j s : ℕ) → j ≡ n → HasRound next all j s → next one ≡ Some s
    round_of_one j s e (other, there, of) = grind (arith, nat_tests, same_Some)

    lower_before : (r : ℕ) → ((s : ℕ) → least ≡ Some s → r < s) → (j s : ℕ) → j < n → HasRound next all j s → (f l : Option ℕ) → f ≡ first → l ≡ least → r < s
    lower_before r lower j s before x None None a b = absurd (h.nobody (sym b) j s before x)
    lower_before r lower j s before x (Some k) (Some q) a b = grind (arith, nat_tests, lower q, h.lowest k q j s (sym a) (sym b) before x)
    lower_before r lower j s before x f l a b = grind (arith, nat_tests, h.alike, is_some)

    pub least_now : (earlier round : Option ℕ) → round ≡ next one → is_some earlier ≡ true → IfSome earlier (λ r. (round ≡ Some r) × ((s : ℕ) → least ≡ Some s → r < s)) → IsLeast next all (n + 1) (Some n) earlier
    least_now None round of e now = cc
    least_now (Some r) round of e now = record {
      alike = refl;
      held = λ k q a b. grind (arith, nat_tests, same_Some, subst (λ i. HasRound next all i r) (same_Some n k a) (one, at, sym of ∙ now.0));
      lowest = λ k q j s a b l x. grind (arith, nat_tests, same_Some, λ (e : j ≡ n). round_of_one j s e x, λ (e : j < n). lower_before r now.1 j s e x first least refl refl);
      nobody = λ e. cc;
    }

    pub least_still : (earlier round : Option ℕ) → round ≡ next one → is_some earlier ≡ false → IfNone earlier ((r : ℕ) → round ≡ Some r → (s : ℕ) × (least ≡ Some s) × (s ≤ r)) → IsLeast next all (n + 1) first least
    least_still (Some r) round of e later = cc
    least_still None round of e later = record {
      alike = h.alike;
      held = λ k r a b. let it = h.held k r a b in (omega (arith, it.0), it.1);
      lowest = λ k r j s a b l x.
          grind (arith, nat_tests, same_Some, λ (e : j ≡ n). later s (of ∙ round_of_one j s e x), λ (e : j < n). h.lowest k r j s a b e x, h.held k r a b);
      nobody = λ e j s l x. grind (arith, nat_tests, λ (a : j ≡ n). later s (of ∙ round_of_one j s a x), λ (a : j < n). h.nobody e j s a x);
    }

module _ {T : Type 0} (next : T → Option ℕ) (all : List T) where
  pub within : (k r n : ℕ) → length all ≤ n → HasRound next all k r → k < n
  within k r n long (one, there, of) = grind (arith, nat_tests, slice_get_within all k one there)

  same_turn : (k r s : ℕ) → HasRound next all k r → HasRound next all k s → r ≡ s
  same_turn k r s (a, at_a, of_a) (b, at_b, of_b) = grind (arith, nat_tests, same_Some)

  module _ (n : ℕ) (long : length all ≤ n) where
    -- one that has a turn, and none of an earlier round, nor in front of it of the same one
    pub least_first : (first least : Option ℕ) → IsLeast next all n first least
        → IfSome first (λ k. ((r : ℕ) × HasRound next all k r) × ((r j s : ℕ) → HasRound next all k r → HasRound next all j s → (r ≤ s) × (j < k → r < s)))
    least_first None least h = tt
    least_first (Some k) None h = absurd (grind (arith, nat_tests, h.alike, is_some))
    least_first (Some k) (Some q) h = (
      (q, (h.held k q refl refl).1),
      λ r j s x y. let own : q ≡ r = same_turn k q r (h.held k q refl refl).1 x in grind (arith, nat_tests, own, h.lowest k q j s refl refl (within j s n long y) y),
    )

    pub least_nobody : (first least : Option ℕ) → IsLeast next all n first least → IfNone first ((k : ℕ) (one : T) → slice_get all k ≡ Some one → next one ≡ None)
    least_nobody (Some k) least h = tt
    least_nobody None (Some q) h = absurd (grind (arith, nat_tests, h.alike, is_some))
    least_nobody None None h = λ k one at. elim (some_or_none (next one)) [ inl e ↦ e | inr (r, of) ↦ absurd (h.nobody refl k r (within k r n long (one, at, of)) (one, at, of)) ]
