-- Parts that are served in turn, each over the domain at its place, up to the first fault.
use Rattle.exchange_crew.proofs.Words.{◌≡◌, ◌∙◌, ℕ, zero, suc, ◌+◌, ◌<◌, ◌≤◌, refl, sym, subst, inl, inr, List, ◌∷◌, length, set, zip, Some, Result, arith, same_Some, slice_get, slice_get_within, OnOk, IsOk, AllZip, each_more, left_more, length-set, leb_tells, entry_set, Extent, StepErr, SomeZip, nat_tests}
use Rattle.exchange_crew.proofs.BackLaws.{IsLater}

-- what holds of three lists place by place
all_zipped : {A B C : Type 0} (Q : A × B → C → Type 0) (xs : List A) (ds : List B) (ys : List C) → length ds ≡ length xs → length ys ≡ length xs
    → ((k : ℕ) (x : A) (d : B) (y : C) → slice_get xs k ≡ Some x → slice_get ds k ≡ Some d → slice_get ys k ≡ Some y → Q (x, d) y) → AllZip Q (zip xs ds) ys
all_zipped Q (x ∷ xs) (d ∷ ds) (y ∷ ys) many long each =
    (each zero x d y refl refl refl, all_zipped Q xs ds ys (omega arith) (omega arith) (λ k a b c. each (suc k) a b c))
all_zipped Q xs ds ys many long each = grind (arith, nat_tests)

some_zipped : {A B : Type 0} (R : A → B → Type 0) (xs : List A) (ys : List B) (k : ℕ) (x : A) (y : B) → slice_get xs k ≡ Some x → slice_get ys k ≡ Some y → R x y → SomeZip R xs ys
some_zipped R (a ∷ xs) (b ∷ ys) k x y e f r = grind (arith, nat_tests, some_zipped R xs ys, same_Some)
some_zipped R _ _ k x y e f r = absurd cc

-- nothing was done, which holds of each part as it is
pub all_kept : {D : Type 0} (Done : D × Extent → D → Type 0) (domains : List Extent) (parts : List D) → length domains ≡ length parts → ((p : D × Extent) → Done p p.0) → AllZip Done (zip parts domains) parts
all_kept Done domains parts many kept = all_zipped Done parts domains parts many refl (λ k a d b e f h. subst (λ z. Done (a, d) z) (same_Some a b (sym e ∙ h)) (kept (a, d)))

-- the first so many parts were served, and the others are as they were
pub record AreServedTo {D : Type 0} (Done : D × Extent → D → Type 0) (count : ℕ) (domains : List Extent) (old now : List D) : Type 0 where
  pub long : length now ≡ length old
  pub each : (k : ℕ) (a b : D) → k < count → slice_get old k ≡ Some a → slice_get now k ≡ Some b → (domain : Extent) → slice_get domains k ≡ Some domain → Done (a, domain) b
  pub left : (k : ℕ) → count ≤ k → slice_get now k ≡ slice_get old k

pub none_served : {D : Type 0} (Done : D × Extent → D → Type 0) (domains : List Extent) (old : List D) → AreServedTo Done 0 domains old old
none_served Done domains old = record { long = refl; each = λ k a b l. absurd (omega arith); left = λ k l. refl }

pub all_served_to : {D : Type 0} (Done : D × Extent → D → Type 0) {count : ℕ} {domains : List Extent} {old now : List D} → AreServedTo Done count domains old now → length old ≤ count
    → length domains ≡ length old → AllZip Done (zip old domains) now
all_served_to Done {count} {domains} {old} {now} s all many = all_zipped Done old domains now many s.long (λ k a d b e f h. let l = slice_get_within old k a e in s.each k a b (omega arith) e h d f)

module _ {D : Type 0} {i : ℕ} {domains : List Extent} {old now : List D} (x y : D) (domain : Extent) (at : slice_get now i ≡ Some x) (is : slice_get domains i ≡ Some domain) where
  pub one_served : (Done : D × Extent → D → Type 0) → AreServedTo Done i domains old now → Done (x, domain) y → AreServedTo Done (i + 1) domains old (set now i y)
  one_served Done s own = record {
    long = length-set now i y ∙ s.long;
    each = each_more (λ k a b. (d : Extent) → slice_get domains k ≡ Some d → Done (a, d) b) old now i x y (sym (s.left i (omega arith)) ∙ at) at
        (λ d e. subst (λ z. Done (x, z) y) (same_Some domain d (sym is ∙ e)) own) s.each;
    left = left_more old now i y s.left;
  }

  -- the next one was cut off, and those behind it are as they were
  pub one_cut : {T : Type 0} (Done : Result T StepErr → D × Extent → D → Type 0) (end cut : Result T StepErr) → IsLater Done → OnOk cut (IsOk end) → ((p : D × Extent) → Done cut p p.0)
      → length domains ≡ length old → AreServedTo (Done end) i domains old now → Done cut (x, domain) y → AllZip (Done cut) (zip old domains) (set now i y)
  one_cut Done end cut later ok kept many s own =
      let last = one_served (Done cut) (record { long = s.long; each = λ k a b l e f d g. later end cut (a, d) b ok (s.each k a b l e f d g); left = s.left }) own in
      all_zipped (Done cut) old domains (set now i y) many last.long (λ k a d b e f h. elim (leb_tells (i + 1) k) [
        | inl l ↦ subst (λ z. Done cut (a, d) z) (same_Some a b (sym e ∙ sym (last.left k l.1) ∙ h)) (kept (a, d))
        | inr l ↦ last.each k a b l.1 e h d f
      ])

  -- ... and has the fault
  pub one_failed : {Done : D × Extent → D → Type 0} (R : D → D → Type 0) → AreServedTo Done i domains old now → R x y → SomeZip R old (set now i y)
  one_failed R s r = some_zipped R old (set now i y) i x y (sym (s.left i (omega arith)) ∙ at) (entry_set now i x y at) r
