-- Entries whose bytes are found below a place, and entries of which no two have a slot in common.
use Rattle.std.proofs.lemmas.Bool.Decides.{nat_tests}
use Rattle.std.proofs.Common.{◌≡◌, ℕ, ◌+◌, ◌<◌, ◌≤◌, subst, List, length, take, arith}
use Rattle.std.proofs.lemmas.List.{take_all}
use Rattle.nc_base.specs.declared.plan.Owned.{Owned}
use Rattle.overlay_laws.specs.Entries.{In}
use Rattle.overlay_laws.specs.Origins.{origins, IsOnceEach}
use Rattle.overlap_report.proofs.KeySteps.{IsNext}
use Rattle.overlap_report.proofs.OriginSteps.{once_by}

abbrev pub AreFoundBelow : ℕ → List Owned → Type 0
AreFoundBelow n seen = (o : Owned) → In seen o → o.from + o.extent.len < n

pub found_next : (seen more : List Owned) (o : Owned) (n : ℕ) → IsNext seen more o → o.from + o.extent.len < n → AreFoundBelow n seen → AreFoundBelow n more
found_next seen more o n next last found p m = grind (arith, nat_tests)

pub found_all : (list : List Owned) (i n : ℕ) → length list ≤ i → AreFoundBelow n (take i list) → AreFoundBelow n list
found_all list i n h found = subst (λ (os : List Owned). AreFoundBelow n os) (take_all i list h) found

-- the slots are below the next one, and no two entries have the same
pub record HaveRisen (seen : List Owned) (least : ℕ) : Type 0 where
  pub below : (o : Owned) → In seen o → o.slot < least
  pub apart : (o q : Owned) → In seen o → In seen q → o.slot ≡ q.slot → o ≡ q

pub risen_next : (seen more : List Owned) (o : Owned) (least after : ℕ) → IsNext seen more o → least ≤ o.slot → o.slot < after → HaveRisen seen least → HaveRisen more after
risen_next seen more o least after next h past risen = grind (arith, nat_tests)

pub risen_once : (list : List Owned) (i least : ℕ) → length list ≤ i → HaveRisen (take i list) least → IsOnceEach (origins list)
risen_once list i least h risen = grind (arith, nat_tests, take_all, once_by, origins)
