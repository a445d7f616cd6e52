-- Regions that a check accepts: their variable is there, and they have few extents.
use Rattle.nc_classic_c.proofs.Words.{◌≡◌, ℕ, suc, ◌≤◌, ◌<◌, ◌^◌, List, [], ◌∷◌, length, Bool, false, Option, Some, None, refl, ap, sym, ◌∙◌, arith, slice_get, IfSome, Header, Var, Extent, Region, Direction, product, check_some, check_var, asks_too_much, joined_to, joined, extents_of, element_extents, IsAccepted, passed, length-element_extents, if_some_at, Accepted, NcvRegion, HasRegion, Accepts, direction_of, nat_tests, subst, region_of}
use Rattle.nc_base.specs.declared.answer.Code.TheVariants as code

pub accepted_there : (header : Header) (o : Option Var) (g : Region) (known : ℕ) (direction : Direction)
    → check_some header o g known direction ≡ code.Ok → (v : Var) × (o ≡ Some v)
accepted_there header None g known direction h = absurd cc
accepted_there header (Some v) g known direction h = (v, refl)

-- ---- how many extents

joined_to_fewer : (e : Extent) (es : List Extent) → length (joined_to e es) ≤ suc (length es)
joined_to_fewer e es = grind (arith, nat_tests)

joined_fewer : (es : List Extent) → length (joined es) ≤ length es
joined_fewer [] = omega arith
joined_fewer (e ∷ es) = omega (arith, joined_to_fewer e (joined es), joined_fewer es)

few_elements : (header : Header) (v : Var) (g : Region) → asks_too_much header v g ≡ false → product g.count ≤ 2 ^ 20
few_elements header v g h = grind (arith, nat_tests)

pub few_extents : (header : Header) (v : Var) (g : Region) (known : ℕ) (direction : Direction)
    → check_var header v g known direction ≡ code.Ok → length (extents_of header v g) ≤ 2 ^ 20
few_extents header v g known direction h =
    let all = passed header v g known direction h in
    omega (arith, joined_fewer (element_extents header v g), length-element_extents header v g, few_elements header v g all.large)

pub few_of_accepted : (header : Header) (k : ℕ) (v : Var) (g : Region) → slice_get header.vars k ≡ Some v → IsAccepted header k g → product g.count ≤ 2 ^ 20
few_of_accepted header k v g there h =
    few_elements header v g (passed header v g h.0 h.1 (ap (λ (o : Option Var). check_some header o g h.0 h.1) (sym there) ∙ h.2)).large

-- ---- what an accepted region tells

region_had : (bytes : List ℕ) (asked : NcvRegion) (known : ℕ) (put : Bool) (a : Accepted) (P : Header → Var → Type 0) → Accepts bytes asked known put a
    → ((v : Var) → slice_get a.header.vars a.var ≡ Some v → P a.header v) → HasRegion bytes asked known put P
region_had bytes asked known put a P h k =
    grind (arith, nat_tests, accepted_there a.header (slice_get a.header.vars a.var) a.region known (direction_of put) h.accepted)

-- a value of an accepted region's variable, of which something holds
pub region_told : {X : Type 0} (bytes : List ℕ) (asked : NcvRegion) (known : ℕ) (put : Bool) (a : Accepted) (f : Header → Var → Region → X) (x : X) (P : X → Type 0) → Accepts bytes asked known put a
    → IfSome (slice_get a.header.vars a.var) (λ v. x ≡ f a.header v a.region) → P x → HasRegion bytes asked known put (λ header v. P (f header v (region_of asked)))
region_told bytes asked known put a f x P h is p =
    region_had bytes asked known put a (λ header v. P (f header v (region_of asked))) h
    (λ v there. subst P (if_some_at (λ (v : Var). x ≡ f a.header v a.region) (slice_get a.header.vars a.var) v there is ∙ ap (f a.header v) h.region) p)

pub few_left : (bytes : List ℕ) (asked : NcvRegion) (known : ℕ) (put : Bool) (a : Accepted) (es : List Extent) → Accepts bytes asked known put a
    → IfSome (slice_get a.header.vars a.var) (λ v. es ≡ extents_of a.header v a.region) → length es < 2 ^ 64
few_left bytes asked known put a es h k =
    let there = accepted_there a.header (slice_get a.header.vars a.var) a.region known (direction_of put) h.accepted in
    let ok = ap (λ (o : Option Var). check_some a.header o a.region known (direction_of put)) (sym there.1) ∙ h.accepted in
    grind (arith, nat_tests, there, ok, few_extents a.header there.0 a.region known (direction_of put) ok, if_some_at)
