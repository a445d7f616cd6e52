-- Offers of one put each, as the tests have them.
use Rattle.std.proofs.lemmas.Bool.Decides.{nat_tests}
use native.Mathlib.Omega.{arith}
use Rattle.std.proofs.Common.{◌≡◌, List, [], ◌∷◌}
use Rattle.nc_base.specs.declared.header.Header.{Header}
use Rattle.nc_base.specs.declared.plan.Post.{Post}
use Rattle.nc_base.specs.declared.step.MeetKind.TheVariants.{Put}
use Rattle.nc_base.specs.declared.step.Offer.{Offer}
use Rattle.nc_base.specs.declared.step.OfferKind.TheVariants as kind
use Rattle.overlay_laws.specs.Entries.{In}
use Rattle.reference.specs.Requests.{IsPut, IsRight}

abbrev pub lone : Post → Offer
lone p = record { kind = kind.Meet Put; known = 0; batch = record { puts = p ∷ []; gets = [] } }

lone_right : (header : Header) (p : Post) → IsPut header p → IsRight header (lone p)
lone_right header p h = grind (arith, nat_tests)

pub two_right : (header : Header) (a b : Post) (x y : Offer) (offers : List Offer) → offers ≡ x ∷ y ∷ [] → x ≡ lone a → y ≡ lone b → IsPut header a → IsPut header b
    → (o : Offer) → In offers o → IsRight header o
two_right header a b x y offers e f g h k o m = grind (arith, nat_tests, lone_right)
