-- What an offer brings to a step of the file. (own)
--     IsPut, IsGet              a request of an accepted region; a put with the bytes of its elements
--     IsSoundOffer header o     its requests are such, and no request of its puts holds a byte twice
--     IsSoundWant header want   the same of what a rank wants
use Rattle.std.specs.Prelude.{◌≡◌, ℕ, ◌*◌, ◌+◌, map, length, IfSome, slice_get}
use Rattle.nc_base.specs.declared.header.Header.{Header}
use Rattle.nc_base.specs.declared.plan.Post.{Post}
use Rattle.nc_base.specs.declared.request.Direction.TheVariants as way
use Rattle.nc_base.specs.declared.answer.Code.TheVariants as code
use Rattle.nc_base.specs.declared.step.Offer.{Offer}
use Rattle.nc_base.specs.declared.step.Want.{Want}
use Rattle.nc_base.specs.declared.step.Want.TheVariants.{Answered, Meet, Solo}
use Rattle.overlay_laws.specs.Entries.{In}
use Rattle.serial_spec.specs.ExternalForm.{size_of}
use Rattle.serial_spec.specs.Layout.{product}
use Rattle.serial_spec.specs.RegionCheck.{check}
use Rattle.serial_spec.specs.SharedByte.{holdings, IsOwnOnce}

pub record IsPut (header : Header) (known : ℕ) (post : Post) : Type 0 where
  pub accepted : check header post.var post.region known way.Put ≡ code.Ok
  pub whole : IfSome (slice_get header.vars post.var) (λ v. length post.bytes ≡ product post.region.count * size_of v.kind)

abbrev pub IsGet : Header → ℕ → Post → Type 0
IsGet header known post = check header post.var post.region known way.Get ≡ code.Ok

pub record IsSoundOffer (header : Header) (o : Offer) : Type 0 where
  pub puts : (p : Post) → In o.batch.puts p → IsPut header o.known p
  pub gets : (p : Post) → In o.batch.gets p → IsGet header o.known p
  pub own : (rank : ℕ) → IsOwnOnce (holdings header (map (λ p. (rank, p)) o.batch.puts))

abbrev pub IsSoundWant : Header → Want → Type 0
IsSoundWant header (Answered a) = Unit {0}
IsSoundWant header (Meet o) = IsSoundOffer header o
IsSoundWant header (Solo o) = IsSoundOffer header o

-- how many posts the offer has, if it is one
abbrev pub posts_offered : Want → ℕ
posts_offered (Answered a) = 0
posts_offered (Meet o) = length o.batch.puts + length o.batch.gets
posts_offered (Solo o) = length o.batch.puts + length o.batch.gets
