-- What a step takes: requests of regions that a check accepts. (own)
--     IsPut header post     a put with the bytes of its elements
--     IsRight header o      an offer of such requests
--     AreBelow n xs         each of the numbers is below n
--     setting header rule   what the steps of a run share
--     counted file records  a file and its record count
--     reply_to s pair ..    the reply to an offer
use Rattle.std.specs.Prelude.{◌≡◌, ℕ, ◌*◌, ◌<◌, List, map, length, Option, slice_get, IfSome}
use Rattle.std.specs.List.{AllByRecursion}
use Rattle.nc_base.specs.declared.answer.Pair.{Pair}
use Rattle.nc_base.specs.declared.header.Header.{Header}
use Rattle.nc_base.specs.declared.plan.Post.{Post}
use Rattle.nc_base.specs.declared.script.OverlapRule.{OverlapRule}
use Rattle.nc_base.specs.declared.step.Offer.{Offer}
use Rattle.nc_base.specs.declared.step.Reply.{Reply}
use Rattle.overlay_laws.specs.Entries.{In}
use Rattle.serial_spec.specs.ExternalForm.{size_of}
use Rattle.serial_spec.specs.FileStep.{get_post, Counted, Setting}
use Rattle.serial_spec.specs.Layout.{product}
use Rattle.vara_extents.specs.Accepted.{IsAccepted}

pub record IsPut (header : Header) (post : Post) : Type 0 where
  pub accepted : IsAccepted header post.var post.region
  pub whole : IfSome (slice_get header.vars post.var) (λ v. length post.bytes ≡ product post.region.count * size_of v.kind)

pub record IsRight (header : Header) (o : Offer) : Type 0 where
  pub puts : (p : Post) → In o.batch.puts p → IsPut header p
  pub gets : (p : Post) → In o.batch.gets p → IsAccepted header p.var p.region

abbrev pub AreBelow : ℕ → List ℕ → Type 0
AreBelow n xs = AllByRecursion (λ x. x < n) xs

abbrev pub setting : Header → OverlapRule → Setting
setting header rule = record { header = header; overlap = rule }

abbrev pub counted : List ℕ → ℕ → Counted
counted file records = record { file = file; records = records }

-- the reply to an offer, after the puts and the count made this file
abbrev pub reply_to : Setting → Option Pair → ℕ → List ℕ → Offer → Reply
reply_to s pair records file o = record { pair = pair; records = records; got = map (get_post s file) o.batch.gets }
