-- The filling of a record by all ranks. (own)
--     share_boxes lengths r ranks       the boxes of rank r's share of a record
--     filling header k var number ranks r   the puts by which rank r fills its share of the record
--     AllFill header k var number offers    each rank of a meeting does that
--     Fills header name number ranks r g    rank r's next collective call is its filling of the record, and is not refused
use Rattle.std.specs.Prelude.{◌≡◌, ℕ, ◌+◌, List, ◌∷◌, map, length, false, Some, slice_get}
use Rattle.nc_base.specs.declared.answer.Code.TheVariants.{Ok}
use Rattle.nc_base.specs.declared.header.Header.{Header}
use Rattle.nc_base.specs.declared.header.Var.{Var}
use Rattle.nc_base.specs.declared.plan.Post.{Post}
use Rattle.nc_base.specs.declared.request.Call.{Call}
use Rattle.nc_base.specs.declared.request.Call.TheVariants.{FillRec}
use Rattle.nc_base.specs.declared.request.Part.{Part}
use Rattle.nc_base.specs.declared.step.Offer.{Offer}
use Rattle.serial_spec.specs.Fill.{boxes, share_begin}
use Rattle.serial_spec.specs.Layout.{inner_lengths, product}
use Rattle.serial_spec.specs.Looks.{box_post, look_fill}
use Rattle.serial_spec.specs.RankMachine.{code_of_look}
use Rattle.serial_spec.specs.SerialEnd.{Going}
use Rattle.run_laws.specs.Ahead.{HasCome}

abbrev pub share_boxes : List ℕ → ℕ → ℕ → List Part
share_boxes lengths r ranks = boxes lengths (share_begin (product lengths) r ranks) (share_begin (product lengths) (r + 1) ranks)

abbrev pub filling : Header → ℕ → Var → ℕ → ℕ → ℕ → List Post
filling header k var number ranks r = map (box_post k var number) (share_boxes (inner_lengths header var) r ranks)

abbrev pub AllFill : Header → ℕ → Var → ℕ → List Offer → Type 0
AllFill header k var number offers = (r : ℕ) (o : Offer) → slice_get offers r ≡ Some o → o.batch.puts ≡ filling header k var number (length offers) r

-- in collective mode it comes to the call by calls that it answers alone
pub record Fills (header : Header) (name : List ℕ) (number ranks r : ℕ) (g : Going) : Type 0 where
  pub there : Going
  pub comes : HasCome header g there
  pub later : List Call
  pub next : there.calls ≡ FillRec name number r ranks ∷ later
  pub collective : there.rank.independent ≡ false
  pub accepted : code_of_look (look_fill header name number r ranks) ≡ Ok
