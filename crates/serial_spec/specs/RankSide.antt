-- What one rank puts into the inbox, and where it ends, when these items come back to it. (own)
--     DoesFit, fits_offer           a reply is one to this offer
--     side header g back            what the rank puts, its offers with the numbers of their calls and then that it ended;
--                                   where it ends; and why, None while it waits
--     offered, rank_end, rank_stop  the three by themselves
use Rattle.std.specs.Prelude.{◌≡◌, ℕ, ◌*◌, List, [], ◌∷◌, map, length, Bool, true, false, ◌&&◌, nat_lt, bytes_eq, Option, Some, None, slice_get}
use Rattle.nc_base.specs.declared.header.Header.{Header}
use Rattle.nc_base.specs.declared.plan.Post.{Post}
use Rattle.nc_base.specs.declared.step.Offer.{Offer}
use Rattle.nc_base.specs.declared.step.Reply as reply
use Rattle.nc_base.specs.declared.step.RankItem.{RankItem}
use Rattle.nc_base.specs.declared.step.RankItem.TheVariants as item
use Rattle.nc_base.specs.declared.step.OwnerItem.{OwnerItem}
use Rattle.nc_base.specs.declared.step.OwnerItem.TheVariants.{Reply, Stop}
use Rattle.nc_base.specs.declared.run.RankStop.{RankStop}
use Rattle.nc_base.specs.declared.run.RankStop.TheVariants.{Done, Stopped, Misfit}
use Rattle.serial_spec.specs.Limits.{record_limit}
use Rattle.serial_spec.specs.ExternalForm.{size_of}
use Rattle.serial_spec.specs.Layout.{product}
use Rattle.serial_spec.specs.SerialEnd.{Going, advance, hears}

-- ---- when a reply fits

-- the bytes that a get asks for
abbrev pub wanted : Header → Post → ℕ
wanted header post = elim (slice_get header.vars post.var) [ None ↦ 0 | Some var ↦ product post.region.count * size_of var.kind ]

-- one blob of the right length for each get
abbrev pub DoesFit : Header → Offer → reply.Reply → Type 0
DoesFit header o y = map (λ b. length b) y.got ≡ map (wanted header) o.batch.gets

-- the same as a test, with a count within its limit
abbrev pub fits_offer : Header → Offer → reply.Reply → Bool
fits_offer header o y =
    bytes_eq (map (λ b. length b) y.got) (map (wanted header) o.batch.gets) && nat_lt y.records (record_limit header.version)

-- ---- what the rank does

-- what it puts, where it ends, and why, None while it waits
pub record Side : Type 0 where
  pub puts : List RankItem
  pub end : Going
  pub why : Option RankStop

abbrev pub ends_by : RankStop → Going → Side
ends_by why g = record { puts = item.Ended false ∷ []; end = g; why = Some why }

abbrev pub first_offers : Going → Offer → Side → Side
first_offers g o later = record later { puts = item.Offer (length g.answers) o ∷ later.puts }

-- it has put this offer and waits
abbrev pub waiting_side : Header → Going → Offer → List OwnerItem → Side
waiting_side header g o [] = record { puts = []; end = g; why = None }
waiting_side header g o (Stop ∷ back) = ends_by Stopped g
waiting_side header g o (Reply y ∷ back) =
    elim (fits_offer header o y) [
      | false ↦ ends_by Misfit g
      | true ↦
          let a = advance header (hears header g y) in
          elim a.1 [ None ↦ ends_by Done a.0 | Some p ↦ first_offers a.0 p (waiting_side header a.0 p back) ]
    ]

-- it has gone on to its next offer, if any is left
abbrev pub side_by : Header → Going × Option Offer → List OwnerItem → Side
side_by header (g, None) back = ends_by Done g
side_by header (g, Some o) back = first_offers g o (waiting_side header g o back)

abbrev pub side : Header → Going → List OwnerItem → Side
side header g back = side_by header (advance header g) back

-- ---- what it puts, where it ends, and why, each by itself

abbrev pub waiting : Header → Going → Offer → List OwnerItem → List RankItem
waiting header g o back = (waiting_side header g o back).puts

abbrev pub offered_by : Header → Going × Option Offer → List OwnerItem → List RankItem
offered_by header a back = (side_by header a back).puts

abbrev pub offered : Header → Going → List OwnerItem → List RankItem
offered header g back = (side header g back).puts

abbrev pub waiting_end : Header → Going → Offer → List OwnerItem → Going
waiting_end header g o back = (waiting_side header g o back).end

abbrev pub end_by : Header → Going × Option Offer → List OwnerItem → Going
end_by header a back = (side_by header a back).end

abbrev pub rank_end : Header → Going → List OwnerItem → Going
rank_end header g back = (side header g back).end

abbrev pub waiting_stop : Header → Going → Offer → List OwnerItem → Option RankStop
waiting_stop header g o back = (waiting_side header g o back).why

abbrev pub stop_by : Header → Going × Option Offer → List OwnerItem → Option RankStop
stop_by header a back = (side_by header a back).why

abbrev pub rank_stop : Header → Going → List OwnerItem → Option RankStop
rank_stop header g back = (side header g back).why
