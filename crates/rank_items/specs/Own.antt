-- Puts of which no request holds an element twice. (own)
--     HasOwnElements puts      two puts of one id and one variable share no index, and none has one twice
--     HasOwnPuts item          the same of the offer that the item is
use Rattle.std.specs.Prelude.{◌≡◌, ℕ, List, Some, slice_get}
use Rattle.nc_base.specs.declared.plan.Post.{Post}
use Rattle.nc_base.specs.declared.step.RankItem.{RankItem}
use Rattle.nc_base.specs.declared.step.RankItem.TheVariants as item
use Rattle.serial_spec.specs.Request.{elements}

abbrev pub HasOwnElements : List Post → Type 0
HasOwnElements puts = (i j k l : ℕ) (p q : Post) (index : List ℕ) → slice_get puts i ≡ Some p → slice_get puts j ≡ Some q
    → p.id ≡ q.id → p.var ≡ q.var → slice_get (elements p.region) k ≡ Some index → slice_get (elements q.region) l ≡ Some index
    → (i ≡ j) × (k ≡ l)

abbrev pub HasOwnPuts : RankItem → Type 0
HasOwnPuts (item.Offer call o) = HasOwnElements o.batch.puts
HasOwnPuts (item.Ended memory) = Unit {0}
