-- The variable that a call is on. (own)
--     IsTargetOf rank id t              it is one of the rank's header, with the record count that the rank knows, for posts of this id
--     place_of t                        its place, if there is one
--     look_at, look_region, look_parts  what serial_spec says of a call on it
--     look_record                       what it says of the filling of a share of a record
--     part_posts t values before regions    its posts for regions, to which the values behind so many go
--     parts_code t values n             whether the values of a put fit its type, and are enough for so many elements
--     unfit t values before n           one of n values behind so many is not in the range of its type
--     fill_posts                        its posts for the elements from one to another
use Rattle.std.specs.Prelude.{◌≡◌, ◌≤◌, ℕ, Bool, List, map, Option, Some, option_map}
use Rattle.nc_base.specs.declared.answer.Code.{Code}
use Rattle.nc_base.specs.declared.plan.Post.{Post}
use Rattle.nc_base.specs.declared.request.Given.{Given}
use Rattle.nc_base.specs.declared.request.Part.{Part}
use Rattle.nc_base.specs.declared.request.Region.{Region}
use Rattle.nc_base.specs.declared.request.Values.{Values}
use Rattle.serial_spec.specs.Fill.{boxes}
use Rattle.serial_spec.specs.Layout.{inner_lengths, product}
use Rattle.serial_spec.specs.Limits.{most_elements}
use Rattle.serial_spec.specs.Looks as looks
use Rattle.rank_core.specs.Looked.{some_unfit}
use Rattle.rank_core.specs.Ranked.{Ranked}
use Rattle.rank_core.specs.declared.look.target.Target.{Target}

pub record IsTargetOf (rank : Ranked) (id : ℕ) (t : Target) : Type 0 where
  pub header : t.header.now ≡ rank.header
  pub known : t.known ≡ rank.state.known
  pub posts : t.id ≡ id

abbrev pub place_of : Option Target → Option ℕ
place_of target = option_map (λ (t : Target). t.place) target

unfoldable pub look_at : Target → Given → Option Values → looks.Look
look_at t given values = looks.look_at t.header.now t.known t.id t.place given values (Some t.var.now)

unfoldable pub look_region : Target → Given → Option Values → looks.Look
look_region t given values = looks.look_region t.header.now t.known t.id t.place given values t.var.now

unfoldable pub look_parts : Target → Given → Option Values → looks.Look
look_parts t given values = looks.look_parts t.header.now t.known t.id t.place given values t.var.now

abbrev pub part_posts : Target → Option Values → ℕ → List Region → List Post
part_posts t values before regions = looks.part_posts t.id t.place t.var.now.kind values before regions

abbrev pub parts_code : Target → Option Values → ℕ → Code
parts_code t values n = looks.parts_code t.var.now.kind n values

abbrev pub unfit : Target → Option Values → ℕ → ℕ → Bool
unfit t values before n = some_unfit t.var.now.kind values before n

unfoldable pub look_record : Target → ℕ → ℕ → ℕ → looks.Look
look_record t number rank ranks = looks.look_record t.header.now t.place number rank ranks t.var.now

-- one post for each box of these elements of the record
unfoldable pub fill_posts : Target → ℕ → ℕ → ℕ → List Post
fill_posts t number from to = map (looks.box_post t.place t.var.now number) (boxes (inner_lengths t.header.now t.var.now) from to)

-- a box of no more elements than one request may have
abbrev pub IsSmall : Part → Type 0
IsSmall p = product p.count ≤ most_elements
