-- The values that a rank hears. (own)
--     joined earlier more       the values of a request with those of its next region
--     filled_by values item     an item that is Ok with the values of its id
--     AreFound map found        a map has by id what the list has
--     AreGetsOf header posts    what a get takes, with some known record count
use Rattle.std.specs.Prelude.{◌≡◌, ℕ, List, if◌then◌else◌, Option, Some, None}
use Rattle.std.specs.Ordering.{nat_cmp}
use Rattle.std.specs.BTreeMap.{BTreeMap, get}
use Rattle.nc_base.specs.declared.answer.Item.{Item}
use Rattle.nc_base.specs.declared.header.Header.{Header}
use Rattle.nc_base.specs.declared.plan.Post.{Post}
use Rattle.nc_base.specs.declared.request.Values.{Values}
use Rattle.serial_spec.specs.RankMachine.{values_for, with_more}
use Rattle.serial_spec.specs.RegionCheck.{is_ok_code}
use Rattle.rank_core.specs.Offered.{IsGet}
use Rattle.rank_core.specs.Requests.{AreGets}

abbrev pub joined : Option Values → Values → Values
joined None more = more
joined (Some values) more = with_more values more

abbrev pub filled_by : (ℕ → Option Values) → Item → Item
filled_by values item = record item { values = if is_ok_code item.code then values item.id else None }

abbrev pub AreFound : BTreeMap ℕ Values → List (ℕ × Values) → Type 0
AreFound map found = (id : ℕ) → get nat_cmp map id ≡ values_for found id

abbrev pub IsGetOf : Header → Post → Type 0
IsGetOf header post = (known : ℕ) × IsGet header known post

abbrev pub AreGetsOf : Header → List Post → Type 0
AreGetsOf header posts = (known : ℕ) × AreGets header known posts
