-- What is counted of a run, for puts and gets alike. (own)
use Rattle.std.specs.Prelude.{◌≡◌, ℕ, List, [], ◌∷◌, ◌==◌, if◌then◌else◌, ◌&&◌, Option, Some, None, is_none, is_some, option_map, nat_eq}
use Rattle.std.specs.Borrow.{Bor}
use Rattle.std.specs.HashMap.{HashMap, get}
use Rattle.std.specs.declared.hash.FoldHasher.{FoldHasher}
use Rattle.std.specs.declared.hash.BuildHasherDefault.{BuildHasherDefault}
use Rattle.nc_base.specs.declared.answer.Answer.{Answer}
use Rattle.nc_base.specs.declared.answer.Item.{Item}
use Rattle.nc_base.specs.declared.request.Call.{Call}
use Rattle.nc_base.specs.declared.request.Call.TheVariants as call
use Rattle.nc_base.specs.declared.request.Direction.{Direction}
use Rattle.nc_base.specs.declared.request.Direction.TheVariants.{Put, Get}
use Rattle.nc_base.specs.declared.request.Given.{Given}
use Rattle.serial_spec.specs.RegionCheck.{is_ok_code}
use Rattle.script_spec.specs.Generator.{call_got, call_put, items_got, items_put, posted_elements}

-- the region of the first post of this id
abbrev pub posted_given : List Call → ℕ → Option Given
posted_given [] id = None
posted_given (call.Post own kind name given values ∷ calls) id = if own == id then Some given else posted_given calls id
posted_given (_ ∷ calls) id = posted_given calls id

-- the index has the region of each id's first post
abbrev pub FindsGiven : List Call → HashMap ℕ (Bor Given) (BuildHasherDefault FoldHasher) → Type 0
FindsGiven calls index = (id : ℕ) → option_map (λ (g : Bor Given). g.now) (get nat_eq index id) ≡ posted_given calls id

-- the elements of a request that an item tells to be done
abbrev pub item_done : Direction → List Call → Item → ℕ
item_done Put calls i = if is_ok_code i.code && is_none i.values then posted_elements calls i.id else 0
item_done Get calls i = if is_ok_code i.code && is_some i.values then posted_elements calls i.id else 0

abbrev pub items_done : Direction → List Call → List Item → ℕ
items_done Put calls items = items_put calls items
items_done Get calls items = items_got calls items

abbrev pub call_done : Direction → List Call → Call × Answer → ℕ
call_done Put calls answered = call_put calls answered
call_done Get calls answered = call_got calls answered
