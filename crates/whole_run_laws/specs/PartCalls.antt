-- A call of form varn, and the calls on its parts one by one. (own)
--     on_part p                       the part as a call of form vara
--     values_from values k n          n of the values, from number k on
--     own_values values k parts       each part with its own values, those of the first from number k on
--     put_parts name values parts     the independent puts of the parts, each with its own values
--     makes s number state call       the file and a rank after its independent call
--     request_values s file id gets   the values that these gets of request id read from the file
--     joined vs                       lists of values, one after another, as one
use Rattle.std.specs.Prelude.{ℕ, ◌+◌, List, [], ◌∷◌, map, zip, fold, take, drop, false, Option, Some, None}
use Rattle.nc_base.specs.declared.plan.Post.{Post}
use Rattle.nc_base.specs.declared.request.Call.{Call}
use Rattle.nc_base.specs.declared.request.Call.TheVariants.{Put}
use Rattle.nc_base.specs.declared.request.Form.TheVariants.{Vara}
use Rattle.nc_base.specs.declared.request.Given.{Given}
use Rattle.nc_base.specs.declared.request.Part.{Part}
use Rattle.nc_base.specs.declared.request.Values.{Values}
use Rattle.nc_base.specs.declared.request.Values.TheVariants.{Numbers, Text, Bits}
use Rattle.serial_spec.specs.FileStep.{Counted, Setting, get_post}
use Rattle.serial_spec.specs.Layout.{product}
use Rattle.serial_spec.specs.RankMachine.{got_values, values_for, with_more}
use Rattle.serial_spec.specs.SerialEnd.{Going, advance, solo_of}

-- ---- the parts

abbrev pub on_part : Part → Given
on_part p = record { form = Vara; start = p.start; count = p.count; stride = []; imap = []; parts = [] }

abbrev pub values_from : Values → ℕ → ℕ → Values
values_from (Numbers zs) k n = Numbers (take n (drop k zs))
values_from (Text cs) k n = Text (take n (drop k cs))
values_from (Bits ns) k n = Bits (take n (drop k ns))

abbrev pub own_values : Values → ℕ → List Part → List (Part × Values)
own_values values k [] = []
own_values values k (p ∷ parts) = (p, values_from values k (product p.count)) ∷ own_values values (k + product p.count) parts

abbrev pub put_parts : List ℕ → Values → List Part → List Call
put_parts name values parts = map (λ part. Put false name (on_part part.0) part.1) (own_values values 0 parts)

-- ---- what a call leaves and gives

abbrev pub makes : Setting → ℕ → Counted × Going → Call → Counted × Going
makes s number state call = solo_of s number state.0 (advance s.header (record state.1 { calls = call ∷ [] }))

-- what the last answer of a rank has
abbrev pub last_values : Going → Option Values
last_values g = fold (λ earlier a. a.values) None g.answers

abbrev pub request_values : Setting → List ℕ → ℕ → List Post → Option Values
request_values s file id gets = values_for (got_values s.header (zip gets (map (get_post s file) gets))) id

abbrev pub then_more : Option Values → Option Values → Option Values
then_more None more = more
then_more (Some first) None = Some first
then_more (Some first) (Some more) = Some (with_more first more)

abbrev pub joined : List (Option Values) → Option Values
joined [] = None
joined (v ∷ vs) = then_more v (joined vs)
