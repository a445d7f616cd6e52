-- Many regions of one call: PnetCDF C API reference, ncmpi_put_varn and ncmpi_get_varn.
--     code_by_boxes                 the code of parts of a variable, by where their ranges meet
--     parts_code                    the first cause of a refusal, or Ok; a variable that is not there is the first part's cause
use Rattle.std.specs.Prelude.{ℕ, List, [], ◌∷◌, map, ◌&&◌, nat_lt, if◌then◌else◌, Option, Some, None, slice_get}
use Rattle.nc_base.specs.declared.header.Header.{Header}
use Rattle.nc_base.specs.declared.header.Var.{Var}
use Rattle.nc_base.specs.declared.request.Given.{Given}
use Rattle.nc_base.specs.declared.request.Part.{Part}
use Rattle.nc_base.specs.declared.request.Region.{Region}
use Rattle.nc_base.specs.declared.request.Direction.{Direction}
use Rattle.nc_base.specs.declared.answer.Code.{Code}
use Rattle.nc_base.specs.declared.answer.Code.TheVariants as code
use Rattle.serial_spec.specs.Limits.{most_elements}
use Rattle.serial_spec.specs.RegionCheck.{check_parts, check_var, elements_of_all, first_refusal, is_ok_code, is_put, part_regions}
use Rattle.vara_extents.specs.Boxes.{some_meet}

abbrev pub without_variable : List Part → Code
without_variable [] = code.Ok
without_variable (p ∷ parts) = code.ENotVar

abbrev pub parts_code_at : Option Var → Header → Given → ℕ → Direction → Code
parts_code_at None header given known direction = without_variable given.parts
parts_code_at (Some var) header given known direction = check_parts header var (part_regions var given) known direction

abbrev pub parts_code : Header → ℕ → Given → ℕ → Direction → Code
parts_code header var given known direction = parts_code_at (slice_get header.vars var) header given known direction

abbrev pub together_code : List Region → Direction → Code
together_code parts direction =
    if nat_lt most_elements (elements_of_all parts) then code.ETooLarge
    else (if is_put direction && some_meet parts then code.ESelf else code.Ok)

abbrev pub refusal_of : Header → Var → List Region → ℕ → Direction → Code
refusal_of header var parts known direction = first_refusal (map (λ g. check_var header var g known direction) parts)

unfoldable pub code_by_boxes : Header → Var → List Region → ℕ → Direction → Code
code_by_boxes header var parts known direction =
    if is_ok_code (refusal_of header var parts known direction) then together_code parts direction
    else refusal_of header var parts known direction
