-- What is looked for in the header that bytes begin with. (own)
--     Finds bytes look P          the header has it, and P holds of the header and of what was found
--     IsLookRefusal bytes look r  why it was not found: the look's own cause, or why there is no header
--     dimension_at, variable_at, attribute_at             looks by a number
--     dimension_named, variable_named, attribute_named    looks by a name: the number of the first one that has it
use Rattle.std.specs.Prelude.{◌≡◌, ◌⊎◌, ◌-◌, ◌^◌, ◌==◌, if◌then◌else◌, ℕ, List, bytes_eq, position, slice_get, Option, Some, None, option_map, Result, Ok, Err}
use Rattle.nc_base.specs.declared.header.Header.{Header}
use Rattle.nc_base.specs.declared.header.Dim.{Dim}
use Rattle.nc_base.specs.declared.header.Attr.{Attr}
use Rattle.nc_base.specs.declared.header.Var.{Var}
use Rattle.nc_base.specs.declared.answer.Code.TheVariants as code
use Rattle.serial_spec.specs.Looks.{find_dim, find_var}
use Rattle.nc_classic_c.specs.declared.answers.Refusal.{Refusal}
use Rattle.nc_classic_c.specs.declared.answers.Refusal.TheVariants as refusal
use Rattle.nc_classic_c.specs.Headers.{IsHeaderOf, IsHeaderRefusal}

abbrev pub Look : Type 0 → Type 0
Look X = Header → Result X Refusal

abbrev pub Finds : {X : Type 0} → List ℕ → Look X → (Header → X → Type 0) → Type 0
Finds {X} bytes look P = (header : Header) × (x : X) × IsHeaderOf bytes header × (look header ≡ Ok x) × P header x

abbrev pub IsLookRefusal : {X : Type 0} → List ℕ → Look X → Refusal → Type 0
IsLookRefusal bytes look r = IsHeaderRefusal bytes r ⊎ ((header : Header) × IsHeaderOf bytes header × (look header ≡ Err r))

-- ---- looks

abbrev pub or_refused : {X : Type 0} → Refusal → Option X → Result X Refusal
or_refused r None = Err r
or_refused r (Some x) = Ok x

abbrev pub no_dimension : Refusal
no_dimension = refusal.Asked code.EBadDim

abbrev pub no_variable : Refusal
no_variable = refusal.Asked code.ENotVar

abbrev pub dimension_at : ℕ → Look Dim
dimension_at number header = or_refused no_dimension (slice_get header.dims number)

abbrev pub dimension_named : List ℕ → Look ℕ
dimension_named name header = or_refused no_dimension (find_dim header name)

abbrev pub variable_at : ℕ → Look Var
variable_at number header = or_refused no_variable (slice_get header.vars number)

abbrev pub variable_named : List ℕ → Look ℕ
variable_named name header = or_refused no_variable (find_var header name)

-- the number that stands for the dataset where an attribute's owner is asked for
abbrev pub dataset : ℕ
dataset = 2 ^ 64 - 1

abbrev pub attributes_of : ℕ → Look (List Attr)
attributes_of owner header =
    if owner == dataset then Ok header.attrs else or_refused no_variable (option_map (λ v. v.attrs) (slice_get header.vars owner))

abbrev pub found_in : {X : Type 0} → (List Attr → Option X) → Result (List Attr) Refusal → Result X Refusal
found_in f (Ok attrs) = or_refused refusal.NoAttribute (f attrs)
found_in f (Err r) = Err r

abbrev pub attribute_at : ℕ → ℕ → Look Attr
attribute_at owner number header = found_in (λ attrs. slice_get attrs number) (attributes_of owner header)

abbrev pub attribute_named : ℕ → List ℕ → Look ℕ
attribute_named owner name header = found_in (position (λ a. bytes_eq a.name name)) (attributes_of owner header)
