-- What the writers of a header's parts ask of them: the parts of `is_writable`, as facts; and how a list and a variable begin.
use Rattle.std.specs.Prelude.{ℕ, ◌^◌, ◌<◌, ◌≡◌, ◌==◌, ◌++◌, if◌then◌else◌, List, length, true}
use Rattle.std.specs.List.{AllByRecursion, flat_map}
use Rattle.nc_base.specs.declared.header.Header.{Header}
use Rattle.nc_base.specs.declared.header.Var.{Var}
use Rattle.serial_spec.specs.Layout.{vsize}
use Rattle.serial_spec.specs.HeaderBytes.{attribute, begin_width, count, list_of, name, tag}
use Rattle.serial_spec.specs.SoundHeaders.{fits_count, fits_field, is_writable_attr}

pub record IsWritableList {A : Type 0} (version : ℕ) (P : A → Type 0) (xs : List A) : Type 0 where
  pub count : fits_count version (length xs) ≡ true
  pub each : AllByRecursion P xs

pub record IsWritableVar (header : Header) (v : Var) : Type 0 where
  pub name : fits_count header.version (length v.name) ≡ true
  pub ids : IsWritableList header.version (λ id. fits_count header.version id ≡ true) v.dims
  pub attrs : IsWritableList header.version (λ a. is_writable_attr header.version a ≡ true) v.attrs
  pub size : fits_count header.version (vsize header v) ≡ true
  pub small : vsize header v < 2 ^ 62
  pub begin : fits_field (begin_width header.version) v.begin ≡ true

-- the tag and the count of a list: an absent one has a zero tag
abbrev pub list_head : ℕ → ℕ → ℕ → List ℕ
list_head version t n = tag (if n == 0 then 0 else t) ++ count version n

-- a variable's name, dimensions and attributes
abbrev pub shape : Header → Var → List ℕ
shape header v =
    name header.version v.name
    ++ count header.version (length v.dims) ++ flat_map (λ id. count header.version id) v.dims
    ++ list_of header.version 12 (λ a. attribute header.version a) v.attrs
