-- What a put, a get, a post or the filling of a record comes to before anything is done: PnetCDF C API reference, with its
-- errors. The order of the refusals is (own).
--     look header known id name ..        of a region, or of many: a refusal, nothing, or posts
--     look_fill header name number ..     of a rank's share of a record
use Rattle.std.specs.Prelude.{ℕ, ◌+◌, ◌-◌, nat_le, ◌||◌, replicate, List, [], ◌∷◌, map, filter, flat_map, length, position, Bool, true, false, not, nat_lt, Option, Some, None, is_none, slice_get, bytes_eq}
use Rattle.std.specs.List.{list_any, range_with_len}
use Rattle.nc_base.specs.declared.header.Header.{Header}
use Rattle.nc_base.specs.declared.header.Var.{Var}
use Rattle.nc_base.specs.declared.header.NcType.{NcType}
use Rattle.nc_base.specs.declared.request.Given.{Given}
use Rattle.nc_base.specs.declared.request.Region.{Region}
use Rattle.nc_base.specs.declared.request.Value.{Value}
use Rattle.nc_base.specs.declared.request.Values.{Values}
use Rattle.nc_base.specs.declared.request.Values.TheVariants.{Numbers, Text, Bits}
use Rattle.nc_base.specs.declared.request.Direction.{Direction}
use Rattle.nc_base.specs.declared.request.Direction.TheVariants as way
use Rattle.nc_base.specs.declared.answer.Code.{Code}
use Rattle.nc_base.specs.declared.answer.Code.TheVariants as code
use Rattle.nc_base.specs.declared.plan.Post.{Post}
use Rattle.serial_spec.specs.ExternalForm as form
use Rattle.serial_spec.specs.ExternalForm.{Class, class_of, fits}
use Rattle.nc_base.specs.Values.{count_of}
use Rattle.serial_spec.specs.Request.{positions, value_at, ext_of, packed_bytes}
use Rattle.serial_spec.specs.RegionCheck.{widen, check_var, has_element, first_code, is_ok_code, error_of, part_regions, elements_of_all, check_parts}
use Rattle.serial_spec.specs.Fill.{fill_bytes, share_begin, boxes}
use Rattle.serial_spec.specs.Layout.{product, is_record, inner_lengths, end_of}
use Rattle.serial_spec.specs.HeaderBytes.{header_len}
use Rattle.serial_spec.specs.Limits.{most_elements, record_limit, file_limit}
use Rattle.nc_base.specs.declared.request.Form.{Form}
use Rattle.nc_base.specs.declared.request.Form.TheVariants as given_form
use Rattle.nc_base.specs.declared.request.Part.{Part}

-- ---- what a call on a region comes to

pub data Look : Type 0 where
  Refused : Code → Look
  Empty : Look
  Asks : List Post → Look

-- text goes with char, whole numbers and bits with their own types
abbrev pub kind_code : Class → Values → Code
kind_code form.Text (Text cs) = code.Ok
kind_code form.Text _ = code.EChar
kind_code _ (Text cs) = code.EChar
kind_code form.Pattern (Bits ns) = code.Ok
kind_code form.Pattern (Numbers zs) = code.EBadType
kind_code _ (Numbers zs) = code.Ok
kind_code _ (Bits ns) = code.EBadType

abbrev pub some_fits : NcType → Option Value → Bool
some_fits kind None = true
some_fits kind (Some v) = fits kind v

abbrev pub values_code : NcType → Region → Values → Code
values_code kind g values =
    let reached = map (λ m. value_at values m) (positions g) in
    let other = kind_code (class_of kind) values in
    first_code (
    (not (is_ok_code other), other)
    ∷ (list_any (λ v. is_none v) reached, code.EMapSize)
    ∷ (list_any (λ v. not (some_fits kind v)) reached, code.ERange)
    ∷ [])

abbrev pub data_code : NcType → Region → Option Values → Code
data_code kind g None = code.Ok
data_code kind g (Some values) = values_code kind g values

abbrev pub data_bytes : NcType → Region → Option Values → List ℕ
data_bytes kind g None = []
data_bytes kind g (Some values) = packed_bytes kind g values

abbrev pub direction_of : Option Values → Direction
direction_of None = way.Get
direction_of (Some values) = way.Put

abbrev pub look_region : Header → ℕ → ℕ → ℕ → Given → Option Values → Var → Look
look_region header known id k given values var =
    let g = widen header var given known in
    elim (error_of (check_var header var g known (direction_of values))) [
      | Some c ↦ Refused c
      | None ↦ elim (has_element g) [
        | false ↦ Empty
        | true ↦ elim (error_of (data_code var.kind g values)) [
          | Some c ↦ Refused c
          | None ↦ Asks (record { id = id; var = k; region = g; bytes = data_bytes var.kind g values } ∷ [])
        ]
      ]
    ]

-- ---- the same of many regions: the values go to the parts' elements one after another

abbrev pub parts_code : NcType → ℕ → Option Values → Code
parts_code kind n None = code.Ok
parts_code kind n (Some values) =
    let other = kind_code (class_of kind) values in
    first_code (
    (not (is_ok_code other), other)
    ∷ (nat_lt (count_of values) n, code.EMapSize)
    ∷ (list_any (λ m. not (some_fits kind (value_at values m))) (range_with_len 0 n), code.ERange)
    ∷ [])

-- the bytes of n values from number k on
abbrev pub values_bytes : NcType → Option Values → ℕ → ℕ → List ℕ
values_bytes kind None k n = []
values_bytes kind (Some values) k n = flat_map (λ m. ext_of kind (value_at values m)) (range_with_len k n)

-- one post for each region, the values from number k on
abbrev pub part_posts : ℕ → ℕ → NcType → Option Values → ℕ → List Region → List Post
part_posts id var kind values k [] = []
part_posts id var kind values k (g ∷ regions) =
    record { id = id; var = var; region = g; bytes = values_bytes kind values k (product g.count) }
    ∷ part_posts id var kind values (k + product g.count) regions

abbrev pub look_parts : Header → ℕ → ℕ → ℕ → Given → Option Values → Var → Look
look_parts header known id k given values var =
    let parts = part_regions var given in
    let asked = filter has_element parts in
    elim (error_of (check_parts header var parts known (direction_of values))) [
      | Some c ↦ Refused c
      | None ↦ elim (nat_lt 0 (length asked)) [
        | false ↦ Empty
        | true ↦ elim (error_of (parts_code var.kind (elements_of_all asked) values)) [
          | Some c ↦ Refused c
          | None ↦ Asks (part_posts id k var.kind values 0 asked)
        ]
      ]
    ]

abbrev pub is_varn : Form → Bool
is_varn given_form.Varn = true
is_varn _ = false

abbrev pub look_at : Header → ℕ → ℕ → ℕ → Given → Option Values → Option Var → Look
look_at header known id k given values None = Refused code.ENotVar
look_at header known id k given values (Some var) =
    elim (is_varn given.form) [
      | true ↦ look_parts header known id k given values var
      | false ↦ look_region header known id k given values var
    ]

abbrev pub find_var : Header → List ℕ → Option ℕ
find_var header name = position (λ v. bytes_eq v.name name) header.vars

abbrev pub find_dim : Header → List ℕ → Option ℕ
find_dim header name = position (λ d. bytes_eq d.name name) header.dims

-- values are none for a get
abbrev pub look : Header → ℕ → ℕ → List ℕ → Given → Option Values → Look
look header known id name given values =
    elim (find_var header name) [
      | None ↦ Refused code.ENotVar
      | Some k ↦ look_at header known id k given values (slice_get header.vars k)
    ]

-- ---- the filling of a record

-- a box of the record as a region of the variable
abbrev pub box_region : ℕ → Part → Region
box_region number p =
    record { start = number ∷ p.start; count = 1 ∷ p.count; stride = replicate (length p.count + 1) 1; imap = []; packed = true }

-- the box of a record, with the fill value as every element
abbrev pub box_post : ℕ → Var → ℕ → Part → Post
box_post k var number p =
    record { id = 0; var = k; region = box_region number p; bytes = flat_map (λ m. fill_bytes var) (range_with_len 0 (product p.count)) }

-- one request of id 0: the boxes of the rank's share
abbrev pub fills : ℕ → Var → ℕ → List Part → Look
fills k var number [] = Empty
fills k var number (p ∷ boxes) = Asks (map (box_post k var number) (p ∷ boxes))

-- the record count that the record needs, or the file's end for it, passes its limit
abbrev pub is_record_past : Header → ℕ → Bool
is_record_past header number =
    nat_le (record_limit header.version) (number + 1) || nat_le file_limit (end_of header (header_len header) (number + 1))

abbrev pub look_record : Header → ℕ → ℕ → ℕ → ℕ → Var → Look
look_record header k number rank ranks var =
    let lengths = inner_lengths header var in
    let from = share_begin (product lengths) rank ranks in
    let to = share_begin (product lengths) (rank + 1) ranks in
    elim (is_record header var) [
      | false ↦ Refused code.ENotRec
      | true ↦ elim (nat_lt most_elements (to - from) || is_record_past header number) [
        | true ↦ Refused code.ETooLarge
        | false ↦ fills k var number (boxes lengths from to)
      ]
    ]

abbrev pub look_fill : Header → List ℕ → ℕ → ℕ → ℕ → Look
look_fill header name number rank ranks =
    elim (find_var header name) [
      | None ↦ Refused code.ENotVar
      | Some k ↦ elim (slice_get header.vars k) [ None ↦ Refused code.ENotVar | Some var ↦ look_record header k number rank ranks var ]
    ]
