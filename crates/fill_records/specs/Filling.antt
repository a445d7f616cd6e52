-- The cutting of a range into boxes, and the bytes and device calls of a fill. (own)
--     at_row row part              a box in the row with these indices, as a box of all dimensions
--     boxes_before lengths from q  the boxes of a range of rows that stand before row q
--     repeated value from len      a value's bytes over and over: those with the numbers from `from` on
--     filled_variable, variable_stores      what the filling of one variable makes of a file, and its stores
--     fill_stores size header      the stores of the fixed variables' slabs, by windows of this size
use Rattle.std.specs.Prelude.{ℕ, List, [], ◌∷◌, ◌++◌, ◌+◌, ◌/◌, ◌%◌, ◌==◌, map, flat_map, length, replicate, slice_index, fold, true, false}
use Rattle.std.specs.List.{range_with_len}
use Rattle.nc_base.specs.declared.header.Header.{Header}
use Rattle.nc_base.specs.declared.header.Var.{Var}
use Rattle.nc_base.specs.declared.request.Part.{Part}
use Rattle.nc_base.specs.declared.step.DiskCall.{DiskCall}
use Rattle.serial_spec.specs.DeviceCalls.{stores}
use Rattle.serial_spec.specs.Fill.{boxes, in_row, whole_rows, fill_var}
use Rattle.serial_spec.specs.Layout.{product, fixed_variables, slab}

-- ---- boxes

abbrev pub at_row : List ℕ → Part → Part
at_row row p = record { start = row ++ p.start; count = replicate (length row) 1 ++ p.count }

-- the first row's part, where it is not whole, and the whole rows
abbrev pub boxes_before : List ℕ → ℕ → ℕ → List Part
boxes_before lengths from last =
    let size = product lengths in
    elim (from % size == 0) [
      | true ↦ whole_rows lengths (from / size) last
      | false ↦ in_row (from / size) (boxes lengths (from % size) size) ++ whole_rows lengths (from / size + 1) last
    ]

-- ---- a fill

abbrev pub repeated : List ℕ → ℕ → ℕ → List ℕ
repeated value from len = map (λ i. slice_index value (i % length value)) (range_with_len from len)

-- nothing, for a record variable
abbrev pub filled_variable : Header → Var → List ℕ → List ℕ
filled_variable header v file = fold (fill_var header) file (fixed_variables header (v ∷ []))

abbrev pub variable_stores : ℕ → Header → Var → List DiskCall
variable_stores size header v = flat_map (λ w. stores size w.begin (slab header w)) (fixed_variables header (v ∷ []))

abbrev pub fill_stores : ℕ → Header → List DiskCall
fill_stores size header = flat_map (λ v. stores size v.begin (slab header v)) (fixed_variables header header.vars)
