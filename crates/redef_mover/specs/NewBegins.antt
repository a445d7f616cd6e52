-- The begins of a redefinition as numbers of 64 bits: exact below 2^62, and 2^62 from there on. (own)
--     on_side n side v         the variable is one of the first n, which are old, or one of the others
--     fixed_at, records_at     the fixed variables, and the record variables, of one side
--     pairs places             the places as pairs of number and begin
--     capped_pairs found       the begins that are found, with none above 2^62
--     HasOneEach count found   each of so many variables has one begin
use Rattle.std.specs.Prelude.{◌≡◌, ℕ, List, map, filter, count_by, Bool, nat_lt, nat_le, ◌==◌, if◌then◌else◌}
use Rattle.std.specs.List.{enumerate_from}
use Rattle.nc_base.specs.declared.header.Header.{Header}
use Rattle.serial_spec.specs.Layout.{slab, vsize}
use Rattle.serial_spec.specs.Lists.{sorted_by}
use Rattle.serial_spec.specs.Redefinition.{Numbered, fixed_of, records_in}
use Rattle.var_layout.specs.Capped.{capped}
use Rattle.redef_mover.specs.declared.new_begins.NumberedVar.{NumberedVar}
use Rattle.redef_mover.specs.declared.new_begins.Place.{Place}
use Rattle.redef_mover.specs.declared.new_begins.Side.{Side}
use Rattle.redef_mover.specs.declared.new_begins.Side.TheVariants.{Old, New}

abbrev pub on_side : ℕ → Side → Numbered → Bool
on_side n Old v = nat_lt v.0 n
on_side n New v = nat_le n v.0

abbrev pub fixed_at : Header → ℕ → Side → List Numbered
fixed_at header n side = filter (on_side n side) (fixed_of header (enumerate_from 0 header.vars))

abbrev pub records_at : Header → ℕ → Side → List Numbered
records_at header n side = filter (on_side n side) (records_in header (enumerate_from 0 header.vars))

abbrev pub fixed_var : Header → Numbered → NumberedVar
fixed_var header v = record { number = v.0; begin = v.1.begin; len = capped (slab header v.1) }

abbrev pub record_var : Header → Numbered → NumberedVar
record_var header v = record { number = v.0; begin = v.1.begin; len = capped (vsize header v.1) }

-- the variables by their begins
abbrev pub in_order : List NumberedVar → List NumberedVar
in_order vars = sorted_by (λ (v : NumberedVar) w. nat_le v.begin w.begin) vars

abbrev pub pairs : List Place → List (ℕ × ℕ)
pairs places = map (λ (p : Place). (p.number, p.begin)) places

abbrev pub capped_pairs : List (ℕ × ℕ) → List (ℕ × ℕ)
capped_pairs found = map (λ b. (b.0, capped b.1)) found

-- each of so many variables has one begin
abbrev pub HasOneEach : ℕ → List (ℕ × ℕ) → Type 0
HasOneEach count found = (k : ℕ) → count_by (λ b. b.0 == k) found ≡ (if nat_lt k count then 1 else 0)
