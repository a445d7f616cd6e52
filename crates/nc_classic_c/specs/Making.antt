-- A header that C defines, laid out and with its record count. (own)
--     made_header defined          the header that is made
--     refusal_of defined           why there is none: the first cause of argument, definitions, layout and record count
--     why_unmade defined room      the same, and want of room for its bytes last
--     IsMade defined len old new   the array has its bytes, and they are read as that header
use Rattle.std.specs.Prelude.{◌≡◌, ℕ, ◌^◌, List, length, Bool, ◌&&◌, nat_lt, nat_le, if◌then◌else◌, Option, Some, None, option_map}
use Rattle.std.specs.Option.{option_or}
use Rattle.nc_base.specs.declared.errors.LayoutErr.{LayoutErr}
use Rattle.nc_base.specs.declared.errors.LayoutErr.TheVariants as layout
use Rattle.nc_base.specs.declared.header.Header.{Header}
use Rattle.nc_base.specs.declared.script.Align.{Align}
use Rattle.serial_spec.specs.HeaderBytes.{canon, header_len, is_version}
use Rattle.serial_spec.specs.Layout.{begins}
use Rattle.serial_spec.specs.Redefinition.{layout_fault}
use Rattle.nc_classic_c.specs.declared.answers.Refusal.{Refusal}
use Rattle.nc_classic_c.specs.declared.answers.Refusal.TheVariants as refusal
use Rattle.nc_classic_c.specs.declared.causes.Cause.{Cause}
use Rattle.nc_classic_c.specs.declared.causes.Cause.TheVariants as cause
use Rattle.nc_classic_c.specs.declared.causes.NcvRefused.{NcvRefused}
use Rattle.nc_classic_c.specs.declared.causes.Part.TheVariants as part
use Rattle.nc_classic_c.specs.declared.causes.Unmade.{Unmade}
use Rattle.nc_classic_c.specs.declared.tables.NcvHeaderDef.{NcvHeaderDef}
use Rattle.nc_classic_c.specs.Causes.{part_shown}
use Rattle.nc_classic_c.specs.Definitions.{definition_refusal}
use Rattle.nc_classic_c.specs.Extents.{filled}
use Rattle.nc_classic_c.specs.Headers.{IsHeaderOf}
use Rattle.nc_classic_c.specs.Sizes.{fits}
use Rattle.nc_classic_c.specs.Tables.{header_of}

abbrev pub align_of : NcvHeaderDef → Align
align_of defined = record { header = defined.header_align; var = defined.var_align }

abbrev pub laid_header : Header → Align → Header
laid_header header align = begins header align (header_len header)

abbrev pub placed_header : Header → Align → ℕ → Header
placed_header header align records = record (laid_header header align) { records = records }

abbrev pub made_header : NcvHeaderDef → Header
made_header defined = placed_header (header_of defined) (align_of defined) defined.records

-- ---- why there is none

abbrev pub of_whole : Cause → Unmade
of_whole c = record { cause = c; part = part.Whole }

abbrev pub is_align : ℕ → Bool
is_align n = nat_le 1 n && nat_le n (2 ^ 20)

abbrev pub is_asked : NcvHeaderDef → Bool
is_asked defined = is_version defined.version && is_align defined.header_align && is_align defined.var_align

abbrev pub argument_refusal : NcvHeaderDef → Option Unmade
argument_refusal defined = if is_asked defined then None else Some (of_whole cause.Argument)

abbrev pub of_layout : LayoutErr → Unmade
of_layout (layout.VarSize k) = record { cause = cause.VarSize; part = part.Var k }
of_layout layout.HeaderRange = of_whole cause.TooLarge
of_layout (layout.BeginRange k) = record { cause = cause.VarSize; part = part.Var k }

abbrev pub layout_refusal : Header → Align → Option Unmade
layout_refusal header align = option_map of_layout (layout_fault header align)

-- a file with so many records would be too large
abbrev pub records_refusal : Header → Align → ℕ → Option Unmade
records_refusal header align records = if fits records (laid_header header align) then None else Some (of_whole cause.TooLarge)

abbrev pub place_refusal : Header → Align → ℕ → Option Unmade
place_refusal header align records = option_or (layout_refusal header align) (records_refusal header align records)

abbrev pub refusal_of : NcvHeaderDef → Option Unmade
refusal_of defined =
    option_or (argument_refusal defined)
    (option_or (definition_refusal defined) (place_refusal (header_of defined) (align_of defined) defined.records))

abbrev pub room_refusal : NcvHeaderDef → ℕ → Option Unmade
room_refusal defined room = if nat_lt room (header_len (made_header defined)) then Some (of_whole cause.Room) else None

-- the first of all, where there is room for so many bytes
abbrev pub why_unmade : NcvHeaderDef → ℕ → Option Unmade
why_unmade defined room = option_or (refusal_of defined) (room_refusal defined room)

-- ---- what a call answers

pub record IsMade (defined : NcvHeaderDef) (len : ℕ) (old new : List ℕ) : Type 0 where
  pub none_refused : why_unmade defined (length old) ≡ None
  pub long : len ≡ header_len (made_header defined)
  pub bytes : new ≡ filled old (canon (made_header defined))
  pub read_back : IsHeaderOf new (made_header defined)

-- want of memory, or this cause
abbrev pub IsUnmade : Option Unmade → Refusal → Type 0
IsUnmade why refusal.Memory = Unit {0}
IsUnmade why (refusal.Unmade u) = why ≡ Some u
IsUnmade why _ = ⊥

-- what is told of a refusal
abbrev pub refused_told : Refusal → NcvRefused → NcvRefused
refused_told (refusal.Unmade u) old = part_shown u.part
refused_told _ old = old

-- the length that is needed, where nothing but the room is wrong
abbrev pub needed_len : NcvHeaderDef → Option Unmade → ℕ → ℕ
needed_len defined (Some u) old = old
needed_len defined None old = header_len (made_header defined)

abbrev pub len_told : NcvHeaderDef → Refusal → ℕ → ℕ
len_told defined (refusal.Unmade u) old = needed_len defined (refusal_of defined) old
len_told defined _ old = old
