-- Parts of the text that tells where variables lie. (own)
use Rattle.std.specs.Prelude.{ℕ, List, ◌∷◌, ◌++◌, map, Bool, true, false, not, ◌==◌, if◌then◌else◌, codes, decimal}
use Rattle.nc_base.specs.declared.header.Header.{Header}
use Rattle.nc_base.specs.declared.header.Var.{Var}
use Rattle.serial_spec.specs.HeaderBytes.{header_len}
use Rattle.serial_spec.specs.Layout.{is_record}
use Rattle.script_spec.specs.Texts.{dim_name, extent_of, in_brackets, text_line, type_word}

-- the version, and what the header takes
abbrev pub head_lines : Header → List ℕ
head_lines header =
    text_line (codes "// file format: CDF-" ++ decimal header.version)
    ++ text_line (codes "file header:")
    ++ text_line (codes "  size = " ++ decimal (header_len header) ++ codes " bytes")
    ++ text_line (codes "  extent = " ++ decimal (extent_of (header_len header) header.vars) ++ codes " bytes")

-- what follows a dimension's name
abbrev pub length_words : ℕ → ℕ → List ℕ
length_words records len =
    if len == 0
    then codes " = UNLIMITED // (" ++ decimal records ++ codes " currently)"
    else codes " = " ++ decimal len

-- the first line of a variable
abbrev pub title_line : Header → Var → List ℕ
title_line header v = text_line (codes "  " ++ type_word v.kind ++ 32 ∷ v.name ++ in_brackets (map (dim_name header) v.dims) ++ codes ":")  -- a space

-- whether a variable is one of records, or a fixed one
abbrev pub is_listed : Bool → Header → Var → Bool
is_listed true header v = is_record header v
is_listed false header v = not (is_record header v)
