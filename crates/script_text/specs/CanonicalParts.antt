-- Parts of the canonical text of a script. (own)
use Rattle.std.specs.Prelude.{ℕ, List, [], ◌∷◌}
use Rattle.std.specs.Fmt.{signed_decimal}
use Rattle.nc_base.specs.declared.request.Value.{Value}
use Rattle.nc_base.specs.declared.request.Value.TheVariants as value
use Rattle.script_spec.specs.Texts.{hex, quoted}

-- a whole number, a text of one byte, or bits with 16 digits
abbrev pub value_word : Value → List ℕ
value_word (value.Number z) = signed_decimal z
value_word (value.Char c) = quoted (c ∷ [])
value_word (value.Bits n) = 120 ∷ hex 16 n  -- x
