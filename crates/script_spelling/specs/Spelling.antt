-- What a right text of a script is, by its lines and apart from the way in which they are read. (own)
--     Spells text script        the text is lines, and those that are not blank and no remark are, in this order: the head,
--                               statements, `data`, calls of ranks, and `end`; what they say is the script
use Rattle.std.specs.Prelude.{◌≡◌, ◌≤◌, ℕ, List, [], ◌∷◌, ◌++◌, map, length, Bool, true, false, not, ◌==◌, Some, if◌then◌else◌, codes}
use Rattle.std.specs.List.{AllZip}
use Rattle.std.specs.Str.Lossy.{utf8_valid_len}
use Rattle.nc_base.specs.declared.request.Call.{Call}
use Rattle.nc_base.specs.declared.script.Script.{Script}
use Rattle.serial_spec.specs.Lawful.{is_lawful}
use Rattle.script_spec.specs.ScriptWords.{Word, Plain, text_lines, significant}
use Rattle.script_spec.specs.ScriptGrammar.{version_of_text, most_bytes, most_lines}
use Rattle.script_spelling.specs.SpelledCalls.{SpellsCallLine}
use Rattle.script_spelling.specs.Statements.{Statement, Says, Stand}
use Rattle.script_spelling.specs.Described.{Describes}

-- the words of each line that is not blank and no remark
abbrev pub said_lines : List ℕ → List (List Word)
said_lines text = map (λ l. l.first ∷ l.rest) (significant text)

-- `create V` or `open`, where the version is 0
abbrev pub SpellsHead : List Word → Bool → ℕ → Type 0
SpellsHead words true version = (w : List ℕ) × (words ≡ Plain (codes "create") ∷ Plain w ∷ []) × (version_of_text w ≡ Some version)
SpellsHead words false version = (words ≡ Plain (codes "open") ∷ []) × (version ≡ 0)

-- lines that are added to an opened dataset may have the types and lengths of version 5
abbrev pub version_of_lines : ℕ → ℕ
version_of_lines version = if version == 0 then 5 else version

-- the parts of a text, line by line
pub record Sections : Type 0 where
  pub head : List Word
  pub before_data : List (List Word)
  pub after_data : List (List Word)

abbrev pub lines_of : Sections → List (List Word)
lines_of s = s.head ∷ s.before_data ++ (Plain (codes "data") ∷ []) ∷ s.after_data ++ (Plain (codes "end") ∷ []) ∷ []

pub record Spells (text : List ℕ) (script : Script) : Type 0 where
  -- at most 2^26 bytes and 2^20 lines, of UTF-8
  pub short : length text ≤ most_bytes
  pub few : length (text_lines text) ≤ most_lines
  pub utf8 : utf8_valid_len text ≡ length text
  -- its lines
  pub sections : Sections
  pub lines : said_lines text ≡ lines_of sections
  -- what they say
  pub head : SpellsHead sections.head script.fresh script.header.version
  pub statements : List Statement
  pub say : AllZip (Says (version_of_lines script.header.version)) sections.before_data statements
  pub stand : Stand (not script.fresh) [] [] [] statements
  pub called : List (ℕ × Call)
  pub call : AllZip SpellsCallLine sections.after_data called
  -- which is the script, and it keeps the limits of the language
  pub describes : Describes statements called script
  pub lawful : is_lawful script ≡ true
