-- The hints of a script, one row for each, in the order in which they are printed. (own)
--     hint_table                what is known of each: its word, its form, its default, its value in `Hints`
--     hint_of_text, hint_row    the place of a word's hint in the table, and the row at a place
--     hints_of ranks given      the hints of a script, of the values that it gives, each at its place
use Rattle.std.specs.Prelude.{bytes_eq, ℕ, suc, ◌^◌, min, List, [], ◌∷◌, length, position, replicate, Bool, false, ◌==◌, if◌then◌else◌, Option, Some, None, slice_get, unwrap_or, codes, decimal}
use Rattle.nc_base.specs.declared.script.Hints.{Hints}
use Rattle.nc_base.specs.declared.script.OverlapRule.{OverlapRule}
use Rattle.nc_base.specs.declared.script.OverlapRule.TheVariants.{Refuse, Serial}

pub data HintForm : Type 0 where
  Within : ℕ → ℕ → ℕ → HintForm  -- from, to, a multiple of
  Either : List ℕ → List ℕ → HintForm  -- the word for 0, the word for 1

pub record HintRow : Type 0 where
  pub word : List ℕ
  pub form : HintForm
  pub default : ℕ → ℕ  -- the value where a script of so many ranks gives none
  pub seen : Hints → ℕ  -- the hint's value among the hints
  pub set : ℕ → Hints → Hints  -- the hints with this value of it

-- ---- values that are no numbers, as numbers

abbrev pub flag : Bool → ℕ
flag b = if b then 1 else 0

abbrev pub rule_number : OverlapRule → ℕ
rule_number Refuse = 0
rule_number Serial = 1

abbrev pub rule_of : ℕ → OverlapRule
rule_of n = if n == 1 then Serial else Refuse

abbrev pub off_or_on : HintForm
off_or_on = Either (codes "off") (codes "on")

abbrev pub refuse_or_serial : HintForm
refuse_or_serial = Either (codes "refuse") (codes "serial")

-- ---- the table

-- windows and units have at most 32 MiB, begins are multiples of at most 1 MiB; the defaults of buffers are those of ROMIO
abbrev pub hint_table : List HintRow
hint_table =
    record { word = codes "cb_nodes"; form = Within 1 64 1; default = λ ranks. min ranks 8; seen = λ h. h.cb_nodes; set = λ n h. record h { cb_nodes = n } }
    ∷ record { word = codes "cb_buffer_size"; form = Within 1 (2 ^ 25) 1; default = λ _. 2 ^ 24; seen = λ h. h.cb_buffer; set = λ n h. record h { cb_buffer = n } }
    ∷ record { word = codes "ind_rd_buffer_size"; form = Within 1 (2 ^ 25) 1; default = λ _. 2 ^ 22; seen = λ h. h.rd_buffer; set = λ n h. record h { rd_buffer = n } }
    ∷ record { word = codes "ind_wr_buffer_size"; form = Within 1 (2 ^ 25) 1; default = λ _. 2 ^ 19; seen = λ h. h.wr_buffer; set = λ n h. record h { wr_buffer = n } }
    ∷ record { word = codes "line_room"; form = Within 1 64 1; default = λ _. 2; seen = λ h. h.line_room; set = λ n h. record h { line_room = n } }
    ∷ record { word = codes "threads"; form = off_or_on; default = λ _. 1; seen = λ h. flag h.threads; set = λ n h. record h { threads = n == 1 } }
    ∷ record { word = codes "overlap"; form = refuse_or_serial; default = λ _. 0; seen = λ h. rule_number h.overlap; set = λ n h. record h { overlap = rule_of n } }
    ∷ record { word = codes "nc_header_align_size"; form = Within 4 (2 ^ 20) 4; default = λ _. 4; seen = λ h. h.header_align; set = λ n h. record h { header_align = n } }
    ∷ record { word = codes "nc_var_align_size"; form = Within 4 (2 ^ 20) 4; default = λ _. 4; seen = λ h. h.var_align; set = λ n h. record h { var_align = n } }
    ∷ record { word = codes "striping_unit"; form = Within 1 (2 ^ 25) 1; default = λ _. 1; seen = λ h. h.striping_unit; set = λ n h. record h { striping_unit = n } }
    ∷ []

-- ---- a hint by its word, and what is printed of it

abbrev pub hint_of_text : List ℕ → Option ℕ
hint_of_text w = position (λ row. bytes_eq w row.word) hint_table

-- past the table: no value fits
abbrev pub no_row : HintRow
no_row = record { word = []; form = Within 1 0 1; default = λ _. 0; seen = λ _. 0; set = λ _ h. h }

abbrev pub hint_row : ℕ → HintRow
hint_row h = unwrap_or (slice_get hint_table h) no_row

abbrev pub hint_form : ℕ → HintForm
hint_form h = (hint_row h).form

-- the word of a value
abbrev pub shown_value : HintForm → ℕ → List ℕ
shown_value (Within low high unit) n = decimal n
shown_value (Either zero_word one_word) n = if n == 1 then one_word else zero_word

-- ---- the hints of a script

abbrev pub none_given : List (Option ℕ)
none_given = replicate (length hint_table) None

-- the value that is given for the hint at place h, or none
abbrev pub hint_in : ℕ → List (Option ℕ) → Option ℕ
hint_in h given = elim (slice_get given h) [ None ↦ None | Some o ↦ o ]

abbrev pub hint_or : List (Option ℕ) → ℕ → ℕ → ℕ
hint_or given h default = unwrap_or (hint_in h given) default

-- before any is set
abbrev pub no_hints : Hints
no_hints =
    record {
      cb_nodes = 0;
      cb_buffer = 0;
      rd_buffer = 0;
      wr_buffer = 0;
      line_room = 0;
      threads = false;
      overlap = Refuse;
      header_align = 0;
      var_align = 0;
      striping_unit = 0;
    }

-- with the hints of these rows set, the first of which is at place k of the table
abbrev pub set_hints : List HintRow → ℕ → ℕ → List (Option ℕ) → Hints → Hints
set_hints [] k ranks given h = h
set_hints (row ∷ rows) k ranks given h = set_hints rows (suc k) ranks given (row.set (hint_or given k (row.default ranks)) h)

abbrev pub hints_of : ℕ → List (Option ℕ) → Hints
hints_of ranks given = set_hints hint_table 0 ranks given no_hints
