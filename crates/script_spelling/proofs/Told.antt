-- A text that spells a script is read as this script.
use Rattle.script_spelling.proofs.Words.{◌≡◌, ◌∙◌, ℕ, ◌+◌, ◌≤◌, List, [], ◌∷◌, ◌++◌, map, drop, length, Bool, true, false, not, cond, ◌==◌, Option, Some, None, Result, Ok, Err, refl, sym, ap, subst, append_assoc, arith, codes, AllZip, utf8_valid_len, eq-eqb, length-replicate, some_not_none, ScriptErr, ScriptKind, Dim, Call, Script, most_values, values_in_script, lawful_parts, Word, Plain, Line, text_lines, significant, Known, nothing_known, head, script_of, no_calls, script_of_lines, script_of_text, fault_of, script_fault, Reads, Statement, RanksAre, HintIs, IsFilled, DimIs, VarIs, AttIs, Says, Stand, attrs_of, vars_in, calls_in, fills_in, ToDataset, Describes, SpellsHead, Sections, lines_of, Spells, nat_tests}
use Rattle.script_spelling.proofs.Steps.{go_on, same_ok, word_read}
use Rattle.script_spelling.proofs.CallCounts.{count_all, count_empty, text_again}
use Rattle.script_spelling.proofs.Agreement.{agreement}
use Rattle.script_spelling.proofs.Spelled.{no_zero, none_given, no_not, read_spelled}
use Rattle.script_spelling.proofs.CallLinesRead.{words_of, from_none}
use Rattle.script_spelling.proofs.GrownVars.{vars_of_lines}
use Rattle.script_spelling.proofs.TakenLines.{Part, Grown}
use Rattle.script_spelling.proofs.KnownRead.{lines_version}
use Rattle.script_spelling.proofs.CallLinesTold.{LawfulCalls, Going, data_told}
use Rattle.script_spelling.proofs.DefinitionsTold.{total, Sound, total_grown}
use Rattle.script_spelling.proofs.KnownTold.{definitions_told, same_parts, same_hints}
use Rattle.nc_base.specs.declared.errors.ScriptKind.TheVariants as kind

-- ---- the head

abbrev head_by : List Word → Result ℕ ScriptKind
head_by ws = elim ws [ [] ↦ Err kind.NoHead | w ∷ more ↦ head w more ]

record HeadTold (ws : List Word) (fresh : Bool) (version : ℕ) : Type 0 where
  read : head_by ws ≡ Ok version
  mode : (version == 0) ≡ not fresh

head_told : (ws : List Word) (fresh : Bool) (version : ℕ) → SpellsHead ws fresh version → HeadTold ws fresh version
head_told ws fresh version xs = grind (arith, nat_tests, go_on, word_read, no_zero)

-- ---- what statements say, as what is known

-- what a script says but its calls, where it gives these hints
abbrev known_of : Script → List (Option ℕ) → Known
known_of s hints = record {
  ranks = Some s.ranks;
  hints = hints;
  defined = record { dims = s.header.dims; vars = s.header.vars; attrs = s.header.attrs; titles = []; filled = s.filled };
  added = record { dims = []; vars = []; titles = []; extras = s.extra };
  values = 0;
}

-- a dataset that is opened is not filled
pub no_fill : (ss : List Statement) (dims : List Dim) (names : List (List ℕ)) (titles : List (List ℕ × List ℕ)) → Stand true dims names titles ss → fills_in ss ≡ 0
no_fill [] dims names titles h = refl
no_fill (RanksAre n ∷ ss) dims names titles h = no_fill ss dims names titles h
no_fill (HintIs i v ∷ ss) dims names titles h = no_fill ss dims names titles h
no_fill (IsFilled ∷ ss) dims names titles h = let no : true ≡ false = h.0 in absurd (cc)
no_fill (DimIs d ∷ ss) dims names titles h = no_fill ss _ names titles h.1
no_fill (VarIs line ∷ ss) dims names titles h = no_fill ss dims _ titles h.1
no_fill (AttIs owner a ∷ ss) dims names titles h = no_fill ss dims names _ h.2

pub not_filled : (filled : Bool) (n : ℕ) → n ≡ cond filled 1 0 → n ≡ 0 → filled ≡ false
not_filled filled n h none = grind (arith, nat_tests)

part_told : (fresh : Bool) (s : Script) (hints : List (Option ℕ)) (ss : List Statement) → fills_in ss ≡ cond s.filled 1 0 → ToDataset fresh ss s → Stand (not fresh) [] [] [] ss → Part (not fresh) nothing_known ss (known_of s hints)
part_told true s hints ss filled d stand = (d.extra, d.dims, d.attrs, vars_of_lines s.header.dims (λ n. attrs_of n ss) (vars_in ss) s.header.vars d.vars, stand)
part_told false s hints ss filled d stand = (grind (arith, nat_tests, d.header, not_filled s.filled (fills_in ss) filled (no_fill ss [] [] [] stand)), d.extra, stand)

grown_told : (s : Script) (ss : List Statement) (called : List (ℕ × Call)) (d : Describes ss called s) → Stand (not s.fresh) [] [] [] ss → Grown (not s.fresh) nothing_known ss (known_of s d.hint_table)
grown_told s ss called d stand = grind (arith, nat_tests, none_given, part_told)

-- ---- the script by its parts

script_told : (s : Script) (ss : List Statement) (called : List (ℕ × Call)) (d : Describes ss called s) (known : Known) → (s.header.version == 0) ≡ not s.fresh → Grown (not s.fresh) known [] (known_of s d.hint_table)
    → script_of s.header.version s.ranks known s.calls ≡ s
script_told s ss called d known mode g =
    grind (arith, nat_tests, no_not s.fresh, same_parts (not s.fresh) known (known_of s d.hint_table) g, same_hints (not s.fresh) s.ranks known (known_of s d.hint_table) g, d.hints)

-- ---- all lines

-- the lines, from the first on
in_order : (lines : List Line) (s : Sections) → map words_of lines ≡ lines_of s → map words_of lines ≡ s.head ∷ (s.before_data ++ ((Plain (codes "data") ∷ []) ∷ (s.after_data ++ (Plain (codes "end") ∷ []) ∷ [])))
in_order lines s e = e ∙ append_assoc (s.head ∷ s.before_data) ((Plain (codes "data") ∷ []) ∷ s.after_data) ((Plain (codes "end") ∷ []) ∷ [])

lines_told : (text : List ℕ) (s : Script) (past : ℕ) (lines : List Line) (h : Spells text s) → map words_of lines ≡ lines_of h.sections → script_of_lines past lines ≡ Ok s
lines_told text s past [] h are = let e = in_order [] h.sections are in absurd (cc)
lines_told text s past (l ∷ lines) h are =
    let e = in_order (l ∷ lines) h.sections are in
    let version = s.header.version in
    let first = head_told h.sections.head s.fresh version h.head in
    let lawful = lawful_parts s h.lawful in
    let last = known_of s h.describes.hint_table in
    let counted : total last + count_all s.calls ≡ values_in_script s = refl in
    let few : total last ≤ most_values = omega (arith, counted, lawful.few_values) in
    let grown = grown_told s h.statements h.called h.describes h.stand in
    let begin : Sound nothing_known = record { fine = record { long = refl; apart = refl }; counted = refl } in
    let say = subst (λ (opened : Bool). AllZip (Says (lines_version opened version)) h.sections.before_data h.statements) first.mode h.say in
    let d = definitions_told (not s.fresh) past version s.ranks h.sections.before_data h.statements nothing_known lines (h.sections.after_data ++ (Plain (codes "end") ∷ []) ∷ []) last first.mode few refl begin (ap (drop 1) e) say grown in
    let base = d.known.values in
    let held = total_grown (not s.fresh) d.known [] last d.grown.part in
    let all : LawfulCalls s.ranks base s.calls = record { each = lawful.each_call; ids = lawful.ids_once; few = omega (arith, d.sound.counted, held, counted, lawful.few_values) } in
    let going : Going s.ranks base s.calls h.called (no_calls s.ranks d.known) = record {
      calls = from_none (λ k. calls_in k h.called) 0 s.ranks ∙ sym h.describes.calls;
      long = length-replicate s.ranks [];
      counted = omega (arith, count_empty s.ranks);
    } in
    grind (arith, nat_tests, data_told past s.ranks base s.calls h.sections.after_data h.called d.rest (no_calls s.ranks d.known) all, no_calls s.ranks d.known, go_on, agreement s.calls lawful.agreed, script_told s h.statements h.called h.describes d.known first.mode d.grown, d.words, h.call, h.describes.there, d.read)

-- ---- a whole text

pub spelled_read : (text : List ℕ) (s : Script) → Spells text s → Reads text s
spelled_read text s h =
    text_again text s h.short (eq-eqb (utf8_valid_len text) (length text) h.utf8) h.few (lines_told text s (length (text_lines text) + 1) (significant text) h h.lines)

-- ---- what is read and what is refused

pub one_script : (text : List ℕ) (s t : Script) → Spells text s → Spells text t → s ≡ t
one_script text s t h k = same_ok s t (sym (spelled_read text s h) ∙ spelled_read text t k)

pub some_script : (text : List ℕ) → script_fault text ≡ None → (s : Script) × Spells text s
some_script text h = by (script_of_text text) refl h
  where
    by : (r : Result Script ScriptErr) → script_of_text text ≡ r → fault_of r ≡ None → (s : Script) × Spells text s
    by (Ok s) e k = (s, read_spelled text s e)
    by (Err x) e k = absurd (cc)

pub no_script : (text : List ℕ) (e : ScriptErr) → script_fault text ≡ Some e → (s : Script) → Spells text s → ⊥
no_script text e h s k = some_not_none e (script_fault text) h (ap fault_of (spelled_read text s k))

-- a text of which the lines have this fault spells nothing
pub unread : (text : List ℕ) (s : Script) (e : ScriptErr) → script_of_lines (length (text_lines text) + 1) (significant text) ≡ Err e → Spells text s → ⊥
unread text s e h k = let both : ◌≡◌ {A = Result Script ScriptErr} (Err e) (Ok s) = sym h ∙ lines_told text s (length (text_lines text) + 1) (significant text) k k.lines in absurd (cc)
