-- A text that is read spells its script.
use Rattle.script_spelling.proofs.Words.{◌≡◌, ◌∙◌, ℕ, zero, suc, ◌+◌, List, [], ◌∷◌, ◌++◌, map, replicate, length, Bool, true, false, not, nat_lt, ◌==◌, Some, None, Ok, refl, sym, ap, subst, append_assoc, arith, bytes_eq, codes, utf8_valid_len, AllZip, list_all, range_with_len, eqb-true, ne_eqb, length-replicate, Call, Script, Word, Plain, Quoted, Broken, Line, text_lines, significant, hint_in, Known, nothing_known, Called, version_of_text, head, definitions, script_of, no_calls, script_of_lines, Reads, read_lawful, Statement, Says, Stand, calls_in, ToDataset, Describes, IsVarOf, VarLine, attrs_of, vars_in, SpellsCallLine, SpellsHead, version_of_lines, Sections, lines_of, Spells, nat_tests, at_most_one, hint_values, header_of, no_definition}
use Rattle.script_spelling.proofs.Steps.{same_ok, whole_value, tested, step_then}
use Rattle.script_spelling.proofs.CallCounts.{line_ok, is_text}
use Rattle.script_spelling.proofs.Places.{bytes_same}
use Rattle.script_spelling.proofs.WordsRead.{read_then}
use Rattle.script_spelling.proofs.CallLinesRead.{words_of, from_none, CallsRead, calls_read}
use Rattle.script_spelling.proofs.GrownVars.{lines_of_vars}
use Rattle.script_spelling.proofs.TakenLines.{Part, Grown}
use Rattle.script_spelling.proofs.KnownRead.{lines_version, DefinitionsRead, definitions_read}

-- ---- the head

abbrev HeadRead : List Word → ℕ → Type 0
HeadRead words version = SpellsHead words (not (version == 0)) version

-- a version that stands in a script is not 0
pub no_zero : (w : List ℕ) (version : ℕ) → version_of_text w ≡ Some version → (version == 0) ≡ false
no_zero w version h = grind (arith, nat_tests, ne_eqb)

head_read : (w : Word) (ws : List Word) (version : ℕ) → head w ws ≡ Ok version → HeadRead (w ∷ ws) version
head_read Broken ws version h = absurd (cc)
head_read (Quoted text) ws version h = absurd (cc)
head_read (Plain w) ws version h =
    tested (bytes_eq w (codes "create")) _ _ _ h
    (λ a k. read_then version_of_text _ ws _ version refl k (λ v word k.
    let end = whole_value v version k in
    grind (arith, nat_tests, bytes_same w (codes "create") a, no_zero word.word version, word.says, end.0, word.are, end.1)))
    (λ a k. tested (bytes_eq w (codes "open")) _ _ _ k
    (λ b k.
    let end = whole_value (0, ws) version k in
    grind (arith, nat_tests, bytes_same w (codes "open") b, end.1, end.0)) (λ b k. absurd (cc)))

-- ---- what is known at `data` is what the statements say

pub none_given : (n h : ℕ) → hint_in h (replicate n None) ≡ None
none_given zero h = refl
none_given (suc n) zero = refl
none_given (suc n) (suc h) = none_given n h

dataset_read : (opened : Bool) (version ranks : ℕ) (ss : List Statement) (known : Known) (calls : List (List Call)) → (version == 0) ≡ opened → Part opened nothing_known ss known → ToDataset (not opened) ss (script_of version ranks known calls)
dataset_read true version ranks ss known calls e p = record { header = ap (header_of version) p.0 ∙ ap (λ (v : ℕ). header_of v no_definition) (eqb-true version 0 e); extra = p.1 }
dataset_read false version ranks ss known calls e p =
    let vars = lines_of_vars known.defined.dims [] (λ n. attrs_of n ss) [] [] ss p.1 p.4 in
    record { dims = p.1; vars = subst (AllZip (λ (line : VarLine) v. IsVarOf known.defined.dims (attrs_of line.name ss) line v) (vars_in ss)) (sym p.3) vars; attrs = p.2; records = refl; extra = p.0 }

describes_read : (version ranks : ℕ) (ss : List Statement) (known : Known) (called : List (ℕ × Call)) (calls : List (List Call))
    → Grown (version == 0) nothing_known ss known → known.ranks ≡ Some ranks → list_all (λ c. nat_lt c.0 ranks) called ≡ true → calls ≡ map (λ r. calls_in r called) (range_with_len 0 ranks)
    → Describes ss called (script_of version ranks known calls)
describes_read version ranks ss known called calls grown told low same = grind (arith, nat_tests, none_given, dataset_read, at_most_one, hint_values)

pub no_not : (b : Bool) → not (not b) ≡ b
no_not b = grind (arith, nat_tests)

-- ---- all lines

-- what the lines of a text spell
pub record LinesSpelled (lines : List (List Word)) (script : Script) : Type 0 where
  pub sections : Sections
  pub are : lines ≡ lines_of sections
  pub head : SpellsHead sections.head script.fresh script.header.version
  pub statements : List Statement
  pub say : AllZip (Says (version_of_lines script.header.version)) sections.before_data statements
  pub stand : Stand (not script.fresh) [] [] [] statements
  pub called : List (ℕ × Call)
  pub call : AllZip SpellsCallLine sections.after_data called
  pub describes : Describes statements called script

-- the head, the definitions that are read up to `data`, and the calls up to `end`
parts_spelled : (version : ℕ) (l : Line) (lines : List Line) (d : ℕ × (Known × List Line)) (c : ℕ × (Called × List Line)) → HeadRead (words_of l) version
    → DefinitionsRead (version == 0) (lines_version (version == 0) version) nothing_known lines d → CallsRead (no_calls d.0 d.1.0) d.1.1 c → c.1.1 ≡ []
    → LinesSpelled (map words_of (l ∷ lines)) (script_of version d.0 d.1.0 c.1.0.calls)
parts_spelled version l lines d c first defined calls last =
    let end = ap (λ (ls : List Line). calls.own ++ (Plain (codes "end") ∷ []) ∷ map words_of ls) last in
    record {
      sections = record { head = words_of l; before_data = defined.own; after_data = calls.own };
      are = ap (λ (xs : List (List Word)). words_of l ∷ xs) (defined.are ∙ ap (λ (xs : List (List Word)). defined.own ++ (Plain (codes "data") ∷ []) ∷ xs) (calls.are ∙ end))
          ∙ sym (append_assoc (words_of l ∷ defined.own) ((Plain (codes "data") ∷ []) ∷ calls.own) ((Plain (codes "end") ∷ []) ∷ []));
      head = first;
      statements = defined.statements;
      say = defined.say;
      stand = subst (λ (b : Bool). Stand b [] [] [] defined.statements) (sym (no_not (version == 0))) (grind (arith, nat_tests, defined.grown.part));
      called = calls.called;
      call = calls.spells;
      describes = describes_read version d.0 defined.statements d.1.0 calls.called c.1.0.calls defined.grown defined.ranks
          (subst (λ (n : ℕ). list_all (λ x. nat_lt x.0 n) calls.called ≡ true) (length-replicate d.0 []) calls.there)
          (calls.calls ∙ from_none (λ r. calls_in r calls.called) 0 d.0);
    }

lines_spelled : (past : ℕ) (lines : List Line) (script : Script) → script_of_lines past lines ≡ Ok script → LinesSpelled (map words_of lines) script
lines_spelled past lines script h = grind (arith, nat_tests, step_then, no_calls, same_ok, parts_spelled, head_read, line_ok, definitions_read, calls_read)

-- ---- a whole text

pub read_spelled : (text : List ℕ) (script : Script) → Reads text script → Spells text script
read_spelled text script h =
    grind (
      arith,
      nat_tests,
      is_text text script h,
      lines_spelled (length (text_lines text) + 1) (significant text) script (is_text text script h).told,
      eqb-true (utf8_valid_len text) (length text) (is_text text script h).valid,
      read_lawful text script h,
    )
