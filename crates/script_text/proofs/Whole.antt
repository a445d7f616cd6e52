-- A whole script: what is printed of it spells it, and is so read as it.
use Rattle.script_text.proofs.Words.{◌≡◌, ◌∙◌, ℕ, zero, suc, ◌≤◌, List, [], ◌∷◌, ◌++◌, map, length, Bool, true, false, not, cond, ◌==◌, refl, sym, ap, subst, append_assoc, append-nil, arith, nat_tests, codes, decimal, list_all, list_all-append, list_all-map, AllZip, and_parts, and_from, or_cases, cond-false, ne_eqb, eq-eqb, eqb-true, all_joined, length-map, range_with_len, Header, Extra, Script, is_version, is_lawful, shown, Word, Plain, text_lines, significant, no_definition, header_of, most_bytes, most_lines, Reads}
use Rattle.serial_spec.proofs.Common.{lawful_parts}
use Rattle.script_spelling.specs.Statements.{Statement, RanksAre, IsFilled, VarLine, Stand}
use Rattle.script_spelling.specs.Described.{IsVarOf, calls_in, ToDataset, ranks_in, hint_values, fills_in, extras_in, attrs_of}
use Rattle.script_spelling.specs.Spelling.{Sections, Spells, SpellsHead, lines_of, version_of_lines}
use Rattle.script_spelling.proofs.CallLinesRead.{words_of}
use Rattle.script_spelling.proofs.Spelled.{read_spelled}
use Rattle.script_spelling.proofs.Told.{no_fill, not_filled, spelled_read}
use Rattle.script_text.proofs.Lines.{is_line, body, lines_again, significant_lines, valid_lines, valid_bytes}
use Rattle.script_text.proofs.Numerals.{size_again, size_plain}
use Rattle.script_text.proofs.PrintedValues.{is_read}
use Rattle.script_text.proofs.PrintedDefinitions.{within_again, within_plain}
use Rattle.script_text.proofs.CallLines.{are_named, call_lines, called_from, calls_named, calls_shown, calls_again, all_below, words_numbered}
use Rattle.script_text.proofs.StatementLines.{of_extra, AllAgain, all_again, Shows, shows_joined}
use Rattle.script_text.proofs.DefinedChains.{line_for, DefinedOk, definition_lines, definition_statements, defined_shown, defined_stand, Parts, parts, defined_parts, vars_told}
use Rattle.script_text.proofs.KeptDefinitions.{defined_kept, ExtrasOk, extras_kept}
use Rattle.script_text.proofs.ReadWords.{significant_read}
use Rattle.script_text.proofs.HintLines.{hint_tokens, hint_statements, all_given, hints_again, hints_once, ranks_told, hints_told, hints_shown}
use Rattle.script_text.proofs.ScriptLines.{fill_lines, content_lines, before_data, from_data, head_words, all_lines, all_spelled}

-- ---- what is printed says these statements

abbrev pub fill_statements : Bool → List Statement
fill_statements true = IsFilled ∷ []
fill_statements false = []

abbrev pub content : Bool → List Extra → Header → List Statement
content filled es header = fill_statements filled ++ (map of_extra es ++ definition_statements header)

abbrev pub statements : Script → List Statement
statements s = RanksAre s.ranks ∷ (hint_statements s.hints ++ content s.filled s.extra s.header)

-- those that neither number the ranks nor give hints: their lines, that they may stand there, and what they tell
pub record Content (fresh : Bool) (s : Script) : Type 0 where
  pub shown : Shows (version_of_lines s.header.version) (content_lines s.filled s.extra s.header) (content s.filled s.extra s.header)
  pub stand : Stand (not fresh) [] [] [] (content s.filled s.extra s.header)
  pub no_ranks : ranks_in (content s.filled s.extra s.header) ≡ []
  pub no_hints : (i : ℕ) → hint_values i (content s.filled s.extra s.header) ≡ []
  pub fills : fills_in (content s.filled s.extra s.header) ≡ cond s.filled 1 0
  pub dataset : ToDataset fresh (statements s) s

-- ---- of a new dataset

filled_shown : (version : ℕ) (filled : Bool) (wss : List (List Word)) (ss : List Statement) → Shows version wss ss → Shows version (fill_lines filled ++ wss) (fill_statements filled ++ ss)
filled_shown version true wss ss h = (and_from _ _ refl h.0, (refl, h.1))
filled_shown version false wss ss h = h

filled_stand : (filled : Bool) (ss : List Statement) → Stand false [] [] [] ss → Stand false [] [] [] (fill_statements filled ++ ss)
filled_stand filled ss h = grind (arith, nat_tests)

filled_parts : (filled : Bool) (i : ℕ) (n : List ℕ) (ss : List Statement) → fills_in ss ≡ 0 → parts i n (fill_statements filled ++ ss) ≡ record (parts i n ss) { fills = cond filled 1 0 }
filled_parts filled i n ss none = grind (arith, nat_tests)

new_version : (version : ℕ) → is_version version ≡ true → (version == 0) ≡ false
new_version zero h = absurd (cc)
new_version (suc n) h = ne_eqb (suc n) 0 (omega arith)

pub new_content : (s : Script) → is_version s.header.version ≡ true → s.header.records ≡ 0 → s.extra ≡ [] → DefinedOk s.header.version s.header → Content true s
new_content s new records none ok =
    subst (λ (es : List Extra). Content true (record s { extra = es })) (sym none)
    (let version = s.header.version in
    let lines = definition_lines s.header in
    let ss = definition_statements s.header in
    let own = λ (i : ℕ) (n : List ℕ). defined_parts i n s.header in
    let all = λ (i : ℕ) (n : List ℕ). filled_parts s.filled i n ss (ap (λ (p : Parts). p.fills) (own i n)) ∙ ap (λ (p : Parts). record p { fills = cond s.filled 1 0 }) (own i n) in
    let vars = ap (λ (p : Parts). p.vars) (all 0 []) ∙ append-nil (map (line_for s.header.dims) s.header.vars) in
    let told = vars_told version s.header.dims (λ n. attrs_of n (content s.filled [] s.header)) [] s.header.vars ok.vars (λ n none. ap (λ (p : Parts). p.attrs) (all 0 n)) in
    record {
      shown = filled_shown (version_of_lines version) s.filled lines ss (subst (λ (v : ℕ). Shows v lines ss) (sym (cond-false (version == 0) 5 version (new_version version new))) (defined_shown version s.header ok));
      stand = filled_stand s.filled ss (defined_stand version s.header ok);
      no_ranks = ap (λ (p : Parts). p.ranks) (all 0 []);
      no_hints = λ i. ap (λ (p : Parts). p.hint) (all i []);
      fills = ap (λ (p : Parts). p.fills) (all 0 []);
      dataset = record {
        dims = sym (ap (λ (p : Parts). p.dims) (all 0 []) ∙ append-nil s.header.dims);
        vars = subst (λ (ls : List VarLine). AllZip (λ (l : VarLine) v. IsVarOf s.header.dims (attrs_of l.name (content s.filled [] s.header)) l v) ls s.header.vars) (sym vars) told;
        attrs = sym (ap (λ (p : Parts). p.own) (all 0 []) ∙ append-nil s.header.attrs);
        records = records;
        extra = refl;
      };
    })

-- ---- of a dataset that is opened

abbrev Added : Type 0
Added = List ℕ × List ℕ × ℕ × List Extra

abbrev added : ℕ → List Statement → Added
added i ss = (ranks_in ss, hint_values i ss, fills_in ss, extras_in ss)

extras_told : (i : ℕ) (es : List Extra) → added i (map of_extra es ++ []) ≡ ([], [], 0, es)
extras_told i [] = refl
extras_told i (e ∷ es) = grind (arith, nat_tests, extras_told i es)

opened_content : (s : Script) → s.header ≡ header_of 0 no_definition → s.filled ≡ false → ExtrasOk [] [] [] s.extra → Content false s
opened_content s empty none ok =
    subst (λ (b : Bool). Content false (record s { filled = b })) (sym none) (subst (λ (h : Header). Content false (record s { header = h; filled = false })) (sym empty)
    (let told = extras_told 0 s.extra in
    grind (arith, nat_tests, shows_joined, append-nil, extras_told, ok.1, Added)))

-- ---- the head

abbrev pub HeadFits : Bool → ℕ → Type 0
HeadFits true version = is_version version ≡ true
HeadFits false version = version ≡ 0

head_kept : (ws : List Word) (fresh : Bool) (version : ℕ) → SpellsHead ws fresh version → HeadFits fresh version
head_kept ws true version (w, are, told) = grind (arith, nat_tests)
head_kept ws false version h = h.1

head_shown : (fresh : Bool) (version : ℕ) → HeadFits fresh version → (is_line (head_words fresh version) ≡ true) × SpellsHead (head_words fresh version) fresh version
head_shown true version h = grind (arith, nat_tests, eqb-true, or_cases, size_plain, size_again)
head_shown false version h = (refl, (refl, h))

-- ---- a whole text

pub spells_shown : (s : Script) → is_lawful s ≡ true → HeadFits s.fresh s.header.version → Content s.fresh s → are_named s.calls ≡ true → length (shown s) ≤ most_bytes
    → (length (text_lines (shown s)) ≡ length (all_lines s) → length (text_lines (shown s)) ≤ most_lines) → Spells (shown s) s
spells_shown s lawful fits c named short few =
    let law = lawful_parts s lawful in
    let version = version_of_lines s.header.version in
    let all = content s.filled s.extra s.header in
    let one_list = law.one_list_each in
    let few_ranks = law.few_ranks in
    let first = head_shown s.fresh s.header.version fits in
    let ranks = ranks_told s.ranks law.some_rank few_ranks in
    let rest = shows_joined version (hint_tokens s.hints) (hint_statements s.hints) (content_lines s.filled s.extra s.header) all (hints_shown version s.hints (hints_told s.hints law.hints)) c.shown in
    let before = and_from _ _ (and_from _ _ (within_plain 1 64 1 s.ranks ranks (omega arith)) refl) rest.0 in
    let calls = calls_shown s.ranks 0 s.calls (omega arith) law.each_call named in
    let last = (Plain (codes "end") ∷ []) ∷ [] in
    let lines : list_all is_line (all_lines s) ≡ true = and_from _ _ first.0 (all_joined is_line (before_data s) (from_data s.calls) before (all_joined is_line (call_lines 0 s.calls) last calls.0 refl)) in
    let long = ap (λ (text : List ℕ). length (text_lines text)) (sym (all_spelled s)) ∙ (ap length (lines_again (all_lines s) lines) ∙ length-map (all_lines s) body) in
    subst (λ (text : List ℕ). length text ≤ most_bytes → length (text_lines text) ≤ most_lines → Spells text s) (all_spelled s) (λ short few. record {
      short = short;
      few = few;
      utf8 = eqb-true _ _ (valid_lines (all_lines s) lines);
      sections = record { head = head_words s.fresh s.header.version; before_data = before_data s; after_data = call_lines 0 s.calls };
      lines = ap (map words_of) (significant_lines (all_lines s) lines)
          ∙ (words_numbered 1 (all_lines s) lines ∙ sym (append_assoc (head_words s.fresh s.header.version ∷ before_data s) ((Plain (codes "data") ∷ []) ∷ call_lines 0 s.calls) last));
      head = first.1;
      statements = statements s;
      say = ((decimal s.ranks, refl, within_again 1 64 1 s.ranks ranks (omega arith)), rest.1);
      stand = c.stand;
      called = called_from 0 s.calls;
      call = calls.1;
      describes = record {
        ranks = ap (λ (ns : List ℕ). s.ranks ∷ ns) c.no_ranks;
        hint_table = all_given s.hints;
        given = λ i. hints_once s.hints all i (c.no_hints i);
        hints = sym (hints_again s.ranks s.hints);
        filled = c.fills;
        dataset = c.dataset;
        there = all_below s.ranks 0 s.calls (omega arith);
        calls = subst (λ (n : ℕ). s.calls ≡ map (λ r. calls_in r (called_from 0 s.calls)) (range_with_len 0 n)) one_list (calls_again s.calls);
      };
      lawful = lawful;
    }) short (few long)

-- ---- a script that is read

content_kept : (fresh : Bool) (s : Script) (ss : List Statement) → AllAgain (version_of_lines s.header.version) ss → Stand (not fresh) [] [] [] ss → HeadFits fresh s.header.version → fills_in ss ≡ cond s.filled 1 0 → ToDataset fresh ss s → Content fresh s
content_kept true s ss again stand new filled d =
    grind (arith, nat_tests, new_content s new d.records d.extra, defined_kept s.header.version ss s d, new_version s.header.version new)
content_kept false s ss again stand old filled d =
    opened_content s d.header (not_filled s.filled (fills_in ss) filled (no_fill ss [] [] [] stand))
    (subst (ExtrasOk [] [] []) (sym d.extra) (extras_kept [] [] [] ss (subst (λ (v : ℕ). AllAgain (version_of_lines v) ss) old again) stand))

abbrev all_read : List (List Word) → Bool
all_read wss = list_all (list_all is_read) wss

sections_read : (s : Sections) → all_read (lines_of s) ≡ true → (all_read s.before_data ≡ true) × (all_read s.after_data ≡ true)
sections_read s h = grind (arith, nat_tests, list_all-append, and_parts)

pub shown_again : (text : List ℕ) (script : Script) → Reads text script → length (shown script) ≤ most_bytes → length (text_lines (shown script)) ≤ most_lines → Reads (shown script) script
shown_again text s reads short few =
    let h = read_spelled text s reads in
    let bytes = significant_read text (valid_bytes text (eq-eqb _ _ h.utf8)) in
    let read = sections_read h.sections (ap all_read (sym h.lines) ∙ (list_all-map (list_all is_read) words_of (significant text) ∙ bytes)) in
    grind (arith, nat_tests, all_again, head_kept, calls_named, spelled_read, spells_shown, content_kept, h.describes.calls, h.stand, h.describes.filled, h.describes.dataset)
