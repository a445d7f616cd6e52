-- The hints, as they are printed, and as they are said again.
use Rattle.script_text.proofs.Words.{eq-eqb, ne_eqb, cond-false, cond-true, ◌+◌, eqb-true, is_within, is_alignment, are_lawful_hints, ◌≡◌, ◌∙◌, ℕ, ◌^◌, ◌≤◌, ◌<◌, List, [], ◌∷◌, ◌++◌, map, Bool, true, Option, Some, refl, ap, arith, codes, and_parts, and_from, Hints, OverlapRule, shown_hint, shown_hints, Word, Plain, Within, HintForm, HintRow, flag, rule_number, rule_of, off_or_on, refuse_or_serial, hint_table, hint_of_text, hint_form, shown_value, hint_in, hints_of, nat_tests, suc, zero, drop}
use Rattle.std.proofs.Common.{flat_map}
use Rattle.script_spelling.specs.Statements.{Statement, HintIs, hint_value_of}
use Rattle.script_spelling.specs.Described.{at_most_one, hint_values}
use Rattle.script_text.proofs.Lexing.{is_plain}
use Rattle.script_text.proofs.Lines.{spelled}
use Rattle.script_text.proofs.PrintedDefinitions.{is_value_of, within_again, within_plain}
use Rattle.script_text.proofs.StatementLines.{Shows, mapped_spelled}

-- ---- the hints as they are printed

abbrev hint_line_of : List ℕ → List ℕ → List Word
hint_line_of word shown = Plain (codes "hint") ∷ Plain word ∷ Plain shown ∷ []

abbrev hint_words : Hints → HintRow → List Word
hint_words h row = hint_line_of row.word (shown_value row.form (row.seen h))

abbrev pub hint_tokens : Hints → List (List Word)
hint_tokens h = map (hint_words h) hint_table

pub hints_spelled : (h : Hints) → flat_map spelled (hint_tokens h) ≡ shown_hints h
hints_spelled h = mapped_spelled (shown_hint h) (hint_words h) (λ row. refl) hint_table

-- ---- the hints as numbers

-- one for each of the table
abbrev hint_numbers : Hints → List ℕ
hint_numbers h =
    h.cb_nodes ∷ h.cb_buffer ∷ h.rd_buffer ∷ h.wr_buffer ∷ h.line_room ∷ flag h.threads ∷ rule_number h.overlap ∷ h.header_align ∷ h.var_align ∷ h.striping_unit ∷ []

abbrev pub all_given : Hints → List (Option ℕ)
all_given h = map (λ v. Some v) (hint_numbers h)

rule_again : (o : OverlapRule) → rule_of (rule_number o) ≡ o
rule_again o = grind (arith, nat_tests)

pub hints_again : (ranks : ℕ) (h : Hints) → hints_of ranks (all_given h) ≡ h
hints_again ranks h = grind (arith, nat_tests, rule_again h.overlap)

-- those that are numbers are within their ranges
pub record HintsFit (h : Hints) : Type 0 where
  pub cb_nodes : is_value_of (Within 1 64 1) h.cb_nodes ≡ true
  pub cb_buffer : is_value_of (Within 1 33554432 1) h.cb_buffer ≡ true
  pub rd_buffer : is_value_of (Within 1 33554432 1) h.rd_buffer ≡ true
  pub wr_buffer : is_value_of (Within 1 33554432 1) h.wr_buffer ≡ true
  pub line_room : is_value_of (Within 1 64 1) h.line_room ≡ true
  pub header_align : is_value_of (Within 4 1048576 4) h.header_align ≡ true
  pub var_align : is_value_of (Within 4 1048576 4) h.var_align ≡ true
  pub striping_unit : is_value_of (Within 1 33554432 1) h.striping_unit ≡ true

pub ranks_told : (n : ℕ) → 1 ≤ n → n ≤ 64 → is_value_of (Within 1 64 1) n ≡ true
ranks_told n low high = grind (arith, nat_tests)

pub hints_told : (h : Hints) → are_lawful_hints h ≡ true → HintsFit h
hints_told h lawful =
    let p7 = and_parts _ (is_within 1 (2 ^ 25) h.striping_unit) lawful in
    let p6 = and_parts _ (is_alignment h.var_align) p7.0 in
    let p5 = and_parts _ (is_alignment h.header_align) p6.0 in
    grind (arith, nat_tests, and_parts, eqb-true, and_from, eq-eqb, p5.0)

-- ---- the lines of the hints

-- the value of a hint of this form, printed, is said again
record HintAgain (f : HintForm) (n : ℕ) : Type 0 where
  plain : is_plain (shown_value f n) ≡ true
  again : hint_value_of f (shown_value f n) ≡ Some n

flag_told : (b : Bool) → HintAgain off_or_on (flag b)
flag_told b = grind (arith, nat_tests)

rule_told : (o : OverlapRule) → HintAgain refuse_or_serial (rule_number o)
rule_told o = grind (arith, nat_tests)

abbrev hints_from : ℕ → List ℕ → List Statement
hints_from i [] = []
hints_from i (v ∷ vs) = HintIs i v ∷ hints_from (i + 1) vs

abbrev pub hint_statements : Hints → List Statement
hint_statements h = hints_from 0 (hint_numbers h)

-- a hint, and those that follow
hint_on : (version : ℕ) (word : List ℕ) (i v : ℕ) (wss : List (List Word)) (ss : List Statement) → is_plain word ≡ true → hint_of_text word ≡ Some i → HintAgain (hint_form i) v → Shows version wss ss
    → Shows version (hint_line_of word (shown_value (hint_form i) v) ∷ wss) (HintIs i v ∷ ss)
hint_on version word i v wss ss plain at told more = grind (arith, nat_tests)

pub hints_shown : (version : ℕ) (h : Hints) → HintsFit h → Shows version (hint_tokens h) (hint_statements h)
hints_shown version h fit =
    let next = λ (n : ℕ). drop n (hint_tokens h) in
    grind (arith, nat_tests, hint_on version (codes "cb_nodes") 0 h.cb_nodes (next 1), hint_on version (codes "cb_buffer_size") 1 h.cb_buffer (next 2), hint_on version (codes "ind_rd_buffer_size") 2 h.rd_buffer (next 3), hint_on version (codes "ind_wr_buffer_size") 3 h.wr_buffer (next 4), hint_on version (codes "line_room") 4 h.line_room (next 5), hint_on version (codes "threads") 5 (flag h.threads) (next 6), flag_told h.threads, hint_on version (codes "overlap") 6 (rule_number h.overlap) (next 7), rule_told h.overlap, hint_on version (codes "nc_header_align_size") 7 h.header_align (next 8), hint_on version (codes "nc_var_align_size") 8 h.var_align (next 9), hint_on version (codes "striping_unit") 9 h.striping_unit [] [], drop, hint_statements, within_plain, within_again)

none_before : (n k : ℕ) (vs : List ℕ) (more : List Statement) → n < k → hint_values n (hints_from k vs ++ more) ≡ hint_values n more
none_before n k [] more low = refl
none_before n k (v ∷ vs) more low = cond-false _ _ _ (ne_eqb k n (omega arith)) ∙ none_before n (k + 1) vs more (omega arith)

given_once : (i k n : ℕ) (vs : List ℕ) (more : List Statement) → n ≡ k + i → hint_values n more ≡ [] → hint_values n (hints_from k vs ++ more) ≡ at_most_one (hint_in i (map (λ v. Some v) vs))
given_once i k n [] more e none = none
given_once zero k n (v ∷ vs) more e none = cond-true _ _ _ (eq-eqb k n (omega arith)) ∙ ap (λ (us : List ℕ). v ∷ us) (none_before n (k + 1) vs more (omega arith) ∙ none)
given_once (suc i) k n (v ∷ vs) more e none = cond-false _ _ _ (ne_eqb k n (omega arith)) ∙ given_once i (k + 1) n vs more (omega arith) none

-- each hint is given once
pub hints_once : (h : Hints) (more : List Statement) (i : ℕ) → hint_values i more ≡ [] → hint_values i (hint_statements h ++ more) ≡ at_most_one (hint_in i (all_given h))
hints_once h more i none = given_once i 0 i (hint_numbers h) more (omega arith) none
