-- A script as its lines, which spell what is shown of it.
use Rattle.script_text.proofs.Words.{nat_tests, ◌≡◌, ◌∙◌, ℕ, List, [], ◌∷◌, ◌++◌, map, Bool, true, false, cond, Some, None, refl, ap, append_assoc, append-nil, codes, decimal, enumerate_from, Header, Var, Extra, Script, Call, line, shown, shown_hints, shown_extra, shown_dim, shown_var, shown_attr, shown_call, Word, Plain, flat_map-append, arith, common_steps}
use Rattle.std.proofs.Common.{flat_map}
use Rattle.script_text.proofs.Lines.{spelled}
use Rattle.script_text.proofs.CallLines.{call_lines, calls_spelled}
use Rattle.script_text.proofs.StatementLines.{line_of_dim, line_of_var, line_of_att, extra_line, extras_spelled, att_spelled, mapped_spelled}
use Rattle.script_text.proofs.DefinedChains.{line_for, lines_of_own, definition_lines}
use Rattle.script_text.proofs.HintLines.{hint_tokens, hints_spelled}

-- ---- a script, as its lines

abbrev pub ranks_words : ℕ → List Word
ranks_words n = Plain (codes "ranks") ∷ Plain (decimal n) ∷ []

abbrev pub fill_lines : Bool → List (List Word)
fill_lines true = (Plain (codes "fill") ∷ []) ∷ []
fill_lines false = []

-- the lines between the hints and `data`
abbrev pub content_lines : Bool → List Extra → Header → List (List Word)
content_lines filled es header = fill_lines filled ++ (map extra_line es ++ definition_lines header)

-- the lines between the head and `data`
abbrev pub before_data : Script → List (List Word)
before_data s = ranks_words s.ranks ∷ (hint_tokens s.hints ++ content_lines s.filled s.extra s.header)

abbrev pub from_data : List (List Call) → List (List Word)
from_data calls = (Plain (codes "data") ∷ []) ∷ (call_lines 0 calls ++ (Plain (codes "end") ∷ []) ∷ [])

-- of a new dataset of this version, or of an existing one
abbrev pub head_words : Bool → ℕ → List Word
head_words true version = Plain (codes "create") ∷ Plain (decimal version) ∷ []
head_words false version = Plain (codes "open") ∷ []

abbrev pub all_lines : Script → List (List Word)
all_lines s = head_words s.fresh s.header.version ∷ (before_data s ++ from_data s.calls)

-- ---- they spell what is shown

flat_then : (xs ys : List (List Word)) (text rest : List ℕ) → flat_map spelled xs ≡ text → flat_map spelled ys ≡ rest → flat_map spelled (xs ++ ys) ≡ text ++ rest
flat_then xs ys text rest a b = flat_map-append spelled xs ys ∙ (ap (λ (t : List ℕ). t ++ flat_map spelled ys) a ∙ ap (λ (t : List ℕ). text ++ t) b)

own_spelled : (vs : List Var) → flat_map spelled (lines_of_own vs) ≡ flat_map (λ v. flat_map (shown_attr v.name) v.attrs) vs
own_spelled [] = refl
own_spelled (v ∷ vs) = flat_then (map (line_of_att (Some v.name)) v.attrs) (lines_of_own vs) _ _ (mapped_spelled (shown_attr v.name) (line_of_att (Some v.name)) (att_spelled (Some v.name)) v.attrs) (own_spelled vs)

abbrev definitions_text : Header → List ℕ
definitions_text header =
    flat_map shown_dim header.dims ++ (flat_map (shown_var header) header.vars ++ (flat_map (shown_attr (codes ":")) header.attrs ++ flat_map (λ v. flat_map (shown_attr v.name) v.attrs) header.vars))

definitions_spelled : (h : Header) → flat_map spelled (definition_lines h) ≡ definitions_text h
definitions_spelled h =
    flat_then (map line_of_dim h.dims) _ _ _ (mapped_spelled shown_dim line_of_dim (λ x. refl) h.dims)
    (grind (arith, common_steps, flat_then (map (λ v. line_of_var (line_for h.dims v)) h.vars), mapped_spelled (shown_var h) (λ v. line_of_var (line_for h.dims v)), flat_then (map (line_of_att None) h.attrs) (lines_of_own h.vars), mapped_spelled (shown_attr (codes ":")) (line_of_att None) (att_spelled None) h.attrs, att_spelled None, own_spelled h.vars))

abbrev fill_text : Bool → List ℕ
fill_text filled = cond filled (line (codes "fill" ∷ [])) []

abbrev head_text : Bool → ℕ → List ℕ
head_text fresh version = cond fresh (line (codes "create" ∷ decimal version ∷ [])) (line (codes "open" ∷ []))

head_spelled : (fresh : Bool) (version : ℕ) → spelled (head_words fresh version) ≡ head_text fresh version
head_spelled fresh version = grind (arith, nat_tests)

regrouped : (a b c d e f g h i j k l : List ℕ) → a ++ ((b ++ (c ++ (d ++ (e ++ (f ++ (g ++ (h ++ i))))))) ++ (j ++ (k ++ l))) ≡ a ++ b ++ c ++ d ++ e ++ (f ++ g ++ h ++ i) ++ j ++ k ++ l
regrouped a b c d e f g h i j k l = simp append_assoc

pub all_spelled : (s : Script) → flat_map spelled (all_lines s) ≡ shown s
all_spelled s =
    let header = s.header in
    let first = head_text s.fresh header.version in
    let ranks = line (codes "ranks" ∷ decimal s.ranks ∷ []) in
    let data_text = line (codes "data" ∷ []) in
    let end_text = line (codes "end" ∷ []) in
    let calls_text = flat_map (λ p. flat_map (shown_call p.0) p.1) (enumerate_from 0 s.calls) in
    let extras = flat_map shown_extra s.extra in
    let before : flat_map spelled (before_data s) ≡ ranks ++ (shown_hints s.hints ++ (fill_text s.filled ++ (extras ++ definitions_text header))) =
    ap (λ (text : List ℕ). ranks ++ text)
    (flat_then (hint_tokens s.hints) _ (shown_hints s.hints) _ (hints_spelled s.hints)
    (grind (arith, common_steps, flat_then (fill_lines s.filled), flat_then (map extra_line s.extra) (definition_lines header) extras, extras_spelled s.extra, definitions_spelled header))) in
    let rest : flat_map spelled (from_data s.calls) ≡ data_text ++ (calls_text ++ end_text) =
    ap (λ (text : List ℕ). data_text ++ text) (flat_then (call_lines 0 s.calls) ((Plain (codes "end") ∷ []) ∷ []) calls_text end_text (calls_spelled 0 s.calls) (append-nil end_text)) in
    ap (λ (text : List ℕ). text ++ flat_map spelled (before_data s ++ from_data s.calls)) (head_spelled s.fresh header.version)
    ∙ (ap (λ (text : List ℕ). first ++ text) (flat_then (before_data s) (from_data s.calls) _ _ before rest)
    ∙ regrouped first ranks (shown_hints s.hints) (fill_text s.filled) extras (flat_map shown_dim header.dims) (flat_map (shown_var header) header.vars) (flat_map (shown_attr (codes ":")) header.attrs)
    (flat_map (λ v. flat_map (shown_attr v.name) v.attrs) header.vars) data_text calls_text end_text)
