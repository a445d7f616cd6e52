-- The definitions of a script that is read, in their canonical order: each is said again, and may stand behind those before it.
use Rattle.script_text.proofs.Words.{◌≡◌, ◌∙◌, ℕ, List, [], ◌∷◌, ◌++◌, map, true, false, Some, None, refl, sym, ap, append_assoc, codes, list_any, and_from, or_parts, or_from, list_any-append, AllZip, Attr, Dim, Var, Script, Extra, is_among, Title, same_title, arith, nat_tests, common_steps}
use Rattle.script_spelling.specs.Statements.{Statement, DimIs, VarIs, AttIs, VarLine, VarStands, Stand}
use Rattle.script_spelling.specs.Described.{Defines, IsVarOf, dims_in, vars_in, own_attrs, attrs_of, extras_in}
use Rattle.script_spelling.proofs.Places.{names_shown, more_ids, more_records, bytes_same, bytes_own}
use Rattle.script_text.proofs.StatementLines.{line_of_var, extra_line, of_extra, Shown, Shows, AllAgain, att_shown}
use Rattle.script_text.proofs.DefinedChains.{DimChain, VarOk, VarChain, AttrChain, OwnChains, DefinedOk}

-- ---- variables

var_kept : (version : ℕ) (all dims later : List Dim) (names : List (List ℕ)) (l : VarLine) (v : Var) (attrs : List Attr) → all ≡ dims ++ later → Shown version (line_of_var l) (VarIs l) → VarStands false dims names l → IsVarOf all attrs l v
    → VarOk version all names v
var_kept version all dims later names l v attrs e shown stands told =
    grind (arith, nat_tests, names_shown all l.dims v.dims told.0, more_ids dims later l.dims stands.3.0 stands.3.1, more_records dims later l.dims stands.3.0 stands.3.1 stands.3.2)

vars_kept : (version : ℕ) (all dims : List Dim) (names : List (List ℕ)) (titles : List Title) (f : List ℕ → List Attr) (ss : List Statement) (vs : List Var) → all ≡ dims ++ dims_in ss → AllAgain version ss → Stand false dims names titles ss
    → AllZip (λ (l : VarLine) v. IsVarOf all (f l.name) l v) (vars_in ss) vs → VarChain version all names vs
vars_kept version all dims names titles f [] vs e again stand told = grind (arith, nat_tests)
vars_kept version all dims names titles f (DimIs d ∷ ss) vs e again stand told = vars_kept version all (dims ++ d ∷ []) names titles f ss vs (e ∙ sym (append_assoc dims (d ∷ []) (dims_in ss))) again.1 stand.1 told
vars_kept version all dims names titles f (VarIs l ∷ ss) [] e again stand told = absurd told
vars_kept version all dims names titles f (VarIs l ∷ ss) (v ∷ vs) e again stand told =
    let name : l.name ≡ v.name = sym (ap (λ (w : Var). w.name) told.0.1) in
    grind (arith, nat_tests, vars_kept version all dims (names ++ l.name ∷ []) titles f ss vs e again.1 stand.1 told.1, var_kept version all dims (dims_in ss) names l v (f l.name) e again.0 stand.0 told.0)
vars_kept version all dims names titles f (AttIs o a ∷ ss) vs e again stand told = vars_kept version all dims names _ f ss vs e again.1 stand.2 told
vars_kept version all dims names titles f (s ∷ ss) vs e again stand told = vars_kept version all dims names titles f ss vs e again.1 (grind (arith, nat_tests)) told

-- ---- attributes

-- what has no title of this owner is none of these
abbrev Titled : List Title → List ℕ → List (List ℕ) → Type 0
Titled titles owner names = (n : List ℕ) → list_any (same_title (owner, n)) titles ≡ false → is_among n names ≡ false

titled_more : (titles : List Title) (t : Title) (owner : List ℕ) (names : List (List ℕ)) → Titled titles owner names → Titled (titles ++ t ∷ []) owner names
titled_more titles t owner names h n none = h n (or_parts (list_any (same_title (owner, n)) titles) _ (sym (list_any-append (same_title (owner, n)) titles (t ∷ [])) ∙ none)).0

titled_pushed : (titles : List Title) (owner : List ℕ) (names : List (List ℕ)) (m : List ℕ) → Titled titles owner names → Titled (titles ++ (owner, m) ∷ []) owner (names ++ m ∷ [])
titled_pushed titles owner names m h n none = grind (arith, nat_tests, or_parts, list_any-append, or_from, bytes_own owner)

-- the dimensions, the attributes of the dataset, and those of each variable
abbrev Kept : ℕ → List Dim → List Title → List Statement → Type 0
Kept version front titles ss =
    DimChain version front (dims_in ss) × ((done : List (List ℕ)) → Titled titles (codes ":") done → AttrChain version done (own_attrs ss))
    × ((n : List ℕ) (done : List (List ℕ)) → Titled titles n done → AttrChain version done (attrs_of n ss))

all_kept : (version : ℕ) (front : List Dim) (names : List (List ℕ)) (titles : List Title) (ss : List Statement) → AllAgain version ss → Stand false front names titles ss → Kept version front titles ss
all_kept version front names titles [] again stand = (tt, λ done h. tt, λ n done h. tt)
all_kept version front names titles (DimIs d ∷ ss) again stand = let more = all_kept version (front ++ d ∷ []) names titles ss again.1 stand.1 in ((again.0, stand.0, more.0), more.1, more.2)
all_kept version front names titles (VarIs l ∷ ss) again stand = all_kept version front _ titles ss again.1 stand.1
all_kept version front names titles (AttIs None a ∷ ss) again stand =
    let more = all_kept version front names (titles ++ (codes ":", a.name) ∷ []) ss again.1 stand.2 in
    (more.0, λ done h. (again.0.1, h a.name stand.1, more.1 (done ++ a.name ∷ []) (titled_pushed titles (codes ":") done a.name h)), λ n done h. more.2 n done (titled_more titles (codes ":", a.name) n done h))
all_kept version front names titles (AttIs (Some m) a ∷ ss) again stand =
    let more = all_kept version front names (titles ++ (m, a.name) ∷ []) ss again.1 stand.2 in grind (arith, common_steps, titled_more titles (m, a.name) (codes ":"), bytes_same m, titled_pushed, more.0, more.1, again.0.1, stand.1, more.2, attrs_of)
all_kept version front names titles (s ∷ ss) again stand = all_kept version front names titles ss again.1 (grind (arith, nat_tests))

all_attrs_kept : (version : ℕ) (all : List Dim) (f : List ℕ → List Attr) (ls : List VarLine) (vs : List Var) → AllZip (λ (l : VarLine) v. IsVarOf all (f l.name) l v) ls vs → ((n : List ℕ) → AttrChain version [] (f n)) → OwnChains version vs
all_attrs_kept version all f (l ∷ ls) (v ∷ vs) told each = grind (arith, nat_tests, all_attrs_kept version all f ls vs told.1 each)
all_attrs_kept version all f ls vs told each = grind (arith, nat_tests)

-- ---- all definitions of a new dataset

pub defined_kept : (version : ℕ) (ss : List Statement) (s : Script) → Defines ss s → AllAgain version ss → Stand false [] [] [] ss → DefinedOk version s.header
defined_kept version ss s d again stand =
    let kept = all_kept version [] [] [] ss again stand in
    grind (arith, common_steps, vars_kept version s.header.dims [] [] [] (λ n. attrs_of n ss) ss s.header.vars d.dims again stand d.vars, all_attrs_kept version s.header.dims (λ n. attrs_of n ss) (vars_in ss) s.header.vars d.vars)

-- ---- what is added to a dataset that is opened

abbrev pub ExtrasOk : List Dim → List (List ℕ) → List Title → List Extra → Type 0
ExtrasOk dims names titles es = Shows 5 (map extra_line es) (map of_extra es) × Stand true dims names titles (map of_extra es)

pub extras_kept : (dims : List Dim) (names : List (List ℕ)) (titles : List Title) (ss : List Statement) → AllAgain 5 ss → Stand true dims names titles ss → ExtrasOk dims names titles (extras_in ss)
extras_kept dims names titles [] again stand = ((refl, tt), tt)
extras_kept dims names titles (DimIs d ∷ ss) again stand =
    let more = extras_kept (dims ++ d ∷ []) names titles ss again.1 stand.1 in
    ((and_from _ _ again.0.0 more.0.0, (again.0.1, more.0.1)), (stand.0, more.1))
extras_kept dims names titles (VarIs l ∷ ss) again stand =
    let more = extras_kept dims (names ++ l.name ∷ []) titles ss again.1 stand.1 in
    ((and_from _ _ again.0.0 more.0.0, (again.0.1, more.0.1)), (stand.0, more.1))
extras_kept dims names titles (AttIs o a ∷ ss) again stand =
    let more = extras_kept dims names _ ss again.1 stand.2 in
    let first = att_shown 5 o a again.0.0 again.0.1 in
    ((and_from _ _ first.0 more.0.0, (first.1, more.0.1)), (stand.0, stand.1, more.1))
extras_kept dims names titles (s ∷ ss) again stand = extras_kept dims names titles ss again.1 (grind (arith, nat_tests))
