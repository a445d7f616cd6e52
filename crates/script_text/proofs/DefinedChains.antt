-- The definitions of a new dataset in their canonical order: their lines are cut again and say them, they may stand behind one another, and they tell the dataset.
use Rattle.script_text.proofs.Words.{◌≡◌, ◌∙◌, ℕ, List, [], ◌∷◌, ◌++◌, map, true, false, cond, Option, Some, None, refl, sym, ap, subst, append_assoc, append-nil, arith, nat_tests, bytes_eq, codes, list_any, and_from, and_left, and_right, or_from, or_left, or_right, or_parts, list_any-append, AllZip, Dim, Attr, Var, Header, Word, is_among, var_names, Title, same_title, common_steps}
use Rattle.script_spelling.specs.Statements.{Statement, DimIs, VarIs, AttIs, VarLine, owner_word, IsOwner, DimStands, VarStands, OwnerStands, Stand}
use Rattle.script_spelling.specs.Described.{IsVarOf, ranks_in, hint_values, fills_in, dims_in, vars_in, own_attrs, attrs_of}
use Rattle.script_spelling.proofs.Places.{name_at, bytes_same, bytes_own}
use Rattle.script_spelling.proofs.LinesRead.{no_colon}
use Rattle.script_text.proofs.PrintedAttributes.{AttrAgain}
use Rattle.script_text.proofs.StatementLines.{line_of_dim, line_of_var, line_of_att, Shown, Shows, shows_joined, att_shown}

-- ---- what holds of each, behind those before it

abbrev pub DimChain : ℕ → List Dim → List Dim → Type 0
DimChain version front [] = Unit {0}
DimChain version front (d ∷ ds) = Shown version (line_of_dim d) (DimIs d) × DimStands front d × DimChain version (front ++ d ∷ []) ds

-- the line of a variable
abbrev pub line_for : List Dim → Var → VarLine
line_for dims v = record { kind = v.kind; name = v.name; dims = map (name_at dims) v.dims }

pub record VarOk (version : ℕ) (dims : List Dim) (names : List (List ℕ)) (v : Var) : Type 0 where
  pub shown : Shown version (line_of_var (line_for dims v)) (VarIs (line_for dims v))
  pub stands : VarStands false dims names (line_for dims v)
  pub told : IsVarOf dims v.attrs (line_for dims v) v

abbrev pub VarChain : ℕ → List Dim → List (List ℕ) → List Var → Type 0
VarChain version dims names [] = Unit {0}
VarChain version dims names (v ∷ vs) = VarOk version dims names v × VarChain version dims (names ++ v.name ∷ []) vs

-- the attributes of one owner, after others of these names
abbrev pub AttrChain : ℕ → List (List ℕ) → List Attr → Type 0
AttrChain version names [] = Unit {0}
AttrChain version names (a ∷ list) = AttrAgain version a × (is_among a.name names ≡ false) × AttrChain version (names ++ a.name ∷ []) list

abbrev pub OwnChains : ℕ → List Var → Type 0
OwnChains version [] = Unit {0}
OwnChains version (v ∷ vs) = AttrChain version [] v.attrs × OwnChains version vs

pub record DefinedOk (version : ℕ) (header : Header) : Type 0 where
  pub dims : DimChain version [] header.dims
  pub vars : VarChain version header.dims [] header.vars
  pub attrs : AttrChain version [] header.attrs
  pub own : OwnChains version header.vars

-- ---- their lines and statements

abbrev pub lines_of_own : List Var → List (List Word)
lines_of_own [] = []
lines_of_own (v ∷ vs) = map (line_of_att (Some v.name)) v.attrs ++ lines_of_own vs

abbrev own_statements : List Var → List Statement
own_statements [] = []
own_statements (v ∷ vs) = map (λ (a : Attr). AttIs (Some v.name) a) v.attrs ++ own_statements vs

abbrev pub definition_lines : Header → List (List Word)
definition_lines h = map line_of_dim h.dims ++ (map (λ v. line_of_var (line_for h.dims v)) h.vars ++ (map (line_of_att None) h.attrs ++ lines_of_own h.vars))

abbrev pub definition_statements : Header → List Statement
definition_statements h =
    map (λ (d : Dim). DimIs d) h.dims ++ (map (λ (v : Var). VarIs (line_for h.dims v)) h.vars ++ (map (λ (a : Attr). AttIs None a) h.attrs ++ own_statements h.vars))

dims_shown : (version : ℕ) (front ds : List Dim) → DimChain version front ds → Shows version (map line_of_dim ds) (map (λ (d : Dim). DimIs d) ds)
dims_shown version front [] h = (refl, tt)
dims_shown version front (d ∷ ds) h = let more = dims_shown version (front ++ d ∷ []) ds h.2 in (and_from _ _ h.0.0 more.0, (h.0.1, more.1))

vars_shown : (version : ℕ) (dims : List Dim) (names : List (List ℕ)) (vs : List Var) → VarChain version dims names vs → Shows version (map (λ v. line_of_var (line_for dims v)) vs) (map (λ (v : Var). VarIs (line_for dims v)) vs)
vars_shown version dims names [] h = (refl, tt)
vars_shown version dims names (v ∷ vs) h = let more = vars_shown version dims (names ++ v.name ∷ []) vs h.1 in (and_from _ _ h.0.shown.0 more.0, (h.0.shown.1, more.1))

atts_shown : (version : ℕ) (o : Option (List ℕ)) (names : List (List ℕ)) (list : List Attr) → IsOwner o → AttrChain version names list → Shows version (map (line_of_att o) list) (map (λ (a : Attr). AttIs o a) list)
atts_shown version o names [] is h = (refl, tt)
atts_shown version o names (a ∷ list) is h =
    let first = att_shown version o a is h.0 in
    let more = atts_shown version o (names ++ a.name ∷ []) list is h.2 in
    (and_from _ _ first.0 more.0, (first.1, more.1))

own_shown : (version : ℕ) (dims : List Dim) (names : List (List ℕ)) (vs : List Var) → VarChain version dims names vs → OwnChains version vs → Shows version (lines_of_own vs) (own_statements vs)
own_shown version dims names [] h own = (refl, tt)
own_shown version dims names (v ∷ vs) h own =
    shows_joined version (map (line_of_att (Some v.name)) v.attrs) (map (λ (a : Attr). AttIs (Some v.name) a) v.attrs) (lines_of_own vs) (own_statements vs) (atts_shown version (Some v.name) [] v.attrs h.0.shown.1.5 own.0) (own_shown version dims (names ++ v.name ∷ []) vs h.1 own.1)

pub defined_shown : (version : ℕ) (h : Header) → DefinedOk version h → Shows version (definition_lines h) (definition_statements h)
defined_shown version h ok =
    let own_lines = map (line_of_att None) h.attrs in
    grind (arith, common_steps, shows_joined version (map line_of_dim h.dims) (map (λ (d : Dim). DimIs d) h.dims) ((map (λ v. line_of_var (line_for h.dims v)) h.vars) ++ (own_lines ++ lines_of_own h.vars)), dims_shown version [] h.dims ok.dims, shows_joined version (map (λ v. line_of_var (line_for h.dims v)) h.vars) (map (λ (v : Var). VarIs (line_for h.dims v)) h.vars) (own_lines ++ lines_of_own h.vars), vars_shown version h.dims [] h.vars ok.vars, shows_joined version own_lines (map (λ (a : Attr). AttIs None a) h.attrs) (lines_of_own h.vars) (own_statements h.vars) (atts_shown version None [] h.attrs tt ok.attrs), atts_shown version None [] h.attrs tt ok.attrs, own_shown version h.dims [] h.vars ok.vars ok.own)

-- ---- they may stand behind one another

dims_stand : (version : ℕ) (front ds : List Dim) (names : List (List ℕ)) (titles : List Title) (more : List Statement) → DimChain version front ds → Stand false (front ++ ds) names titles more
    → Stand false front names titles (map (λ (d : Dim). DimIs d) ds ++ more)
dims_stand version front [] names titles more h k = subst (λ (xs : List Dim). Stand false xs names titles more) (append-nil front) k
dims_stand version front (d ∷ ds) names titles more h k =
    (h.1, dims_stand version (front ++ d ∷ []) ds names titles more h.2 (subst (λ (xs : List Dim). Stand false xs names titles more) (sym (append_assoc front (d ∷ []) ds)) k))

vars_stand : (version : ℕ) (dims : List Dim) (names : List (List ℕ)) (vs : List Var) (titles : List Title) (more : List Statement) → VarChain version dims names vs → Stand false dims (names ++ var_names vs) titles more
    → Stand false dims names titles (map (λ (v : Var). VarIs (line_for dims v)) vs ++ more)
vars_stand version dims names [] titles more h k = subst (λ (ns : List (List ℕ)). Stand false dims ns titles more) (append-nil names) k
vars_stand version dims names (v ∷ vs) titles more h k =
    (h.0.stands, vars_stand version dims (names ++ v.name ∷ []) vs titles more h.1 (subst (λ (ns : List (List ℕ)). Stand false dims ns titles more) (sym (append_assoc names (v.name ∷ []) (var_names vs))) k))

-- of this owner no title stands there but of these names
abbrev FreshOwner : List Title → List ℕ → List (List ℕ) → Type 0
FreshOwner titles owner names = (n : List ℕ) → is_among n names ≡ false → list_any (same_title (owner, n)) titles ≡ false

fresh_pushed : (titles : List Title) (owner : List ℕ) (names : List (List ℕ)) (m : List ℕ) → FreshOwner titles owner names → FreshOwner (titles ++ (owner, m) ∷ []) owner (names ++ m ∷ [])
fresh_pushed titles owner names m h n none = grind (arith, nat_tests, or_parts, bytes_eq, list_any-append, or_from, and_right)

abbrev titles_of : List ℕ → List Attr → List Title
titles_of owner list = map (λ (a : Attr). (owner, a.name)) list

atts_stand : (version : ℕ) (dims : List Dim) (all : List (List ℕ)) (o : Option (List ℕ)) (list : List Attr) (names : List (List ℕ)) (titles : List Title) (more : List Statement) → OwnerStands false all o
    → AttrChain version names list → FreshOwner titles (owner_word o) names → Stand false dims all (titles ++ titles_of (owner_word o) list) more → Stand false dims all titles (map (λ (a : Attr). AttIs o a) list ++ more)
atts_stand version dims all o [] names titles more there h fresh k = subst (λ (ts : List Title). Stand false dims all ts more) (append-nil titles) k
atts_stand version dims all o (a ∷ list) names titles more there h fresh k =
    let next = titles ++ (owner_word o, a.name) ∷ [] in grind (arith, common_steps, atts_stand version dims all o list (names ++ a.name ∷ []) next more there h.2 (fresh_pushed titles (owner_word o) names a.name fresh), fresh_pushed titles (owner_word o) names a.name fresh)

-- the titles are of owners of these names, or of the dataset
abbrev Apart : List Title → List (List ℕ) → Type 0
Apart titles names = (owner : List ℕ) → bytes_eq owner (codes ":") ≡ false → is_among owner names ≡ false → (n : List ℕ) → list_any (same_title (owner, n)) titles ≡ false

other_titles : (owner other n : List ℕ) (list : List Attr) → bytes_eq owner other ≡ false → list_any (same_title (owner, n)) (titles_of other list) ≡ false
other_titles owner other n [] h = refl
other_titles owner other n (a ∷ list) h = or_from _ _ (and_left _ _ h) (other_titles owner other n list h)

new_there : (names : List (List ℕ)) (n : List ℕ) (more : List (List ℕ)) → is_among n (names ++ n ∷ more) ≡ true
new_there names n more = list_any-append (bytes_eq n) names (n ∷ more) ∙ or_right _ _ (or_left _ _ (bytes_own n))

own_stand : (version : ℕ) (dims : List Dim) (all names : List (List ℕ)) (vs : List Var) (titles : List Title) → all ≡ names ++ var_names vs → VarChain version dims names vs → OwnChains version vs → Apart titles names
    → Stand false dims all titles (own_statements vs)
own_stand version dims all names [] titles e h own apart = tt
own_stand version dims all names (v ∷ vs) titles e h own apart =
    let there : is_among v.name all ≡ true = ap (is_among v.name) e ∙ new_there names v.name (var_names vs) in
    grind (arith, common_steps, no_colon v.name h.0.shown.1.5, atts_stand version dims all (Some v.name) v.attrs [] titles (own_statements vs) there own.0, own_stand version dims all (names ++ v.name ∷ []) vs (titles ++ titles_of v.name v.attrs) (e ∙ sym (append_assoc names (v.name ∷ []) (var_names vs))) h.1 own.1, other_titles, or_parts, bytes_eq, list_any-append, or_from)

pub defined_stand : (version : ℕ) (h : Header) → DefinedOk version h → Stand false [] [] [] (definition_statements h)
defined_stand version h ok =
    dims_stand version [] h.dims [] [] _ ok.dims (grind (arith, common_steps, vars_stand version h.dims [] h.vars [], atts_stand version h.dims (var_names h.vars) None h.attrs [] [], own_stand version h.dims (var_names h.vars) [] h.vars (titles_of (codes ":") h.attrs), other_titles))

-- ---- what they tell

-- the values of a hint, the attributes of a variable, and the rest
pub record Parts : Type 0 where
  pub ranks : List ℕ
  pub hint : List ℕ
  pub fills : ℕ
  pub dims : List Dim
  pub vars : List VarLine
  pub own : List Attr
  pub attrs : List Attr

abbrev pub parts : ℕ → List ℕ → List Statement → Parts
parts i n ss = record { ranks = ranks_in ss; hint = hint_values i ss; fills = fills_in ss; dims = dims_in ss; vars = vars_in ss; own = own_attrs ss; attrs = attrs_of n ss }

abbrev parts_on : List Dim → List VarLine → List Attr → List Attr → Parts → Parts
parts_on ds ls own list p = record p { dims = ds ++ p.dims; vars = ls ++ p.vars; own = own ++ p.own; attrs = list ++ p.attrs }

-- the attributes of the variables of a name
abbrev own_of : List ℕ → List Var → List Attr
own_of n [] = []
own_of n (v ∷ vs) = cond (bytes_eq v.name n) v.attrs [] ++ own_of n vs

module _ (i : ℕ) (n : List ℕ) where
  dims_parts : (ds : List Dim) (more : List Statement) → parts i n (map (λ (d : Dim). DimIs d) ds ++ more) ≡ parts_on ds [] [] [] (parts i n more)
  dims_parts [] more = refl
  dims_parts (d ∷ ds) more = ap (parts_on (d ∷ []) [] [] []) (dims_parts ds more)

  vars_parts : (dims : List Dim) (vs : List Var) (more : List Statement) → parts i n (map (λ (v : Var). VarIs (line_for dims v)) vs ++ more) ≡ parts_on [] (map (line_for dims) vs) [] [] (parts i n more)
  vars_parts dims [] more = refl
  vars_parts dims (v ∷ vs) more = ap (parts_on [] (line_for dims v ∷ []) [] []) (vars_parts dims vs more)

  own_parts : (list : List Attr) (more : List Statement) → parts i n (map (λ (a : Attr). AttIs None a) list ++ more) ≡ parts_on [] [] list [] (parts i n more)
  own_parts [] more = refl
  own_parts (a ∷ list) more = ap (parts_on [] [] (a ∷ []) []) (own_parts list more)

  attrs_parts : (m : List ℕ) (list : List Attr) (more : List Statement) → parts i n (map (λ (a : Attr). AttIs (Some m) a) list ++ more) ≡ parts_on [] [] [] (cond (bytes_eq m n) list []) (parts i n more)
  attrs_parts m [] more = grind (arith, nat_tests)
  attrs_parts m (a ∷ list) more = grind (arith, nat_tests, attrs_parts m list more, parts, parts_on)

  all_attrs_parts : (vs : List Var) → parts i n (own_statements vs) ≡ record { ranks = []; hint = []; fills = 0; dims = []; vars = []; own = []; attrs = own_of n vs }
  all_attrs_parts [] = refl
  all_attrs_parts (v ∷ vs) = attrs_parts v.name v.attrs (own_statements vs) ∙ ap (parts_on [] [] [] (cond (bytes_eq v.name n) v.attrs [])) (all_attrs_parts vs)

  pub defined_parts : (h : Header) → parts i n (definition_statements h) ≡ record { ranks = []; hint = []; fills = 0; dims = h.dims ++ []; vars = map (line_for h.dims) h.vars ++ []; own = h.attrs ++ []; attrs = own_of n h.vars }
  defined_parts h = grind (arith, nat_tests, dims_parts h.dims, vars_parts h.dims h.vars, own_parts h.attrs, all_attrs_parts h.vars)

other_name : (a b : List ℕ) (names : List (List ℕ)) → is_among a names ≡ true → is_among b names ≡ false → bytes_eq b a ≡ false
other_name a b names there none = grind (arith, nat_tests, bytes_same b a)

bytes_other : (a b : List ℕ) → bytes_eq a b ≡ false → bytes_eq b a ≡ false
bytes_other a b h = grind (arith, nat_tests, bytes_same b a, bytes_own a)

-- variables behind one of this name have none
none_of : (version : ℕ) (dims : List Dim) (names : List (List ℕ)) (n : List ℕ) (vs : List Var) → VarChain version dims names vs → is_among n names ≡ true → own_of n vs ≡ []
none_of version dims names n [] h there = refl
none_of version dims names n (v ∷ vs) h there =
    grind (arith, nat_tests, other_name n v.name names there h.0.stands.0, none_of version dims (names ++ v.name ∷ []) n vs h.1, list_any-append, or_left)

pub vars_told : (version : ℕ) (dims : List Dim) (f : List ℕ → List Attr) (names : List (List ℕ)) (vs : List Var) → VarChain version dims names vs → ((n : List ℕ) → is_among n names ≡ false → f n ≡ own_of n vs)
    → AllZip (λ (line : VarLine) v. IsVarOf dims (f line.name) line v) (map (line_for dims) vs) vs
vars_told version dims f names [] h each = tt
vars_told version dims f names (v ∷ vs) h each =
    let more = names ++ v.name ∷ [] in
    let own : f v.name ≡ v.attrs =
    grind (arith, nat_tests, bytes_own, none_of, new_there, append-nil, h.0.stands.0, own_of) in
    let rest = vars_told version dims f more vs h.1 (grind (arith, common_steps, bytes_other)) in
    (subst (λ (list : List Attr). IsVarOf dims list (line_for dims v) v) (sym own) h.0.told, rest)
