-- The variables of a new dataset, and what later lines give them.
use Rattle.script_spelling.proofs.Words.{◌≡◌, ◌∙◌, ℕ, zero, suc, List, [], ◌∷◌, ◌++◌, map, position, Bool, true, false, not, cond, ◌&&◌, Some, unwrap_or, refl, sym, ap, subst, append_assoc, append-nil, bytes_eq, AllZip, and_parts, and_from, or_parts, or_from, or_left, not-true, not_from_false, map-append, list_any-append, Dim, Attr, Var, dim_ids, is_among, var_names, Title, VarLine, Statement, RanksAre, HintIs, IsFilled, DimIs, VarIs, AttIs, Stand, dims_in, vars_in, IsVarOf, arith, nat_tests}
use Rattle.script_spelling.proofs.Places.{bytes_same, more_ids, place_cases}
use Rattle.script_spelling.proofs.PushedAttrs.{push_attr}

-- ---- names

abbrev pub are_apart : List (List ℕ) → Bool
are_apart [] = true
are_apart (n ∷ names) = not (is_among n names) && are_apart names

pub apart_pushed : (names : List (List ℕ)) (n : List ℕ) → are_apart names ≡ true → is_among n names ≡ false → are_apart (names ++ n ∷ []) ≡ true
apart_pushed [] n all new = refl
apart_pushed (m ∷ names) n all new =
    grind (arith, nat_tests, apart_pushed names n, and_parts, and_from, or_parts, or_from, not-true, not_from_false, list_any-append, bytes_same m n)

pub names_pushed : (vars : List Var) (v : Var) → var_names (vars ++ v ∷ []) ≡ var_names vars ++ v.name ∷ []
names_pushed vars v = map-append (λ (x : Var). x.name) vars (v ∷ [])

pub names_kept : (k : ℕ) (a : Attr) (vars : List Var) → var_names (push_attr k a vars) ≡ var_names vars
names_kept k a [] = refl
names_kept zero a (v ∷ vars) = refl
names_kept (suc k) a (v ∷ vars) = ap (λ (names : List (List ℕ)). v.name ∷ names) (names_kept k a vars)

abbrev pub line_names : List VarLine → List (List ℕ)
line_names lines = map (λ line. line.name) lines

-- later lines define no variable of a name that is there
pub later_names : (opened : Bool) (dims : List Dim) (names : List (List ℕ)) (titles : List Title) (ss : List Statement) (n : List ℕ) → Stand opened dims names titles ss → is_among n names ≡ true → is_among n (line_names (vars_in ss)) ≡ false
later_names opened dims names titles [] n stand there = refl
later_names opened dims names titles (RanksAre m ∷ ss) n stand there = later_names opened dims names titles ss n stand there
later_names opened dims names titles (HintIs h v ∷ ss) n stand there = later_names opened dims names titles ss n stand there
later_names opened dims names titles (IsFilled ∷ ss) n stand there = later_names opened dims names titles ss n stand.1 there
later_names opened dims names titles (DimIs d ∷ ss) n stand there = later_names opened (dims ++ d ∷ []) names titles ss n stand.1 there
later_names opened dims names titles (VarIs line ∷ ss) n stand there =
    grind (arith, nat_tests, bytes_same n line.name, later_names opened dims (names ++ line.name ∷ []) titles ss n stand.1, list_any-append, or_left, or_from)
later_names opened dims names titles (AttIs owner a ∷ ss) n stand there = later_names opened dims names _ ss n stand.2 there

-- ---- variables, and the lines of others behind them

-- a variable without attributes, as its line defines it
abbrev pub var_of : VarLine → List ℕ → Var
var_of line ids = record { name = line.name; dims = ids; attrs = []; kind = line.kind; begin = 0 }

abbrev bare_var : List Dim → VarLine → Var
bare_var dims line = var_of line (unwrap_or (dim_ids dims line.dims) [])

-- a variable with these attributes more
abbrev grow : (List ℕ → List Attr) → Var → Var
grow more v = record v { attrs = v.attrs ++ more v.name }

-- the variables that are there and then those of the lines, with these attributes more
abbrev pub grown_vars : List Dim → (List ℕ → List Attr) → List Var → List VarLine → List Var
grown_vars dims more vars lines = map (grow more) vars ++ map (grow more) (map (bare_var dims) lines)

pub none_grown : (dims : List Dim) (vars : List Var) → grown_vars dims (λ n. []) vars [] ≡ vars
none_grown dims [] = refl
none_grown dims (v ∷ vars) = ap (λ (list : List Attr). record v { attrs = list } ∷ grown_vars dims (λ n. []) vars []) (append-nil v.attrs) ∙ ap (λ (vs : List Var). v ∷ vs) (none_grown dims vars)

-- dimensions that are found are found where there are more
still_found : (dims later all : List Dim) (line : VarLine) (ids : List ℕ) → all ≡ dims ++ later → dim_ids dims line.dims ≡ Some ids → dim_ids all line.dims ≡ Some ids
still_found dims later all line ids e found = subst (λ (ds : List Dim). dim_ids ds line.dims ≡ Some ids) (sym e) (more_ids dims later line.dims ids found)

-- the line of a variable
pub var_step : (dims later all : List Dim) (more : List ℕ → List Attr) (vars : List Var) (line : VarLine) (lines : List VarLine) (v : Var) → all ≡ dims ++ later → dim_ids dims line.dims ≡ Some v.dims → v ≡ var_of line v.dims
    → grown_vars all more (vars ++ v ∷ []) lines ≡ grown_vars all more vars (line ∷ lines)
var_step dims later all more vars line lines v e found same = grind (arith, nat_tests, still_found dims later all line v.dims e found, map-append, append_assoc, unwrap_or)

-- ---- an attribute of one of them

abbrev pub first_of : List ℕ → Attr → (List ℕ → List Attr) → List ℕ → List Attr
first_of owner a more n = cond (bytes_eq owner n) (a ∷ more n) (more n)

all_same : (owner : List ℕ) (a : Attr) (more : List ℕ → List Attr) (vars : List Var) → is_among owner (var_names vars) ≡ false → map (grow (first_of owner a more)) vars ≡ map (grow more) vars
all_same owner a more [] none = refl
all_same owner a more (v ∷ vars) none = grind (arith, nat_tests, all_same owner a more vars, or_parts)

one_first : (owner : List ℕ) (a : Attr) (more : List ℕ → List Attr) (k : ℕ) (vars : List Var) → position (bytes_eq owner) (var_names vars) ≡ Some k → are_apart (var_names vars) ≡ true
    → map (grow (first_of owner a more)) vars ≡ map (grow more) (push_attr k a vars)
one_first owner a more k [] at all = absurd (cc)
one_first owner a more k (v ∷ vars) at all =
    let both = and_parts (not (is_among v.name (var_names vars))) (are_apart (var_names vars)) all in
    let others = λ (j : ℕ) (found : position (bytes_eq owner) (var_names vars) ≡ Some j). one_first owner a more j vars found both.1 in
    grind (arith, nat_tests, place_cases (bytes_eq owner) v.name (var_names vars) k at, both, others, bytes_same owner v.name, not-true, append_assoc v.attrs (a ∷ []) (more v.name), all_same owner a more vars)

names_of_lines : (dims : List Dim) (lines : List VarLine) → var_names (map (bare_var dims) lines) ≡ line_names lines
names_of_lines dims [] = refl
names_of_lines dims (line ∷ lines) = ap (λ (names : List (List ℕ)). line.name ∷ names) (names_of_lines dims lines)

-- the line of an attribute
pub attr_step : (dims : List Dim) (more : List ℕ → List Attr) (owner : List ℕ) (a : Attr) (k : ℕ) (vars : List Var) (lines : List VarLine) → position (bytes_eq owner) (var_names vars) ≡ Some k → are_apart (var_names vars) ≡ true
    → is_among owner (line_names lines) ≡ false → grown_vars dims (first_of owner a more) vars lines ≡ grown_vars dims more (push_attr k a vars) lines
attr_step dims more owner a k vars lines at all later = grind (arith, nat_tests, names_of_lines, one_first, all_same)

-- ---- variables of lines alone

pub vars_of_lines : (dims : List Dim) (more : List ℕ → List Attr) (lines : List VarLine) (vars : List Var) → AllZip (λ (line : VarLine) v. IsVarOf dims (more line.name) line v) lines vars → vars ≡ grown_vars dims more [] lines
vars_of_lines dims more [] [] h = refl
vars_of_lines dims more [] (v ∷ vars) h = absurd h
vars_of_lines dims more (line ∷ lines) [] h = absurd h
vars_of_lines dims more (line ∷ lines) (v ∷ vars) h = grind (arith, nat_tests, unwrap_or, vars_of_lines dims more lines vars h.1)

-- lines that may stand find their dimensions
pub lines_of_vars : (all dims : List Dim) (more : List ℕ → List Attr) (names : List (List ℕ)) (titles : List Title) (ss : List Statement) → all ≡ dims ++ dims_in ss → Stand false dims names titles ss
    → AllZip (λ (line : VarLine) v. IsVarOf all (more line.name) line v) (vars_in ss) (grown_vars all more [] (vars_in ss))
lines_of_vars all dims more names titles [] e stand = tt
lines_of_vars all dims more names titles (RanksAre m ∷ ss) e stand = lines_of_vars all dims more names titles ss e stand
lines_of_vars all dims more names titles (HintIs h v ∷ ss) e stand = lines_of_vars all dims more names titles ss e stand
lines_of_vars all dims more names titles (IsFilled ∷ ss) e stand = lines_of_vars all dims more names titles ss e stand.1
lines_of_vars all dims more names titles (DimIs d ∷ ss) e stand = lines_of_vars all (dims ++ d ∷ []) more names titles ss (e ∙ sym (append_assoc dims (d ∷ []) (dims_in ss))) stand.1
lines_of_vars all dims more names titles (VarIs line ∷ ss) e stand =
    grind (arith, nat_tests, still_found, unwrap_or, lines_of_vars all dims more (names ++ line.name ∷ []) titles ss e stand.1, vars_in, grown_vars, unwrap_or, dims_in)
lines_of_vars all dims more names titles (AttIs owner a ∷ ss) e stand = lines_of_vars all dims more names _ ss e stand.2
