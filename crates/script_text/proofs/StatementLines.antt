-- Statements that are printed: their words are cut again, and say what they said.
use Rattle.script_text.proofs.Words.{◌≡◌, ◌∙◌, ℕ, List, [], ◌∷◌, ◌++◌, map, true, Option, Some, refl, ap, codes, list_all, and_parts, and_from, AllZip, all_joined, Attr, Dim, Extra, type_word, bracketed, joined, shown_extra, shown_attr, Word, Plain, is_name, type_of, arith, nat_tests, nat_lt, length-append, eq-eqb, get_or_at, lt-ltb, cond-true, take_at}
use Rattle.std.proofs.Common.{flat_map}
use Rattle.script_spelling.specs.Statements.{Statement, DimIs, VarIs, AttIs, VarLine, owner_word, IsOwner, Says}
use Rattle.script_spelling.proofs.Steps.{all_more}
use Rattle.script_text.proofs.Lines.{is_line, spelled}
use Rattle.script_text.proofs.Numerals.{name_plain, name_item, parts_again, bracketed_plain}
use Rattle.script_text.proofs.PrintedValues.{is_read, values_spelled}
use Rattle.script_text.proofs.PrintedAttributes.{type_plain, type_again, attr_tokens, AttrAgain, attr_again}
use Rattle.script_text.proofs.PrintedDefinitions.{length_word, length_again}
use Rattle.script_text.proofs.CallLines.{zip_joined}
use Rattle.nc_base.specs.declared.script.Extra.TheVariants as extra

-- ---- their words

abbrev pub line_of_dim : Dim → List Word
line_of_dim d = Plain (codes "dim") ∷ Plain d.name ∷ Plain (length_word d.len) ∷ []

abbrev pub line_of_var : VarLine → List Word
line_of_var l = Plain (codes "var") ∷ Plain (type_word l.kind) ∷ Plain l.name ∷ Plain (bracketed l.dims) ∷ []

abbrev pub line_of_att : Option (List ℕ) → Attr → List Word
line_of_att o a = Plain (codes "att") ∷ Plain (owner_word o) ∷ attr_tokens a

-- what is added, as a statement
abbrev pub of_extra : Extra → Statement
of_extra (extra.Dim d) = DimIs d
of_extra (extra.Var t n dims) = VarIs (record { kind = t; name = n; dims = dims })
of_extra (extra.Att o a) = AttIs o a

abbrev pub extra_line : Extra → List Word
extra_line (extra.Dim d) = line_of_dim d
extra_line (extra.Var t n dims) = line_of_var (record { kind = t; name = n; dims = dims })
extra_line (extra.Att o a) = line_of_att o a

pub att_spelled : (o : Option (List ℕ)) (a : Attr) → spelled (line_of_att o a) ≡ shown_attr (owner_word o) a
att_spelled o a = grind (arith, nat_tests, values_spelled)

pub mapped_spelled : {A : Type 0} (f : A → List ℕ) (g : A → List Word) → ((x : A) → spelled (g x) ≡ f x) → (xs : List A) → flat_map spelled (map g xs) ≡ flat_map f xs
mapped_spelled f g same [] = refl
mapped_spelled f g same (x ∷ xs) = ap (λ (text : List ℕ). text ++ flat_map spelled (map g xs)) (same x) ∙ ap (λ (text : List ℕ). f x ++ text) (mapped_spelled f g same xs)

pub extras_spelled : (es : List Extra) → flat_map spelled (map extra_line es) ≡ flat_map shown_extra es
extras_spelled es = mapped_spelled shown_extra extra_line (λ e. grind (arith, nat_tests, att_spelled)) es

-- ---- they are cut again, and say these

abbrev pub Shown : ℕ → List Word → Statement → Type 0
Shown version ws s = (is_line ws ≡ true) × Says version ws s

abbrev pub Shows : ℕ → List (List Word) → List Statement → Type 0
Shows version wss ss = (list_all is_line wss ≡ true) × AllZip (Says version) wss ss

pub shows_joined : (version : ℕ) (wss : List (List Word)) (ss : List Statement) (more : List (List Word)) (last : List Statement) → Shows version wss ss → Shows version more last → Shows version (wss ++ more) (ss ++ last)
shows_joined version wss ss more last h k = (all_joined is_line wss more h.0 k.0, zip_joined (Says version) wss ss more last h.1 k.1)

pub var_shown : (version : ℕ) (l : VarLine) → type_of version (type_word l.kind) ≡ Some l.kind → is_name l.name ≡ true → list_all is_name l.dims ≡ true → Shown version (line_of_var l) (VarIs l)
var_shown version l kind named dims =
    let items = all_more is_name _ name_item l.dims dims in grind (arith, nat_tests, type_plain l.kind, name_plain l.name named, bracketed_plain l.dims items, joined 44 l.dims, parts_again l.dims items, nat_lt, length-append, eq-eqb, get_or_at, and_from, lt-ltb, cond-true, take_at)

pub att_shown : (version : ℕ) (o : Option (List ℕ)) (a : Attr) → IsOwner o → AttrAgain version a → Shown version (line_of_att o a) (AttIs o a)
att_shown version o a is again = grind (arith, nat_tests, name_plain)

-- ---- what a line that is read says can be said again

abbrev pub Again : ℕ → Statement → Type 0
Again version (DimIs d) = Shown version (line_of_dim d) (DimIs d)
Again version (VarIs l) = Shown version (line_of_var l) (VarIs l)
Again version (AttIs o a) = IsOwner o × AttrAgain version a
Again version _ = Unit {0}

abbrev pub AllAgain : ℕ → List Statement → Type 0
AllAgain version [] = Unit {0}
AllAgain version (s ∷ ss) = Again version s × AllAgain version ss

one_again : (version : ℕ) (ws : List Word) (s : Statement) → Says version ws s → list_all is_read ws ≡ true → Again version s
one_again version ws (DimIs d) (w, are, named, told) read = grind (arith, nat_tests, length_again version w d.len told, name_plain)
one_again version ws (VarIs l) (w, shape, inside, are, kind, named, between, parts_are, dims) read = var_shown version l (type_again version w l.kind kind) named dims
one_again version ws (AttIs o a) says read = (says.4, attr_again version ws o a says read)
one_again version ws s says read = tt

pub all_again : (version : ℕ) (wss : List (List Word)) (ss : List Statement) → AllZip (Says version) wss ss → list_all (list_all is_read) wss ≡ true → AllAgain version ss
all_again version (ws ∷ wss) (s ∷ ss) say read = let both = and_parts (list_all is_read ws) _ read in (one_again version ws s say.0 both.0, all_again version wss ss say.1 both.1)
all_again version wss ss say read = grind (arith, nat_tests)
