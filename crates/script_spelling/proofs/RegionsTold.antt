-- Words that spell a region are read as this region, and what follows them is left.
use Rattle.script_spelling.proofs.Words.{◌≡◌, ◌∙◌, ℕ, ◌≤◌, List, [], ◌∷◌, ◌++◌, flat_map, length, true, not, nat_lt, Ok, sym, ap, append_assoc, append-nil, arith, and_parts, le-ltb, Form, Given, Part, most_parts, has_lists_of, is_given, Word, list_of_text, list, part_list, region, SpellsOne, Each, SpellsForm, SpellsRegion, nat_tests, Result, ◌>>=◌, given_of, ScriptKind}
use Rattle.script_spelling.proofs.Steps.{go_on, passed, word_read, carry_on}
use Rattle.serial_spec.proofs.MemberLaws.{empty_list}
use Rattle.nc_base.specs.declared.errors.ScriptKind.TheVariants as kind
use Rattle.nc_base.specs.declared.request.Form.TheVariants as form

-- ---- lists and parts

list_told : (w : Word) (ns : List ℕ) (more : List Word) → SpellsOne list_of_text w ns → list (w ∷ more) ≡ Ok (ns, more)
list_told w ns more h = ap (λ (u : Word). list (u ∷ more)) h.1 ∙ word_read list_of_text kind.BadNumber h.0 ns more h.2

parts_told : (ps found : List Part) (ws more : List Word) → Each list_of_text ws (flat_map (λ p. p.start ∷ p.count ∷ []) ps) → part_list (length ps) found (ws ++ more) ≡ Ok (found ++ ps, more)
parts_told [] found [] more h = ap (λ (xs : List Part). Ok (xs, more)) (sym (append-nil found))
parts_told [] found (w ∷ ws) more h = absurd h
parts_told (p ∷ ps) found [] more h = absurd h
parts_told (p ∷ ps) found (w ∷ []) more h = absurd h.1
parts_told (p ∷ ps) found (w ∷ v ∷ ws) more h = grind (arith, nat_tests, parts_told ps (found ++ p ∷ []) ws more h.1.1, go_on, list_told, carry_on, append_assoc)

-- ---- a region by the lists of its form

-- lists are read one after the other, and what follows the last of them is left
lists_on : {B : Type 0} (more : List Word) (n : List ℕ) (ns : List (List ℕ)) (f : List ℕ × List Word → Result B ScriptKind) (y : B) (ws : List Word) → Each list_of_text ws (n ∷ ns)
    → ((rest : List Word) → Each list_of_text rest ns → f (n, rest ++ more) ≡ Ok y) → (list (ws ++ more) >>= f) ≡ Ok y
lists_on more n ns f y [] h on = absurd h
lists_on more n ns f y (w ∷ ws) h on = go_on (list (w ∷ ws ++ more)) f (n, ws ++ more) y (list_told w n (ws ++ more) h.0) (on ws h.1)

lists_end : (more : List Word) (g k : Given) → g ≡ k → (ws : List Word) → Each list_of_text ws [] → ◌≡◌ {A = Result (Given × List Word) ScriptKind} (Ok (g, ws ++ more)) (Ok (k, more))
lists_end more g k same [] h = ap (λ (x : Given). Ok (x, more)) same
lists_end more g k same (w ∷ ws) h = absurd h

abbrev pub region_with : Form → List ℕ → List ℕ → List ℕ → List ℕ → List Part → Given
region_with f s c d m ps = record { form = f; start = s; count = c; stride = d; imap = m; parts = ps }

pub same_region : (f : Form) (s c d m s2 c2 d2 m2 : List ℕ) (ps ps2 : List Part) → s2 ≡ s → c2 ≡ c → d2 ≡ d → m2 ≡ m → ps2 ≡ ps → region_with f s c d m ps ≡ region_with f s2 c2 d2 m2 ps2
same_region f s c d m s2 c2 d2 m2 ps ps2 e1 e2 e3 e4 e5 = cc

varn_told : (s c d m : List ℕ) (ps : List Part) (more ws : List Word) → SpellsForm form.Varn ws (region_with form.Varn s c d m ps) → has_lists_of form.Varn (region_with form.Varn s c d m ps) ≡ true → length ps ≤ most_parts
    → region form.Varn (ws ++ more) ≡ Ok (region_with form.Varn s c d m ps, more)
varn_told s c d m ps more ws xs lists few = grind (arith, nat_tests, and_parts, not, same_region, empty_list, go_on, word_read, passed, nat_lt, le-ltb, parts_told)

by_form : (s c d m : List ℕ) (ps : List Part) (more : List Word) (f : Form) (ws : List Word) → SpellsForm f ws (region_with f s c d m ps) → has_lists_of f (region_with f s c d m ps) ≡ true → length ps ≤ most_parts
    → region f (ws ++ more) ≡ Ok (region_with f s c d m ps, more)
by_form s c d m ps more form.Var ws h lists few =
    let same : given_of form.Var [] [] [] [] ≡ region_with form.Var s c d m ps = grind (arith, nat_tests, and_parts, same_region, empty_list) in lists_end more _ _ same ws h
by_form s c d m ps more form.Var1 ws h lists few =
    let same : given_of form.Var1 s [] [] [] ≡ region_with form.Var1 s c d m ps = grind (arith, nat_tests, and_parts, same_region, empty_list) in lists_on more s [] _ _ ws h (lists_end more _ _ same)
by_form s c d m ps more form.Vara ws h lists few =
    let same : given_of form.Vara s c [] [] ≡ region_with form.Vara s c d m ps = grind (arith, nat_tests, and_parts, same_region, empty_list) in
    lists_on more s (c ∷ []) _ _ ws h (λ ws h. lists_on more c [] _ _ ws h (lists_end more _ _ same))
by_form s c d m ps more form.Vars ws h lists few =
    let same : given_of form.Vars s c d [] ≡ region_with form.Vars s c d m ps = grind (arith, nat_tests, and_parts, same_region, empty_list) in
    lists_on more s (c ∷ d ∷ []) _ _ ws h (λ ws h. lists_on more c (d ∷ []) _ _ ws h (λ ws h. lists_on more d [] _ _ ws h (lists_end more _ _ same)))
by_form s c d m ps more form.Varm ws h lists few =
    let same : given_of form.Varm s c d m ≡ region_with form.Varm s c d m ps = grind (arith, nat_tests, same_region, empty_list) in
    lists_on more s (c ∷ d ∷ m ∷ []) _ _ ws h (λ ws h. lists_on more c (d ∷ m ∷ []) _ _ ws h (λ ws h. lists_on more d (m ∷ []) _ _ ws h (λ ws h. lists_on more m [] _ _ ws h (lists_end more _ _ same))))
by_form s c d m ps more form.Varn ws h lists few = varn_told s c d m ps more ws h lists few

pub region_told : (g : Given) (ws more : List Word) → SpellsRegion ws g → is_given g ≡ true → region g.form (ws ++ more) ≡ Ok (g, more)
region_told g ws more h given = grind (arith, nat_tests, by_form g.start g.count g.stride g.imap g.parts more g.form ws h)
