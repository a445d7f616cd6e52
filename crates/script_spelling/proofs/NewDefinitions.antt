-- The lines that define a new dataset, each with its statement.
use Rattle.script_spelling.proofs.Words.{◌≡◌, ◌∙◌, ℕ, ◌+◌, List, [], ◌∷◌, ◌++◌, position, Bool, true, false, Option, Some, None, Ok, sym, ap, subst, append_assoc, arith, bytes_eq, codes, list_any, or_left, or_right, faultless_some, Attr, Var, Word, Plain, or_fault, is_among, dim_line, var_line, var_names, owner_place, same_title, attribute, Defined, with_dim, with_var, with_title, with_attr_of_owner, with_attr_at, att_line, dim_definition, var_definition, fill_line, definition, Known, DimIs, VarIs, AttIs, owner_word, IsOwner, Says, title_of, Stand, dims_in, vars_in, own_attrs, attrs_of, nat_tests}
use Rattle.script_spelling.proofs.Steps.{went, same_ok, tested, by_false, step_then}
use Rattle.script_spelling.proofs.Places.{bytes_same, place_cases}
use Rattle.script_spelling.proofs.PushedAttrs.{pushes}
use Rattle.script_spelling.proofs.LinesRead.{no_colon, dim_said, var_said, owner_then, attr_said}
use Rattle.script_spelling.proofs.GrownVars.{are_apart, apart_pushed, names_pushed, names_kept, later_names, var_step, attr_step}
use Rattle.script_spelling.proofs.TakenLines.{Fine, Taken, grown_with}
use Rattle.nc_base.specs.declared.errors.ScriptKind.TheVariants as kind

-- ---- the definitions of a new dataset

abbrev pub defined_next : Known → ℕ × Defined → Known
defined_next k x = record k { defined = x.1; values = k.values + x.0 }

-- what a line of the definitions is
abbrev TakenNew : ℕ → Known → List Word → ℕ × Defined → Type 0
TakenNew version k words x = Taken false version k words (defined_next k x)

new_dim : (version : ℕ) (k : Known) (ws : List Word) (x : ℕ × Defined) → Fine k → dim_definition version k.defined ws ≡ Ok x → TakenNew version k (Plain (codes "dim") ∷ ws) x
new_dim version k ws x fine h =
    let a = went (dim_line version k.defined.dims ws) (λ d. Ok (0, with_dim d k.defined)) x h in
    let d = a.value in
    let said = dim_said version k.defined.dims ws d a.first in
    subst (TakenNew version k (Plain (codes "dim") ∷ ws)) (same_ok (0, with_dim d k.defined) x a.rest) (record {
      statement = DimIs d;
      says = said.0;
      fine = record { long = fine.long; apart = fine.apart };
      grown = λ ss last g. grown_with g.ranks g.hints g.filled (g.part.0, g.part.1 ∙ append_assoc k.defined.dims (d ∷ []) (dims_in ss), g.part.2, g.part.3, (said.1, g.part.4));
    })

new_var : (version : ℕ) (k : Known) (ws : List Word) (x : ℕ × Defined) → Fine k → var_definition version k.defined ws ≡ Ok x → TakenNew version k (Plain (codes "var") ∷ ws) x
new_var version k ws x fine h =
    let d = k.defined in
    let a = went (var_line version d.dims d.vars ws) (λ v. Ok (0, with_var v d)) x h in
    let v = a.value in
    let said = var_said version d.dims d.vars ws v a.first in
    let name : v.name ≡ said.line.name = ap (λ (y : Var). y.name) said.same in
    let names : var_names (d.vars ++ v ∷ []) ≡ var_names d.vars ++ said.line.name ∷ [] = names_pushed d.vars v ∙ ap (λ (n : List ℕ). var_names d.vars ++ n ∷ []) name in
    subst (TakenNew version k (Plain (codes "var") ∷ ws)) (same_ok (0, with_var v d) x a.rest) (record {
      statement = VarIs said.line;
      says = said.says;
      fine = record { long = fine.long; apart = subst (λ (ns : List (List ℕ)). are_apart ns ≡ true) (sym names) (apart_pushed (var_names d.vars) said.line.name fine.apart said.stands.0) };
      grown = λ ss last g.
          let vars = g.part.3 ∙ var_step d.dims (dims_in ss) last.defined.dims (λ n. attrs_of n ss) d.vars said.line (vars_in ss) v g.part.1 said.found said.same in
          grind (arith, nat_tests, grown_with, d.dims, d.titles, g.part.4, g.part.0, g.part.1, g.part.2, said.stands);
    })

abbrev defined_with : List ℕ → Option ℕ → Attr → Defined → ℕ × Defined
defined_with owner place a d = (a.count, with_title owner a.name (with_attr_of_owner place a d))

pub is_there : (n : List ℕ) (names : List (List ℕ)) (k : ℕ) → position (bytes_eq n) names ≡ Some k → is_among n names ≡ true
is_there n [] k h = absurd (cc)
is_there n (x ∷ names) k h = grind (arith, nat_tests, place_cases (bytes_eq n) x names k h, is_there n names, or_left, or_right)

-- an attribute of a variable
new_attr : (version : ℕ) (k : Known) (words : List Word) (owner : List ℕ) (place : ℕ) (a : Attr) → Fine k → position (bytes_eq owner) (var_names k.defined.vars) ≡ Some place → Says version words (AttIs (Some owner) a)
    → list_any (same_title (owner, a.name)) k.defined.titles ≡ false → TakenNew version k words (defined_with owner (Some place) a k.defined)
new_attr version k words owner place a fine at says fresh =
    let d = k.defined in
    let there = is_there owner (var_names d.vars) place at in
    let vars = pushes place a d.vars in
    let names : var_names (with_attr_at place a d.vars) ≡ var_names d.vars = ap var_names vars ∙ names_kept place a d.vars in
    record {
      statement = AttIs (Some owner) a;
      says = says;
      fine = record { long = fine.long; apart = subst (λ (ns : List (List ℕ)). are_apart ns ≡ true) (sym names) fine.apart };
      grown = λ ss last g.
          let stand = subst (λ (ns : List (List ℕ)). Stand false d.dims ns (d.titles ++ (owner, a.name) ∷ []) ss) names g.part.4 in
          let later = later_names false d.dims (var_names d.vars) (d.titles ++ (owner, a.name) ∷ []) ss owner stand there in
          let step = attr_step last.defined.dims (λ n. attrs_of n ss) owner a place d.vars (vars_in ss) at fine.apart later in
          grind (arith, nat_tests, grown_with, g.part.3, last.defined.dims, g.part.0, g.part.1, g.part.2, attrs_of, vars_in);
    }

-- an attribute of any owner
attr_of_owner : (version : ℕ) (k : Known) (words : List Word) (owner : Option (List ℕ)) (place : Option ℕ) (a : Attr) → Fine k → IsOwner owner → owner_place k.defined.vars (owner_word owner) ≡ Ok place
    → Says version words (AttIs owner a) → list_any (same_title (title_of owner a)) k.defined.titles ≡ false → TakenNew version k words (defined_with (owner_word owner) place a k.defined)
attr_of_owner version k words None place a fine is at says fresh =
    subst (λ (o : Option ℕ). TakenNew version k words (defined_with (codes ":") o a k.defined)) (same_ok None place at) (record {
      statement = AttIs None a;
      says = says;
      fine = record { long = fine.long; apart = fine.apart };
      grown = λ ss last g. grown_with g.ranks g.hints g.filled (g.part.0, g.part.1, g.part.2 ∙ append_assoc k.defined.attrs (a ∷ []) (own_attrs ss), g.part.3, (tt, fresh, g.part.4));
    })
attr_of_owner version k words (Some owner) place a fine is at says fresh =
    step_then (or_fault kind.UnknownName (position (bytes_eq owner) (var_names k.defined.vars))) _ place (sym (by_false (bytes_eq owner (codes ":")) _ _ (no_colon owner is)) ∙ at) (λ i there e.
    subst (λ (o : Option ℕ). TakenNew version k words (defined_with owner o a k.defined)) (same_ok (Some i) place e)
    (new_attr version k words owner i a fine (faultless_some kind.UnknownName (position (bytes_eq owner) (var_names k.defined.vars)) i there) says fresh))

new_att : (version : ℕ) (k : Known) (ws : List Word) (x : ℕ × Defined) → Fine k → att_line version k.values k.defined ws ≡ Ok x → TakenNew version k (Plain (codes "att") ∷ ws) x
new_att version k ws x fine h =
    let d = k.defined in
    owner_then ws _ x h (λ o more is are h. step_then (owner_place d.vars (owner_word o)) _ x h (λ p at h. step_then (attribute version d.titles k.values (owner_word o) more) _ x h (λ a told h.
    let attr = attr_said version d.titles k.values (owner_word o) more a told in
    grind (arith, nat_tests, same_ok, attr_of_owner, attr.fresh, TakenNew, owner_word, defined_with))))

new_fill : (version : ℕ) (k : Known) (ws : List Word) (x : ℕ × Defined) → Fine k → fill_line k.defined ws ≡ Ok x → TakenNew version k (Plain (codes "fill") ∷ ws) x
new_fill version k ws x fine h = grind (arith, nat_tests)

pub at_first : (opened : Bool) (version : ℕ) (k next : Known) (first word : List ℕ) (ws : List Word) → bytes_eq first word ≡ true → Taken opened version k (Plain word ∷ ws) next → Taken opened version k (Plain first ∷ ws) next
at_first opened version k next first word ws e h = subst (λ (w : List ℕ). Taken opened version k (Plain w ∷ ws) next) (sym (bytes_same first word e)) h

pub definition_taken : (version : ℕ) (k : Known) (first : List ℕ) (ws : List Word) (x : ℕ × Defined) → Fine k → definition version k.values k.defined first ws ≡ Ok x → TakenNew version k (Plain first ∷ ws) x
definition_taken version k first ws x fine h =
    let at = at_first false version k (defined_next k x) first in
    tested (bytes_eq first (codes "dim")) _ _ _ h (λ a e. at (codes "dim") ws a (new_dim version k ws x fine e))
    (λ a l. tested (bytes_eq first (codes "var")) _ _ _ l (λ b e. at (codes "var") ws b (new_var version k ws x fine e))
    (λ b m. tested (bytes_eq first (codes "att")) _ _ _ m (λ c e. at (codes "att") ws c (new_att version k ws x fine e))
    (λ c n. tested (bytes_eq first (codes "fill")) _ _ _ n (λ d e. at (codes "fill") ws d (new_fill version k ws x fine e)) (λ d e. absurd (cc)))))
