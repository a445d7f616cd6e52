-- The lines that add to a dataset that is opened, each with its statement.
use Rattle.script_spelling.proofs.Words.{◌≡◌, ◌∙◌, ℕ, ◌+◌, List, [], ◌∷◌, ◌++◌, true, Option, Ok, sym, ap, subst, append_assoc, bytes_eq, codes, Attr, Word, Plain, ended, dim_line, var_head, owner_name, attribute, added_shape, Added, dim_addition, var_addition, att_addition, addition, Known, VarLine, DimIs, VarIs, AttIs, owner_word, extras_in}
use Rattle.script_spelling.proofs.Steps.{went, same_ok, is_end, tested, step_then}
use Rattle.script_spelling.proofs.LinesRead.{dim_said, added_said, owner_told, owner_then, attr_said}
use Rattle.script_spelling.proofs.TakenLines.{Fine, Taken, grown_with}
use Rattle.script_spelling.proofs.NewDefinitions.{at_first}
use Rattle.nc_base.specs.declared.script.Extra.TheVariants as extra

-- ---- what is added to a dataset that is opened

abbrev pub added_next : Known → ℕ × Added → Known
added_next k x = record k { added = x.1; values = k.values + x.0 }

abbrev TakenAdded : Known → List Word → ℕ × Added → Type 0
TakenAdded k words x = Taken true 5 k words (added_next k x)

added_dim : (k : Known) (ws : List Word) (x : ℕ × Added) → Fine k → dim_addition k.added ws ≡ Ok x → TakenAdded k (Plain (codes "dim") ∷ ws) x
added_dim k ws x fine h =
    let d = k.added in
    let a = went (dim_line 5 d.dims ws) _ x h in
    let y = a.value in
    let said = dim_said 5 d.dims ws y a.first in
    subst (TakenAdded k (Plain (codes "dim") ∷ ws)) (same_ok (0, record d { dims = d.dims ++ y ∷ []; extras = d.extras ++ extra.Dim y ∷ [] }) x a.rest) (record {
      statement = DimIs y;
      says = said.0;
      fine = record { long = fine.long; apart = fine.apart };
      grown = λ ss last g. grown_with g.ranks g.hints g.filled (g.part.0, g.part.1 ∙ append_assoc d.extras (extra.Dim y ∷ []) (extras_in ss), (said.1, g.part.2));
    })

added_var : (k : Known) (ws : List Word) (x : ℕ × Added) → Fine k → var_addition k.added ws ≡ Ok x → TakenAdded k (Plain (codes "var") ∷ ws) x
added_var k ws x fine h =
    let d = k.added in
    let v = went (var_head 5 d.vars ws) _ x h in
    let n = went (added_shape d.dims v.value.1) _ x v.rest in
    let e = went (ended n.value.1) _ x n.rest in
    let said = added_said d.dims d.vars ws v.value n.value v.first n.first in
    let line : VarLine = record { kind = v.value.0.0; name = v.value.0.1; dims = n.value.0 } in
    let one = extra.Var v.value.0.0 v.value.0.1 n.value.0 in
    subst (TakenAdded k (Plain (codes "var") ∷ ws)) (same_ok (0, record d { vars = d.vars ++ v.value.0.1 ∷ []; extras = d.extras ++ one ∷ [] }) x e.rest) (record {
      statement = VarIs line;
      says = said.says (is_end n.value.1 e.value e.first);
      fine = record { long = fine.long; apart = fine.apart };
      grown = λ ss last g. grown_with g.ranks g.hints g.filled (g.part.0, g.part.1 ∙ append_assoc d.extras (one ∷ []) (extras_in ss), (said.stands, g.part.2));
    })

abbrev added_with : List ℕ → Attr → Added → Option (List ℕ) → ℕ × Added
added_with word a d owner = (a.count, record d { titles = d.titles ++ (word, a.name) ∷ []; extras = d.extras ++ extra.Att owner a ∷ [] })

added_att : (k : Known) (ws : List Word) (x : ℕ × Added) → Fine k → att_addition k.values k.added ws ≡ Ok x → TakenAdded k (Plain (codes "att") ∷ ws) x
added_att k ws x fine h =
    let d = k.added in
    owner_then ws _ x h (λ o more is are h. step_then (attribute 5 d.titles k.values (owner_word o) more) _ x h (λ a told h.
    let attr = attr_said 5 d.titles k.values (owner_word o) more a told in
    let same = ap (added_with (owner_word o) a d) (sym (owner_told o is).1) ∙ same_ok (added_with (owner_word o) a d (owner_name (owner_word o))) x h in
    subst (λ (xs : List Word). TakenAdded k (Plain (codes "att") ∷ xs) x) (sym are) (subst (TakenAdded k (Plain (codes "att") ∷ Plain (owner_word o) ∷ more)) same (record {
      statement = AttIs o a;
      says = attr.says o is;
      fine = record { long = fine.long; apart = fine.apart };
      grown = λ ss last g. grown_with g.ranks g.hints g.filled (g.part.0, g.part.1 ∙ append_assoc d.extras (extra.Att o a ∷ []) (extras_in ss), (tt, attr.fresh, g.part.2));
    }))))

pub addition_taken : (k : Known) (first : List ℕ) (ws : List Word) (x : ℕ × Added) → Fine k → addition k.values k.added first ws ≡ Ok x → TakenAdded k (Plain first ∷ ws) x
addition_taken k first ws x fine h =
    let at = at_first true 5 k (added_next k x) first in
    tested (bytes_eq first (codes "dim")) _ _ _ h (λ a e. at (codes "dim") ws a (added_dim k ws x fine e))
    (λ a l. tested (bytes_eq first (codes "var")) _ _ _ l (λ b e. at (codes "var") ws b (added_var k ws x fine e))
    (λ b m. tested (bytes_eq first (codes "att")) _ _ _ m (λ c e. at (codes "att") ws c (added_att k ws x fine e)) (λ c e. absurd (cc))))
