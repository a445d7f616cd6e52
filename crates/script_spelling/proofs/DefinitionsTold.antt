-- A line that says a statement leads on to where the later statements lead to the same.
use Rattle.script_spelling.proofs.Words.{◌≡◌, ◌∙◌, ℕ, ◌+◌, ◌≤◌, List, [], ◌∷◌, ◌++◌, Bool, true, false, ◌==◌, Option, Some, None, is_some, slice_set, Ok, refl, sym, ap, subst, length-set, append_assoc, arith, bytes_eq, codes, eqb-true, equal_itself, position_below, count_of, Dim, Attr, Var, Values, most_values, values_in_extra, Word, Plain, reads_as, hint_form, hint_in, dim_line, var_names, var_line, owner_of_text, owner_place, attribute, Defined, with_dim, with_var, with_attr_of_owner, with_attr_at, with_title, att_line, definition, Added, addition, Known, VarLine, Statement, RanksAre, HintIs, IsFilled, DimIs, VarIs, AttIs, owner_word, Says, Stand, title_of, at_most_one, hint_values, dims_in, vars_in, own_attrs, attrs_of, extras_in, nat_tests, sum_cons, sum_more, attr_values, extra_values}
use Rattle.script_spelling.proofs.Steps.{go_on, word_read}
use Rattle.script_spelling.proofs.Rooms.{HasRoom}
use Rattle.script_spelling.proofs.Leading.{Leads, leads_by, hint_leads}
use Rattle.script_spelling.proofs.CallCounts.{sum_later}
use Rattle.script_spelling.proofs.PushedAttrs.{pushes, found_name, count-pushed, own_values}
use Rattle.script_spelling.proofs.GrownVars.{are_apart, apart_pushed, names_pushed, names_kept, later_names, grown_vars, var_of, var_step, attr_step}
use Rattle.script_spelling.proofs.TakenLines.{Part, Grown, Fine, hint_here, hint_elsewhere, differ, grown_with}
use Rattle.script_spelling.proofs.NewDefinitions.{defined_next}
use Rattle.script_spelling.proofs.AddedDefinitions.{added_next}
use Rattle.script_spelling.proofs.KnownRead.{lines_version}
use Rattle.script_spelling.proofs.LinesRead.{owner_told}
use Rattle.script_spelling.proofs.LinesTold.{ranks_told, hint_told, dim_told, VarWords, var_told, with_line, added_told, attr_told, place_told, owner_found}
use Rattle.nc_base.specs.declared.errors.ScriptKind.TheVariants as kind
use Rattle.nc_base.specs.declared.script.Extra.TheVariants as extra

-- ---- how many values there are

abbrev pub total : Known → ℕ
total k = attr_values k.defined.attrs + own_values k.defined.vars + extra_values k.added.extras

count_grown : (dims : List Dim) (more : List ℕ → List Attr) (vars : List Var) (lines : List VarLine) → own_values vars ≤ own_values (grown_vars dims more vars lines)
count_grown dims more [] lines = omega arith
count_grown dims more (v ∷ vars) lines =
    let own = λ (x : Var). attr_values x.attrs in
    grind (arith, nat_tests, sum_cons own (record v { attrs = v.attrs ++ more v.name }) (grown_vars dims more vars lines), count_grown dims more vars lines, sum_later, sum_cons own v vars)

pub total_grown : (opened : Bool) (k : Known) (ss : List Statement) (last : Known) → Part opened k ss last → total k ≤ total last
total_grown opened k ss last p = grind (arith, nat_tests, sum_later, count_grown)

-- ---- where a line leads

-- what holds of all that is known, with its values counted
pub record Sound (k : Known) : Type 0 where
  pub fine : Fine k
  pub counted : k.values ≡ total k

pub record Led (opened : Bool) (version : ℕ) (k : Known) (words : List Word) (ss : List Statement) (last : Known) : Type 0 where
  pub next : Known
  pub leads : Leads version k words next
  pub sound : Sound next
  pub grown : Grown opened next ss last

-- ---- ranks and hints

-- nothing is given twice
one_left : (o p : Option ℕ) (n : ℕ) (ns : List ℕ) → at_most_one o ≡ at_most_one p ++ n ∷ ns → p ≡ None
one_left o p n ns h = grind (arith, nat_tests)

ranks_led : (opened : Bool) (version of_lines : ℕ) (k : Known) (words : List Word) (n : ℕ) (ss : List Statement) (last : Known) → Sound k → Says of_lines words (RanksAre n) → Grown opened k (RanksAre n ∷ ss) last → Led opened version k words ss last
ranks_led opened version of_lines k words n ss last sound xs g =
    let part : Part opened (record k { ranks = Some n }) ss last = grind (arith, nat_tests, g.part) in
    grind (arith, nat_tests, one_left, ranks_told, go_on)

hint_led : (opened : Bool) (version of_lines : ℕ) (k : Known) (words : List Word) (i v : ℕ) (ss : List Statement) (last : Known) → Sound k → Says of_lines words (HintIs i v) → Grown opened k (HintIs i v ∷ ss) last → Led opened version k words ss last
hint_led opened version of_lines k words i v ss last sound (word, w, are, at, told) g =
    let part : Part opened (record k { hints = slice_set k.hints i (Some v) }) ss last = grind (arith, nat_tests, g.part) in
    grind (arith, nat_tests, one_left (hint_in i last.hints) (hint_in i k.hints) v (hint_values i ss), equal_itself i, position_below, hint_leads version k word w i v at, is_some, hint_told (hint_form i) w v told, length-set k.hints i (Some v), hint_here, hint_elsewhere, differ, slice_set, eqb-true)

module _ (version : ℕ) (k : Known) (words : List Word) (ss : List Statement) (last : Known) where
  -- ---- a new dataset

  defined_led : (first : List ℕ) (ws : List Word) (r : ℕ × Defined) → (version == 0) ≡ false → bytes_eq first (codes "ranks") ≡ false → bytes_eq first (codes "hint") ≡ false → bytes_eq first (codes "data") ≡ false
      → words ≡ Plain first ∷ ws → definition version k.values k.defined first ws ≡ Ok r → Sound (defined_next k r) → Grown false (defined_next k r) ss last → Led false version k words ss last
  defined_led first ws r new a b c are read sound g = grind (arith, nat_tests, leads_by)

  new_dim_led : (d : Dim) → (version == 0) ≡ false → Sound k → Says version words (DimIs d) → Grown false k (DimIs d ∷ ss) last → Led false version k words ss last
  new_dim_led d new sound (w, are, named, told) g =
      let r : ℕ × Defined = (0, with_dim d k.defined) in
      let ws = Plain d.name ∷ Plain w ∷ [] in
      let read = go_on (dim_line version k.defined.dims ws) (λ x. Ok (0, with_dim x k.defined)) d r (dim_told version k.defined.dims d w named told g.part.4.0) refl in
      grind (arith, nat_tests, defined_led (codes "dim") ws r, read, sound.fine.long, sound.fine.apart, sound.counted, grown_with, g.part, append_assoc k.defined.dims (d ∷ []) (dims_in ss))

  new_var_led : (line : VarLine) → (version == 0) ≡ false → Sound k → Says version words (VarIs line) → Grown false k (VarIs line ∷ ss) last → Led false version k words ss last
  new_var_led line new sound (w, brackets, inside, are, kind_is, named, between, parts_are, dims_named) g =
      let d = k.defined in
      let said : VarWords version line = record { kind_word = w; shape_word = brackets; inside = inside; kind = kind_is; named = named; between = between; parts_are = parts_are; dims_named = dims_named } in
      let stands = g.part.4.0 in
      let ids = stands.3.0 in
      let v = var_of line ids in
      let r : ℕ × Defined = (0, with_var v d) in
      let ws = Plain w ∷ Plain line.name ∷ Plain brackets ∷ [] in
      let names : var_names (d.vars ++ v ∷ []) ≡ var_names d.vars ++ line.name ∷ [] = names_pushed d.vars v in
      let apart = subst (λ (ns : List (List ℕ)). are_apart ns ≡ true) (sym names) (apart_pushed (var_names d.vars) line.name sound.fine.apart stands.0) in
      let vars = g.part.3 ∙ sym (var_step d.dims (dims_in ss) last.defined.dims (λ n. attrs_of n ss) d.vars line (vars_in ss) v g.part.1 stands.3.1 refl) in
      let stand = subst (λ (ns : List (List ℕ)). Stand false d.dims ns d.titles ss) (sym names) g.part.4.1 in
      let read = go_on (var_line version d.dims d.vars ws) (λ x. Ok (0, with_var x d)) v r (var_told version d.dims d.vars line said stands) refl in
      grind (arith, nat_tests, defined_led (codes "var") ws r, read, sound.fine.long, apart, sound.counted, sum_more (λ (x : Var). attr_values x.attrs) d.vars v, grown_with, g.part, vars, stand)

  -- the values of an attribute have room
  attr_room : (opened : Bool) (next : Known) (a : Attr) (vs : Values) → k.values ≡ total k → total next ≡ total k + a.count → Part opened next ss last → total last ≤ most_values → a.count ≡ count_of vs → HasRoom (Some a.kind) k.values (count_of vs)
  attr_room opened next a vs counted more part few count = record { all = omega (arith, counted, more, total_grown opened next ss last part, few, count); own = λ none. absurd (cc) }

  new_own_led : (a : Attr) → (version == 0) ≡ false → total last ≤ most_values → Sound k → Says version words (AttIs None a) → Grown false k (AttIs None a ∷ ss) last → Led false version k words ss last
  new_own_led a new few sound (w, given, vs, are, is, named, told, spells, same) g =
      let d = k.defined in
      let colon = codes ":" in
      let rest = Plain a.name ∷ Plain w ∷ given in
      let r : ℕ × Defined = (a.count, with_title colon a.name (with_attr_of_owner None a d)) in
      let next : Known = defined_next k r in
      let after : Grown false next ss last = grown_with g.ranks g.hints g.filled (g.part.0, g.part.1, g.part.2 ∙ sym (append_assoc d.attrs (a ∷ []) (own_attrs ss)), g.part.3, g.part.4.2) in
      let more : total next ≡ total k + a.count = omega (arith, sum_more (λ (x : Attr). x.count) d.attrs a) in
      let room = attr_room false next a vs sound.counted more after.part few (ap (λ (x : Attr). x.count) same) in
      let read : att_line version k.values d (Plain colon ∷ rest) ≡ Ok r =
      go_on (attribute version d.titles k.values colon rest) (λ x. Ok (x.count, with_title colon x.name (with_attr_of_owner None x d))) a r
      (attr_told version d.titles k.values colon a w given vs named told spells same g.part.4.1 room) refl in
      grind (arith, nat_tests, defined_led, sound.fine.long, sound.fine.apart, sound.counted)

  new_attr_led : (owner : List ℕ) (a : Attr) → (version == 0) ≡ false → total last ≤ most_values → Sound k → Says version words (AttIs (Some owner) a) → Grown false k (AttIs (Some owner) a ∷ ss) last → Led false version k words ss last
  new_attr_led owner a new few sound (w, given, vs, are, is, named, told, spells, same) g =
      let d = k.defined in
      let rest = Plain a.name ∷ Plain w ∷ given in
      let there = g.part.4.0 in
      let p = place_told owner (var_names d.vars) there in
      let r : ℕ × Defined = (a.count, with_title owner a.name (with_attr_of_owner (Some p.0) a d)) in
      let next : Known = defined_next k r in
      let vars = pushes p.0 a d.vars in
      let names : var_names (with_attr_at p.0 a d.vars) ≡ var_names d.vars = ap var_names vars ∙ names_kept p.0 a d.vars in
      let more_attrs = λ (n : List ℕ). attrs_of n ss in
      let later = later_names false d.dims (var_names d.vars) (d.titles ++ title_of (Some owner) a ∷ []) ss owner g.part.4.2 there in
      let step = attr_step last.defined.dims more_attrs owner a p.0 d.vars (vars_in ss) p.1 sound.fine.apart later ∙ ap (λ (xs : List Var). grown_vars last.defined.dims more_attrs xs (vars_in ss)) (sym vars) in
      let stand = subst (λ (ns : List (List ℕ)). Stand false d.dims ns (d.titles ++ (owner, a.name) ∷ []) ss) (sym names) g.part.4.2 in
      let after : Grown false next ss last = grown_with g.ranks g.hints g.filled (g.part.0, g.part.1, g.part.2, g.part.3 ∙ step, stand) in
      let pushed = ap own_values vars ∙ count-pushed p.0 owner a d.vars (found_name owner d.vars p.0 p.1) in
      let more : total next ≡ total k + a.count = omega (arith, pushed) in
      let room = attr_room false next a vs sound.counted more after.part few (ap (λ (x : Attr). x.count) same) in
      let read : att_line version k.values d (Plain owner ∷ rest) ≡ Ok r =
      go_on (reads_as owner_of_text kind.BadName (Plain owner ∷ rest)) _ (owner, rest) r (word_read owner_of_text kind.BadName owner owner rest (owner_told (Some owner) is).0)
      (go_on (owner_place d.vars owner) _ (Some p.0) r (owner_found d.vars owner p.0 is p.1)
      (go_on (attribute version d.titles k.values owner rest) _ a r (attr_told version d.titles k.values owner a w given vs named told spells same g.part.4.1 room) refl)) in
      grind (arith, nat_tests, defined_led, sound.fine.apart, sound.fine.long, sound.counted)

  fill_led : (version == 0) ≡ false → Sound k → Says version words IsFilled → Grown false k (IsFilled ∷ ss) last → Led false version k words ss last
  fill_led new sound are g =
      grind (arith, nat_tests, defined_led (codes "fill") [] ((0, record k.defined { filled = true })) new)

  -- ---- a dataset that is opened

  added_led : (first : List ℕ) (ws : List Word) (r : ℕ × Added) → (version == 0) ≡ true → bytes_eq first (codes "ranks") ≡ false → bytes_eq first (codes "hint") ≡ false → bytes_eq first (codes "data") ≡ false
      → words ≡ Plain first ∷ ws → addition k.values k.added first ws ≡ Ok r → Sound (added_next k r) → Grown true (added_next k r) ss last → Led true version k words ss last
  added_led first ws r old a b c are read sound g = grind (arith, nat_tests)

  added_dim_led : (x : Dim) → (version == 0) ≡ true → Sound k → Says 5 words (DimIs x) → Grown true k (DimIs x ∷ ss) last → Led true version k words ss last
  added_dim_led x old sound (w, are, named, told) g =
      let d = k.added in
      let r : ℕ × Added = (0, record d { dims = d.dims ++ x ∷ []; extras = d.extras ++ extra.Dim x ∷ [] }) in
      let ws = Plain x.name ∷ Plain w ∷ [] in
      grind (arith, nat_tests, added_led (codes "dim") ws r, dim_told 5 d.dims x w named told g.part.2.0, sound.fine.long, sound.fine.apart, sound.counted, sum_more values_in_extra d.extras (extra.Dim x), grown_with, g.part, append_assoc d.extras (extra.Dim x ∷ []) (extras_in ss))

  added_var_led : (line : VarLine) → (version == 0) ≡ true → Sound k → Says 5 words (VarIs line) → Grown true k (VarIs line ∷ ss) last → Led true version k words ss last
  added_var_led line old sound (w, brackets, inside, are, kind_is, named, between, parts_are, dims_named) g =
      let d = k.added in
      let said : VarWords 5 line = record { kind_word = w; shape_word = brackets; inside = inside; kind = kind_is; named = named; between = between; parts_are = parts_are; dims_named = dims_named } in
      let one = extra.Var line.kind line.name line.dims in
      let r : ℕ × Added = (0, with_line line d) in
      let ws = Plain w ∷ Plain line.name ∷ Plain brackets ∷ [] in
      grind (arith, nat_tests, added_led (codes "var") ws r, added_told d line said g.part.2.0, sound.fine.long, sound.fine.apart, sound.counted, sum_more values_in_extra d.extras one, grown_with, g.part, append_assoc d.extras (one ∷ []) (extras_in ss))

  added_att_led : (owner : Option (List ℕ)) (a : Attr) → (version == 0) ≡ true → total last ≤ most_values → Sound k → Says 5 words (AttIs owner a) → Grown true k (AttIs owner a ∷ ss) last → Led true version k words ss last
  added_att_led owner a old few sound (w, given, vs, are, is, named, told, spells, same) g =
      let d = k.added in
      let word = owner_word owner in
      let of_owner = owner_told owner is in
      let rest = Plain a.name ∷ Plain w ∷ given in
      let r : ℕ × Added = (a.count, record d { titles = d.titles ++ (word, a.name) ∷ []; extras = d.extras ++ extra.Att owner a ∷ [] }) in
      let next : Known = added_next k r in
      let after : Grown true next ss last = grown_with g.ranks g.hints g.filled (g.part.0, g.part.1 ∙ sym (append_assoc d.extras (extra.Att owner a ∷ []) (extras_in ss)), g.part.2.2) in
      let more : total next ≡ total k + a.count = omega (arith, sum_more values_in_extra d.extras (extra.Att owner a)) in
      let room = attr_room true next a vs sound.counted more after.part few (ap (λ (x : Attr). x.count) same) in
      added_led (codes "att") (Plain word ∷ rest) r old refl refl refl are
      (go_on (reads_as owner_of_text kind.BadName (Plain word ∷ rest)) _ (word, rest) r (word_read owner_of_text kind.BadName word word rest of_owner.0)
      (go_on (attribute 5 d.titles k.values word rest) _ a r (attr_told 5 d.titles k.values word a w given vs named told spells same g.part.2.1 room)
      (ap (λ (o : Option (List ℕ)). Ok (a.count, record d { titles = d.titles ++ (word, a.name) ∷ []; extras = d.extras ++ extra.Att o a ∷ [] })) of_owner.1)))
      (record { fine = record { long = sound.fine.long; apart = sound.fine.apart }; counted = omega (arith, sound.counted, more) }) after

-- ---- any line before `data`

pub led : (opened : Bool) (version : ℕ) (k : Known) (words : List Word) (s : Statement) (ss : List Statement) (last : Known) → (version == 0) ≡ opened → total last ≤ most_values → Sound k → Says (lines_version opened version) words s
    → Grown opened k (s ∷ ss) last → Led opened version k words ss last
led true version k words (RanksAre n) ss last e few sound says g = ranks_led true version 5 k words n ss last sound says g
led true version k words (HintIs i v) ss last e few sound says g = hint_led true version 5 k words i v ss last sound says g
led true version k words IsFilled ss last e few sound says g = let no : true ≡ false = g.part.2.0 in absurd (cc)
led true version k words (DimIs d) ss last e few sound says g = added_dim_led version k words ss last d e sound says g
led true version k words (VarIs line) ss last e few sound says g = added_var_led version k words ss last line e sound says g
led true version k words (AttIs owner a) ss last e few sound says g = added_att_led version k words ss last owner a e few sound says g
led false version k words (RanksAre n) ss last e few sound says g = ranks_led false version version k words n ss last sound says g
led false version k words (HintIs i v) ss last e few sound says g = hint_led false version version k words i v ss last sound says g
led false version k words IsFilled ss last e few sound says g = fill_led version k words ss last e sound says g
led false version k words (DimIs d) ss last e few sound says g = new_dim_led version k words ss last d e sound says g
led false version k words (VarIs line) ss last e few sound says g = new_var_led version k words ss last line e sound says g
led false version k words (AttIs None a) ss last e few sound says g = new_own_led version k words ss last a e few sound says g
led false version k words (AttIs (Some owner) a) ss last e few sound says g = new_attr_led version k words ss last owner a e few sound says g
