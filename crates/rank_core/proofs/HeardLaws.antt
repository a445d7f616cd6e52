-- The values of the gets, added one after another by the ids of their requests.
use Rattle.std.proofs.lemmas.Grind.{common_steps}
use Rattle.std.specs.Prelude.{if◌then◌else◌, max}
use Rattle.rank_core.proofs.Words.{◌≡◌, ℕ, ◌+◌, ◌<◌, ◌∙◌, ap, sym, refl, List, [], ◌∷◌, map, length, get_or, drop, zip, Bool, true, false, cond, eqb, Option, Some, None, arith, holds_or_not, option_map, slice_get, cons_option, append_assoc, get_or-map, length-map, Header, Var, NcType, Item, Post, Values, Numbers, Text, Bits, Value, In, Class, class_of, got_values, values_for, with_more, kind_at, spread, gathered, is_ok_code, AreOnce, filled_by, joined, as_open, OpenOffer, nat_tests}
use Rattle.nc_base.specs.declared.step.Reply.{Reply}
use Rattle.serial_spec.specs.ExternalForm as form
use Rattle.serial_spec.specs.RankMachine as machine

-- ---- the kind of values

abbrev pub shape : Values → ℕ
shape (Numbers ns) = 0
shape (Text cs) = 1
shape (Bits ns) = 2

abbrev shape_of : Class → ℕ
shape_of form.Signed = 0
shape_of form.Unsigned = 0
shape_of form.Text = 1
shape_of form.Pattern = 2

abbrev shape_some : Option Var → ℕ
shape_some None = 0
shape_some (Some v) = shape_of (class_of v.kind)

-- that of a variable's values
abbrev pub shape_at : Header → ℕ → ℕ
shape_at header k = shape_some (slice_get header.vars k)

gathered_shape : (c : Class) (vs : List (Option Value)) → shape (gathered c vs) ≡ shape_of c
gathered_shape form.Signed vs = refl
gathered_shape form.Unsigned vs = refl
gathered_shape form.Text vs = refl
gathered_shape form.Pattern vs = refl

assoc : (a b c : Values) → shape a ≡ shape b → with_more a (with_more b c) ≡ with_more (with_more a b) c
assoc (Numbers a) (Numbers b) (Numbers c) h = ap Numbers (sym (append_assoc a b c))
assoc (Text a) (Text b) (Text c) h = ap Text (sym (append_assoc a b c))
assoc (Bits a) (Bits b) (Bits c) h = ap Bits (sym (append_assoc a b c))
assoc (Numbers a) (Text b) c h = absurd (omega arith)
assoc (Numbers a) (Bits b) c h = absurd (omega arith)
assoc (Text a) (Numbers b) c h = absurd (omega arith)
assoc (Text a) (Bits b) c h = absurd (omega arith)
assoc (Bits a) (Numbers b) c h = absurd (omega arith)
assoc (Bits a) (Text b) c h = absurd (omega arith)
assoc xs ys n h = refl

-- ---- values so far, then those of the rest

abbrev pub followed : Option Values → Option Values → Option Values
followed None more = more
followed (Some values) None = Some values
followed (Some values) (Some more) = Some (with_more values more)

first_is : (id q : ℕ) (v : Values) (rest : List (ℕ × Values)) → eqb id q ≡ true → values_for ((id, v) ∷ rest) q ≡ followed (Some v) (values_for rest q)
first_is id q v rest e = grind (arith, nat_tests, with_more v)

other_is : (id q : ℕ) (v : Values) (rest : List (ℕ × Values)) → eqb id q ≡ false → values_for ((id, v) ∷ rest) q ≡ values_for rest q
other_is id q v rest e = rw (e, values_for) refl

-- what a map has once the values v are added under id
abbrev pub added : (ℕ → Option Values) → ℕ → Values → ℕ → Option Values
added m id v q = cond (eqb id q) (Some (joined (m id) v)) (m q)

pub added_next : (m : ℕ → Option Values) (id q : ℕ) (v : Values) (rest : List (ℕ × Values)) → ((w : Values) → m id ≡ Some w → shape w ≡ shape v)
    → followed (m q) (values_for ((id, v) ∷ rest) q) ≡ followed (added m id v q) (values_for rest q)
added_next m id q v rest h = grind (arith, nat_tests, first_is, assoc, other_is, followed, added, joined)

-- ---- the values of one get

one_more : {Y : Type 0} (o : Option Y) (y : Y) (rest : List Y) → cons_option o [] ≡ y ∷ [] → cons_option o rest ≡ y ∷ rest
one_more None y rest h = cc
one_more {Y} (Some z) y rest h = let e : z ≡ y = cc in ap (λ (x : Y). x ∷ rest) e

pub got_more : (header : Header) (p : Post) (b : List ℕ) (v : Values) (rest : List (Post × List ℕ)) → got_values header ((p, b) ∷ []) ≡ (p.id, v) ∷ []
    → got_values header ((p, b) ∷ rest) ≡ (p.id, v) ∷ got_values header rest
got_more header p b v rest h = one_more (option_map (λ (kind : NcType). (p.id, spread kind p.region b)) (kind_at header p.var)) (p.id, v) (got_values header rest) h

pub got_is : (header : Header) (p : Post) (b : List ℕ) (var : Var) → slice_get header.vars p.var ≡ Some var
    → got_values header ((p, b) ∷ []) ≡ (p.id, spread var.kind p.region b) ∷ []
got_is header p b var e = ap (λ (o : Option Var). cons_option {X = ℕ × Values} (option_map (λ (kind : NcType). (p.id, spread kind p.region b)) (option_map (λ (v : Var). v.kind) o)) []) e

abbrev first_shape : ℕ → List (ℕ × Values) → ℕ
first_shape n [] = n
first_shape n (v ∷ vs) = shape v.1

value_shape : (p : Post) (b : List ℕ) (v : Values) (o : Option Var)
    → cons_option {X = ℕ × Values} (option_map (λ (kind : NcType). (p.id, spread kind p.region b)) (option_map (λ (w : Var). w.kind) o)) [] ≡ (p.id, v) ∷ [] → shape v ≡ shape_some o
value_shape p b v None h = cc
value_shape p b v (Some var) h = sym (ap (first_shape 0) h) ∙ gathered_shape (class_of var.kind) _

pub got_shape : (header : Header) (p : Post) (b : List ℕ) (v : Values) → got_values header ((p, b) ∷ []) ≡ (p.id, v) ∷ [] → shape v ≡ shape_at header p.var
got_shape header p b v h = value_shape p b v (slice_get header.vars p.var) h

-- ---- all gets

-- values stand under an id that are of the kind of each get with that id
abbrev pub HaveShapes : Header → List Post → (ℕ → Option Values) → Type 0
HaveShapes header gets m = (q : ℕ) (w : Values) (p : Post) → m q ≡ Some w → In gets p → p.id ≡ q → shape w ≡ shape_at header p.var

more_shape : (a b : Values) → shape (with_more a b) ≡ shape a
more_shape (Numbers a) (Numbers b) = refl
more_shape (Text a) (Text b) = refl
more_shape (Bits a) (Bits b) = refl
more_shape a b = refl

pub shapes_next : (header : Header) (gets : List Post) (m : ℕ → Option Values) (g : Post) (v : Values) → In gets g → ((p q : Post) → In gets p → In gets q → p.id ≡ q.id → p.var ≡ q.var)
    → HaveShapes header gets m → shape v ≡ shape_at header g.var → HaveShapes header gets (added m g.id v)
shapes_next header gets m g v here one h e q w p f k i = grind (arith, nat_tests, more_shape)

pub zip_next : (gets : List Post) (got : List (List ℕ)) (i : ℕ) (g : Post) (b : List ℕ) → i < length gets → i < length got → g ≡ get_or gets i g → b ≡ get_or got i b
    → zip (drop i gets) (drop i got) ≡ (g, b) ∷ zip (drop (i + 1) gets) (drop (i + 1) got)
zip_next gets got i g b l k e f = grind (arith, common_steps, zip)

pub same_at : {A B : Type 0} (f : A → ℕ) (g : B → ℕ) (xs : List A) (ys : List B) (i : ℕ) (x : A) (y : B) → map f xs ≡ map g ys → i < length xs → i < length ys
    → x ≡ get_or xs i x → y ≡ get_or ys i y → f x ≡ g y
same_at f g xs ys i x y h l k e d =
    ap f e ∙ sym (get_or-map f xs i x 0 l) ∙ ap (λ (ns : List ℕ). get_or ns i 0) h ∙ get_or-map g ys i y 0 k ∙ ap g (sym d)

pub same_long : {A B : Type 0} (f : A → ℕ) (g : B → ℕ) (xs : List A) (ys : List B) → map f xs ≡ map g ys → length xs ≡ length ys
same_long f g xs ys h = sym (length-map xs f) ∙ ap length h ∙ length-map ys g

-- ---- the items that take them

filled_at : (b : Bool) (v w : Option Values) → (b ≡ true → v ≡ w) → cond b v None ≡ cond b w None
filled_at true v w h = h refl
filled_at false v w h = refl

pub filled_same : (m n : ℕ → Option Values) (i : Item) → (is_ok_code i.code ≡ true → m i.id ≡ n i.id) → filled_by m i ≡ filled_by n i
filled_same m n i h = ap (λ (o : Option Values). record i { values = o }) (filled_at (is_ok_code i.code) (m i.id) (n i.id) h)

-- an item takes no values but its own
pub left_kept : (before after first : ℕ → Option Values) (item : Item) (items : List Item) → AreOnce (item ∷ items)
    → ((q : ℕ) → (q ≡ item.id → ⊥) → after q ≡ before q) → (is_ok_code item.code ≡ false → (q : ℕ) → after q ≡ before q)
    → ((i : Item) → In (item ∷ items) i → is_ok_code i.code ≡ true → before i.id ≡ first i.id)
    → (i : Item) → In items i → is_ok_code i.code ≡ true → after i.id ≡ first i.id
left_kept before after first item items once others kept left i here ok = grind (arith, nat_tests, holds_or_not, i.id, once.0)

-- ---- the answer

pub heard_as : (header : Header) (r : machine.Rank) (reply : Reply) (o : OpenOffer) (values : ℕ → Option Values)
    → ((id : ℕ) → values id ≡ values_for (got_values header (zip o.gets reply.got)) id)
    → (
      record r { known = max r.known reply.records; independent = o.independent; «open» = None },
      record { code = o.code; pair = reply.pair; number = None; values = if o.blocking then values 0 else None; items = map (filled_by values) o.items },
    )
    ≡ machine.hear_open header r reply (Some (as_open o))
heard_as header r reply o values h = grind (arith, nat_tests)
