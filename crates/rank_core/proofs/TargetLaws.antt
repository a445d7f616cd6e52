-- What a call on a variable comes to, as its parts find it out.
use Rattle.rank_core.proofs.Words.{◌≡◌, ℕ, ◌<◌, ◌≤◌, refl, sym, ap, subst, ◌∙◌, List, [], ◌∷◌, length, Bool, true, false, ltb, Option, None, Some, Result, Err, IfSome, arith, filter, slice_get, IfErr, IfOk-weaker, OnOk, le-ltb, lt-ltb, CallErr, Code, Header, Var, Post, Direction, Form, Given, Region, Values, IsMapped, IsRefusal, product, most_elements, data_bytes, data_code, direction_of, find_var, is_varn, part_posts, parts_code, check, check_parts, check_some, check_var, elements_of_all, has_element, part_regions, widen, Target, look_of, ComesTo, Ranked, IsTargetOf, IfOk, nat_tests}
use Rattle.nc_base.specs.declared.answer.CallErr.TheVariants as refusal
use Rattle.nc_base.specs.declared.answer.Code.TheVariants as code
use Rattle.nc_base.specs.declared.request.Form.TheVariants as form
use Rattle.serial_spec.specs.Looks as looks
use Rattle.vara_extents.specs.Parts as parts
use Rattle.rank_core.specs.Targets.{look_at, look_parts, look_region}
use Rattle.rank_core.proofs.LookLaws.{asked_few}
use Rattle.rank_core.proofs.MappedLaws.{accepted_mapped}
use Rattle.rank_core.proofs.OutcomeLaws.{checked_refused, no_element, outcome, outcome_comes, parts_ask}

module _ (t : Target) (given : Given) (values : Option Values) (way : Direction) (is_way : way ≡ direction_of values) where
  -- ---- one region

  abbrev post : Region → Post
  post g = record { id = t.id; var = t.place; region = g; bytes = data_bytes t.var.now.kind g values }

  abbrev region_outcome : Region → looks.Look
  region_outcome g = outcome (check_var t.header.now t.var.now g t.known (direction_of values)) (has_element g) (post g ∷ []) (data_code t.var.now.kind g values)

  module _ (g : Region) (wide : IfSome (slice_get t.header.now.vars t.place) (λ v. g ≡ widen t.header.now v given t.known)) where
    region_is : region_outcome g ≡ look_region t given values
    unfolding look_region
    region_is = ap region_outcome (subst (λ (o : Option Var). IfSome o (λ v. g ≡ widen t.header.now v given t.known)) t.there wide)

    checked : check t.header.now t.place g t.known way ≡ check_var t.header.now t.var.now g t.known (direction_of values)
    checked =
        ap (λ (o : Option Var). check_some t.header.now o g t.known way) t.there
        ∙ ap (λ (d : Direction). check_var t.header.now t.var.now g t.known d) is_way

    pub region_mapped : check t.header.now t.place g t.known way ≡ code.Ok → IsMapped g
    region_mapped h = accepted_mapped t.header.now t.var.now g t.known (direction_of values) (sym checked ∙ h)

    pub region_refused : (c : Code) → c ≡ check t.header.now t.place g t.known way → (c ≡ code.Ok → ⊥) → looks.Refused c ≡ look_region t given values
    region_refused c e n = checked_refused _ _ _ _ c (e ∙ checked) n ∙ region_is

    pub region_empty : check t.header.now t.place g t.known way ≡ code.Ok → ltb 0 (product g.count) ≡ false → looks.Empty ≡ look_region t given values
    region_empty h e = no_element _ _ _ _ (sym checked ∙ h) e ∙ region_is

    pub region_comes : (r : Result (List Post) CallErr) → check t.header.now t.place g t.known way ≡ code.Ok → ltb 0 (product g.count) ≡ true
        → IfOk r (λ posts. posts ≡ record { id = t.id; var = t.place; region = g; bytes = data_bytes t.var.now.kind g values } ∷ [])
        → OnOk r (data_code t.var.now.kind g values ≡ code.Ok) → IfErr r (IsRefusal (data_code t.var.now.kind g values)) → ComesTo (look_region t given values) r
    region_comes r h e is right unfit =
        subst (λ (m : looks.Look). ComesTo m r) region_is
        (outcome_comes _ _ (post g ∷ []) _ r (sym checked ∙ h) e (IfOk-weaker r _ _ (λ posts same. ap look_of same) is) right unfit)

  -- ---- many regions

  parts_checked : parts.parts_code t.header.now t.place given t.known way ≡ check_parts t.header.now t.var.now (part_regions t.var.now given) t.known (direction_of values)
  parts_checked = grind (arith, nat_tests)

  abbrev parts_outcome : List Region → looks.Look
  parts_outcome gs =
      outcome (check_parts t.header.now t.var.now (part_regions t.var.now given) t.known (direction_of values)) (ltb 0 (length gs))
      (part_posts t.id t.place t.var.now.kind values 0 gs) (parts_code t.var.now.kind (elements_of_all gs) values)

  pub parts_refused : (e : CallErr) → IsRefusal (parts.parts_code t.header.now t.place given t.known way) e → ComesTo (look_parts t given values) (Err e)
  unfolding look_parts
  parts_refused (refusal.Code c) r = checked_refused _ _ _ _ c (r.0 ∙ parts_checked) r.1
  parts_refused refusal.Memory r = r

  module _ (ok : parts.parts_code t.header.now t.place given t.known way ≡ code.Ok) (gs : List Region) (is : gs ≡ filter has_element (part_regions t.var.now given)) where
    parts_is : parts_outcome gs ≡ look_parts t given values
    unfolding look_parts
    parts_is = ap parts_outcome is

    pub regions_few : elements_of_all gs ≤ most_elements
    regions_few = subst (λ (rs : List Region). elements_of_all rs ≤ most_elements) (sym is) (asked_few t.header.now t.var.now (part_regions t.var.now given) t.known (direction_of values) (sym parts_checked ∙ ok))

    pub parts_empty : length gs ≡ 0 → looks.Empty ≡ look_parts t given values
    parts_empty none = no_element _ _ _ _ (sym parts_checked ∙ ok) (le-ltb 0 (length gs) (omega (arith, none))) ∙ parts_is

    pub parts_come : (r : Result (List Post) CallErr) → 0 < length gs → IfOk r (λ posts. posts ≡ part_posts t.id t.place t.var.now.kind values 0 gs)
        → OnOk r (parts_code t.var.now.kind (elements_of_all gs) values ≡ code.Ok) → IfErr r (IsRefusal (parts_code t.var.now.kind (elements_of_all gs) values))
        → ComesTo (look_parts t given values) r
    parts_come r some same right unfit =
        let here = lt-ltb 0 (length gs) some in
        subst (λ (m : looks.Look). ComesTo m r) parts_is
        (outcome_comes _ _ (part_posts t.id t.place t.var.now.kind values 0 gs) _ r (sym parts_checked ∙ ok) here
        (IfOk-weaker r _ _ (λ posts e. ap look_of e ∙ parts_ask t.id t.place t.var.now.kind values 0 gs here) same) right unfit)

-- ---- either

varn_form : (f : Form) → (f ≡ form.Varn → ⊥) → is_varn f ≡ false
varn_form form.Varn n = absurd (n refl)
varn_form f n = refl

abbrev at_form : Target → Given → Option Values → Bool → looks.Look
at_form t given values b = elim b [
  | true ↦ looks.look_parts t.header.now t.known t.id t.place given values t.var.now
  | false ↦ looks.look_region t.header.now t.known t.id t.place given values t.var.now
]

pub at_parts : (t : Target) (given : Given) (values : Option Values) (r : Result (List Post) CallErr) → given.form ≡ form.Varn → ComesTo (look_parts t given values) r → ComesTo (look_at t given values) r
unfolding look_at look_parts
at_parts t given values r e h = subst (λ (b : Bool). ComesTo (at_form t given values b) r) (sym (ap is_varn e)) h

pub at_region : (t : Target) (given : Given) (values : Option Values) (r : Result (List Post) CallErr) → (given.form ≡ form.Varn → ⊥) → ComesTo (look_region t given values) r → ComesTo (look_at t given values) r
unfolding look_at look_region
at_region t given values r n h = subst (λ (b : Bool). ComesTo (at_form t given values b) r) (sym (varn_form given.form n)) h

-- ---- by name

abbrev by_place : Header → ℕ → ℕ → Given → Option Values → Option ℕ → looks.Look
by_place header known id given values o =
    elim o [ None ↦ looks.Refused code.ENotVar | Some k ↦ looks.look_at header known id k given values (slice_get header.vars k) ]

pub look_missing : (header : Header) (known id : ℕ) (name : List ℕ) (given : Given) (values : Option Values) → None ≡ find_var header name
    → looks.Refused code.ENotVar ≡ looks.look header known id name given values
look_missing header known id name given values e = ap (by_place header known id given values) e

pub look_found : (rank : Ranked) (id : ℕ) (name : List ℕ) (given : Given) (values : Option Values) (t : Target) → Some t.place ≡ find_var rank.header name
    → IsTargetOf rank id t → look_at t given values ≡ looks.look rank.header rank.state.known id name given values
unfolding look_at
look_found rank id name given values t e is = grind (arith, nat_tests)
