-- The posts that a call comes to are those of one request, of accepted regions of one variable; those of a put have their bytes, and hold none twice.
use Rattle.rank_core.proofs.Words.{◌≡◌, ℕ, suc, ◌+◌, ◌*◌, ◌<◌, ◌≤◌, refl, sym, ap, subst, ◌∙◌, inl, inr, List, [], ◌∷◌, length, map, Bool, true, false, cond, ltb, ◌&&◌, Option, Some, None, arith, filter, slice_get, ltb-true, length-map, sum_by-cons, filter_at_most, ok_both, Code, Header, NcType, Var, Post, Direction, Get, Put, Given, Region, Values, In, filter_in, size_of, is_sound, product, most_elements, data_bytes, data_code, direction_of, find_var, is_varn, look_at, look_parts, look_region, part_posts, parts_code, values_bytes, check_parts, check_some, check_var, elements_of_all, first_refusal, has_element, is_ok_code, is_put, part_region, part_regions, share_element, widen, check, refusal_of, Look, Asks, as_look, posts_of, HasValues, IsPut, ArePuts, AreTowards, HaveId, IsSomeLook, most_of, not, nat_tests, common_steps}
use Rattle.nc_base.specs.declared.answer.Code.TheVariants as code
use Rattle.serial_spec.specs.Looks as looks
use Rattle.rank_core.proofs.OutcomeLaws.{outcome}
use Rattle.rank_core.proofs.OwnLaws.{own_none}
use Rattle.rank_core.proofs.SeparateLaws.{own_once, separate_from_parts, AreSeparate, IsPostOf}
use Rattle.rank_core.proofs.ValueLaws.{code_passes, length-packed_bytes, length-values_bytes}

-- ---- what the check of many regions says

abbrev pick : Code → Bool → Bool → Code
pick refused large shared = cond (not (is_ok_code refused)) refused (cond large code.ETooLarge (cond shared code.ESelf code.Ok))

few_passed : (refused : Code) (put share : Bool) → pick refused false (put && share) ≡ code.Ok → (refused ≡ code.Ok) × (put ≡ true → share ≡ false)
few_passed code.Ok true false h = (refl, λ e. refl)
few_passed code.Ok false share h = (refl, λ e. absurd cc)
few_passed refused put share h = absurd cc

each_in : {A : Type 0} (f : A → Code) (xs : List A) (x : A) → first_refusal (map f xs) ≡ code.Ok → In xs x → f x ≡ code.Ok
each_in f [] x h i = absurd i
each_in f (y ∷ ys) x h (inl e) = ap f (sym e) ∙ (ok_both (f y) (first_refusal (map f ys)) h).0
each_in f (y ∷ ys) x h (inr i) = each_in f ys x (ok_both (f y) (first_refusal (map f ys)) h).1 i

pub record PartsPass (header : Header) (v : Var) (parts : List Region) (known : ℕ) (direction : Direction) : Type 0 where
  pub each : (g : Region) → In parts g → check_var header v g known direction ≡ code.Ok
  pub few : elements_of_all parts ≤ most_elements
  pub apart : is_put direction ≡ true → share_element parts ≡ false

pub parts_pass : (header : Header) (v : Var) (parts : List Region) (known : ℕ) (direction : Direction)
    → check_parts header v parts known direction ≡ code.Ok → PartsPass header v parts known direction
parts_pass header v parts known direction h = grind (arith, nat_tests, few_passed, each_in, pick, refusal_of)

-- ---- posts of parts

record IsPartPost (id var : ℕ) (kind : NcType) (values : Option Values) (all : ℕ) (regions : List Region) (p : Post) : Type 0 where
  id_is : p.id ≡ id
  var_is : p.var ≡ var
  is_one : In regions p.region
  before : ℕ
  within : before + product p.region.count ≤ all
  bytes_are : p.bytes ≡ values_bytes kind values before (product p.region.count)

part_in : (id var : ℕ) (kind : NcType) (values : Option Values) (k all : ℕ) (regions : List Region) (p : Post) → k + elements_of_all regions ≤ all
    → In (part_posts id var kind values k regions) p → IsPartPost id var kind values all regions p
part_in id var kind values k all [] p h i = absurd i
part_in id var kind values k all (g ∷ regions) p h (inl e) =
    let one = sum_by-cons (λ (r : Region). product r.count) g regions in
    subst (IsPartPost id var kind values all (g ∷ regions)) e
    (record { id_is = refl; var_is = refl; is_one = inl refl; before = k; within = omega (arith, one, h); bytes_are = refl })
part_in id var kind values k all (g ∷ regions) p h (inr i) = grind (arith, common_steps, part_in id var kind values (k + product g.count) all regions p)

regions_of_parts : (id var : ℕ) (kind : NcType) (values : Option Values) (k : ℕ) (regions : List Region) → map (λ p. p.region) (part_posts id var kind values k regions) ≡ regions
regions_of_parts id var kind values k [] = refl
regions_of_parts id var kind values k (g ∷ regions) = ap (λ (l : List Region). g ∷ l) (regions_of_parts id var kind values (k + product g.count) regions)

pub length-part_posts : (id var : ℕ) (kind : NcType) (values : Option Values) (k : ℕ) (regions : List Region) → length (part_posts id var kind values k regions) ≡ length regions
length-part_posts id var kind values k [] = refl
length-part_posts id var kind values k (g ∷ regions) = ap suc (length-part_posts id var kind values (k + product g.count) regions)

sum_by-filter-le : (gs : List Region) → elements_of_all (filter has_element gs) ≤ elements_of_all gs
sum_by-filter-le [] = omega arith
sum_by-filter-le (g ∷ gs) = grind (arith, common_steps, sum_by-filter-le gs)

pub asked_few : (header : Header) (v : Var) (parts : List Region) (known : ℕ) (direction : Direction) → check_parts header v parts known direction ≡ code.Ok
    → elements_of_all (filter has_element parts) ≤ most_elements
asked_few header v parts known direction h = grind (arith, nat_tests, parts_pass, sum_by-filter-le, filter)

-- ---- posts of accepted regions

module _ (header : Header) (k : ℕ) (v : Var) (known : ℕ) (there : slice_get header.vars k ≡ Some v) where
  found : (p : Post) → p.var ≡ k → slice_get header.vars p.var ≡ Some v
  found p e = ap (λ (n : ℕ). slice_get header.vars n) e ∙ there

  is_right : (d : Direction) (p : Post) → IsPostOf header k v known d p → check header p.var p.region known d ≡ code.Ok
  is_right d p h = ap (λ (o : Option Var). check_some header o p.region known d) (found p h.var) ∙ h.accepted

  put_of : (p : Post) → IsPostOf header k v known Put p → IsPut header known p
  put_of p h = grind (arith, nat_tests, is_right Put p h, found p h.var)

  pub put_right : (id : ℕ) (g : Region) (bytes : List ℕ) → check_var header v g known Put ≡ code.Ok → length bytes ≡ product g.count * size_of v.kind
      → IsPut header known (record { id = id; var = k; region = g; bytes = bytes })
  put_right id g bytes ok long = put_of _ (record { var = refl; accepted = ok; long = λ e. long })

  pub are_towards : is_sound header ≡ true → (d : Direction) (posts : List Post) → ((p : Post) → In posts p → IsPostOf header k v known d p)
      → (d ≡ Put → AreSeparate (map (λ p. p.region) posts)) → AreTowards d header known posts
  are_towards sound Put posts each apart = record { each = λ p i. put_of p (each p i); own = own_once header k v known sound there posts each (apart refl) }
  are_towards sound Get posts each apart = record { each = λ p i. is_right Get p (each p i); var = λ p q i j e. (each p i).var ∙ sym (each q j).var }

pub no_puts : (header : Header) (known : ℕ) → ArePuts header known []
no_puts header known = record { each = λ p i. absurd i; own = λ rank. own_none }

no_posts : (header : Header) (known : ℕ) (values : Option Values) → AreTowards (direction_of values) header known []
no_posts header known None = record { each = λ p i. absurd i; var = λ p q i. absurd i }
no_posts header known (Some values) = no_puts header known

data_long : (kind : NcType) (values : Option Values) (g : Region) → data_code kind g values ≡ code.Ok → direction_of values ≡ Put
    → length (data_bytes kind g values) ≡ product g.count * size_of kind
data_long kind None g h e = absurd cc
data_long kind (Some values) g h e = length-packed_bytes kind g values h

part_long : (kind : NcType) (values : Option Values) (all k n : ℕ) → HasValues kind values all → k + n ≤ all → direction_of values ≡ Put
    → length (values_bytes kind values k n) ≡ n * size_of kind
part_long kind None all k n h l e = absurd cc
part_long kind (Some values) all k n h l e = length-values_bytes kind values k n (omega (arith, l, h.1))

has_values : (kind : NcType) (values : Option Values) (n : ℕ) → parts_code kind n values ≡ code.Ok → HasValues kind values n
has_values kind None n h = tt
has_values kind (Some values) n h = grind (arith, nat_tests, code_passes)

-- ---- the posts of a call: those of one request, under its id

record AreAsked (header : Header) (known id : ℕ) (given : Given) (values : Option Values) (posts : List Post) : Type 0 where
  right : AreTowards (direction_of values) header known posts
  ids : HaveId id posts
  few : length posts ≤ most_of given

-- what a look that is the machine's has
pub record IsLookOf (header : Header) (known id : ℕ) (given : Given) (values : Option Values) (l : Look) : Type 0 where
  pub posts : AreTowards (direction_of values) header known (posts_of l)
  pub ids : HaveId id (posts_of l)
  pub few : length (posts_of l) ≤ most_of given
  pub some : IsSomeLook l

module _ (header : Header) (known id : ℕ) (given : Given) (values : Option Values) where
  abbrev Right : looks.Look → Type 0
  Right (looks.Asks posts) = (0 < length posts) × AreAsked header known id given values posts
  Right _ = Unit {0}

  outcome_right : (checked : Code) (some : Bool) (asked : List Post) (last : Code)
      → (checked ≡ code.Ok → some ≡ true → last ≡ code.Ok → (0 < length asked) × AreAsked header known id given values asked) → Right (outcome checked some asked last)
  outcome_right code.Ok true asked code.Ok right = right refl refl refl
  outcome_right checked some asked last right = tt

  module _ (sound : is_sound header ≡ true) where
    region_right : (k : ℕ) (v : Var) → slice_get header.vars k ≡ Some v → Right (look_region header known id k given values v)
    region_right k v there =
        let g = widen header v given known in
        let post : Post = record { id = id; var = k; region = g; bytes = data_bytes v.kind g values } in
        outcome_right (check_var header v g known (direction_of values)) (has_element g) (post ∷ []) (data_code v.kind g values) (λ ok some right. (
          omega arith,
          record {
            right = are_towards header k v known there sound (direction_of values) (post ∷ [])
                (λ p i. elim i [
                  | inl e ↦ subst (IsPostOf header k v known (direction_of values)) e (record { var = refl; accepted = ok; long = data_long v.kind values g right })
                  | inr none ↦ absurd none
                ])
                (λ e. (λ h i. absurd i, tt));
            ids = λ p i. elim i [ inl e ↦ sym (ap (λ (x : Post). x.id) e) | inr none ↦ absurd none ];
            few = omega arith;
          },
        ))

    parts_right : (k : ℕ) (v : Var) → slice_get header.vars k ≡ Some v → Right (look_parts header known id k given values v)
    parts_right k v there =
        let parts = part_regions v given in
        let asked = filter has_element parts in
        let long = length-part_posts id k v.kind values 0 asked in
        let fewer = filter_at_most has_element parts in
        let all = length-map given.parts (part_region v) in
        outcome_right (check_parts header v parts known (direction_of values)) (ltb 0 (length asked)) (part_posts id k v.kind values 0 asked)
        (parts_code v.kind (elements_of_all asked) values) (λ ok some right.
        let pass = parts_pass header v parts known (direction_of values) ok in
        let have = has_values v.kind values (elements_of_all asked) right in (
          omega (arith, long, ltb-true 0 (length asked) some),
          record {
            right = are_towards header k v known there sound (direction_of values) (part_posts id k v.kind values 0 asked)
                (λ p i. let r = part_in id k v.kind values 0 (elements_of_all asked) asked p (omega arith) i in
                record {
                  var = r.var_is;
                  accepted = pass.each p.region (filter_in has_element parts p.region r.is_one).0;
                  long = λ e. ap (λ (l : List ℕ). length l) r.bytes_are ∙ part_long v.kind values (elements_of_all asked) r.before (product p.region.count) have r.within e;
                })
                (λ e. subst AreSeparate (sym (regions_of_parts id k v.kind values 0 asked)) (separate_from_parts parts (pass.apart (ap is_put e))));
            ids = λ p i. (part_in id k v.kind values 0 (elements_of_all asked) asked p (omega arith) i).id_is;
            few = omega (arith, long, fewer, all);
          },
        ))

    var_right : (k : ℕ) (o : Option Var) → slice_get header.vars k ≡ o → Right (look_at header known id k given values o)
    var_right k None e = tt
    var_right k (Some v) e = form_right (is_varn given.form)
      where
        form_right : (b : Bool) → Right (elim b [ true ↦ look_parts header known id k given values v | false ↦ look_region header known id k given values v ])
        form_right true = parts_right k v e
        form_right false = region_right k v e

    place_right : (o : Option ℕ) → Right (elim o [ None ↦ looks.Refused code.ENotVar | Some k ↦ look_at header known id k given values (slice_get header.vars k) ])
    place_right None = tt
    place_right (Some k) = var_right k (slice_get header.vars k) refl

  of_look : (l : Look) → Right (as_look l) → IsLookOf header known id given values l
  of_look (Asks posts) h = record { posts = h.1.right; ids = h.1.ids; few = h.1.few; some = h.0 }
  of_look xs h = record { posts = no_posts header known values; ids = λ p m. absurd m; few = omega arith; some = tt }

  pub look_is : (name : List ℕ) (l : Look) → is_sound header ≡ true → as_look l ≡ looks.look header known id name given values → IsLookOf header known id given values l
  look_is name l sound e = of_look l (subst Right (sym e) (place_right sound (find_var header name)))
