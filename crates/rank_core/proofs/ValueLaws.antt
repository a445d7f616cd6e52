-- The values of a put and their bytes, one after another and part by part.
use Rattle.rank_core.proofs.Words.{◌≡◌, ℕ, ◌+◌, ◌-◌, ◌*◌, ◌<◌, ◌≤◌, refl, sym, ap, ◌∙◌, List, [], ◌∷◌, ◌++◌, length, map, append-nil, Bool, false, not, cond, ◌||◌, Option, Some, None, is_none, arith, flat_map, list_any, range_with_len, or_from, length-append, flat_map-append, get_or-range_with_len, length-range_with_len, any_map, range_append, all_below, CallErr, Code, NcType, Post, Region, Value, Values, size_of, product, part_posts, parts_code, some_fits, values_bytes, values_code, elements_of_all, is_ok_code, count_of, ext_of, packed_bytes, positions, value_at, IsRangeRefusal, IsRefusal, length-positions, range_more, lacks, part_refused, range_refused, ext_at, some_unfit, unfit_at, HasValues, or_false, be_long, nat_tests, common_steps}
use Rattle.nc_base.specs.declared.answer.CallErr.TheVariants as refusal
use Rattle.nc_base.specs.declared.answer.Code.TheVariants as code

-- ---- how long they are

-- as many bytes as the values have at these positions
all_long : (kind : NcType) (values : Values) (ps : List ℕ) → list_any (λ o. is_none o) (map (λ m. value_at values m) ps) ≡ false
    → length (flat_map (λ m. ext_of kind (value_at values m)) ps) ≡ length ps * size_of kind
all_long kind values [] h = omega arith
all_long kind values (p ∷ ps) h = grind (arith, nat_tests, is_none, value_at, be_long, all_long kind values ps, length-append, flat_map, is_none, list_any)

-- the kinds are alike, and no value lacks
pub code_passes : (c : Code) (lacking unfit : Bool) → cond (not (is_ok_code c)) c (cond lacking code.EMapSize (cond unfit code.ERange code.Ok)) ≡ code.Ok
    → (c ≡ code.Ok) × (lacking ≡ false)
code_passes code.Ok false unfit h = (refl, refl)
code_passes c lacking unfit h = absurd cc

pub length-packed_bytes : (kind : NcType) (g : Region) (values : Values) → values_code kind g values ≡ code.Ok → length (packed_bytes kind g values) ≡ product g.count * size_of kind
length-packed_bytes kind g values h = grind (arith, nat_tests, all_long, code_passes, length-positions)

pub length-values_bytes : (kind : NcType) (values : Values) (k n : ℕ) → k + n ≤ count_of values → length (values_bytes kind (Some values) k n) ≡ n * size_of kind
length-values_bytes kind values k n h =
    all_long kind values (range_with_len k n) (sym (lacks values (range_with_len k n)) ∙ all_below (count_of values) k n h)
    ∙ ap (λ (m : ℕ). m * size_of kind) (length-range_with_len k n)

-- ---- one value more

pub values_more : (kind : NcType) (values : Values) (k n j : ℕ) → k + n ≡ j
    → values_bytes kind (Some values) k (n + 1) ≡ values_bytes kind (Some values) k n ++ ext_at kind values j
values_more kind values k n j h = grind (arith, nat_tests, value_at values, range_more k n j h, flat_map-append, append-nil)

pub unfit_more : (kind : NcType) (values : Values) (k n j : ℕ) → k + n ≡ j
    → some_unfit kind (Some values) k (n + 1) ≡ (some_unfit kind (Some values) k n || unfit_at kind values j)
unfit_more kind values k n j h = grind (arith, common_steps, range_more k n j h, or_false)

pub still_fit : (a b c : Bool) → c ≡ (a || b) → a ≡ false → b ≡ false → c ≡ false
still_fit a b c e f g = e ∙ or_from a b f g

-- ---- more of them

pub unfit_append : (kind : NcType) (values : Option Values) (k n m j : ℕ) → k + n ≡ j
    → some_unfit kind values k (n + m) ≡ (some_unfit kind values k n || some_unfit kind values j m)
unfit_append kind None k n m j h = refl
unfit_append kind (Some values) k n m j h = grind (arith, common_steps, range_append k n m)

-- where some of the values do not fit, some of all do not
pub part_unfit : (kind : NcType) (values : Option Values) (k n all : ℕ) (e : CallErr) → k + n ≤ all
    → IsRangeRefusal (some_unfit kind values k n) e → IsRangeRefusal (some_unfit kind values 0 all) e
part_unfit kind values k n all e h =
    grind (arith, nat_tests, part_refused (some_unfit kind values 0 all) (some_unfit kind values k n) e, unfit_append kind values 0 k (n + (all - (k + n))) k, unfit_append kind values k n (all - (k + n)) (k + n))

-- where one value does not fit
pub one_unfit : (kind : NcType) (values : Values) (k n j all : ℕ) (e : CallErr) → n < all → k + n ≡ j
    → IsRangeRefusal (unfit_at kind values j) e → IsRangeRefusal (some_unfit kind (Some values) k all) e
one_unfit kind values k n j all e l h r =
    let test : Option Value → Bool = λ o. not (some_fits kind o) in
    let place = get_or-range_with_len k all n 0 l ∙ h in
    let long = length-range_with_len k all in
    grind (arith, nat_tests, any_map test (value_at values) (range_with_len k all), value_at values, range_refused test values (range_with_len k all) n e)

-- ---- one part more

part_posts_push : (id var : ℕ) (kind : NcType) (values : Option Values) (k : ℕ) (gs : List Region) (g : Region)
    → part_posts id var kind values k (gs ++ g ∷ [])
    ≡ part_posts id var kind values k gs ++ record { id = id; var = var; region = g; bytes = values_bytes kind values (k + elements_of_all gs) (product g.count) } ∷ []
part_posts_push id var kind values k [] g = grind (arith, nat_tests)
part_posts_push id var kind values k (h ∷ gs) g = grind (arith, common_steps, part_posts_push id var kind values (k + product h.count) gs g)

pub part_more : (id var : ℕ) (kind : NcType) (values : Option Values) (gs : List Region) (g : Region) (posts next : List Post) (before : ℕ)
    → posts ≡ part_posts id var kind values 0 gs → before ≡ elements_of_all gs → next ≡ posts ++ part_posts id var kind values before (g ∷ [])
    → next ≡ part_posts id var kind values 0 (gs ++ g ∷ [])
part_more id var kind values gs g posts next before h e is = grind (arith, nat_tests, part_posts_push)

pub has_fewer : (kind : NcType) (values : Option Values) (m n : ℕ) → m ≤ n → HasValues kind values n → HasValues kind values m
has_fewer kind None m n l h = tt
has_fewer kind (Some values) m n l h = (h.0, omega (arith, h.1))

-- ---- the code of the values

pub parts_code-has_values : (kind : NcType) (values : Option Values) (n : ℕ) → HasValues kind values n
    → parts_code kind n values ≡ cond (some_unfit kind values 0 n) code.ERange code.Ok
parts_code-has_values kind None n h = refl
parts_code-has_values kind (Some values) n h = grind (arith, nat_tests, h.0, h.1, some_unfit)

pub range_refusal : (unfit : Bool) (c : Code) (e : CallErr) → c ≡ cond unfit code.ERange code.Ok → IsRangeRefusal unfit e → IsRefusal c e
range_refusal unfit c (refusal.Code d) same r = grind (arith, nat_tests)
range_refusal unfit c refusal.Memory same r = r
