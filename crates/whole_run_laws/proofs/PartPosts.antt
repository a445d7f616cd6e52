-- The posts of a call of form varn are those of calls on its parts, each with its share of the values.
use Rattle.whole_run_laws.proofs.Words.{each_in, fails_each, in_range, ◌≡◌, ℕ, zero, suc, ◌+◌, ◌<◌, ◌≤◌, refl, ap, inl, inr, List, [], ◌∷◌, ◌++◌, length, map, take, drop, Bool, true, false, not, cond, ltb, Option, Some, None, option_map, arith, filter, flat_map, slice_get, range_with_len, lt-ltb, ltb-false, sum_by-cons, any_map, entry_below, count_of, Code, Header, NcType, Var, Post, Direction, Get, Put, Varn, Given, Part, Region, Values, Numbers, Text, Bits, class_of, product, In, find_var, kind_code, look, look_at, look_parts, look_region, part_posts, parts_code, some_fits, values_bytes, code_of_look, posts_of, check_parts, check_var, elements_of_all, has_element, part_region, part_regions, value_at, parts_pass, outcome, on_part, own_values, values_from, nat_tests, common_steps, is_none}
use Rattle.nc_base.specs.declared.answer.Code.TheVariants as code
use Rattle.serial_spec.specs.Looks as looks
use Rattle.list_laws.proofs.Ranges.{none_in_range}

-- ---- a call that is not refused

passed : (checked : Code) (some : Bool) (asked : List Post) (last : Code) → code_of_look (outcome checked some asked last) ≡ code.Ok
    → (checked ≡ code.Ok) × (some ≡ true → last ≡ code.Ok)
passed checked some asked last h = grind (arith, nat_tests)

asks : (checked : Code) (some : Bool) (asked : List Post) (last : Code) → checked ≡ code.Ok → (some ≡ true → last ≡ code.Ok)
    → posts_of (outcome checked some asked last) ≡ cond some asked []
asks checked some asked last e f = grind (arith, nat_tests, outcome)

-- ---- a share of the values

taken : {X : Type 0} (xs : List X) (k n i : ℕ) → i < n → slice_get (take n (drop k xs)) i ≡ slice_get xs (k + i)
taken [] zero (suc n) i l = refl
taken [] (suc k) (suc n) i l = refl
taken (x ∷ xs) zero (suc n) i l = grind (arith, nat_tests, taken xs 0 n)
taken (x ∷ xs) (suc k) n i l = grind (arith, nat_tests, taken xs k n i l)
taken _ _ _ i l = absurd (omega arith)

same_value : (values : Values) (k n i : ℕ) → i < n → value_at (values_from values k n) i ≡ value_at values (k + i)
same_value values k n i l = grind (arith, nat_tests, option_map, taken)

-- over two ranges that say the same
flat_shifted : {A : Type 0} (f h : ℕ → List A) (a b n : ℕ) → ((i : ℕ) → i < n → f (a + i) ≡ h (b + i)) → flat_map f (range_with_len a n) ≡ flat_map h (range_with_len b n)
flat_shifted f h a b zero e = refl
flat_shifted f h a b (suc n) e =
    grind (arith, nat_tests, e 0, flat_shifted f h (a + 1) (b + 1) n (λ i l. grind (arith, nat_tests, e (suc i))))

-- ---- the values are enough, and fit

record AreRight (kind : NcType) (values : Values) (all : ℕ) : Type 0 where
  kinds : kind_code (class_of kind) values ≡ code.Ok
  enough : all ≤ count_of values
  fit : (i : ℕ) → i < all → not (some_fits kind (value_at values i)) ≡ false

right_values : (kind : NcType) (values : Values) (all : ℕ) → parts_code kind all (Some values) ≡ code.Ok → AreRight kind values all
right_values kind values all h =
    let test = λ (m : ℕ). not (some_fits kind (value_at values m)) in
    grind (arith, nat_tests, ltb-false (count_of values) all, each_in (λ m. test m ≡ false) (range_with_len 0 all), fails_each test (range_with_len 0 all), in_range 0 all)

value_there : (values : Values) (i : ℕ) → i < count_of values → is_none (value_at values i) ≡ false
value_there (Numbers zs) i l = grind (arith, nat_tests, entry_below zs i)
value_there (Text cs) i l = grind (arith, nat_tests, entry_below cs i)
value_there (Bits ns) i l = grind (arith, nat_tests, entry_below ns i)

-- ---- one part

module _ (header : Header) (known id k : ℕ) (var : Var) where
  abbrev region : Part → Region
  region p = part_region var p

  abbrev post : Option Values → ℕ → Region → Post
  post values n g = record { id = id; var = k; region = g; bytes = values_bytes var.kind values n (product g.count) }

  abbrev of_part : Part → Option Values → List Post
  of_part p own = posts_of (look_region header known id k (on_part p) own var)

  abbrev asked : List Part → List Region
  asked parts = filter has_element (map region parts)

  put_part : (p : Part) (values : Values) (n all : ℕ) → check_var header var (region p) known Put ≡ code.Ok
      → (has_element (region p) ≡ true → AreRight var.kind values all × (n + product p.count ≤ all))
      → of_part p (Some (values_from values n (product p.count))) ≡ cond (has_element (region p)) (post (Some values) n (region p) ∷ []) []
  put_part p values n all ok right =
      grind (arith, nat_tests, asks (check_var header var (region p) known Put) (has_element (region p)), any_map, none_in_range, value_there, is_none, not, flat_shifted, same_value, region)

  get_part : (p : Part) (n : ℕ) → check_var header var (region p) known Get ≡ code.Ok
      → of_part p None ≡ cond (has_element (region p)) (post None n (region p) ∷ []) []
  get_part p n ok = grind (arith, nat_tests, asks)

  -- ---- all parts

  -- the posts of the first part and the others are its own and theirs
  first_part : (values : Option Values) (n : ℕ) (p : Part) (rest : List Region) (own later : List Post)
      → own ≡ cond (has_element (region p)) (post values n (region p) ∷ []) []
      → part_posts id k var.kind values (n + product p.count) rest ≡ later
      → part_posts id k var.kind values n (cond (has_element (region p)) (region p ∷ rest) rest) ≡ own ++ later
  first_part values n p rest own later e f = grind (arith, nat_tests, ltb-false)

  abbrev Right : Values → ℕ → List Region → Type 0
  Right values all regions = 0 < length regions → AreRight var.kind values all

  abbrev AllPass : List Part → Direction → Type 0
  AllPass parts way = (g : Region) → In (map region parts) g → check_var header var g known way ≡ code.Ok

  puts_of_parts : (parts : List Part) (values : Values) (n all : ℕ) → AllPass parts Put → Right values all (asked parts) → n + elements_of_all (asked parts) ≤ all
      → part_posts id k var.kind (Some values) n (asked parts) ≡ flat_map (λ part. of_part part.0 (Some part.1)) (own_values values n parts)
  puts_of_parts [] values n all ok right room = refl
  puts_of_parts (p ∷ parts) values n all ok right room =
      let rest = asked parts in
      let more : n + product p.count + elements_of_all rest ≤ all = grind (arith, nat_tests, sum_by-cons, ltb-false, common_steps) in
      first_part (Some values) n p rest (of_part p (Some (values_from values n (product p.count)))) _
      (put_part p values n all (ok (region p) (inl refl)) (λ t. (grind (arith, nat_tests, right, t), omega (arith, more))))
      (puts_of_parts parts values (n + product p.count) all (λ g i. ok g (inr i)) (λ l. grind (arith, nat_tests, right, l)) more)

  gets_of_parts : (parts : List Part) (n : ℕ) → AllPass parts Get → part_posts id k var.kind None n (asked parts) ≡ flat_map (λ part. of_part part None) parts
  gets_of_parts [] n ok = refl
  gets_of_parts (p ∷ parts) n ok =
      first_part None n p (asked parts) (of_part p None) _ (get_part p n (ok (region p) (inl refl))) (gets_of_parts parts (n + product p.count) (λ g i. ok g (inr i)))

  if_some : (values : Option Values) (gs : List Region) → cond (ltb 0 (length gs)) (part_posts id k var.kind values 0 gs) [] ≡ part_posts id k var.kind values 0 gs
  if_some values [] = refl
  if_some values (g ∷ gs) = ap (λ (b : Bool). cond b (part_posts id k var.kind values 0 (g ∷ gs)) []) (lt-ltb 0 (length (g ∷ gs)) (omega arith))

  parts_put : (given : Given) (values : Values) → code_of_look (look_parts header known id k given (Some values) var) ≡ code.Ok
      → posts_of (look_parts header known id k given (Some values) var) ≡ flat_map (λ part. of_part part.0 (Some part.1)) (own_values values 0 given.parts)
  parts_put given values h =
      let gs = asked given.parts in
      grind (arith, nat_tests, passed (check_parts header var (part_regions var given) known Put) (ltb 0 (length gs)), asks (check_parts header var (part_regions var given) known Put) (ltb 0 (length gs)), if_some (Some values) gs, puts_of_parts given.parts values 0 (elements_of_all gs), parts_pass header var (part_regions var given) known Put, right_values var.kind values (elements_of_all gs))

  parts_get : (given : Given) → code_of_look (look_parts header known id k given None var) ≡ code.Ok
      → posts_of (look_parts header known id k given None var) ≡ flat_map (λ part. of_part part None) given.parts
  parts_get given h =
      let gs = asked given.parts in
      grind (arith, nat_tests, passed (check_parts header var (part_regions var given) known Get) (ltb 0 (length gs)), asks (check_parts header var (part_regions var given) known Get) (ltb 0 (length gs)), if_some None gs, gets_of_parts given.parts 0, parts_pass header var (part_regions var given) known Get, var.kind, code.Ok)

-- ---- by name

module _ (header : Header) (known id : ℕ) (given : Given) (many : given.form ≡ Varn) where
  abbrev at_name : Given → Option Values → Option ℕ → looks.Look
  at_name each values o = elim o [ None ↦ looks.Refused code.ENotVar | Some k ↦ look_at header known id k each values (slice_get header.vars k) ]

  as_parts : (k : ℕ) (values : Option Values) (var : Var) → look_at header known id k given values (Some var) ≡ look_parts header known id k given values var
  as_parts k values var = grind (arith, nat_tests)

  puts_at : (values : Values) (o : Option ℕ) → code_of_look (at_name given (Some values) o) ≡ code.Ok
      → posts_of (at_name given (Some values) o) ≡ flat_map (λ part. posts_of (at_name (on_part part.0) (Some part.1) o)) (own_values values 0 given.parts)
  puts_at values o h = grind (arith, nat_tests, as_parts, parts_put)

pub varn_puts : (header : Header) (known id : ℕ) (name : List ℕ) (given : Given) (values : Values) → given.form ≡ Varn
    → code_of_look (look header known id name given (Some values)) ≡ code.Ok
    → posts_of (look header known id name given (Some values))
    ≡ flat_map (λ part. posts_of (look header known id name (on_part part.0) (Some part.1))) (own_values values 0 given.parts)
varn_puts header known id name given values many h = puts_at header known id given many values (find_var header name) h

pub varn_gets : (header : Header) (known id : ℕ) (name : List ℕ) (given : Given) → given.form ≡ Varn
    → code_of_look (look header known id name given None) ≡ code.Ok
    → posts_of (look header known id name given None) ≡ flat_map (λ part. posts_of (look header known id name (on_part part) None)) given.parts
varn_gets header known id name given many h = grind (arith, nat_tests, as_parts, parts_get)
