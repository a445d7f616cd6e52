-- The puts of a step one after another, and an independent put of many regions region by region.
use Rattle.whole_run_laws.proofs.Words.{◌≡◌, ℕ, ◌+◌, ◌≤◌, max, refl, sym, ◌∙◌, ap, inl, inr, List, [], ◌∷◌, ◌++◌, length, map, Bool, true, false, ltb, Option, Some, None, arith, cases_lt, or_cases, nat_tests, fold-append, map-append, AllByRecursion, filter, flat_map, fold, slice_get, some_or_none, and_first, Code, Header, NcType, Var, Post, Call, Put, Varn, Given, Part, Region, Values, at, longer, written, Counted, Setting, after_puts, end_for, put_some, told, product, is_varn, look, look_at, look_parts, look_region, part_posts, code_of_look, posts_of, needed, needed_by, bound, has_element, part_regions, widen, Cell, write_cells, Going, Holding, Holds, Key, Puts, first_end, holdings, second_end, at-longer, longer-enough, longer_long, after_grows, key_equal, end_grows, cells_said, same_file, outcome, outcome_posts, makes, on_part, own_values, put_parts}
use Rattle.nc_base.specs.declared.answer.Code.TheVariants as code
use Rattle.nc_base.specs.declared.request.Call.TheVariants as call
use Rattle.serial_spec.specs.Looks as looks
use Rattle.whole_run_laws.proofs.PartPosts.{varn_puts}
use Rattle.whole_run_laws.proofs.ToldLaws.{pair_is_least}
use Rattle.serial_spec.proofs.FileLaws.{length-written}
use Rattle.serial_spec.proofs.KeyLaws.{not_below_itself}

-- ---- a file and the same one made longer

cells_longer : (f g : List ℕ) (n : ℕ) (cs : List Cell) → length f ≡ max (length g) n → length (write_cells f cs) ≡ max (length (write_cells g cs)) n
cells_longer f g n [] e = e
cells_longer f g n (c ∷ cs) e =
    grind (arith, nat_tests, cells_longer (written f c.0 c.1) (written g c.0 c.1) n cs (omega (arith, e, (length-written f c.0 c.1), (length-written g c.0 c.1))), length-written)

put_same : (s : Setting) (v : Option Var) (post : Post) (f g : List ℕ) → ((x : ℕ) → at f x ≡ at g x) → (x : ℕ) → at (put_some s v post f) x ≡ at (put_some s v post g) x
put_same s v post f g e x = grind (arith, nat_tests, cells_said)

-- ---- one put after another

abbrev left_by : Setting → List ℕ → ℕ × Post → List ℕ
left_by s file p = after_puts s (p ∷ []) None file

first_then : (s : Setting) (p : ℕ × Post) (puts : Puts) (file : List ℕ) → after_puts s (p ∷ puts) None file ≡ after_puts s puts None (left_by s file p)
first_then s p puts file =
    let v = slice_get s.header.vars p.1.var in
    let all = longer file (end_for s (max (needed s.header p.1) (needed_by s.header puts))) in
    let own = longer file (end_for s (max (needed s.header p.1) 0)) in
    let rest = end_for s (needed_by s.header puts) in
    let long : length all ≡ max (length own) rest = grind (arith, nat_tests, longer_long, end_grows, cases_lt) in
    grind (arith, nat_tests, same_file (put_some s v p.1 all) (longer (put_some s v p.1 own) rest), longer (put_some s v p.1 own) rest, cells_longer, longer_long (put_some s v p.1 own) rest, put_same s v p.1 all own, at-longer file, at-longer (put_some s v p.1 own) rest)

pub in_turn : (s : Setting) (puts : Puts) (file : List ℕ) → end_for s 0 ≤ length file
    → after_puts s puts None file ≡ fold (λ left put. after_puts s (put ∷ []) None left) file puts
in_turn s [] file h = longer-enough file (end_for s 0) h
in_turn s (p ∷ puts) file h =
    grind (arith, nat_tests, in_turn s puts (left_by s file p) (omega (arith, (after_grows s (p ∷ []) None file), h)), after_grows, first_then)

both_in_turn : (s : Setting) (a b : Puts) (file : List ℕ) → end_for s 0 ≤ length file → after_puts s b None (after_puts s a None file) ≡ after_puts s (a ++ b) None file
both_in_turn s a b file h =
    grind (arith, nat_tests, in_turn s b (after_puts s a None file), after_grows s a None file, in_turn s a file h, in_turn s (a ++ b) file h, fold-append (left_by s) file a b)

-- ---- one request tells no pair

holder_is : (held : List Holding) (k key : Key) (x : ℕ) → AllByRecursion (λ (h : Holding). h.0 ≡ k) held → Holds held key x → k ≡ key
holder_is [] k key x all h = absurd cc
holder_is (g ∷ held) k key x all h = grind (arith, nat_tests, holder_is held k key x all.1, or_cases, key_equal, and_first)

abbrev numbered : ℕ → List Post → Puts
numbered number posts = map (λ post. (number, post)) posts

abbrev HaveId : ℕ → List Post → Type 0
HaveId id posts = AllByRecursion (λ (p : Post). p.id ≡ id) posts

own_keys : (header : Header) (number id : ℕ) (posts : List Post) → HaveId id posts
    → AllByRecursion (λ (h : Holding). h.0 ≡ (number, id)) (holdings header (numbered number posts))
own_keys header number id [] h = tt
own_keys header number id (p ∷ posts) h = ((λ t. (number, h.0 t)), own_keys header number id posts h.1)

no_pair_of_one : (s : Setting) (number id : ℕ) (posts : List Post) → HaveId id posts → told s (numbered number posts) ≡ None
no_pair_of_one s number id posts all =
    elim (some_or_none (told s (numbered number posts))) [
      | inl e ↦ e
      | inr (p, e) ↦
          let holder = holder_is (holdings s.header (numbered number posts)) (number, id) in
          let keys = own_keys s.header number id posts all in
          let is = pair_is_least s (numbered number posts) p e in
          grind (arith, nat_tests, is.in_order, holder (first_end p) p.at keys is.first, holder (second_end p) p.at keys is.second, not_below_itself (number, id))
    ]

-- ---- the posts of a call have its id

outcome_ids : (id : ℕ) (checked : Code) (some : Bool) (asked : List Post) (last : Code) → HaveId id asked → HaveId id (posts_of (outcome checked some asked last))
outcome_ids id checked some asked last h = grind (arith, nat_tests, outcome_posts, outcome)

part_ids : (id k : ℕ) (kind : NcType) (values : Option Values) (n : ℕ) (gs : List Region) → HaveId id (part_posts id k kind values n gs)
part_ids id k kind values n [] = tt
part_ids id k kind values n (g ∷ gs) = (refl, part_ids id k kind values (n + product g.count) gs)

form_ids : (header : Header) (known id k : ℕ) (given : Given) (values : Option Values) (var : Var) (many : Bool) → HaveId id (posts_of (elim many as (λ z. looks.Look) [
  | true ↦ look_parts header known id k given values var
  | false ↦ look_region header known id k given values var
]))
form_ids header known id k given values var true =
    outcome_ids id _ (ltb 0 (length (filter has_element (part_regions var given)))) _ _ (part_ids id k var.kind values 0 (filter has_element (part_regions var given)))
form_ids header known id k given values var false = outcome_ids id _ (has_element (widen header var given known)) _ _ (refl, tt)

var_ids : (header : Header) (known id k : ℕ) (given : Given) (values : Option Values) (v : Option Var) → HaveId id (posts_of (look_at header known id k given values v))
var_ids header known id k given values None = tt
var_ids header known id k given values (Some var) = form_ids header known id k given values var (is_varn given.form)

look_ids : (header : Header) (known id : ℕ) (name : List ℕ) (given : Given) (values : Option Values) → HaveId id (posts_of (look header known id name given values))
look_ids header known id name given values = grind (arith, nat_tests, var_ids header known id)

-- ---- a put of one region does not hang on the known record count

same_bounds : (a b : ℕ) (ns : List ℕ) → map (bound Put a) ns ≡ map (bound Put b) ns
same_bounds a b [] = refl
same_bounds a b (n ∷ ns) = grind (arith, nat_tests, same_bounds a b ns)

-- ---- an independent put

module _ (s : Setting) (number : ℕ) (name : List ℕ) where
  abbrev put_look : ℕ → Given → Values → looks.Look
  put_look known given values = look s.header known 0 name given (Some values)

  put_file : (state : Counted × Going) (given : Given) (values : Values) → state.1.rank.independent ≡ true
      → (makes s number state (call.Put false name given values)).0.file
      ≡ after_puts s (numbered number (posts_of (put_look state.1.rank.known given values))) None state.0.file
  put_file state given values e = grind (arith, nat_tests, no_pair_of_one s number 0 (posts_of (put_look state.1.rank.known given values)), look_ids s.header state.1.rank.known 0 name given (Some values), numbered)

  abbrev put_call : Part × Values → Call
  put_call q = call.Put false name (on_part q.0) q.1

  puts_left : (qs : List (Part × Values)) (state : Counted × Going) (known : ℕ) → state.1.rank.independent ≡ true → end_for s 0 ≤ length state.0.file
      → (fold (makes s number) state (map put_call qs)).0.file
      ≡ after_puts s (numbered number (flat_map (λ q. posts_of (put_look known (on_part q.0) q.1)) qs)) None state.0.file
  puts_left [] state known e h = sym (longer-enough state.0.file (end_for s 0) h)
  puts_left (q ∷ qs) state known e h =
      let next = makes s number state (put_call q) in
      let own = posts_of (put_look known (on_part q.0) q.1) in
      let later = flat_map (λ r. posts_of (put_look known (on_part r.0) r.1)) qs in
      let here : next.0.file ≡ after_puts s (numbered number own) None state.0.file =
      grind (arith, nat_tests, put_file, outcome, same_bounds, looks.Look, state.0.file, numbered) in
      let grown = after_grows s (numbered number own) None state.0.file in
      grind (arith, nat_tests, puts_left qs next known (grind (arith, nat_tests, e)), here, grown, both_in_turn s (numbered number own) (numbered number later) state.0.file h, map-append {B = ℕ × Post} (λ post. (number, post)) own later)

pub varn_left : (s : Setting) (number : ℕ) (state : Counted × Going) (name : List ℕ) (given : Given) (values : Values)
    → state.1.rank.independent ≡ true → end_for s 0 ≤ length state.0.file → given.form ≡ Varn
    → code_of_look (look s.header state.1.rank.known 0 name given (Some values)) ≡ code.Ok
    → (makes s number state (call.Put false name given values)).0.file ≡ (fold (makes s number) state (put_parts name values given.parts)).0.file
varn_left s number state name given values e h many ok =
    put_file s number name state given values e
    ∙ ap (λ (ps : List Post). after_puts s (numbered number ps) None state.0.file) (varn_puts s.header state.1.rank.known 0 name given values many ok)
    ∙ sym (puts_left s number name (own_values values 0 given.parts) state state.1.rank.known e h)
