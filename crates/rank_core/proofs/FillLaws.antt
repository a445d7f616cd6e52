-- What the filling of a share of a record comes to.
use Rattle.rank_core.proofs.Words.{◌≡◌, ℕ, ◌+◌, ◌-◌, ◌*◌, ◌<◌, ◌≤◌, refl, sym, ap, ◌∙◌, List, [], ◌∷◌, map, Bool, true, false, ltb, ◌||◌, Option, None, Some, arith, slice_get, Header, Var, Post, Part, div_grows, boxes, share_begin, inner_lengths, is_record, product, most_elements, box_post, fills, find_var, is_record_past, Target, fill_posts, look_of, look_record, nat_tests}
use Rattle.nc_base.specs.declared.answer.Code.TheVariants as code
use Rattle.serial_spec.specs.Looks as looks

-- ---- shares

pub share_grows : (total rank ranks : ℕ) → rank < ranks → share_begin total rank ranks ≤ share_begin total (rank + 1) ranks
share_grows total rank ranks h = div_grows (total * rank) (total * (rank + 1)) ranks (omega arith) (omega arith)

pub share_within : (total rank ranks : ℕ) → rank < ranks → share_begin total (rank + 1) ranks ≤ total
share_within total rank ranks h = grind (arith, nat_tests, div_grows)

-- ---- the cases

abbrev pub record_outcome : Bool → Bool → looks.Look → looks.Look
record_outcome record_variable large filled =
    elim record_variable [ false ↦ looks.Refused code.ENotRec | true ↦ elim large [ true ↦ looks.Refused code.ETooLarge | false ↦ filled ] ]

pub outcome_has : (P : looks.Look → Type 0) (is large : Bool) (filled : looks.Look) → P (looks.Refused code.ENotRec) → P (looks.Refused code.ETooLarge)
    → (is ≡ true → large ≡ false → P filled) → P (record_outcome is large filled)
outcome_has P true false filled x y h = h refl refl
outcome_has P true true filled x y h = y
outcome_has P false large filled x y h = x

filled_is : (k : ℕ) (v : Var) (number : ℕ) (parts : List Part) → look_of (map (box_post k v number) parts) ≡ fills k v number parts
filled_is k v number [] = refl
filled_is k v number (p ∷ parts) = refl

module _ (t : Target) (number rank ranks : ℕ) where
  abbrev large_of : ℕ → ℕ → Bool
  large_of a b = ltb most_elements (b - a) || is_record_past t.header.now number

  abbrev filled_of : ℕ → ℕ → looks.Look
  filled_of a b = fills t.place t.var.now number (boxes (inner_lengths t.header.now t.var.now) a b)

  abbrev outcome_of : Bool → ℕ → ℕ → looks.Look
  outcome_of is a b = record_outcome is (large_of a b) (filled_of a b)

  abbrev begin_of : ℕ → ℕ
  begin_of r = share_begin (product (inner_lengths t.header.now t.var.now)) r ranks

  pub not_record : is_record t.header.now t.var.now ≡ false → looks.Refused code.ENotRec ≡ look_record t number rank ranks
  unfolding look_record
  not_record e = sym (ap (λ (is : Bool). outcome_of is (begin_of rank) (begin_of (rank + 1))) e)

  module _ (is : is_record t.header.now t.var.now ≡ true) (total from to : ℕ) (whole : total ≡ product (inner_lengths t.header.now t.var.now))
      (begins : from ≡ share_begin total rank ranks) (ends : to ≡ share_begin total (rank + 1) ranks) where
    outcome_is : outcome_of true from to ≡ look_record t number rank ranks
    unfolding look_record
    outcome_is =
        (λ i. outcome_of true ((begins ∙ ap (λ (n : ℕ). share_begin n rank ranks) whole) i) ((ends ∙ ap (λ (n : ℕ). share_begin n (rank + 1) ranks) whole) i))
        ∙ sym (ap (λ (b : Bool). outcome_of b (begin_of rank) (begin_of (rank + 1))) is)

    pub record_too_large : large_of from to ≡ true → looks.Refused code.ETooLarge ≡ look_record t number rank ranks
    record_too_large e = sym (ap (λ (b : Bool). record_outcome true b (filled_of from to)) e) ∙ outcome_is

    pub record_filled : (posts : List Post) → large_of from to ≡ false → posts ≡ fill_posts t number from to → look_of posts ≡ look_record t number rank ranks
    unfolding fill_posts
    record_filled posts e q =
        ap look_of q
        ∙ filled_is t.place t.var.now number (boxes (inner_lengths t.header.now t.var.now) from to)
        ∙ sym (ap (λ (b : Bool). record_outcome true b (filled_of from to)) e) ∙ outcome_is

-- ---- by name

abbrev at_var : Header → ℕ → ℕ → ℕ → ℕ → Option Var → looks.Look
at_var header k number rank ranks o = elim o [ None ↦ looks.Refused code.ENotVar | Some v ↦ looks.look_record header k number rank ranks v ]

abbrev by_place : Header → ℕ → ℕ → ℕ → Option ℕ → looks.Look
by_place header number rank ranks o = elim o [ None ↦ looks.Refused code.ENotVar | Some k ↦ at_var header k number rank ranks (slice_get header.vars k) ]

pub fill_missing : (header : Header) (name : List ℕ) (number rank ranks : ℕ) → None ≡ find_var header name
    → looks.Refused code.ENotVar ≡ looks.look_fill header name number rank ranks
fill_missing header name number rank ranks e = ap (by_place header number rank ranks) e

pub fill_found : (header : Header) (name : List ℕ) (number rank ranks : ℕ) (t : Target) → Some t.place ≡ find_var header name
    → t.header.now ≡ header → look_record t number rank ranks ≡ looks.look_fill header name number rank ranks
unfolding look_record
fill_found header name number rank ranks t e h = grind (arith, nat_tests)
