-- Posts of one variable, no two of which share an element, hold no byte twice.
use Rattle.rank_core.proofs.Words.{◌≡◌, ℕ, zero, suc, ◌+◌, ◌*◌, ◌<◌, ◌≤◌, refl, sym, ap, subst, ◌∙◌, inl, inr, List, [], ◌∷◌, map, true, false, Option, Some, arith, filter, flat_map, slice_get, bytes_eq, list_any, range_with_len, cases_order, bytes_eq-Decides, at_in, entry_map, filter_in, any_member, each_in, map_in, Header, Var, Post, Put, Direction, length, product, Region, In, flat_in, in_flat, range_high, range_low, size_of, is_sound, place, IsElement, IsElementBelow, records_of, check_some, check_var, has_element, has_index, share_element, elements, places, bytes_of, holdings, Holding, IsOwnOnce, accepted_elements, elements_apart, post_once, nat_tests}
use Rattle.rank_core.proofs.OwnLaws.{held_at}
use Rattle.nc_base.specs.declared.answer.Code.TheVariants as code

-- ---- regions and posts, no two of which share an element

abbrev pub ShareNone : Region → Region → Type 0
ShareNone g h = (a : List ℕ) → In (elements g) a → In (elements h) a → ⊥

abbrev pub AreSeparate : List Region → Type 0
AreSeparate [] = Unit {0}
AreSeparate (g ∷ gs) = ((h : Region) → In gs h → ShareNone g h) × AreSeparate gs

in_some : (gs : List Region) (h : Region) (a : List ℕ) → In gs h → In (elements h) a → has_index (flat_map elements gs) a ≡ true
in_some gs h a i j =
    any_member (λ index. bytes_eq index a) (flat_map elements gs) a (in_flat elements gs h a i j) ((bytes_eq-Decides a a).1 refl)

pub separate_from_parts : (gs : List Region) → share_element gs ≡ false → AreSeparate (filter has_element gs)
separate_from_parts [] h = tt
separate_from_parts (g ∷ gs) h = grind (arith, nat_tests, separate_from_parts gs, any_member, in_some, filter_in, AreSeparate, filter, list_any, flat_map)

apart_at : (gs : List Region) (i j : ℕ) (g h : Region) → AreSeparate gs → i < j → slice_get gs i ≡ Some g → slice_get gs j ≡ Some h → ShareNone g h
apart_at [] i j g h s l e f = absurd cc
apart_at (r ∷ gs) i zero g h s l e f = absurd (omega arith)
apart_at (r ∷ gs) zero (suc j) g h s l e f = let same : r ≡ g = cc in subst (λ (x : Region). ShareNone x h) same (s.0 h (at_in gs j h f))
apart_at (r ∷ gs) (suc i) (suc j) g h s l e f = apart_at gs i j g h s.1 (omega arith) e f

-- ---- the bytes of two posts

-- a post of the variable: of an accepted region, and as a put with the bytes of its elements
pub record IsPostOf (header : Header) (k : ℕ) (v : Var) (known : ℕ) (direction : Direction) (p : Post) : Type 0 where
  pub var : p.var ≡ k
  pub accepted : check_var header v p.region known direction ≡ code.Ok
  pub long : direction ≡ Put → length p.bytes ≡ product p.region.count * size_of v.kind

post_bytes : (header : Header) (k : ℕ) (v : Var) (known : ℕ) (p : Post) → slice_get header.vars k ≡ Some v → IsPostOf header k v known Put p
    → bytes_of header p ≡ flat_map (λ x. range_with_len x (size_of v.kind)) (places header v p.region)
post_bytes header k v known p there h = grind (arith, nat_tests)

-- the element whose byte it is
record ElementAt (header : Header) (v : Var) (g : Region) (x : ℕ) : Type 0 where
  index : List ℕ
  is_one : In (elements g) index
  low : place header v index ≤ x
  high : x < place header v index + size_of v.kind

element_at : (header : Header) (v : Var) (g : Region) (x : ℕ) → In (flat_map (λ y. range_with_len y (size_of v.kind)) (places header v g)) x → ElementAt header v g x
element_at header v g x h = grind (arith, nat_tests, flat_in, map_in, place header v, range_low, range_high)

module _ (header : Header) (k : ℕ) (v : Var) (known : ℕ) (sound : is_sound header ≡ true) (there : slice_get header.vars k ≡ Some v) where
  element : (g : Region) (a : List ℕ) → check_var header v g known Put ≡ code.Ok → In (elements g) a → IsElement header v a
  element g a ok i = (each_in (IsElementBelow header v (records_of header v g)) (elements g) a (accepted_elements header k v g known Put sound there ok) i).0

  no_common : (g h : Region) (x : ℕ) → check_var header v g known Put ≡ code.Ok → check_var header v h known Put ≡ code.Ok → ShareNone g h
      → In (flat_map (λ y. range_with_len y (size_of v.kind)) (places header v g)) x → In (flat_map (λ y. range_with_len y (size_of v.kind)) (places header v h)) x → ⊥
  no_common g h x ok fine none i j =
      let a = element_at header v g x i in
      grind (arith, nat_tests, element_at header v h x j, place header v a.index, place header v (element_at header v h x j).index, elements_apart header k k v v a.index (element_at header v h x j).index sound there there, element g a.index ok a.is_one, element h (element_at header v h x j).index fine (element_at header v h x j).is_one)

  once : (p : Post) → IsPostOf header k v known Put p → (i j x : ℕ) → slice_get (bytes_of header p) i ≡ Some x → slice_get (bytes_of header p) j ≡ Some x → i ≡ j
  once p h = post_once header p sound (known, Put, ap (λ (o : Option Var). check_some header o p.region known Put) (ap (λ (n : ℕ). slice_get header.vars n) h.var ∙ there) ∙ h.accepted)

  two : (p q : Post) (m n x : ℕ) → IsPostOf header k v known Put p → IsPostOf header k v known Put q → ShareNone p.region q.region
      → slice_get (bytes_of header p) m ≡ Some x → slice_get (bytes_of header q) n ≡ Some x → ⊥
  two p q m n x h i none e f =
      grind (arith, nat_tests, no_common p.region q.region x h.accepted i.accepted none, at_in, post_bytes header k v known p there h, post_bytes header k v known q there i)

  -- ---- all posts

  pub own_once : (posts : List Post) → ((p : Post) → In posts p → IsPostOf header k v known Put p) → AreSeparate (map (λ p. p.region) posts)
      → (rank : ℕ) → IsOwnOnce (holdings header (map (λ p. (rank, p)) posts))
  own_once posts each apart rank i j g h m n x e f same d c =
      let p = held_at header rank posts i g e in
      let q = held_at header rank posts j h f in
      let left : slice_get (bytes_of header p.0) m ≡ Some x = ap (λ (o : Holding). slice_get o.1 m) (sym p.2) ∙ d in
      let right : slice_get (bytes_of header q.0) n ≡ Some x = ap (λ (o : Holding). slice_get o.1 n) (sym q.2) ∙ c in
      let of_p = each p.0 (at_in posts i p.0 p.1) in
      let of_q = each q.0 (at_in posts j q.0 q.1) in
      let at_p = entry_map (λ (o : Post). o.region) posts i p.0 p.1 in
      let at_q = entry_map (λ (o : Post). o.region) posts j q.0 q.1 in
      elim (cases_order i j) [
        | inl s ↦
            let one : p.0 ≡ q.0 = cc (p.1, q.1, s) in
            (s, once p.0 of_p m n x left (ap (λ (o : Post). slice_get (bytes_of header o) n) one ∙ right))
        | inr t ↦ grind (arith, nat_tests, two p.0 q.0 m n x of_p of_q, apart_at, two q.0 p.0 n m x of_q of_p)
      ]
