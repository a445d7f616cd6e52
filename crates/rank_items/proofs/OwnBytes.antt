-- A byte of a put is one of one of its elements, and elements of different variable or index share none.
use Rattle.rank_items.proofs.Words.{◌≡◌, ℕ, zero, suc, ◌+◌, ◌*◌, ◌/◌, ◌%◌, ◌<◌, ◌≤◌, refl, sym, ◌∙◌, ap, List, [], ◌∷◌, map, true, Option, Some, None, arith, slice_get, flat_map, range_with_len, div-add-mod', mod_below, slice_get_within, same_Some, length-range_with_len, size_pos, Header, Var, Post, size_of, is_sound, product, place, IsElement, elements, places, bytes_of, bytes_of_some, holdings, Holding, IsOwnOnce, elements_apart, IsAccepted, index_of, element_at, length-places, place_at, in_block, range_at, accepted_place, HasOwnElements, nat_tests}

-- byte k of a post is byte r of its element n
record IsByte (header : Header) (post : Post) (k x : ℕ) : Type 0 where
  var : Var
  there : slice_get header.vars post.var ≡ Some var
  n : ℕ
  r : ℕ
  at : k ≡ n * size_of var.kind + r
  low : r < size_of var.kind
  index : slice_get (elements post.region) n ≡ Some (index_of post.region n)
  element : IsElement header var (index_of post.region n)
  byte : x ≡ place header var (index_of post.region n) + r

is_byte : (header : Header) (post : Post) (k x : ℕ) → is_sound header ≡ true → IsAccepted header post.var post.region → slice_get (bytes_of header post) k ≡ Some x → IsByte header post k x
is_byte header post k x sound ok e = by_var (slice_get header.vars post.var) refl e
  where
    by_var : (o : Option Var) → slice_get header.vars post.var ≡ o → slice_get (bytes_of_some header o post) k ≡ Some x → IsByte header post k x
    by_var None f g = absurd cc
    by_var (Some v) f g =
        let size = size_of v.kind in
        let some : 1 ≤ size_of v.kind = size_pos v.kind in
        let g = post.region in
        let block = in_block (λ y. range_with_len y size) size (λ y. length-range_with_len y size) (places header v g) (k / size) (k % size) x (mod_below k size some)
        (ap (λ (m : ℕ). slice_get (flat_map (λ y. range_with_len y size) (places header v g)) m) (div-add-mod' k size) ∙ e_at v f) in
        let below : k / size < product g.count = number v block.0 block.1 in
        let placed = accepted_place header post.var v g (k / size) sound f ok below in
        record {
          var = v;
          there = f;
          n = k / size;
          r = k % size;
          at = sym (div-add-mod' k size);
          low = mod_below k size some;
          index = element_at g (k / size) below;
          element = placed.element;
          byte = range_at block.0 size (k % size) x block.2 ∙ ap (λ (a : ℕ). a + k % size) (same_Some _ _ (sym block.1 ∙ place_at header v g (k / size) below));
        }
      where
        e_at : (v : Var) → slice_get header.vars post.var ≡ Some v → slice_get (bytes_of_some header (Some v) post) k ≡ Some x
        e_at v f = ap (λ (o : Option Var). slice_get (bytes_of_some header o post) k) (sym f) ∙ e

        number : (v : Var) (a : ℕ) → slice_get (places header v post.region) (k / size_of v.kind) ≡ Some a → k / size_of v.kind < product post.region.count
        number v a s = let low = slice_get_within (places header v post.region) (k / size_of v.kind) a s in omega (arith, low, length-places header v post.region)

-- ---- two bytes of one request

module _ (header : Header) (puts : List Post) (sound : is_sound header ≡ true) (ok : (i : ℕ) (p : Post) → slice_get puts i ≡ Some p → IsAccepted header p.var p.region) (own : HasOwnElements puts) where
  one_element : (i j k l x : ℕ) (p q : Post) → slice_get puts i ≡ Some p → slice_get puts j ≡ Some q → p.id ≡ q.id → (a : IsByte header p k x) → (b : IsByte header q l x)
      → p.var ≡ q.var → index_of p.region a.n ≡ index_of q.region b.n → (i ≡ j) × (k ≡ l)
  one_element i j k l x p q e f id a b var index =
      let both = own i j a.n b.n p q (index_of p.region a.n) e f id var a.index (b.index ∙ ap (λ (v : List ℕ). Some v) (sym index)) in
      grind (arith, nat_tests, place, a.there, header.vars, b.there, a.r, b.r, a.byte, b.byte, both.0)

  two_bytes : (i j k l x : ℕ) (p q : Post) → slice_get puts i ≡ Some p → slice_get puts j ≡ Some q → p.id ≡ q.id → IsByte header p k x → IsByte header q l x → (i ≡ j) × (k ≡ l)
  two_bytes i j k l x p q e f id a b =
      grind (arith, nat_tests, elements_apart header p.var q.var a.var b.var, one_element i j k l x p q e f id a b, place header a.var, place header b.var)

-- ---- what posts hold

record IsHeldBy (header : Header) (rank : ℕ) (puts : List Post) (i : ℕ) (h : Holding) : Type 0 where
  post : Post
  there : slice_get puts i ≡ Some post
  is : h ≡ ((rank, post.id), bytes_of header post)

held_by : (header : Header) (rank : ℕ) (puts : List Post) (i : ℕ) (h : Holding) → slice_get (holdings header (map (λ p. (rank, p)) puts)) i ≡ Some h → IsHeldBy header rank puts i h
held_by header rank [] i h e = absurd cc
held_by header rank (p ∷ puts) zero h e = record { post = p; there = refl; is = sym (same_Some _ _ e) }
held_by header rank (p ∷ puts) (suc i) h e = let later = held_by header rank puts i h e in record { post = later.post; there = later.there; is = later.is }

pub own_bytes : (header : Header) (puts : List Post) → is_sound header ≡ true → ((i : ℕ) (p : Post) → slice_get puts i ≡ Some p → IsAccepted header p.var p.region) → HasOwnElements puts
    → (rank : ℕ) → IsOwnOnce (holdings header (map (λ p. (rank, p)) puts))
own_bytes header puts sound ok own rank i j g h k l x e f same a b =
    let u = held_by header rank puts i g e in
    let v = held_by header rank puts j h f in
    grind (arith, nat_tests, two_bytes header puts sound ok own i j k l x u.post v.post u.there v.there, is_byte header u.post k x sound (ok i u.post u.there), is_byte header v.post l x sound (ok j v.post v.there), u.is, v.is)
