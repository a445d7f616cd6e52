-- The index of a header's names, and what an addition makes of it.
use Rattle.redef_mover.proofs.Words.{◌≡◌, ◌∙◌, ℕ, zero, suc, ◌+◌, ◌<◌, ◌≤◌, List, [], ◌∷◌, ◌++◌, length, get_or, map, position, set, Bool, true, false, cond, ◌&&◌, ◌||◌, Option, Some, None, is_some, bytes_eq, refl, sym, ap, subst, arith, Bor, BTreeMap, BTreeSet, tied_then, slice_cmp, position_from, prefix_len, option_or, option_cmp, is_eq, nat_cmp, ordering_then, ltb-false, nat_tests, same_from_decides, position_from-zero, list_any-append, find_at, position-Some, btree_map_updates_str, is_eq-slice_cmp, get_or_from_slice_get, slice_get_past, bytes_eq-Decides, position_map, second_counts, none_last, no_false, equal_below, equal_suc, entry_below, entry_set, entry_set_other, position_below, Attr, Dim, Header, Var, find_var, attrs_of_var, has_attr, with_var_attr, place_of, has_name, is_same, attrs_among, attrs_at, given, IsIndexOf, NameIndex, not, nat_lt, slice_get}
use Rattle.std.specs.BTreeMap as tree
use Rattle.std.specs.BTreeSet as sorted

-- ---- places of names

from_push : {A : Type 0} (p : A → Bool) (i : ℕ) (xs : List A) (x : A)
    → position_from p i (xs ++ x ∷ []) ≡ option_or (position_from p i xs) (cond (p x) (Some (i + length xs)) None)
from_push p i [] x = let e : i ≡ i + 0 = omega arith in ap (λ (n : ℕ). cond (p x) (Some n) None) e
from_push p i (y ∷ ys) x = grind (arith, nat_tests, from_push p (i + 1) ys x)

pub position_push : {A : Type 0} (p : A → Bool) (xs : List A) (x : A) → position p (xs ++ x ∷ []) ≡ option_or (position p xs) (cond (p x) (Some (length xs)) None)
position_push p xs x = grind (arith, nat_tests, position_from-zero p (xs ++ x ∷ []), from_push p 0 xs x, position_from-zero p xs)

-- a name that has no place gets one
pub put_new : (old new : BTreeMap (Bor (List ℕ)) ℕ) (name : List ℕ) (place : ℕ) → place_of old name ≡ None
    → tree.UpdatesBy (λ x y. slice_cmp nat_cmp x.now y.now) (λ k. slice_cmp nat_cmp name k.now) old new (Some place)
    → (q : List ℕ) → place_of new q ≡ option_or (place_of old q) (cond (bytes_eq name q) (Some place) None)
put_new old new name place none updates q =
    grind (arith, nat_tests, btree_map_updates_str name old new (Some place) updates q, bytes_eq name q, bytes_eq-Decides name q, none_last (place_of old q), second_counts)

pub absent : {A : Type 0} (o : Option A) (t : Bool) → t ≡ is_some o → t ≡ false → o ≡ None
absent None t same fails = refl
absent (Some x) t same fails = no_false (sym fails ∙ same)

-- the places of the first items, and of one more
pub places_next : {A : Type 0} (name_of : A → List ℕ) (xs ys : List A) (x : A) (k : ℕ) (old new : BTreeMap (Bor (List ℕ)) ℕ) → ys ≡ xs ++ x ∷ [] → k ≡ length xs
    → ((q : List ℕ) → place_of old q ≡ position (λ y. bytes_eq (name_of y) q) xs)
    → ((q : List ℕ) → place_of new q ≡ option_or (place_of old q) (cond (bytes_eq (name_of x) q) (Some k) None))
    → (q : List ℕ) → place_of new q ≡ position (λ y. bytes_eq (name_of y) q) ys
places_next name_of xs ys x k old new more long known put q = grind (arith, nat_tests, bytes_eq (name_of x) q, position, position_push)

-- ---- names of attributes

tied_owners : (a b : Option ℕ) → is_eq (option_cmp nat_cmp a b) ≡ is_same a b
tied_owners a b = grind (arith, nat_tests)

or_last : (a : Bool) → a ≡ (a || false)
or_last true = refl
or_last false = refl

pub or_none : (a b : Bool) → a ≡ (a || (b && false))
or_none a b = grind (arith, nat_tests)

pub name_put : (old new : BTreeSet (Option ℕ × Bor (List ℕ))) (owner : Option ℕ) (name : Bor (List ℕ))
    → sorted.Updates (λ x y. ordering_then (option_cmp nat_cmp x.0 y.0) (slice_cmp nat_cmp x.1.now y.1.now)) old new (owner, name) true
    → (o : Option ℕ) (q : List ℕ) → has_name new o q ≡ (has_name old o q || (is_same owner o && bytes_eq name.now q))
name_put old new owner name updates o q =
    updates.0 (o, record { ref_ptr = (0, 0); now = q })
    ∙ ap (λ (t : Bool). cond t true (has_name old o q))
    (sym (tied_then (option_cmp nat_cmp owner o) (slice_cmp nat_cmp name.now q)) ∙ ap (λ (t : Bool). t && is_eq (slice_cmp nat_cmp name.now q)) (tied_owners owner o)
    ∙ ap (λ (t : Bool). is_same owner o && t) (is_eq-slice_cmp name.now q))
    ∙ either_way (is_same owner o && bytes_eq name.now q) (has_name old o q)
  where
    either_way : (t u : Bool) → cond t true u ≡ (u || t)
    either_way true true = refl
    either_way true false = refl
    either_way false true = refl
    either_way false false = refl

pub attr_pushed : (attrs : List Attr) (a : Attr) (q : List ℕ) → has_attr (attrs ++ a ∷ []) q ≡ (has_attr attrs q || bytes_eq a.name q)
attr_pushed attrs a q = grind (arith, nat_tests, or_last (bytes_eq a.name q), list_any-append, bytes_eq)

-- the attributes of one owner, one after another
pub names_next : (owner : Option ℕ) (first more : List Attr) (a : Attr) (begun old new : BTreeSet (Option ℕ × Bor (List ℕ))) → more ≡ first ++ a ∷ []
    → ((o : Option ℕ) (q : List ℕ) → has_name old o q ≡ (has_name begun o q || (is_same owner o && has_attr first q)))
    → ((o : Option ℕ) (q : List ℕ) → has_name new o q ≡ (has_name old o q || (is_same owner o && bytes_eq a.name q)))
    → (o : Option ℕ) (q : List ℕ) → has_name new o q ≡ (has_name begun o q || (is_same owner o && has_attr more q))
names_next owner first more a begun old new next known put o q = grind (arith, nat_tests, bytes_eq a.name q, attr_pushed first a q)

-- a variable more
pub attrs_pushed : (attrs : List Attr) (vs : List Var) (v : Var) (o : Option ℕ) (q : List ℕ)
    → has_attr (attrs_among attrs (vs ++ v ∷ []) o) q ≡ (has_attr (attrs_among attrs vs o) q || (is_same (Some (length vs)) o && has_attr v.attrs q))
attrs_pushed attrs vs v None q = or_last (has_attr attrs q)
attrs_pushed attrs [] v (Some zero) q = refl
attrs_pushed attrs [] v (Some (suc j)) q = ap (λ (t : Bool). t && has_attr v.attrs q) (sym (equal_below 0 (suc j) (omega arith)))
attrs_pushed attrs (w ∷ vs) v (Some zero) q = grind (arith, nat_tests, or_last (has_attr w.attrs q), equal_suc (length vs))
attrs_pushed attrs (w ∷ vs) v (Some (suc j)) q = grind (arith, nat_tests, attrs_pushed attrs vs v (Some j) q, same_from_decides)

-- the attributes of the first variables, and of one more
pub owners_next : (attrs : List Attr) (vs more : List Var) (v : Var) (k : ℕ) (old new : BTreeSet (Option ℕ × Bor (List ℕ))) → more ≡ vs ++ v ∷ [] → k ≡ length vs
    → ((o : Option ℕ) (q : List ℕ) → has_name old o q ≡ has_attr (attrs_among attrs vs o) q)
    → ((o : Option ℕ) (q : List ℕ) → has_name new o q ≡ (has_name old o q || (is_same (Some k) o && has_attr v.attrs q)))
    → (o : Option ℕ) (q : List ℕ) → has_name new o q ≡ has_attr (attrs_among attrs more o) q
owners_next attrs vs more v k old new next long known put o q = grind (arith, nat_tests, attrs_pushed attrs vs v o q)

-- of the dataset alone
pub owners_none : (attrs : List Attr) (empty new : BTreeSet (Option ℕ × Bor (List ℕ))) → sorted.IsEmpty empty
    → ((o : Option ℕ) (q : List ℕ) → has_name new o q ≡ (has_name empty o q || (is_same None o && has_attr attrs q)))
    → (o : Option ℕ) (q : List ℕ) → has_name new o q ≡ has_attr (attrs_among attrs [] o) q
owners_none attrs empty new none put o q = grind (arith, nat_tests)

-- ---- additions

pub dim_indexed : (header : Header) (index next : NameIndex) (d : Dim) → IsIndexOf header index
    → ((q : List ℕ) → place_of next.dims q ≡ option_or (place_of index.dims q) (cond (bytes_eq d.name q) (Some (length header.dims)) None))
    → next.vars ≡ index.vars → next.attrs ≡ index.attrs
    → IsIndexOf (record header { dims = header.dims ++ d ∷ [] }) next
dim_indexed header index next d is put vars attrs =
    record {
      dims = places_next (λ (e : Dim). e.name) header.dims (header.dims ++ d ∷ []) d (length header.dims) index.dims next.dims refl refl is.dims put;
      vars = λ q. ap (λ m. place_of m q) vars ∙ is.vars q;
      attrs = λ o q. ap (λ m. has_name m o q) attrs ∙ is.attrs o q;
    }

pub var_indexed : (header : Header) (index next : NameIndex) (v : Var) (name : List ℕ) → v.name ≡ name → v.attrs ≡ [] → IsIndexOf header index
    → ((q : List ℕ) → place_of next.vars q ≡ option_or (place_of index.vars q) (cond (bytes_eq name q) (Some (length header.vars)) None))
    → next.dims ≡ index.dims → next.attrs ≡ index.attrs
    → IsIndexOf (record header { vars = header.vars ++ v ∷ [] }) next
var_indexed header index next v name named bare is put dims attrs =
    record {
      dims = λ q. ap (λ m. place_of m q) dims ∙ is.dims q;
      vars =
          places_next (λ (w : Var). w.name) header.vars (header.vars ++ v ∷ []) v (length header.vars) index.vars next.vars refl refl is.vars
          (λ q. put q ∙ ap (λ (n : List ℕ). option_or (place_of index.vars q) (cond (bytes_eq n q) (Some (length header.vars)) None)) (sym named));
      attrs = grind (arith, nat_tests, or_last, attrs_pushed, is.attrs, has_name, attrs_at, is_same);
    }

pub attr_indexed : (header : Header) (index next : NameIndex) (a : Attr) → IsIndexOf header index
    → ((o : Option ℕ) (q : List ℕ) → has_name next.attrs o q ≡ (has_name index.attrs o q || (is_same None o && bytes_eq a.name q)))
    → next.dims ≡ index.dims → next.vars ≡ index.vars
    → IsIndexOf (record header { attrs = header.attrs ++ a ∷ [] }) next
attr_indexed header index next a is put dims vars = grind (arith, nat_tests, bytes_eq, attr_pushed, or_last)

-- ---- an attribute of a variable

given_is : (vs : List Var) (k : ℕ) (v : Var) (a : Attr) → slice_get vs k ≡ Some v → given vs k a ≡ set vs k (record v { attrs = v.attrs ++ a ∷ [] })
given_is vs k v a there = ap (λ (o : Option Var). elim o [ None ↦ vs | Some w ↦ set vs k (record w { attrs = w.attrs ++ a ∷ [] }) ]) there

names_given : (vs : List Var) (k : ℕ) (v w : Var) → slice_get vs k ≡ Some v → w.name ≡ v.name → map (λ (x : Var). x.name) (set vs k w) ≡ map (λ (x : Var). x.name) vs
names_given [] k v w there same = refl
names_given (x ∷ vs) zero v w there same = grind (arith, nat_tests)
names_given (x ∷ vs) (suc k) v w there same = ap (λ (ns : List (List ℕ)). x.name ∷ ns) (names_given vs k v w there same)

pub var_attr_indexed : (header : Header) (index next : NameIndex) (k : ℕ) (a : Attr) → k < length header.vars → IsIndexOf header index
    → ((o : Option ℕ) (q : List ℕ) → has_name next.attrs o q ≡ (has_name index.attrs o q || (is_same (Some k) o && bytes_eq a.name q)))
    → next.dims ≡ index.dims → next.vars ≡ index.vars
    → IsIndexOf (record header { vars = given header.vars k a }) next
var_attr_indexed header index next k a below is put dims vars =
    let there = entry_below header.vars k below in
    let v = there.0 in
    let w : Var = record v { attrs = v.attrs ++ a ∷ [] } in
    let same = given_is header.vars k v a there.1 in
    subst (λ (vs : List Var). IsIndexOf (record header { vars = vs }) next) (sym same)
    (record {
      dims = λ q. ap (λ m. place_of m q) dims ∙ is.dims q;
      vars = λ q.
          ap (λ m. place_of m q) vars ∙ is.vars q
          ∙ sym (position_map (λ (n : List ℕ). bytes_eq n q) (λ (x : Var). x.name) header.vars)
          ∙ ap (position (λ (n : List ℕ). bytes_eq n q)) (sym (names_given header.vars k v w there.1 refl))
          ∙ position_map (λ (n : List ℕ). bytes_eq n q) (λ (x : Var). x.name) (set header.vars k w);
      attrs = grind (arith, nat_tests, or_last, attr_pushed, entry_set, entry_set_other, no_false, slice_get, bytes_eq, set, a.name, is.attrs, is_same);
    })

-- the first variable of the name
attr_at : (name : List ℕ) (a : Attr) (vs : List Var) (k : ℕ) (v : Var) → slice_get vs k ≡ Some v → bytes_eq v.name name ≡ true
    → ((j : ℕ) → j < k → bytes_eq (get_or vs j v).name name ≡ false)
    → with_var_attr name a vs ≡ set vs k (record v { attrs = v.attrs ++ a ∷ [] })
attr_at name a [] k v there e f = absurd cc
attr_at name a (w ∷ vs) zero v there e f = grind (arith, nat_tests)
attr_at name a (w ∷ vs) (suc k) v there e f =
    ap (λ (t : Bool). cond t (record w { attrs = w.attrs ++ a ∷ [] } ∷ vs) (w ∷ with_var_attr name a vs)) (f 0 (omega arith))
    ∙ ap (λ (ws : List Var). w ∷ ws) (attr_at name a vs k v there e (λ j g. f (suc j) (omega arith)))

-- its place is found, and it gets the attribute there
pub attr_there : (name : List ℕ) (a : Attr) (vs : List Var) (k : ℕ) → position (λ (v : Var). bytes_eq v.name name) vs ≡ Some k → with_var_attr name a vs ≡ given vs k a
attr_there name a vs k e =
    let p = λ (v : Var). bytes_eq v.name name in
    let below = position_below p vs k e in
    let there = entry_below vs k below in
    let found = position-Some p vs k there.0 e in
    attr_at name a vs k there.0 there.1 (ap p (sym (get_or_from_slice_get vs k there.0 there.0 there.1)) ∙ found.1) found.2
    ∙ sym (given_is vs k there.0 a there.1)

past_last : (n m : ℕ) → cond (nat_lt n m) (Some n) None ≡ None → m ≤ n
past_last n m g = grind (arith, nat_tests)

all_other : (name : List ℕ) (a : Attr) (vs : List Var) → length vs ≤ prefix_len (λ (v : Var). not (bytes_eq v.name name)) vs → with_var_attr name a vs ≡ vs
all_other name a [] h = refl
all_other name a (v ∷ vs) h = grind (arith, nat_tests, all_other name a vs)

pub attr_nowhere : (name : List ℕ) (a : Attr) (vs : List Var) → position (λ (v : Var). bytes_eq v.name name) vs ≡ None → with_var_attr name a vs ≡ vs
attr_nowhere name a vs e = all_other name a vs (past_last _ _ e)

-- what the header has under an owner's name
found_attrs : (header : Header) (owner : List ℕ) → attrs_of_var header owner ≡ elim (find_var header owner) [ None ↦ [] | Some k ↦ attrs_at header (Some k) ]
found_attrs header owner = grind (arith, nat_tests, find_at, nat_lt, bytes_eq, slice_get, slice_get_past, ltb-false)

pub attrs_found : (header : Header) (owner : List ℕ) (k : ℕ) → Some k ≡ find_var header owner → attrs_of_var header owner ≡ attrs_at header (Some k)
attrs_found header owner k e = found_attrs header owner ∙ ap (λ (o : Option ℕ). elim o [ None ↦ [] | Some j ↦ attrs_at header (Some j) ]) (sym e)

pub attrs_missing : (header : Header) (owner : List ℕ) → None ≡ find_var header owner → attrs_of_var header owner ≡ []
attrs_missing header owner e = found_attrs header owner ∙ ap (λ (o : Option ℕ). elim o [ None ↦ [] | Some j ↦ attrs_at header (Some j) ]) (sym e)
