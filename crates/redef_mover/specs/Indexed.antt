-- The names in a header, by which the mover finds what has them. (own)
--     place_of places name       the place that stands under a name
--     has_name names owner name  whether an attribute of that owner has this name
--     is_same a b                both are the dataset, or the same variable
--     attrs_at header owner      the attributes of the variable at a place, or of the dataset; attrs_among the same of their lists
--     IsIndexOf header index     each name is found at the first of its places, and each attribute under its owner
--     given vars k a             the variables, of which the one at a place has an attribute more
use Rattle.std.specs.Prelude.{◌≡◌, ℕ, List, [], ◌∷◌, ◌++◌, Bool, Option, None, Some, nat_eq, slice_get, slice_set}
use Rattle.std.specs.Borrow.{Bor}
use Rattle.std.specs.BTreeMap.{BTreeMap, get_by}
use Rattle.std.specs.BTreeSet.{BTreeSet, contains_by}
use Rattle.std.specs.Cmp.Lexicographic.{slice_cmp}
use Rattle.std.specs.Option.{option_eq, option_cmp}
use Rattle.std.specs.Ordering.{nat_cmp, ordering_then}
use Rattle.nc_base.specs.declared.header.Attr.{Attr}
use Rattle.nc_base.specs.declared.header.Header.{Header}
use Rattle.nc_base.specs.declared.header.Var.{Var}
use Rattle.serial_spec.specs.Looks.{find_dim, find_var}
use Rattle.serial_spec.specs.Redefinition.{has_attr}
use Rattle.redef_mover.specs.declared.name_index.NameIndex.{NameIndex}

abbrev pub place_of : BTreeMap (Bor (List ℕ)) ℕ → List ℕ → Option ℕ
place_of places name = get_by (λ k. slice_cmp nat_cmp name k.now) places

abbrev pub has_name : BTreeSet (Option ℕ × Bor (List ℕ)) → Option ℕ → List ℕ → Bool
has_name names owner name = contains_by (λ k. ordering_then (option_cmp nat_cmp owner k.0) (slice_cmp nat_cmp name k.1.now)) names

abbrev pub is_same : Option ℕ → Option ℕ → Bool
is_same a b = option_eq nat_eq a b

abbrev pub attrs_among : List Attr → List Var → Option ℕ → List Attr
attrs_among attrs vars None = attrs
attrs_among attrs vars (Some k) = elim (slice_get vars k) [ None ↦ [] | Some v ↦ v.attrs ]

abbrev pub attrs_at : Header → Option ℕ → List Attr
attrs_at header owner = attrs_among header.attrs header.vars owner

pub record IsIndexOf (header : Header) (index : NameIndex) : Type 0 where
  pub dims : (name : List ℕ) → place_of index.dims name ≡ find_dim header name
  pub vars : (name : List ℕ) → place_of index.vars name ≡ find_var header name
  pub attrs : (owner : Option ℕ) (name : List ℕ) → has_name index.attrs owner name ≡ has_attr (attrs_at header owner) name

abbrev pub given : List Var → ℕ → Attr → List Var
given vars k a = elim (slice_get vars k) [ None ↦ vars | Some v ↦ slice_set vars k (record v { attrs = v.attrs ++ a ∷ [] }) ]
