use Rattle.redef_mover.proofs.Words.{◌≡◌, List, ℕ, Option, take, has_attr, has_name, attrs_among}
use Rattle.redef_mover.proofs.name_index.attr_names.Given as goal

abbrev pub invariant-loop-place : goal.invariant-loop-place
invariant-loop-place l = (o : Option ℕ) (q : List ℕ) → has_name l.names o q ≡ has_attr (attrs_among l.header.attrs (take l.place l.header.vars) o) q
