use Rattle.redef_mover.proofs.Words.{◌≡◌, List, ℕ, Option, take, ◌&&◌, ◌||◌, has_attr, has_name, is_same}
use Rattle.redef_mover.proofs.name_index.add_attrs.Given as goal

abbrev pub invariant-loop-attr : goal.invariant-loop-attr
invariant-loop-attr l = (o : Option ℕ) (q : List ℕ) → has_name l.names o q ≡ (has_name l.fn.names o q || (is_same l.owner o && has_attr (take l.attr-index l.attrs) q))
