use Rattle.var_layout.proofs.Words.{◌≡◌, ◌+◌, length, take, sum_by, byte_len, count_width, attribute, capped}
use Rattle.var_layout.proofs.written.attrs_len.Given as goal

abbrev pub invariant-loop-attr : goal.invariant-loop-attr
invariant-loop-attr l = l.len ≡ capped (4 + byte_len (count_width l.version) + sum_by (λ x. length (attribute l.version x)) (take l.attr-index l.attrs))
