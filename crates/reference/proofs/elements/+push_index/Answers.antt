-- An index, one dimension after another.
use Rattle.reference.proofs.Words.{inl, inr, arith, ◌++◌, ◌∙◌, ◌^◌, ◌%◌, ℕ, List, ap, sym, subst, append_assoc, rules, on_ok_weaker, index_at, coordinates_of, AreBelow, rest, nat_tests}
use Rattle.reference.proofs.IndexLaws.{first_low, index_step, none_indexed}
use Rattle.reference.proofs.elements.+push_index.Goals as goal

pub returns-in_default-counts : goal.returns-in_default-counts
returns-in_default-counts t c = none_indexed c.args.index.now.items c.args.starts.now c.args.counts.now c.args.strides.now c.args.number (inr (inr c.in_default-counts.len_below))

pub returns-in_default : goal.returns-in_default
returns-in_default t c = none_indexed c.args.index.now.items c.args.starts.now c.args.counts.now c.args.strides.now c.args.number (inl c.in_default.len_below)

pub returns-in_default-strides : goal.returns-in_default-strides
returns-in_default-strides t c = none_indexed c.args.index.now.items c.args.starts.now c.args.counts.now c.args.strides.now c.args.number (inr (inl c.in_default-strides.len_below))

pub overflow_add-start : goal.overflow_add-start
overflow_add-start t c = grind (arith, nat_tests, first_low, c.requires.number, c.requires.few, c.element_count-inner.ensures, c.requires.low)

pub overflow_mul-number : goal.overflow_mul-number
overflow_mul-number t c = grind (arith, nat_tests, first_low, c.requires.number, c.requires.few, c.element_count-inner.ensures, c.requires.low)

pub push_index-requires : goal.push_index-requires
push_index-requires t c =
    let step = index_step c.args.starts.now c.args.counts.now c.args.strides.now c.args.number c.element_count-inner.result
    c.in-len1-up.len_at_least c.in-len1-up-counts.len_at_least c.in-len1-up-strides.len_at_least c.requires.number c.requires.few c.element_count-inner.ensures in
    (search rules, (step.number_low, (step.few, (subst (λ (l : List ℕ). AreBelow (2 ^ 62) l) step.is c.requires.low).1)))

pub returns : goal.returns
returns t c =
    let index = c.args.index.now.items in
    let step = index_step c.args.starts.now c.args.counts.now c.args.strides.now c.args.number c.element_count-inner.result
    c.in-len1-up.len_at_least c.in-len1-up-counts.len_at_least c.in-len1-up-strides.len_at_least c.requires.number c.requires.few c.element_count-inner.ensures in
    let later = index_at (rest c.args.starts.now) (rest c.args.strides.now) (coordinates_of (rest c.args.counts.now) (c.args.number % c.element_count-inner.result)) in
    on_ok_weaker c.push_index.result
    (λ e. e
    ∙ ap (λ (l : List ℕ). l ++ later) c.in_ok-push.ensures.items
    ∙ append_assoc index _ later
    ∙ ap (λ (l : List ℕ). index ++ l) (sym step.is))
    c.push_index.ensures
