-- What is planned of a variable is its filling.
use Rattle.opening_plan.proofs.Words.{◌≡◌, ◌∙◌, ◌++◌, sym, ap, false, true, arith, slice_get, append-nil, if_some_at, header_len, is_record, slab, sound_end, if_there, variable_stores, got, fixed_end, record_stores, fixed_stores, nat_tests}
use Rattle.opening_plan.proofs.fills.push_fill.Goals as goal

pub returns-then-is_record : goal.returns-then-is_record
returns-then-is_record c =
    let own = got c.args.header.now.vars c.as_slice.result.now c.args.number c.index-as_slice-number.result c.as_slice.ensures c.requires.there c.index-as_slice-number.is in
    let rec : is_record c.args.header.now c.index-as_slice-number.result ≡ true = sym c.is_record.ensures ∙ c.if-is_record.true in
    if_there (slice_get c.args.header.now.vars c.args.number) c.index-as_slice-number.result
    (λ v. c.args.calls.now.items ≡ c.args.calls.now.items ++ variable_stores c.args.window c.args.header.now v) own
    (sym (append-nil c.args.calls.now.items)
    ∙ ap (λ calls. c.args.calls.now.items ++ calls) (sym (record_stores c.args.window c.args.header.now c.index-as_slice-number.result rec)))

pub push_stores-requires-clause-low : goal.push_stores-requires-clause-low
push_stores-requires-clause-low c =
    let own = got c.args.header.now.vars c.as_slice.result.now c.args.number c.index-as_slice-number.result c.as_slice.ensures c.requires.there c.index-as_slice-number.is in
    grind (arith, nat_tests, fixed_end c.args.header.now (header_len c.args.header.now) c.args.number c.index-as_slice-number.result own, if_some_at, sound_end c.args.header.now 0 c.requires.sound, c.is_record.ensures, c.if-is_record.false, c.slab.ensures.value)

pub returns : goal.returns
returns c =
    let own = got c.args.header.now.vars c.as_slice.result.now c.args.number c.index-as_slice-number.result c.as_slice.ensures c.requires.there c.index-as_slice-number.is in
    grind (arith, nat_tests, if_some_at, if_there, fixed_stores, c.is_record.ensures, c.if-is_record.false, c.slab.ensures.value, c.push_stores.ensures)
