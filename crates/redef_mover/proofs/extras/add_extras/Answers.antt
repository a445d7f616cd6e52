use Rattle.redef_mover.proofs.Words.{List, length, get_or, fold, sym, ap, ◌∙◌, arith, err_from_is_err_and, Extra, nat_tests}
use Rattle.nc_base.specs.declared.errors.RedefErr.TheVariants as redef
use Rattle.redef_mover.proofs.Additions.{added_next, added_stops, added_whole}
use Rattle.redef_mover.proofs.extras.add_extras.Goals as goal

pub returns-in_err-check_extra-clause-refused : goal.returns-in_err-check_extra-clause-refused
returns-in_err-check_extra-clause-refused c =
    let left = err_from_is_err_and c.from_residual-in_err-check_extra.result c.from_residual-in_err-check_extra.ensures.1 in
    grind (arith, nat_tests, added_stops, c.as_slice-extra-items.ensures, c.extra-item.is, c.in_err-check_extra.ensures, c.loop-k.invariant)

pub loop-k-init : goal.loop-k-init
loop-k-init c = grind (arith, nat_tests, fold, c.in_ok-new.ensures, c.requires.few)

pub loop-k-preserved : goal.loop-k-preserved
loop-k-preserved c =
    let same = ap (λ (es : List Extra). length es) c.as_slice-extra-items.ensures in
    let item = c.extra-item.result in
    let there = c.extra-item.is ∙ ap (λ (es : List Extra). get_or es c.loop-k.k item) c.as_slice-extra-items.ensures in
    added_next c.args.header.now c.args.extras.now c.loop-k.k c.loop-k.new _ item (omega arith) there (sym c.in_ok-check_extra.ensures) c.in_ok-new-2.ensures c.loop-k.invariant

pub returns-clause-added : goal.returns-clause-added
returns-clause-added c = grind (arith, nat_tests, added_whole, c.as_slice-extra-items.ensures, c.loop-k.invariant, c.into_header.ensures)
