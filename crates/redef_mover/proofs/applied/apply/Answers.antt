use Rattle.redef_mover.proofs.Words.{◌≡◌, ◌⊎◌, inl, inr, ℕ, Option, Some, List, sym, ap, ◌∙◌, err_from_is_err_and, RedefErr, begins_by_number, with_begins, Place, pairs, capped_pairs, arith, nat_tests}
use Rattle.nc_base.specs.declared.errors.RedefErr.TheVariants as fault
use Rattle.redef_mover.proofs.Written.{each_placed}
use Rattle.redef_mover.proofs.Redefined.{fault_of_size, fault_of_begin, no_fault, length_kept}
use Rattle.redef_mover.proofs.applied.apply.Goals as goal

pub returns-in_err-len-clause-refused : goal.returns-in_err-len-clause-refused
returns-in_err-len-clause-refused c =
    let left = err_from_is_err_and c.from_residual-in_err-len.result c.from_residual-in_err-len.ensures.1 in
    grind (arith, nat_tests, fault_of_size c.args.header.now c.in_ok-new.new c.args.extra.now left.0 c.in_ok-new.ensures.added.0, c.in_ok-new.ensures.added.1, c.in_err-len.ensures.fault)

pub set_begins-requires : goal.set_begins-requires
set_begins-requires c = grind (arith, nat_tests, each_placed, c.as_slice.ensures, c.in_ok-places.ensures, c.len.ensures)

pub check_begins-requires : goal.check_begins-requires
check_begins-requires c = grind (arith, nat_tests, length_kept, each_placed, c.as_slice-2.ensures, c.in_ok-places.ensures, c.len.ensures)

-- the cause that a callee tells is one of the whole
passed_on : (whole part : Option RedefErr) (x e : RedefErr) → x ≡ e → (part ≡ Some e → whole ≡ Some e) → (e ≡ fault.Memory) ⊎ (part ≡ Some e) → (x ≡ fault.Memory) ⊎ (whole ≡ Some x)
passed_on whole part x e same told (inl h) = inl (same ∙ h)
passed_on whole part x e same told (inr h) = inr (told h ∙ ap (λ (y : RedefErr). Some y) (sym same))

pub returns-in_err-check_begins-clause-refused : goal.returns-in_err-check_begins-clause-refused
returns-in_err-check_begins-clause-refused c =
    let old = c.args.header.now in
    let new = c.in_ok-new.new in
    let places = pairs c.as_slice-2.result.now in
    let placed = ap (λ (ps : List Place). pairs ps) c.as_slice-2.ensures ∙ c.in_ok-places.ensures ∙ ap (λ (m : ℕ). capped_pairs (begins_by_number new m)) c.len.ensures in
    let same = c.as_slice.ensures ∙ sym c.as_slice-2.ensures in
    let begun = c.set_begins.ensures ∙ ap (λ (ps : List Place). with_begins new (pairs ps)) same in
    grind (arith, nat_tests, passed_on, fault_of_begin old new c.set_begins.new.header c.args.extra.now places c.in_ok-new.ensures.added.0, c.from_residual-in_err-check_begins.ensures.1, c.in_ok-new.ensures.added.1, c.in_ok-len.ensures.fault, c.in_err-check_begins.ensures.refused)

pub returns-clause-applied : goal.returns-clause-applied
returns-clause-applied c =
    let old = c.args.header.now in
    let new = c.in_ok-new.new in
    let places = pairs c.as_slice-2.result.now in
    let placed = ap (λ (ps : List Place). pairs ps) c.as_slice-2.ensures ∙ c.in_ok-places.ensures ∙ ap (λ (m : ℕ). capped_pairs (begins_by_number new m)) c.len.ensures in
    let same = c.as_slice.ensures ∙ sym c.as_slice-2.ensures in
    let begun = c.set_begins.ensures ∙ ap (λ (ps : List Place). with_begins new (pairs ps)) same in
    grind (arith, nat_tests, no_fault old new c.set_begins.new.header c.args.extra.now places c.in_ok-new.ensures.added.0, c.in_ok-new.ensures.added.1, c.in_ok-len.ensures.fault, c.in_ok-check_begins.ensures.fault, c.requires.redefinable, c.requires.lawful, c.requires.whole)
