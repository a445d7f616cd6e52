use Rattle.var_layout.proofs.Words.{◌≡◌, ℕ, List, sym, ap, subst, ◌∙◌, both_none, Header, Var, Align, begins, placed, is_sound, is_writable, HasPlace, arith, nat_tests}
use Rattle.var_layout.proofs.LaidOut.{laid_sound}
use Rattle.var_layout.proofs.LaidWritable.{laid_writable}
use Rattle.var_layout.proofs.begins.lay_out.Goals as goal

pub with_begins-requires-clause-fits : goal.with_begins-requires-clause-fits
with_begins-requires-clause-fits c =
    subst (λ vs. HasPlace (record c.args.header.now { vars = vs }) c.args.align.now c.header_len-len.result c.in_ok-first.first) (sym c.take-vars.ensures.taken) c.in_ok-first.ensures.fits

-- the header with the variables that came back
left : (header : Header) (align : Align) (len : ℕ) (taken vars : List Var) → taken ≡ header.vars → vars ≡ placed (record header { vars = taken }) align len 0 taken
    → record header { vars = vars } ≡ begins header align len
left header align len taken vars e f =
    ap (λ vs. record header { vars = vs }) (f ∙ ap (λ vs. placed (record header { vars = vs }) align len 0 vs) e)

pub returns-clause-begins : goal.returns-clause-begins
returns-clause-begins c = grind (arith, nat_tests, left, begins, c.take-vars.ensures.taken, c.with_begins.ensures, c.in_ok-first.ensures.fits.length)

pub returns-clause-sound : goal.returns-clause-sound
returns-clause-sound c =
    ap (λ h. is_sound h) (left c.args.header.now c.args.align.now c.header_len-len.result c.take-vars.result c.with_begins.result c.take-vars.ensures.taken c.with_begins.ensures)
    ∙ laid_sound c.args.header.now c.args.align.now c.header_len-len.result c.in_ok-first.first c.requires.header_align.0 c.requires.var_align.0 c.requires.unplaced c.in_ok-first.ensures.fits

pub returns-clause-writable : goal.returns-clause-writable
returns-clause-writable c =
    λ parts.
    ap (λ h. is_writable h) (left c.args.header.now c.args.align.now c.header_len-len.result c.take-vars.result c.with_begins.result c.take-vars.ensures.taken c.with_begins.ensures)
    ∙ laid_writable c.args.header.now c.args.align.now c.header_len-len.result c.in_ok-first.first c.requires.header_align.0 c.requires.var_align.0 c.requires.unplaced c.in_ok-first.ensures.fits
    (both_none _ _ (sym c.in_ok-first.ensures.fault)).0 parts
