use Rattle.ncmpi_cli.proofs.Words.{◌∙◌, refl, subst, sym, IsKept, on_err, arith, nat_tests}
use Rattle.ncmpi_cli.proofs.Made.{made_is, made_kept, never_told}
use Rattle.ncmpi_cli.proofs.CutOff.{made_unready, unready_made}
use Rattle.ncmpi_cli.proofs.made_run.begin_made.Goals as goal

pub make_ready-requires-clause-kept : goal.make_ready-requires-clause-kept
make_ready-requires-clause-kept g c =
    λ _ _. subst IsKept (sym (c.in_ok-script.ensures ∙ made_is c.args.seed c.args.size)) (made_kept c.args.seed c.args.size c.requires.few)

pub returns-in_err-header-clause-laid : goal.returns-in_err-header-clause-laid
returns-in_err-header-clause-laid g c =
    grind (arith, nat_tests, never_told, made_is, c.from_residual-in_err-header.ensures.1, c.in_ok-script.ensures, c.in_err-header.ensures.bad)

pub returns-clause-script : goal.returns-clause-script
returns-clause-script g c = c.in_ok-script.ensures ∙ made_is c.args.seed c.args.size

pub returns-in_err-script-clause-torn : goal.returns-in_err-script-clause-torn
returns-in_err-script-clause-torn g c = on_err c.from_residual.result (made_unready c.args.seed c.args.size (g.D.Disk.held c.args.disk.now) (g.D.Disk.held c.args.disk.now) refl)

pub returns-in_err-header-clause-torn : goal.returns-in_err-header-clause-torn
returns-in_err-header-clause-torn g c = grind (arith, nat_tests, on_err, unready_made, made_is, c.in_ok-script.ensures, c.in_err-header.ensures.refused)
