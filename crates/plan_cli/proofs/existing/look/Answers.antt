use Rattle.plan_cli.proofs.Words.{◌≡◌, ◌⊎◌, List, ℕ, refl, subst, Err, Result, IsErrAnd, HeaderErr, HasFault, BeginsWith, stop_of_header, Stop, faultless, tells, Looked}
use Rattle.nc_base.specs.declared.errors.HeaderErr.TheVariants as fault
use Rattle.dataset_start.specs.declared.stop.Stop.TheVariants as stops
use Rattle.redef_laws.proofs.OpenedLaws as laws
use Rattle.plan_cli.proofs.FrontLaws.{opened}
use Rattle.plan_cli.proofs.existing.look.Goals as goal

pub returns-clause-opened : goal.returns-clause-opened
returns-clause-opened g c =
    opened (g.D.DatasetFront.held c.args.dataset.now c.args.name.now) c.in_ok-seen.seen.bytes.items c.in_ok-seen.seen.size c.in_ok-header.header c.in_ok-header.field-0-1
    c.in_ok-seen.ensures.bytes c.in_ok-seen.ensures.size c.in_ok-seen.ensures.many
    (subst (λ (t : List ℕ). BeginsWith t c.in_ok-header.header c.in_ok-header.field-0-1) c.deref.ensures.value c.in_ok-header.ensures.found)

pub returns-clause-faultless : goal.returns-clause-faultless
returns-clause-faultless g c =
    faultless (g.D.DatasetFront.held c.args.dataset.now c.args.name.now) c.in_ok-seen.seen.bytes.items c.in_ok-header.header c.in_ok-header.field-0-1 c.in_ok-seen.ensures.bytes
    (subst (λ (t : List ℕ). BeginsWith t c.in_ok-header.header c.in_ok-header.field-0-1) c.deref.ensures.value c.in_ok-header.ensures.found)

pub returns-clause-redefinable : goal.returns-clause-redefinable
returns-clause-redefinable g c =
    laws.opened c.in_ok-header.header _ _ c.in_ok-header.ensures.found c.in_ok-header.ensures.sound

pub returns-in_err-header-clause-header : goal.returns-in_err-header-clause-header
returns-in_err-header-clause-header g c = λ e r.
    let err : HeaderErr = c.in_err-header.field-0.0 in
    let same : stops.Header e ≡ stop_of_header err =
    subst (λ (x : Result Looked Stop). IsErrAnd x (λ stop. stop ≡ stop_of_header err)) r c.from_residual-in_err-header.ensures.1 in
    tells (g.D.DatasetFront.held c.args.dataset.now c.args.name.now) c.in_ok-seen.seen.bytes.items (Err (stops.Header e)) err e c.in_ok-seen.ensures.bytes
    (subst (λ (t : List ℕ). (err ≡ fault.Memory) ⊎ HasFault t err) c.deref.ensures.value c.in_err-header.ensures.fault) same refl
