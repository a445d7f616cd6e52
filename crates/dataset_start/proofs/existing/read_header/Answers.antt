use Rattle.dataset_start.proofs.Words.{◌≡◌, ◌⊎◌, List, ℕ, subst, HasFault, BeginsWith}
use Rattle.nc_base.specs.declared.errors.HeaderErr.TheVariants as fault
use Rattle.dataset_start.proofs.Opened.{faultless, opened, tells}
use Rattle.redef_laws.proofs.OpenedLaws as laws
use Rattle.dataset_start.proofs.existing.read_header.Goals as goal

pub returns-in_err-header-clause-header : goal.returns-in_err-header-clause-header
returns-in_err-header-clause-header g c = λ e r.
    tells (g.D.Disk.held c.args.disk.now) c.in_ok-bytes.bytes.items _ c.in_err-header.field-0.0 e c.in_ok-bytes.ensures.bytes
    (subst (λ (t : List ℕ). (c.in_err-header.field-0.0 ≡ fault.Memory) ⊎ HasFault t c.in_err-header.field-0.0) c.deref.ensures.value c.in_err-header.ensures.fault)
    c.from_residual-in_err-header.ensures.1 r

pub returns-clause-opened : goal.returns-clause-opened
returns-clause-opened g c =
    opened (g.D.Disk.held c.args.disk.now) c.in_ok-bytes.bytes.items c.in_ok-header.header c.in_ok-header.field-0-1 c.in_ok-bytes.ensures.bytes c.in_ok-bytes.ensures.few
    (subst (λ (t : List ℕ). BeginsWith t c.in_ok-header.header c.in_ok-header.field-0-1) c.deref.ensures.value c.in_ok-header.ensures.found)

pub returns-clause-faultless : goal.returns-clause-faultless
returns-clause-faultless g c =
    faultless (g.D.Disk.held c.args.disk.now) c.in_ok-bytes.bytes.items c.in_ok-header.header c.in_ok-header.field-0-1 c.in_ok-bytes.ensures.bytes
    (subst (λ (t : List ℕ). BeginsWith t c.in_ok-header.header c.in_ok-header.field-0-1) c.deref.ensures.value c.in_ok-header.ensures.found)

pub returns-clause-redefinable : goal.returns-clause-redefinable
returns-clause-redefinable g c =
    laws.opened c.in_ok-header.header _ _ c.in_ok-header.ensures.found c.in_ok-header.ensures.sound
