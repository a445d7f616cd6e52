-- The refusal is by the fault.
use Rattle.nc_classic_c.proofs.Words.{ℕ, List, ◌≡◌, ◌⊎◌, sym, subst, HasFault, IsHeaderRefusal, Refusal}
use Rattle.nc_base.specs.declared.errors.HeaderErr.TheVariants as fault
use Rattle.nc_classic_c.proofs.Refusing.{refused_header}
use Rattle.nc_classic_c.proofs.headers.read.Goals as goal

pub returns-in-Err-clause-refused : goal.returns-in-Err-clause-refused
returns-in-Err-clause-refused c =
    subst (λ (r : Refusal). IsHeaderRefusal c.args.bytes.now r) (sym c.refusal_of.ensures)
    (refused_header c.args.bytes.now c.in-Err.fault
    (subst (λ (bs : List ℕ). (c.in-Err.fault ≡ fault.Memory) ⊎ HasFault bs c.in-Err.fault) c.first_bytes.ensures.bytes c.in-Err.ensures.fault))
