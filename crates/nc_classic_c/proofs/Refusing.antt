-- Why bytes begin with no header.
use Rattle.nc_classic_c.proofs.Words.{◌≡◌, ℕ, List, ◌⊎◌, inl, inr, sym, subst, HeaderErr, HasFault, first_bytes, IsHeaderRefusal, arith, nat_tests}
use Rattle.nc_base.specs.declared.errors.HeaderErr.TheVariants as fault
use Rattle.nc_classic_c.specs.Answers.{refusal_of}
use Rattle.nc_classic_c.specs.declared.answers.Refusal.TheVariants as refusal

pub refused_header : (bytes : List ℕ) (e : HeaderErr) → (e ≡ fault.Memory) ⊎ HasFault (first_bytes bytes) e → IsHeaderRefusal bytes (refusal_of e)
refused_header bytes fault.Memory h = tt
refused_header bytes e (inl h) = subst (λ (e : HeaderErr). IsHeaderRefusal bytes (refusal_of e)) (sym h) tt
refused_header bytes e (inr h) = h

pub other_refusal : (e : HeaderErr) → (e ≡ fault.Memory → ⊥) → refusal.Header e ≡ refusal_of e
other_refusal e h = grind (arith, nat_tests)
