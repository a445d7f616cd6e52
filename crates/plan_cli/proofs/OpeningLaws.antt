-- The dataset of a script, as it is known when the ranks begin.
use Rattle.plan_cli.proofs.Words.{◌≡◌, ℕ, ◌==◌, true, false, List, [], length, Option, refl, sym, ap, ◌∙◌, IfOk, IfSome, Ok, Err, Result, both_ways, HeaderErr, Header, Script, HasFault, is_sound, IsApplied, IsOpeningOf, Opening, created_header, creation_fault, front, Stop, created-faultless, fault-none, fault-some, header-changed, header-kept, opened-faultless, redefined_sound, IsOpenedFile, IsOpening, Prepared, None, arith, nat_tests}
use Rattle.dataset_start.specs.Dataset.{header_of_run, redefinition_fault}
use Rattle.plan_cli.proofs.FrontLaws.{as_opened}

-- ---- a dataset that is created

pub created : (script : Script) (header : Header) (opening : Opening) → script.fresh ≡ true → (length script.extra == 0) ≡ true → header ≡ created_header script
    → is_sound header ≡ true → creation_fault script ≡ None → ((bytes : ℕ) → IsOpeningOf script header header bytes opening)
    → (held : Option (List ℕ)) → IsOpening script held header opening
created script header opening f x h s l o held = record {
  old = header;
  file = [];
  held = λ n. absurd (both_ways script.fresh n f);
  heads = record { created = λ _. h; opened = λ n. absurd (both_ways script.fresh n f); made = sym (header-kept script header x) };
  sound = s;
  faultless = created-faultless script held f l;
  calls = λ bytes _. (o (length bytes)).calls bytes refl;
  size = λ bytes _. (o (length bytes)).size bytes refl;
}

-- ---- a dataset that is there

module _ (script : Script) (old : Header) (size : ℕ) (held : Option (List ℕ)) (opened : script.fresh ≡ false) (o : IsOpenedFile held old size)
    (readable : IfSome held (λ file. (e : HeaderErr) → HasFault (front file) e → ⊥)) where
  existing : (header : Header) (opening : Opening) → redefinition_fault script old ≡ None → header ≡ header_of_run script old → is_sound header ≡ true
      → IsOpeningOf script old header size opening → IsOpening script held header opening
  existing header opening r h s p = record {
    old = old;
    file = o.file;
    held = λ _. o.told;
    heads = record { created = λ c. absurd (both_ways script.fresh opened c); opened = λ _. (o.count, o.begins); made = h };
    sound = s;
    faultless = opened-faultless script old held opened (as_opened held old size o) r readable;
    calls = λ bytes m. p.calls bytes (ap (λ (t : List ℕ). length t) (m opened) ∙ sym o.long);
    size = λ bytes m. p.size bytes (ap (λ (t : List ℕ). length t) (m opened) ∙ sym o.long);
  }

  pub kept : (result : Result Prepared Stop) → (length script.extra == 0) ≡ true → is_sound old ≡ true → IfOk result (λ p. p.header ≡ old)
      → IfOk result (λ p. IsOpeningOf script old p.header size p.opening) → IfOk result (λ p. IsOpening script held p.header p.opening)
  kept (Ok p) x s h q = grind (arith, nat_tests, existing, fault-none, header-kept)
  kept (Err stop) x s h q = tt

  pub added : (result : Result Prepared Stop) → (length script.extra == 0) ≡ false → IfOk result (λ p. IsApplied old script.extra p.header)
      → IfOk result (λ p. IsOpeningOf script old p.header size p.opening) → IfOk result (λ p. IsOpening script held p.header p.opening)
  added (Ok p) x a q =
      existing p.header p.opening (fault-some script old x ∙ a.faultless) (header-changed script old p.header x a) (redefined_sound old p.header script.extra a) q
  added (Err stop) x a q = tt
