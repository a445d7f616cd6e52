-- The header and the file of a redefinition.
use Rattle.dataset_start.proofs.Words.{◌≡◌, ℕ, ◌-◌, ◌≤◌, List, [], ◌∷◌, length, fold, zip, ap, ◌∙◌, arith, length-append, length-replicate, Header, Extra, header_len, end_of, redefined, redefined_header, new_end, written_grows, nat_tests}
use Rattle.serial_spec.proofs.AddedLaws.{records_stay}

-- ---- the record count stays

pub records_kept : (old new : Header) (extras : List Extra) → new ≡ redefined_header old extras → new.records ≡ old.records
records_kept old new extras e = ap (λ (h : Header). h.records) e ∙ records_stay old extras

pub same_end : (old new : Header) (extras : List Extra) → new ≡ redefined_header old extras → end_of new (header_len new) new.records ≡ new_end old new
same_end old new extras e = ap (λ (n : ℕ). end_of new (header_len new) n) (records_kept old new extras e)

-- ---- the file is not shorter than its end

fold_grows : {A : Type 0} (f : List ℕ → A → List ℕ) → ((file : List ℕ) (a : A) → length file ≤ length (f file a)) → (list : List A) (file : List ℕ)
    → length file ≤ length (fold f file list)
fold_grows f g [] file = omega arith
fold_grows f g (a ∷ list) file = omega (arith, g file a, fold_grows f g list (f file a))

pub long_enough : (old new : Header) (file : List ℕ) → new_end old new ≤ length (redefined file old new)
long_enough old new file = grind (arith, nat_tests, fold_grows, written_grows, zip, length-append, length-replicate)
