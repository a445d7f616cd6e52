-- A laid out header is sound.
use Rattle.var_layout.proofs.Words.{◌≡◌, ℕ, ◌-◌, ◌<◌, List, [], ◌∷◌, length, Bool, true, false, None, refl, arith, not, nat_le, is_none, list_any, prefix_len, nat_tests, or_parts, not-true, and_first, and_second, neither_some, Header, Align, record_limit, begins, is_version, first_check, two_record_dims, record_later, bad_id, is_sound, counts_are_small, HasPlace, is_unplaced}
use Rattle.nc_base.specs.declared.errors.HeaderErr.TheVariants as fault
use Rattle.var_layout.proofs.LaidKept.{placed_any, laid_len, counts_kept}
use Rattle.var_layout.proofs.LaidPlaces.{laid_measure}
use Rattle.var_layout.proofs.LaidApart.{laid_sharing}

-- ---- the checks of a whole header

none_len : {A : Type 0} (test : A → Bool) (xs : List A) → list_any test xs ≡ false → prefix_len (λ x. not (test x)) xs ≡ length xs
none_len test [] h = refl
none_len test (x ∷ xs) h = grind (arith, nat_tests, none_len test xs (or_parts (test x) (list_any test xs) h).1, or_parts)

pub record Unplaced (header : Header) : Type 0 where
  pub version : is_version header.version ≡ true
  pub counts : counts_are_small header ≡ true
  pub one_record : two_record_dims header ≡ false
  pub record_first : list_any (record_later header) header.vars ≡ false
  pub ids : list_any (bad_id header) header.vars ≡ false
  pub none : header.records ≡ 0

pub unplaced : (header : Header) → is_unplaced header ≡ true → Unplaced header
unplaced header h = grind (arith, nat_tests, and_first, and_second, not-true)

no_records : (version : ℕ) → nat_le (record_limit version) 0 ≡ false
no_records version = grind (arith, nat_tests)

-- ---- the header is sound

laid_checks : (header : Header) (align : Align) (len first : ℕ) → 0 < align.header → 0 < align.var → Unplaced header → HasPlace header align len first
    → first_check (begins header align len) ≡ None
laid_checks header align len first pos pos' u place =
    grind (arith, nat_tests, neither_some, none_len, placed_any, laid_measure, no_records, laid_len, laid_sharing)

pub laid_sound : (header : Header) (align : Align) (len first : ℕ) → 0 < align.header → 0 < align.var → is_unplaced header ≡ true → HasPlace header align len first
    → is_sound (begins header align len) ≡ true
laid_sound header align len first pos pos' h place =
    let u = unplaced header h in
    grind (arith, nat_tests, counts_kept header align len, begins header align len, laid_len header align len, laid_checks header align len first pos pos' u place, u.version, u.counts, place.length, place.small, is_none)
