use Rattle.serial_spec.proofs.Words.{◌≡◌, ℕ, refl, sym, subst, ap, arith, inl, inr, take, Option, Some, no_none_some, Header, HeaderErr, Truncated, canon, first_check, Spells, is_redefinable_var, dataset_a, header_a, header_a_with, word, dataset_a_at}
use Rattle.std.specs.Prelude.{[]}
use Rattle.serial_spec.proofs.FaultLaws.{fault_found, fault_only}
use Rattle.serial_spec.proofs.OnceLaws.{spells_once}
use Rattle.serial_spec.proofs.SpellingLaws.{canon_spelled, parts_spelled, redefinable_var_spelled}
use Rattle.serial_spec.proofs.worked_headers.worked_file_faults.Goals as goal

pub returns-clause-of_a_field : goal.returns-clause-of_a_field
returns-clause-of_a_field c = inl (fault_found (take 70 header_a) (Truncated 68) refl)

abbrev place_of : Option HeaderErr → ℕ
place_of (Some (Truncated x)) = x
place_of _ = 0

two_places : ◌≡◌ {A = ℕ} 68 70 → ⊥
two_places h = omega (arith, h)

pub returns-clause-other_place : goal.returns-clause-other_place
returns-clause-other_place c (inl h) = let e = fault_only (take 70 header_a) (Truncated 70) h in two_places (ap place_of e)
returns-clause-other_place c (inr (header, front, rest, split, spelled, right, e)) = no_none_some (Truncated 68) (sym right)

-- v begins at 76, within the header
abbrev begun_early : Header
begun_early = dataset_a_at 76

early_spelled : Spells begun_early (header_a_with 76 (word 0 0 0 76))
unfolding canon
early_spelled = parts_spelled begun_early is_redefinable_var (redefinable_var_spelled begun_early) refl refl refl refl refl

pub returns-clause-of_the_whole : goal.returns-clause-of_the_whole
unfolding canon
returns-clause-of_the_whole c = inr (begun_early, header_a_with 76 (word 0 0 0 76), [], refl, early_spelled, refl, refl)

a_spelled : Spells dataset_a header_a
unfolding canon
a_spelled = canon_spelled dataset_a refl

checked : (e : HeaderErr) → first_check dataset_a ≡ Some e → ⊥
unfolding canon
checked e h = cc

pub returns-clause-none : goal.returns-clause-none
returns-clause-none c e (inl h) = let f = fault_only header_a e h in cc
returns-clause-none c e (inr (header, front, rest, split, spelled, right, f)) =
    let same = (spells_once dataset_a header header_a front [] rest a_spelled spelled split).0 in
    checked e (subst (λ k. first_check k ≡ Some e) (sym same) f)
