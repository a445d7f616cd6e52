-- What single words say.
use Rattle.script_laws.proofs.Words.{◌≡◌, ℕ, ◌%◌, ◌^◌, ◌<◌, ◌≤◌, List, length, true, Some, IfOk, subst, arith, nat_le, ◌==◌, find, bytes_eq, codes, nat_tests, cond_some, NcType, record_limit, number_of, fits_count, is_type, Word, is_name, name, name_of_text, types, type_of, length_of_text, below_read}
use Rattle.nc_base.specs.declared.errors.ScriptKind.TheVariants as kind
use Rattle.script_laws.proofs.StepLaws.{read_as}

-- ---- names

pub name_short : (n : List ℕ) → is_name n ≡ true → length n ≤ 256
name_short n h = grind (arith, nat_tests)

pub name_read : (w n : List ℕ) → name_of_text w ≡ Some n → is_name n ≡ true
name_read w n h = let k = cond_some (is_name w) w n h in subst (λ (x : List ℕ). is_name x ≡ true) k.1 k.0

pub named : (ws : List Word) → IfOk (name ws) (λ r. is_name r.0 ≡ true)
named ws = read_as name_of_text kind.BadName ws (λ n. is_name n ≡ true) name_read

-- ---- numbers

pub record InRange (low high unit n : ℕ) : Type 0 where
  pub at_least : low ≤ n
  pub at_most : n ≤ high
  pub multiple : n % unit ≡ 0

-- ---- types

pub type_read : (version : ℕ) (w : List ℕ) (t : NcType) → type_of version w ≡ Some t → is_type version t ≡ true
type_read version w t h = grind (arith, nat_tests, find, nat_le, number_of)

-- ---- the lengths of dimensions

pub length_read : (version : ℕ) (w : List ℕ) (n : ℕ) → length_of_text version w ≡ Some n → n < record_limit version
length_read version w n h = grind (arith, nat_tests, codes "unlimited", bytes_eq, below_read)

-- ---- fields that they fit

pub small_fits : (version n : ℕ) → n ≤ 2 ^ 24 → fits_count version n ≡ true
small_fits version n h = grind (arith, nat_tests, version == 5)
