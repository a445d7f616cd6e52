-- A sound header with another record count.
use Rattle.var_layout.proofs.Words.{◌≡◌, ℕ, suc, ◌+◌, ◌-◌, ◌^◌, ◌<◌, refl, ◌∙◌, ap, List, [], ◌∷◌, map, Bool, true, false, cond, Option, Some, None, arith, ◌==◌, option_map, nat_tests, byte_len, and_first, and_second, neither_some, none_of_test, both_none, told_unless, Header, Var, record_limit, record_share, greatest, end_of_var, end_of, share, sharing, sharing_with, sharing_from, header_len, past_bound, is_sound, not}
use Rattle.list_laws.proofs.Std.{w32, w64}
use Rattle.nc_base.specs.declared.errors.HeaderErr.TheVariants as fault
use Rattle.var_layout.proofs.Soundness.{measured}
use Rattle.var_layout.proofs.WrittenLengths.{canon_len}

abbrev counted : Header → ℕ → Header
counted header n = record header { records = n }

-- ---- tests

no_map : {A B : Type 0} (f : A → B) (o q : Option A) → o ≡ q → option_map f q ≡ None → option_map f o ≡ None
no_map f o q e h = ap (option_map f) e ∙ h

-- ---- what a count does not change

same_with : (header : Header) (n : ℕ) (v : Var) (k m : ℕ) (ws : List Var) → sharing_with (counted header n) v k m ws ≡ sharing_with header v k m ws
same_with header n v k m [] = refl
same_with header n v k m (w ∷ ws) = ap (λ (o : Option (ℕ × ℕ)). cond (share header v w) (Some (k, m)) o) (same_with header n v k (suc m) ws)

same_from : (header : Header) (n first k : ℕ) (vs : List Var) → sharing_from (counted header n) first k vs ≡ sharing_from header first k vs
same_from header n first k [] = refl
same_from header n first k (v ∷ vs) = grind (arith, nat_tests, same_from header n first (suc k) vs, same_with header n v k (suc k) vs)

same_sharing : (header : Header) (n : ℕ) → sharing (counted header n) (header_len (counted header n)) ≡ sharing header (header_len header)
same_sharing header n = grind (arith, nat_tests, same_from header n (header_len header) 0 header.vars, canon_len)

-- ---- each variable keeps its bound

still_kept : (header : Header) (n before k : ℕ) (vs : List Var) → greatest (map (λ v. end_of_var header n v) vs) < 2 ^ 62
    → past_bound header before k vs ≡ None → past_bound (counted header n) before k vs ≡ None
still_kept header n before k [] l h = refl
still_kept header n before k (v ∷ vs) l h =
    grind (arith, nat_tests, told_unless, still_kept header n (before + record_share header v) (suc k) vs, counted)

not_streaming : (t : Bool) (n : ℕ) → n < cond t (2 ^ 62) (2 ^ 31) → (n == (256 ^ byte_len (cond t w64 w32) - 1)) ≡ false
not_streaming t n h = grind (arith, nat_tests)

-- a sound header with another count, for which its file does not end too far
pub counted_sound : (header : Header) (n : ℕ) → is_sound header ≡ true → n < record_limit header.version
    → end_of header (header_len header) n < 2 ^ 62 → is_sound (record header { records = n }) ≡ true
counted_sound header n h few l =
    grind (arith, nat_tests, and_first, none_of_test, and_second, both_none, still_kept, measured, no_map, same_sharing, not_streaming, neither_some, canon_len)
