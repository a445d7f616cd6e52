-- The first parts, and those behind them: what holds of both holds of all.
use Rattle.exchange_crew.proofs.Words.{◌≡◌, ℕ, suc, ◌+◌, inr, ap, List, [], ◌∷◌, ◌++◌, length, take, drop, Some, Result, arith, slice_get, zip, IsErrOf, AllZip, result_and, Extent, Owned, StepErr, Disk, SomeZip, nat_tests, ◌-◌, ◌≤◌, take_rest, vec_capacity, zip_weaker, AreFirst, DiskGhosts, HaveDomains, Served, common_steps}
use Rattle.exchange_crew.proofs.BackLaws.{and_failed, and_first_ok, and_second_ok, came_back, IsLater}

pub zip_split : {A B : Type 0} (k : ℕ) (xs : List A) (ds : List B) → length ds ≡ length xs → zip xs ds ≡ zip (take k xs) (take k ds) ++ zip (drop k xs) (drop k ds)
zip_split (suc k) (x ∷ xs) (d ∷ ds) long = ap (λ ps. (x, d) ∷ ps) (zip_split k xs ds (omega arith))
zip_split k xs ds long = grind (arith, nat_tests)

pub zip_joined : {A B C : Type 0} (Q : A × B → C → Type 0) (k : ℕ) (xs : List A) (ds : List B) (ys zs : List C) → length ds ≡ length xs
    → AllZip Q (zip (take k xs) (take k ds)) ys → AllZip Q (zip (drop k xs) (drop k ds)) zs → AllZip Q (zip xs ds) (ys ++ zs)
zip_joined Q (suc k) (x ∷ xs) (d ∷ ds) (y ∷ ys) zs long first rest = (first.0, zip_joined Q k xs ds ys zs (omega arith) first.1 rest)
zip_joined Q k xs ds ys zs long first rest = grind (arith, nat_tests)

pub some_first : {A B : Type 0} (R : A → B → Type 0) (k : ℕ) (xs : List A) (ys zs : List B) → SomeZip R (take k xs) ys → SomeZip R xs (ys ++ zs)
some_first R (suc k) (x ∷ xs) (y ∷ ys) zs n = grind (arith, nat_tests, some_first R k xs ys zs)
some_first _ _ _ _ zs m = absurd m

some_second : {A B : Type 0} (R : A → B → Type 0) (xs : List A) (ys zs : List B) → SomeZip R (drop (length ys) xs) zs → SomeZip R xs (ys ++ zs)
some_second R xs [] zs m = m
some_second R [] (y ∷ ys) zs m = absurd m
some_second R (x ∷ xs) (y ∷ ys) zs m = inr (some_second R xs ys zs m)

-- ---- the parts of those that were handed out, and those behind them

behind_at : {X : Type 0} (n : ℕ) (xs : List X) (k : ℕ) (x : X) → slice_get (drop n xs) k ≡ Some x → slice_get xs (n + k) ≡ Some x
behind_at (suc n) (y ∷ xs) k x e = grind (arith, nat_tests, behind_at n xs k x)
behind_at n xs k x e = grind (arith, nat_tests)

-- the parts behind so many, beside their domains
pub record IsSplit {D : Type 0} (n : ℕ) (parts rest : List D) (domains more : List Extent) : Type 0 where
  pub long : length domains ≡ length parts
  pub behind : rest ≡ drop n parts
  pub later : more ≡ drop n domains

-- those that helpers left, while they are lent
pub left_behind : {D : Type 0} (served : Served D) (count : ℕ) (parts lent : List D) (domains : List Extent) → AreFirst parts served → count ≡ length served.back.items
    → length domains ≡ length parts → lent ≡ served.rest.items → IsSplit (length served.back.items) parts lent domains (take (length domains - count) (drop count domains))
left_behind served count parts lent domains first e long is = grind (arith, nat_tests, take_rest domains count, first.rest)

pub room_behind : {D : Type 0} (served : Served D) (count : ℕ) (parts lent new : List D) → AreFirst parts served → count ≡ length served.rest.items → lent ≡ served.rest.items
    → length new ≡ length lent → length served.back.items + length (take count (new ++ drop (length new) served.rest.items)) ≤ vec_capacity served.back
room_behind {D} served count parts lent new first e is long = grind (arith, common_steps, came_back count new lent served.rest.items e is long)

module _ {D : Type 0} {n : ℕ} {parts rest : List D} {domains more : List Extent} (split : IsSplit n parts rest domains more) where
  pub domains_behind : (disk : DiskGhosts D) (list : List Owned) → HaveDomains disk list domains parts → HaveDomains disk list more rest
  domains_behind disk list h = record { one_each = grind (arith, common_steps); each = λ k part domain e f. grind (arith, nat_tests, behind_at, split.behind, split.later, h.each (n + k) part domain) }

-- ---- what was done on both, and a fault among them

module _ {D T : Type 0} {parts rest : List D} {domains more : List Extent} (back others whole : List D) (end came both : Result T StepErr) (split : IsSplit (length back) parts rest domains more)
    (all : whole ≡ back ++ others) (is : both ≡ result_and end came) where
  pub all_joined : (Done : Result T StepErr → D × Extent → D → Type 0) → IsLater Done → AllZip (Done end) (zip (take (length back) parts) (take (length back) domains)) back
      → AllZip (Done came) (zip rest more) others → AllZip (Done both) (zip parts domains) whole
  all_joined Done later first second =
      rw all (grind (arith, common_steps, zip_joined (Done both) (length back) parts domains back others split.long, zip_weaker (Done end) (Done both), and_first_ok end came both is, zip_weaker (Done came) (Done both) (zip rest more) others (λ p d h. later came both p d (and_second_ok end came both is) h) second, and_second_ok end came both is))

  pub failed_joined : (R : D → D → Type 0) → (IsErrOf end Disk → SomeZip R (take (length back) parts) back) → (IsErrOf came Disk → SomeZip R rest others) → IsErrOf both Disk → SomeZip R parts whole
  failed_joined R first second f = grind (arith, nat_tests, and_failed, some_first, some_second)
