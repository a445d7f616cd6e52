-- The first item that passes a test, as a loop comes to it.
use Rattle.fill_records.proofs.Words.{◌≡◌, ℕ, ◌+◌, ◌<◌, List, [], ◌∷◌, length, take, drop, get_or, Bool, true, false, Some, None, find, take_more, drop_more, take-append-drop, find-append, arith, nat_tests}

-- an item that passes, with none before it that does
pub find_stops : {A : Type 0} (p : A → Bool) (xs : List A) (k : ℕ) (x : A) → k < length xs → x ≡ get_or xs k x → find p (take k xs) ≡ None → p x ≡ true
    → find p xs ≡ Some x
find_stops p xs k x h e none pass = grind (arith, nat_tests, take-append-drop k xs, drop_more xs k x h, find-append p (take k xs) (x ∷ drop (k + 1) xs))

-- one that does not
pub find_goes_on : {A : Type 0} (p : A → Bool) (xs : List A) (k : ℕ) (x : A) → k < length xs → x ≡ get_or xs k x → find p (take k xs) ≡ None → p x ≡ false
    → find p (take (k + 1) xs) ≡ None
find_goes_on p xs k x h e none fail = grind (arith, nat_tests, take_more xs k x h, find-append p (take k xs) (x ∷ []))
