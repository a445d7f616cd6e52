-- The calls of a relocation, one worker's after another's.
use Rattle.redef_mover.proofs.Words.{◌≡◌, ℕ, refl, List, [], ◌∷◌, ◌++◌, length, Option, reverse, IfSome, DiskCall, Store, with_end, Slab, grow_to, gaps, all_calls, gap_calls, rewrite_calls, calls_more, arith, nat_tests}

four_parts : (told first second third last : Option (List DiskCall)) (a b c d : List DiskCall) → first ≡ with_end told a → second ≡ with_end first b
    → third ≡ with_end second c → last ≡ with_end third d → last ≡ with_end told (a ++ b ++ c ++ d)
four_parts told first second third last a b c d e f g h =
    calls_more told third last (a ++ b ++ c) d (a ++ b ++ c ++ d) refl
    (calls_more told second third (a ++ b) c (a ++ b ++ c) refl (calls_more told first second a b (a ++ b) refl e f) g) h

pub rewrite_called : (held : Option (List ℕ)) (told first second third last : Option (List DiskCall)) (z len end n : ℕ) (ss : List Slab) → IfSome held (λ file. length file ≡ len)
    → first ≡ with_end told (grow_to len end) → second ≡ with_end first (all_calls z (reverse ss)) → third ≡ with_end second (gap_calls z (gaps n end ss))
    → last ≡ with_end third (Store 0 n ∷ []) → IfSome held (λ file. last ≡ with_end told (rewrite_calls z ss n end file))
rewrite_called held told first second third last z len end n ss l e f g h = grind (arith, nat_tests, four_parts)
