-- The lines of one watcher more.
use Rattle.ncmpi_cli.proofs.Words.{◌≡◌, ℕ, zero, suc, ◌+◌, ◌<◌, List, [], ◌∷◌, ◌++◌, length, map, take, ap, ◌∙◌, arith, append-nil, append_assoc, enumerate_from, flat_map, watch_text, watcher_lines, get_or, nat_tests}

abbrev lines_from : ℕ → List (List (ℕ × ℕ)) → List ℕ
lines_from n readings = flat_map watcher_lines (enumerate_from n readings)

more_from : {A : Type 0} (f : A → List (ℕ × ℕ)) (n : ℕ) (xs : List A) (i : ℕ) (d : A) → i < length xs
    → lines_from n (map f (take (suc i) xs)) ≡ lines_from n (map f (take i xs)) ++ watcher_lines (n + i, f (get_or xs i d))
more_from f n [] i d h = absurd (omega (arith, h))
more_from f n (x ∷ xs) zero d h =
    let e : n ≡ n + 0 = omega arith in
    append-nil (watcher_lines (n, f x)) ∙ ap (λ (m : ℕ). watcher_lines (m, f x)) e
more_from f n (x ∷ xs) (suc i) d h = grind (arith, nat_tests, more_from f (n + 1) xs i d, append_assoc, lines_from, take, get_or)

pub watchers_more : {A : Type 0} (f : A → List (ℕ × ℕ)) (front : List ℕ) (xs : List A) (i : ℕ) (d : A) → i < length xs
    → front ++ watch_text (map f (take (i + 1) xs)) ≡ (front ++ watch_text (map f (take i xs))) ++ watcher_lines (i, f (get_or xs i d))
watchers_more f front xs i d h =
    grind (arith, nat_tests, more_from f 0 xs i d h, append_assoc front (watch_text (map f (take i xs))) (watcher_lines (i, f (get_or xs i d))))
