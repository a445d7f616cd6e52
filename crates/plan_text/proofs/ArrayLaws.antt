-- Arrays that are written item by item, and objects that are written in two parts.
use Rattle.plan_text.proofs.Cited.{◌≡◌, ℕ, ◌+◌, ◌<◌, List, [], ◌∷◌, ◌++◌, length, map, take, get_or, refl, sym, ap, ◌∙◌, arith, map_more, joined, closed, comma, nat_tests}
use Rattle.std.proofs.lemmas.List.{append_assoc}

-- one part more
joined_push : (ws : List (List ℕ)) (w : List ℕ) → joined 44 (ws ++ w ∷ []) ≡ joined 44 ws ++ (comma (length ws) ++ w)
joined_push [] w = refl
joined_push (x ∷ []) w = refl
joined_push (x ∷ y ∷ ws) w = grind (arith, nat_tests, joined_push (y ∷ ws) w, append_assoc, joined)

-- one item more, with the comma before it
pub array_more : {A : Type 0} (f : A → List ℕ) (front : List ℕ) (xs : List A) (i : ℕ) (d : A) → i < length xs
    → front ++ joined 44 (map f (take (i + 1) xs)) ≡ ((front ++ joined 44 (map f (take i xs))) ++ comma i) ++ f (get_or xs i d)
array_more f front xs i d h = grind (arith, nat_tests, map_more f xs i d h, joined_push (map f (take i xs)) (f (get_or xs i d)), append_assoc)

-- the last members of an object
pub closed_end : (ms : List (List ℕ)) → joined 44 ms ++ 125 ∷ [] ≡ closed ms
closed_end [] = refl
closed_end (m ∷ []) = refl
closed_end (m ∷ n ∷ ms) = grind (arith, nat_tests, append_assoc, joined, closed_end (n ∷ ms))

-- members, and those after them
pub closed_more : (ms ns : List (List ℕ)) → 0 < length ms → 0 < length ns → joined 44 ms ++ 44 ∷ closed ns ≡ closed (ms ++ ns)
closed_more [] ns h k = absurd (omega arith)
closed_more (m ∷ []) [] h k = absurd (omega arith)
closed_more (m ∷ []) (n ∷ ns) h k = refl
closed_more (m ∷ l ∷ ms) ns h k = grind (arith, nat_tests, append_assoc, joined, closed_more (l ∷ ms) ns)

-- the two parts of a document, and its end
pub document_closed : (ms ns : List (List ℕ)) → 0 < length ms → 0 < length ns
    → joined 44 ms ++ ((44 ∷ joined 44 ns) ++ 125 ∷ 10 ∷ []) ≡ closed (ms ++ ns) ++ 10 ∷ []
document_closed ms ns h k =
    ap (λ (t : List ℕ). joined 44 ms ++ 44 ∷ t) (sym (append_assoc (joined 44 ns) (125 ∷ []) (10 ∷ [])))
    ∙ ap (λ (t : List ℕ). joined 44 ms ++ 44 ∷ (t ++ 10 ∷ [])) (closed_end ns)
    ∙ sym (append_assoc (joined 44 ms) (44 ∷ closed ns) (10 ∷ []))
    ∙ ap (λ (t : List ℕ). t ++ 10 ∷ []) (closed_more ms ns h k)

-- an item that is copied, and goes last
pub copy_pushed : {A : Type 0} (f : A → List ℕ) (front now with_comma next : List ℕ) (xs : List A) (i : ℕ) (d : A) → i < length xs
    → now ≡ front ++ joined 44 (map f (take i xs)) → with_comma ≡ now ++ comma i → next ≡ with_comma ++ f (get_or xs i d) → next ≡ front ++ joined 44 (map f (take (i + 1) xs))
copy_pushed f front now with_comma next xs i d within so_far separated pushed = rw (pushed, separated, so_far) (sym (array_more f front xs i d within))

-- the same of an item that is read
pub item_pushed : {A : Type 0} (f : A → List ℕ) (front now with_comma next : List ℕ) (xs : List A) (i : ℕ) (x : A) → i < length xs → x ≡ get_or xs i x
    → now ≡ front ++ joined 44 (map f (take i xs)) → with_comma ≡ now ++ comma i → next ≡ with_comma ++ f x → next ≡ front ++ joined 44 (map f (take (i + 1) xs))
item_pushed f front now with_comma next xs i x within here so_far separated pushed =
    copy_pushed f front now with_comma next xs i x within so_far separated (rw (← here) pushed)
