-- What is pushed of a script.
use Rattle.script_text.proofs.Words.{◌≡◌, ◌<◌, ◌+◌, ◌*◌, ℕ, zero, suc, List, [], ◌∷◌, ◌++◌, map, length, take, drop, get_or, Bool, true, Some, refl, sym, ap, ◌∙◌, arith, enumerate_from, flat_map, list_all, eqb-true, flat_map-append, list_all_at, length-enumerate_from, get_or-enumerate_from, Attr, NcType, Char, Values, class_of, size_of, val, is_whole_attr, code_in, gathered, attr_values, pieces, shown_values, joined, quoted, spaced, all_pushed, next_pushed, spaced_one, value_word, nat_tests, subst, common_steps}
use Rattle.std.proofs.lemmas.List.{append-nil, append_assoc}

-- what each item passes, one passes
pub all_at : {A : Type 0} (test : A → Bool) (xs : List A) (i : ℕ) (d : A) → list_all test xs ≡ true → i < length xs → test (get_or xs i d) ≡ true
all_at test xs i d all within = grind (arith, nat_tests, list_all_at)

-- the first part stands by itself, each other one behind the byte
pub joined_parts : (c : ℕ) (w : List ℕ) (ws : List (List ℕ)) → joined c (w ∷ ws) ≡ w ++ flat_map (λ x. c ∷ x) ws
joined_parts c w [] = sym (append-nil w)
joined_parts c w (x ∷ xs) = ap (λ (t : List ℕ). w ++ c ∷ t) (joined_parts c x xs)

-- words of items, an item at a time
pub spaced_parts : {A : Type 0} (f : A → List (List ℕ)) (xs : List A) → flat_map (λ x. spaced (f x)) xs ≡ spaced (flat_map f xs)
spaced_parts f [] = refl
spaced_parts f (x ∷ xs) = ap (λ (t : List ℕ). spaced (f x) ++ t) (spaced_parts f xs) ∙ sym (flat_map-append (λ w. 32 ∷ w) (f x) (flat_map f xs))

-- ---- lines

-- a variable's type and name, and its dimensions
pub title_then : (t n b : List ℕ) → ((t ++ 32 ∷ n) ++ 32 ∷ []) ++ b ≡ t ++ 32 ∷ (n ++ 32 ∷ b)
title_then t n b = append_assoc (t ++ 32 ∷ n) (32 ∷ []) b ∙ append_assoc t (32 ∷ n) (32 ∷ b)

-- ---- values of an attribute

abbrev pub by_pieces : NcType → List (List ℕ) → List ℕ
by_pieces kind bs = flat_map (λ b. 32 ∷ value_word (val kind b)) bs

abbrev pub as_values : NcType → List (List ℕ) → Values
as_values kind bs = gathered (class_of kind) (map (λ b. Some (val kind b)) bs)

-- the words of the values are those of their bytes, one after another
pub values_pushed : (kind : NcType) (bs : List (List ℕ)) → (kind ≡ Char → ⊥) → by_pieces kind bs ≡ spaced (shown_values (as_values kind bs))
values_pushed Char bs h = absurd (h refl)
values_pushed kind [] h = grind (arith, nat_tests)
values_pushed kind (b ∷ bs) h = grind (arith, nat_tests, values_pushed kind bs h)

-- the bytes of a text are its values
chars_back : (n : ℕ) (bytes : List ℕ) → length bytes ≡ n → map code_in (map (λ b. Some (val Char b)) (pieces n 1 bytes)) ≡ bytes
chars_back zero bytes h = grind (arith, common_steps)
chars_back (suc n) bytes h = grind (arith, nat_tests, chars_back n)

-- a text is one word
chars_of : (n : ℕ) (bytes : List ℕ) → length bytes ≡ n * size_of Char → spaced (shown_values (as_values Char (pieces n (size_of Char) bytes))) ≡ 32 ∷ quoted bytes
chars_of n bytes e = grind (arith, nat_tests, chars_back n bytes, spaced_one (quoted bytes))

pub text_pushed : (a : Attr) → a.kind ≡ Char → is_whole_attr a ≡ true → spaced (shown_values (attr_values a)) ≡ 32 ∷ quoted a.bytes
text_pushed a h whole =
    subst (λ k. length a.bytes ≡ a.count * size_of k → spaced (shown_values (as_values k (pieces a.count (size_of k) a.bytes))) ≡ 32 ∷ quoted a.bytes) (sym h) (chars_of a.count a.bytes) (eqb-true _ _ whole)

-- ---- a piece

pub pieces_last : (n m size r s : ℕ) → n ≡ suc m → r ≡ n * size → s + size ≡ r → s ≡ m * size
pieces_last n m size r s one whole less =
    let all : r ≡ suc m * size = whole ∙ ap (λ (k : ℕ). k * size) one in
    omega arith

-- the next piece is pushed, and what is left still gives the whole
pub piece_pushed : (w : List ℕ → List ℕ) (size : ℕ) (now next whole : List ℕ) (n m : ℕ) (rest piece others : List ℕ) → n ≡ suc m
    → piece ≡ take size rest → others ≡ drop size rest → next ≡ now ++ w piece → now ++ flat_map w (pieces n size rest) ≡ whole
    → next ++ flat_map w (pieces m size others) ≡ whole
piece_pushed w size now next whole n m rest piece others one front back pushed so_far = grind (arith, nat_tests, append_assoc)

-- ---- ranks

-- an item that goes last, with its number
pub rank_pushed : {A : Type 0} (f : ℕ × A → List ℕ) (front now next : List ℕ) (xs : List A) (i : ℕ) (x : A) → i < length xs → x ≡ get_or xs i x
    → now ≡ front ++ flat_map f (take i (enumerate_from 0 xs)) → next ≡ now ++ f (i, x) → next ≡ front ++ flat_map f (take (i + 1) (enumerate_from 0 xs))
rank_pushed f front now next xs i x within is so_far pushed =
    next_pushed f front now next (enumerate_from 0 xs) i (i + 1) (i, x) (omega (arith, length-enumerate_from 0 xs))
    (grind (arith, nat_tests, get_or-enumerate_from 0 xs i (i, x) within)) refl so_far pushed

pub ranks_pushed : {A : Type 0} (f : ℕ × A → List ℕ) (front now : List ℕ) (xs : List A) (n : ℕ) → n ≡ length xs
    → now ≡ front ++ flat_map f (take n (enumerate_from 0 xs)) → now ≡ front ++ flat_map f (enumerate_from 0 xs)
ranks_pushed f front now xs n whole so_far = all_pushed f front now (enumerate_from 0 xs) n (whole ∙ sym (length-enumerate_from 0 xs)) so_far
