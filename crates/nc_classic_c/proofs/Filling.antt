-- A list that is laid into an array item by item.
use Rattle.nc_classic_c.proofs.Words.{◌≡◌, ℕ, zero, suc, ◌+◌, ◌-◌, ◌<◌, ◌≤◌, List, [], ◌∷◌, ◌++◌, length, drop, set, Bool, cond, ltb, leb, ◌&&◌, ap, sym, refl, ◌∙◌, arith, append_assoc, length-append, length-drop, append-nil, set_at, take_all, take-append-le, drop-append-le, drop_all, length-take, leb-true, leb-false, ltb-true, ltb-false, filled, laid_at, nat_tests, laid_from}

-- ---- ends

pub drop_next : {A : Type 0} (n : ℕ) (xs : List A) → n < length xs → (x : A) × (drop n xs ≡ x ∷ drop (suc n) xs)
drop_next zero (x ∷ xs) h = (x, refl)
drop_next (suc n) (x ∷ xs) h = drop_next n xs (omega arith)
drop_next _ _ h = absurd (omega arith)

-- ---- one more item

pub length-filled : {A : Type 0} (old items : List A) → length (filled old items) ≡ length old
length-filled old items = grind (arith, nat_tests, length-take, length-drop, length-append)

-- there is room for all
pub filled_whole : {A : Type 0} (old items : List A) → length items ≤ length old → filled old items ≡ items ++ drop (length items) old
filled_whole old items h = ap (λ t. t ++ drop (length items) old) (take_all (length old) items h)

pub filled_more : {A : Type 0} (old items : List A) (x : A) → length items < length old
    → set (filled old items) (length items) x ≡ filled old (items ++ x ∷ [])
filled_more {A} old items x h =
    let next = drop_next (length items) old h in
    let long : length (items ++ x ∷ []) ≡ suc (length items) = length-append items (x ∷ []) ∙ omega arith in
    grind (arith, nat_tests, next, long, set, filled_whole, set_at, append_assoc)

-- ---- the next one

laid_by : {A : Type 0} (old done : List A) (from : ℕ) (x : A) (a b : Bool) → leb from (length done) ≡ a → ltb (length done - from) (length old) ≡ b
    → cond (a && b) (set (filled old (drop from done)) (length done - from) x) (filled old (drop from done)) ≡ filled old (drop from (done ++ x ∷ []))
laid_by old done from x a b low room =
    grind (arith, nat_tests, length-append, leb-false, drop_all, leb-true, ltb-false, length-drop, take-append-le, drop-append-le, ltb-true, set, filled_more)

pub laid_next : {A : Type 0} (old done : List A) (from : ℕ) (x : A)
    → laid_at (length done) from (filled old (drop from done)) x ≡ filled old (drop from (done ++ x ∷ []))
laid_next {A} old done from x =
    ap (λ (n : ℕ). cond (leb from (length done) && ltb (length done - from) n) (set (filled old (drop from done)) (length done - from) x) (filled old (drop from done)))
    (length-filled old (drop from done))
    ∙ laid_by old done from x (leb from (length done)) (ltb (length done - from) (length old)) refl refl

-- ---- items that are laid one after another

laid_on : {A : Type 0} (from : ℕ) (old done items : List A) → laid_from (length done) from (filled old (drop from done)) items ≡ filled old (drop from (done ++ items))
laid_on {A} from old done [] = ap (λ (l : List A). filled old (drop from l)) (sym (append-nil done))
laid_on {A} from old done (x ∷ items) =
    (λ i. laid_from (sym (length-append done (x ∷ [])) i) from (laid_next old done from x i) items)
    ∙ laid_on from old (done ++ x ∷ []) items
    ∙ ap (λ (l : List A). filled old (drop from l)) (append_assoc done (x ∷ []) items)

pub laid_whole : {A : Type 0} (items : List A) (from : ℕ) (old : List A) → laid_from 0 from old items ≡ filled old (drop from items)
laid_whole {A} items from old =
    let none : filled old (drop from []) ≡ old =
    ap (λ (l : List A). filled old l) (drop_all from [] (omega arith)) ∙ ap (λ (l : List A). l ++ old) (take_all (length old) [] (omega arith)) in
    ap (λ (l : List A). laid_from 0 from l items) (sym none) ∙ laid_on from old [] items

laid_append : {A : Type 0} (from n : ℕ) (old xs ys : List A) → laid_from n from old (xs ++ ys) ≡ laid_from (n + length xs) from (laid_from n from old xs) ys
laid_append {A} from n old [] ys = let same : n ≡ n + 0 = omega arith in ap (λ (m : ℕ). laid_from m from old ys) same
laid_append {A} from n old (x ∷ xs) ys = grind (arith, nat_tests, laid_append from (n + 1) (laid_at n from old x) xs ys)

-- a part is laid, and the rest is next
pub part_laid : {A : Type 0} (from total next : ℕ) (now new own rest whole laid : List A) → next ≡ total + length own → new ≡ laid_from total from now own → whole ≡ own ++ rest
    → laid_from total from now whole ≡ laid → laid_from next from new rest ≡ laid
part_laid {A} from total next now new own rest whole laid e f g h = grind (arith, nat_tests, laid_append)

-- one item is laid, and the rest is next
pub item_laid : {A : Type 0} (from total : ℕ) (now new rest whole laid : List A) (x : A) → new ≡ laid_at total from now x → whole ≡ x ∷ rest
    → laid_from total from now whole ≡ laid → laid_from (total + 1) from new rest ≡ laid
item_laid {A} from total now new rest whole laid x f g h = grind (arith, nat_tests)
