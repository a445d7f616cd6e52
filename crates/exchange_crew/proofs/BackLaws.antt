-- Parts that come back one after another.
use Rattle.exchange_crew.proofs.Words.{◌≡◌, ℕ, zero, suc, ◌+◌, ◌<◌, ◌≤◌, ◌⊎◌, min, get_or, inl, inr, refl, ◌∙◌, ap, subst, List, [], ◌∷◌, ◌++◌, length, map, take, drop, Some, Result, Ok, arith, length-append, take_more, slice_get_within, all_zipped_more, slice_get, zip, OnOk, IsErr, IsErrOf, IsOk, AllZip, result_and, entry_below, refilled, Extent, StepErr, Disk, In, in_either, in_right, at_in, in_at, SomeZip, zip_weaker, nat_tests, rules, common_steps, Global, Vec, vec_capacity}

-- ---- two lists, place by place

-- each beside what stands at its place, and one place more
pub zip_next : {A B : Type 0} (xs : List A) (ys : List B) (k : ℕ) (x : A) (y : B) → slice_get xs k ≡ Some x → slice_get ys k ≡ Some y → zip (take (suc k) xs) ys ≡ zip (take k xs) ys ++ (x, y) ∷ []
zip_next (z ∷ xs) (w ∷ ys) k x y e f = grind (arith, nat_tests, zip_next xs ys)
zip_next _ _ k x y e f = absurd cc

pub some_more : {A B : Type 0} (R : A → B → Type 0) (xs : List A) (ys : List B) (x : A) (y : B) → SomeZip R xs ys → SomeZip R (xs ++ x ∷ []) (ys ++ y ∷ [])
some_more R (a ∷ xs) (b ∷ ys) x y n = grind (arith, nat_tests, some_more R xs ys x y)
some_more _ _ _ x y h = absurd h

some_last : {A B : Type 0} (R : A → B → Type 0) (xs : List A) (ys : List B) (x : A) (y : B) → length ys ≡ length xs → R x y → SomeZip R (xs ++ x ∷ []) (ys ++ y ∷ [])
some_last R [] [] x y l r = inl r
some_last R (a ∷ xs) (b ∷ ys) x y l r = inr (some_last R xs ys x y (omega arith) r)
some_last _ _ _ x y l r = absurd (omega arith)

pub zip_mapped : {S A B C : Type 0} (f : S → A) (g : S → B) (Q : A × B → C → Type 0) (ss : List S) (ys : List C) → AllZip (λ s y. Q (f s, g s) y) ss ys
    → AllZip Q (zip (map f ss) (map g ss)) ys
zip_mapped f g Q (s ∷ ss) (y ∷ ys) h = (h.0, zip_mapped f g Q ss ys h.1)
zip_mapped f g Q ss ys h = grind (arith, nat_tests)

pub some_mapped : {S A C : Type 0} (f : S → A) (R : A → C → Type 0) (ss : List S) (ys : List C) → SomeZip (λ s y. R (f s) y) ss ys → SomeZip R (map f ss) ys
some_mapped f R (s ∷ ss) (y ∷ ys) xs = grind (arith, nat_tests, some_mapped f R ss ys)
some_mapped f _ _ _ h = absurd h

-- ---- an end, and one that came later

pub and_first_ok : {T E : Type 0} (end came both : Result T E) → both ≡ result_and end came → OnOk both (IsOk end)
and_first_ok end came both is = grind (arith, nat_tests)

pub and_second_ok : {T E : Type 0} (end came both : Result T E) → both ≡ result_and end came → OnOk both (IsOk came)
and_second_ok end came both is = grind (arith, nat_tests)

pub and_failed : {T : Type 0} (end came both : Result T StepErr) → both ≡ result_and end came → IsErrOf both Disk → IsErrOf end Disk ⊎ IsErrOf came Disk
and_failed end came both is f = grind (arith, nat_tests)

-- ---- a vector whose slice was lent, and came back as long

pub came_back : {X : Type 0} (n : ℕ) (new lent old : List X) → n ≡ length old → lent ≡ old → length new ≡ length lent → take n (new ++ drop (length new) old) ≡ new
came_back {X} n new lent old e is l = grind (arith, nat_tests, refilled)

-- ---- workers that were lent, and came back changed

pub map_new : {X Y : Type 0} (f : X → Y) (R : X → X → Type 0) (old new : List X) → length new ≡ length old
    → ((k : ℕ) (x y : X) → slice_get old k ≡ Some x → slice_get new k ≡ Some y → R x y) → ((x y : X) → R x y → f y ≡ f x) → map f new ≡ map f old
map_new f R [] [] long each same = refl
map_new f R (x ∷ old) (y ∷ new) long each same =
    (λ i. same x y (each zero x y refl refl) i ∷ map f new) ∙ ap (λ r. f x ∷ r) (map_new f R old new (omega arith) (λ k a b e g. each (suc k) a b e g) same)
map_new f _ _ _ long each same = absurd (omega arith)

-- each is as one that was lent, and the vector whose slice was lent has them
pub record AreKept {S : Type 0} (Kept : S → S → Type 0) (first last whole : List S) : Type 0 where
  pub long : length last ≡ length first
  pub each : (k : ℕ) (a b : S) → slice_get first k ≡ Some a → slice_get last k ≡ Some b → Kept a b
  pub same : whole ≡ last

pub lent_kept : {S : Type 0} (Kept : S → S → Type 0) (count : ℕ) (first lent last : List S) → lent ≡ first → count ≡ length first → length last ≡ length lent
    → ((k : ℕ) (a b : S) → slice_get lent k ≡ Some a → slice_get last k ≡ Some b → Kept a b) → AreKept Kept first last (take count (last ++ drop (length last) first))
lent_kept {S} Kept count first lent last is many long each = grind (arith, nat_tests, take, drop, refilled)

pub kept_all : {S : Type 0} (Kept : S → S → Type 0) (P Q : S → Type 0) {first last whole : List S} → AreKept Kept first last whole → ((x y : S) → Kept x y → P x → Q y)
    → ((x : S) → In first x → P x) → (y : S) → In whole y → Q y
kept_all {S} Kept P Q {first} {last} kept f all y m =
    let k = in_at last y (subst (λ (ws : List S). In ws y) kept.same m) in
    let l = slice_get_within last k.0 y k.1 in
    let x = entry_below first k.0 (omega arith) in
    f x.0 y (kept.each k.0 x.0 y x.1 k.1) (all x.0 (at_in first k.0 x.0 x.1))

-- ---- the longest window of domains

pub longest_more : (size i : ℕ) (list : List Extent) (d : Extent) (old new : ℕ) → i < length list → ((e : Extent) → In (take i list) e → min size e.len ≤ old)
    → min (get_or list i d).len size ≤ new → old ≤ new → (e : Extent) → In (take (i + 1) list) e → min size e.len ≤ new
longest_more size i list d old new l each here grown e m = grind (arith, nat_tests, take_more list i d l, in_either)

-- ---- one part more came back

-- what was done on the parts of helpers that came back, and a fault among them
pub record IsBack {S D T : Type 0} (Done : Result T StepErr → S → D → Type 0) (Failing : S → D → Type 0) (xs : List S) (back : List D) (end : Result T StepErr) : Type 0 where
  pub long : length back ≡ length xs
  pub done : AllZip (Done end) xs back
  pub failed : IsErrOf end Disk → SomeZip Failing xs back

-- what was done stays so where the end is no better
abbrev pub IsLater : {A D T : Type 0} → (Result T StepErr → A → D → Type 0) → Type 0
IsLater {A} {D} {T} Done = (r q : Result T StepErr) (p : A) (d : D) → OnOk q (IsOk r) → Done r p d → Done q p d

joined_back : {S D T : Type 0} (Done : Result T StepErr → S → D → Type 0) (Failing : S → D → Type 0) (xs : List S) (x : S) (back now : List D) (y : D) (end came both : Result T StepErr)
    → IsLater Done → both ≡ result_and end came → now ≡ back ++ y ∷ [] → IsBack Done Failing xs back end → Done came x y → (IsErrOf came Disk → Failing x y)
    → IsBack Done Failing (xs ++ x ∷ []) now both
joined_back Done Failing xs x back now y end came both later is pushed s own fault = rw pushed (record {
  long = omega (arith, length-append xs (x ∷ []), length-append back (y ∷ []), s.long);
  done = all_zipped_more (Done both) xs back x y (zip_weaker (Done end) (Done both) xs back (λ p d h. later end both p d (and_first_ok end came both is) h) s.done)
      (later came both x y (and_second_ok end came both is) own);
  failed = λ f. elim (and_failed end came both is f) [ inl g ↦ some_more Failing xs back x y (s.failed g) | inr r ↦ some_last Failing xs back x y s.long (fault r) ];
})

-- ---- helpers that come back one after another

-- what was done on the parts of the helpers so far, for which there is as much room as before
pub record AreComing {S D T : Type 0} (Done : Result T StepErr → S → D → Type 0) (Failing : S → D → Type 0) (workers yielded left : List S) (first now : Vec D Global) (end : Result T StepErr) : Type 0 where
  pub all : yielded ++ left ≡ workers
  pub room : vec_capacity now ≡ vec_capacity first
  pub back : IsBack Done Failing yielded now.items end

pub coming_none : {S D T : Type 0} (Done : Result T StepErr → S → D → Type 0) (Failing : S → D → Type 0) (workers left : List S) (first : Vec D Global) (t : T) → left ≡ workers → first.items ≡ []
    → AreComing Done Failing workers [] left first first (Ok t)
coming_none Done Failing workers left first t all none = record { all = all; room = refl; back = rw none (record { long = refl; done = tt; failed = λ f. first_of (search rules, grind (arith, common_steps)) }) }

module _ {S D T : Type 0} {Done : Result T StepErr → S → D → Type 0} {Failing : S → D → Type 0} {workers yielded left more : List S} {first now : Vec D Global} {end : Result T StepErr} {worker : S}
    (s : AreComing Done Failing workers yielded left first now end) (e : left ≡ worker ∷ more) where
  pub coming_worker : In workers worker
  coming_worker = grind (arith, nat_tests, in_right)

  pub coming_next : (new : Vec D Global) (y : D) (came both : Result T StepErr) → IsLater Done → both ≡ result_and end came → new.items ≡ now.items ++ y ∷ [] → vec_capacity new ≡ vec_capacity now
      → Done came worker y → (IsErrOf came Disk → Failing worker y) → AreComing Done Failing workers (yielded ++ worker ∷ []) more first new both
  coming_next new y came both later is pushed room own fault =
      grind (arith, common_steps, joined_back Done Failing yielded worker now.items new.items y end came both later is pushed s.back own fault)

pub err_not_ok : {T E : Type 0} (P : Type 0) (r : Result T E) → IsErr r → OnOk r P
err_not_ok P r e = grind (arith, nat_tests)
