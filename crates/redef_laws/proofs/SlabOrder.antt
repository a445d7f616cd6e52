-- No slab of an old variable passes another, and none begins where another one does.
use Rattle.redef_laws.proofs.Words.{◌≡◌, ℕ, ◌+◌, ◌*◌, ◌<◌, ◌≤◌, sym, ◌∙◌, ap, inl, inr, ◌⊎◌, Bool, true, false, Some, subst, List, ◌∷◌, slice_get, zip, arith, cases_eq, row_fits, range_with_len, Header, Var, Slab, slabs, slabs_of, header_len, is_sound, is_record, slab, recsize, slab_fits, IsLower, AreShifted, new_end, In, zip_in, first_slab, in_record, nat_tests, holds_or_not}
use Rattle.redef_laws.proofs.RecordSizes.{record_grows}
use Rattle.redef_laws.proofs.SoundVars.{slab_holds, vars_apart, IsApart}
use Rattle.redef_laws.proofs.SlabLaws.{IsRaised, IsPair, IsSlab, slabs_fixed, slabs_record, pair_at, slab_of_pair, slab_in, slab_lies}
use Rattle.redef_laws.proofs.Orders.{Pairwise, pairs_weaker, pairs_map, pairs_range, pairs_flat, pairs_by_place}

-- ---- n bytes from a and m bytes from b, in records of one size before and of another now, which begin x and y bytes, and x' and y' bytes, on

-- a record ends before the other begins, or they are the same
abbrev Rows : ℕ → ℕ → ℕ → ℕ → ℕ → ℕ → Type 0
Rows size size' x y x' y' = ((x + size ≤ y) × (x' + size' ≤ y')) ⊎ (((x ≡ y) × (x' ≡ y')) ⊎ ((y + size ≤ x) × (y' + size' ≤ x')))

rows_of : (size size' r u : ℕ) → Rows size size' (r * size) (u * size) (r * size') (u * size')
rows_of size size' r u = grind (arith, nat_tests, row_fits r size u size, row_fits r size' u size', row_fits u size r size, row_fits u size' r size')

-- what is in no record is in the first one
abbrev Once : Bool → ℕ → ℕ → Type 0
Once t x x' = t ≡ false → (x ≡ 0) × (x' ≡ 0)

-- of two variables
abbrev Lower : ℕ → ℕ → ℕ → ℕ → ℕ → Type 0
Lower n a b a' b' = (a + n ≤ b) × (a' + n ≤ b')

two_lower : (size size' a n b m a' b' x y x' y' : ℕ) (s t : Bool) → IsApart size a n b m s t → IsApart size' a' n b' m s t → 0 < m → Once s x x' → Once t y y'
    → (s ≡ t → a < b → a' ≤ b') → Rows size size' x y x' y' → a + x < b + y → Lower n (a + x) (b + y) (a' + x') (b' + y')
two_lower size size' a n b m a' b' x y x' y' s t p q some one two order rows h = grind (arith, nat_tests)

pub begins_differ : (size size' a n b m x y x' y' : ℕ) (s t : Bool) → IsApart size a n b m s t → 0 < n → 0 < m → Once s x x' → Once t y y' → Rows size size' x y x' y' → a + x ≡ b + y → ⊥
begins_differ size size' a n b m x y x' y' s t p some one i j rows h = grind (arith, nat_tests)

-- of one variable
one_lower : (size size' a n a' x y x' y' : ℕ) (t : Bool) → (t ≡ true → n ≤ size) → size ≤ size' → Once t x x' → Once t y y' → Rows size size' x y x' y' → a + x < a + y
    → Lower n (a + x) (a + y) (a' + x') (a' + y')
one_lower size size' a n a' x y x' y' t fits grows one two rows h = grind (arith, nat_tests)

one_same : (size size' a n x y x' y' : ℕ) (t : Bool) → (t ≡ true → n ≤ size) → 0 < n → Once t x x' → Once t y y' → Rows size size' x y x' y' → a + x ≡ a + y → x' ≡ y'
one_same size size' a n x y x' y' t fits some one two rows h = grind (arith, nat_tests)

-- ---- two slabs

pub zip_at : {X Y : Type 0} (xs : List X) (ys : List Y) (k : ℕ) (p : X × Y) → slice_get (zip xs ys) k ≡ Some p → (slice_get xs k ≡ Some p.0) × (slice_get ys k ≡ Some p.1)
zip_at (x ∷ xs) (y ∷ ys) k p h = grind (arith, nat_tests, zip_at xs ys)
zip_at xs ys k p h = grind (arith, nat_tests)

apart_now : (old new : Header) (k m : ℕ) (v w x y : Var) → is_sound new ≡ true → IsPair old new k v w → IsPair old new m x y → (k ≡ m → ⊥)
    → IsApart (recsize new) w.begin (slab old v) y.begin (slab old x) (is_record old v) (is_record old x)
apart_now old new k m v w x y sound p q differ = grind (arith, nat_tests, vars_apart)

same_slab : (s t : Slab) → s.from ≡ t.from → s.to ≡ t.to → s.len ≡ t.len → s ≡ t
same_slab s t from to len = λ i. record { from = from i; to = to i; len = len i }

once : (old new : Header) (s : Slab) (p : IsSlab old new s) → Once (is_record old p.was) (p.at.row * recsize old) (p.at.row * recsize new)
once old new s p e = let row = p.at.once e in (ap (λ (r : ℕ). r * recsize old) row ∙ omega arith, ap (λ (r : ℕ). r * recsize new) row ∙ omega arith)

module _ (old new : Header) (raised : IsRaised old new) (s t : Slab) (p : IsSlab old new s) (q : IsSlab old new t) where
  rows : Rows (recsize old) (recsize new) (p.at.row * recsize old) (q.at.row * recsize old) (p.at.row * recsize new) (q.at.row * recsize new)
  rows = rows_of (recsize old) (recsize new) p.at.row q.at.row

  holds : (u : Slab) (r : IsSlab old new u) → 0 < slab old r.was
  holds u r = slab_holds old r.number r.was raised.sound_old r.pair.at_old

  apart_before : (p.number ≡ q.number → ⊥) → IsApart (recsize old) p.was.begin (slab old p.was) q.was.begin (slab old q.was) (is_record old p.was) (is_record old q.was)
  apart_before differ = vars_apart old p.number q.number p.was q.was raised.sound_old p.pair.at_old q.pair.at_old differ

  lower : s.from < t.from → IsLower s t
  lower h = elim (cases_eq p.number q.number) [
    | inl e ↦
        let same : (p.was ≡ q.was) × (p.now ≡ q.now) = grind (arith, nat_tests, e, p.pair.at_old, p.pair.at_new, q.pair.at_old, q.pair.at_new) in
        let two : Once (is_record old p.was) (q.at.row * recsize old) (q.at.row * recsize new) = λ f. once old new t q (ap (λ (v : Var). is_record old v) (sym same.0) ∙ f) in
        let l = one_lower (recsize old) (recsize new) p.was.begin (slab old p.was) p.now.begin (p.at.row * recsize old) (q.at.row * recsize old) (p.at.row * recsize new) (q.at.row * recsize new) (is_record old p.was)
        (slab_fits old p.number p.was p.pair.at_old) (record_grows old new raised.keeps) (once old new s p) two rows (grind (arith, nat_tests, h, p.at.is, q.at.is, same.0)) in
        grind (arith, nat_tests, l.0, l.1, p.at.is, q.at.is, same.0, same.1)
    | inr differ ↦
        let l = two_lower (recsize old) (recsize new) p.was.begin (slab old p.was) q.was.begin (slab old q.was) p.now.begin q.now.begin (p.at.row * recsize old) (q.at.row * recsize old) (p.at.row * recsize new) (q.at.row * recsize new) (is_record old p.was) (is_record old q.was)
        (apart_before differ) (apart_now old new p.number q.number p.was p.now q.was q.now raised.sound_new p.pair q.pair differ) (holds t q) (once old new s p) (once old new t q)
        (raised.order p.number q.number p.was p.now q.was q.now p.pair.at_old p.pair.at_new q.pair.at_old q.pair.at_new) rows (grind (arith, nat_tests, h, p.at.is, q.at.is)) in
        grind (arith, nat_tests, l.0, l.1, p.at.is, q.at.is)
  ]

  differ_from : (p.number ≡ q.number → ⊥) → s.from ≡ t.from → ⊥
  differ_from differ h =
      begins_differ (recsize old) (recsize new) p.was.begin (slab old p.was) q.was.begin (slab old q.was) (p.at.row * recsize old) (q.at.row * recsize old) (p.at.row * recsize new) (q.at.row * recsize new) (is_record old p.was) (is_record old q.was)
      (apart_before differ) (holds s p) (holds t q) (once old new s p) (once old new t q) rows (grind (arith, nat_tests, h, p.at.is, q.at.is))

  same : s.from ≡ t.from → s ≡ t
  same h = elim (cases_eq p.number q.number) [
    | inr differ ↦ absurd (differ_from differ h)
    | inl e ↦
        let same : (p.was ≡ q.was) × (p.now ≡ q.now) = grind (arith, nat_tests, e, p.pair.at_old, p.pair.at_new, q.pair.at_old, q.pair.at_new) in
        grind (arith, nat_tests, once old new t q, one_same (recsize old) (recsize new) p.was.begin (slab old p.was) (p.at.row * recsize old) (q.at.row * recsize old), slab_fits old p.number p.was p.pair.at_old, holds s p, once old new s p, rows, same_slab s t h, same.0, same.1, p.at.is, q.at.is)
  ]

pub raised_shifts : (old new : Header) → IsRaised old new → AreShifted (header_len old) (header_len new) (new_end old new) (slabs old new)
raised_shifts old new raised = grind (arith, nat_tests, slab_lies old new raised, lower old new raised, slab_in old new, same old new raised, raised.keeps, new_end)

-- ---- slabs of different places in the list

abbrev pub Differ : Slab → Slab → Type 0
Differ s t = s.from ≡ t.from → ⊥

rows_differ : (old new : Header) (v w : Var) → 0 < slab old v → (is_record old v ≡ true → slab old v ≤ recsize old) → Pairwise Differ (slabs_of old new (v, w))
rows_differ old new v w some fits = elim (holds_or_not (is_record old v)) [
  | inr e ↦ subst (Pairwise Differ) (sym (slabs_fixed old new (v, w) e)) ((λ s m. absurd m), tt)
  | inl e ↦
      (let each : ℕ → Slab = λ r. in_record (recsize old) (recsize new) r (first_slab old (v, w)) in
      subst (Pairwise Differ) (sym (slabs_record old new (v, w) e))
      (pairs_map Differ each (range_with_len 0 old.records)
      (pairs_weaker (λ r q. r < q) (λ r q. Differ (each r) (each q)) (range_with_len 0 old.records)
      (λ r q m n l h. let long = fits e in let row = row_fits r (recsize old) q (recsize old) l (omega arith) in absurd (omega arith)) (pairs_range 0 old.records))))
]

pub slabs_differ : (old new : Header) → IsRaised old new → Pairwise Differ (slabs old new)
slabs_differ old new raised =
    pairs_flat Differ (slabs_of old new) (zip old.vars new.vars)
    (λ p m. let at = zip_in old.vars new.vars p m in
    rows_differ old new p.0 p.1 (slab_holds old at.0 p.0 raised.sound_old at.1) (slab_fits old at.0 p.0 at.1))
    (pairs_by_place (λ p q. (s t : Slab) → In (slabs_of old new p) s → In (slabs_of old new q) t → Differ s t) (zip old.vars new.vars)
    (λ i j p q l e f s t m n.
    let a = zip_at old.vars new.vars i p e in
    let b = zip_at old.vars new.vars j q f in
    let x = slab_of_pair old new i p.0 p.1 s (pair_at old new i p.0 p.1 raised.keeps a.0 a.1) m in
    let y = slab_of_pair old new j q.0 q.1 t (pair_at old new j q.0 q.1 raised.keeps b.0 b.1) n in
    differ_from old new raised s t x.0 y.0 (λ g. absurd (omega (arith, g, x.1, y.1)))))
