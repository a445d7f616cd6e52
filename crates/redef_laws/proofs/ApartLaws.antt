-- The variables of a redefined header stand apart.
use Rattle.redef_laws.proofs.Words.{◌≡◌, ℕ, ◌+◌, ◌<◌, ◌≤◌, List, length, Bool, true, false, Some, None, refl, ap, ◌∙◌, inl, inr, arith, cases_lt, holds_or_not, slice_get, nat_tests, slab_below, each_at, Header, Var, Extra, is_record, slab, recsize, sharing, header_len, is_sound, AreApart, added, fixed_order, begins_by_number, redefined_header, at_begin, shares_by, fixed_then_record, record_then_fixed, no_sharing_from}
use Rattle.redef_laws.proofs.GrownLaws.{IsFitVar, IsFit}
use Rattle.redef_laws.proofs.RebegunLaws.{rebegun, rebegun_at, rebegun_recsize, rebegun_len}
use Rattle.redef_laws.proofs.BeginLaws.{at_number, fixed_apart, front_grows, record_apart, vsizes}
use Rattle.redef_laws.proofs.PlaceLaws.{new_from, new_records, first_place, old_place_of, old_records, new_numbers, fixed_numbers, first_up, in_fixed, in_new, in_old, IsFixedPlace, IsNewPlace, fixed_place, old_place, new_place, any_place, begin_is, old_first_low}
use Rattle.redef_laws.proofs.KeptLaws.{old_recsize}
use Rattle.redef_laws.proofs.SharingLaws.{slab_some, AreOrdered, recsize_of_two, old_pair, old_room}

-- ---- where the variables of one kind lie

-- a variable of this kind, and the begin that is found for it
pub record IsFound (header : Header) (n k : ℕ) (v : Var) (t : Bool) (b : ℕ) : Type 0 where
  pub there : slice_get header.vars k ≡ Some v
  pub kind : is_record header v ≡ t
  pub found : at_number (begins_by_number header n) k ≡ Some (k, b)

module _ (header : Header) (n : ℕ) where
  fixed_at : (k : ℕ) (v : Var) (b : ℕ) → IsFound header n k v false b → IsFixedPlace header n k v b
  fixed_at k v b p =
      let f = fixed_place header n k v p.there p.kind in grind (arith, nat_tests, f.1, f.2, p.found)

  fixed_two : (i j : ℕ) (v w : Var) (b c : ℕ) → IsFound header n i v false b → IsFound header n j w false c → (i ≡ j → ⊥) → AreApart b (slab header v) c (slab header w)
  fixed_two i j v w b c p q other =
      fixed_apart header header.vars (header_len header) (fixed_order header n) i j v w b c (fixed_numbers header n)
      (in_fixed header n i v p.there p.kind) (in_fixed header n j w q.there q.kind) other (fixed_at i v b p).at (fixed_at j w c q).at

  old_at : (k : ℕ) (v : Var) (b : ℕ) → IsFound header n k v true b → k < n → b ≡ old_place_of header n v
  old_at k v b p l = grind (arith, nat_tests, p.found, old_place header n k v p.there p.kind l)

  new_at : (k : ℕ) (v : Var) (b : ℕ) → IsFound header n k v true b → n ≤ k → IsNewPlace header n k v b
  new_at k v b p l =
      let f = new_place header n k v p.there p.kind l in grind (arith, nat_tests, f.1, f.2, p.found)

  -- record variables begin past the fixed ones
  record_low : (k : ℕ) (v : Var) (b : ℕ) → IsFound header n k v true b → first_place header n ≤ b
  record_low k v b p = elim (cases_lt k n) [ inl l ↦ omega (arith, old_at k v b p l) | inr l ↦ omega (arith, (new_at k v b p l).low) ]

-- ---- two record variables

-- of two numbers, begins and slabs
abbrev Ordered : Header → Var → ℕ → Var → ℕ → Type 0
Ordered header v b w c = AreOrdered b (slab header v) c (slab header w) (recsize header)

-- in a header with what is added to it
abbrev IsFoundIn : Header → List Extra → ℕ → Var → Bool → ℕ → Type 0
IsFoundIn old extras k v t b = IsFound (added old extras) (length old.vars) k v t b

module _ (old : Header) (extras : List Extra) (sound : is_sound old ≡ true) (i j : ℕ) (v w : Var) (b c : ℕ) (l : i < j)
    (p : IsFoundIn old extras i v true b) (q : IsFoundIn old extras j w true c) where
  record_size : recsize (added old extras) ≡ vsizes (added old extras) (old_records (added old extras) (length old.vars)) + vsizes (added old extras) (new_records (added old extras) (length old.vars))
  record_size = recsize_of_two (added old extras) (length old.vars) i j v w l p.there q.there p.kind q.kind

  old_two : j < length old.vars → Ordered (added old extras) v b w c
  old_two m =
      let header = added old extras in
      grind (arith, nat_tests, record_size, old_recsize old extras sound, old_at header (length old.vars) i v b p, old_at header (length old.vars) j w c q m, old_first_low header (length old.vars) (i, v), in_old header (length old.vars) i v p.there p.kind, old_first_low header (length old.vars) (j, w) (in_old header (length old.vars) j w q.there q.kind m), in_old header (length old.vars) j w q.there q.kind m, old_pair old extras i j v w sound)

  -- an old record variable and a new one
  old_then_new : i < length old.vars → length old.vars ≤ j → Ordered (added old extras) v b w c
  old_then_new m k =
      let header = added old extras in
      grind (arith, nat_tests, record_size, old_at header (length old.vars) i v b p m, old_first_low header (length old.vars) (i, v) (in_old header (length old.vars) i v p.there p.kind m), in_old header (length old.vars) i v p.there p.kind m, old_room old extras i v sound m p.there p.kind, slab_below header w, new_at header (length old.vars) j w c q k)

  both_new : length old.vars ≤ i → Ordered (added old extras) v b w c
  both_new m =
      let header = added old extras in
      grind (arith, nat_tests, record_size, new_at header (length old.vars) i v b p m, new_at header (length old.vars) j w c q, slab_below header v, slab_below header w, record_apart header header.vars (new_from header (length old.vars)) (new_records header (length old.vars)) i j v w b c (new_numbers header (length old.vars)), in_new header (length old.vars) i v p.there p.kind m, in_new header (length old.vars) j w q.there q.kind)

  records_two : Ordered (added old extras) v b w c
  records_two = grind (arith, nat_tests, old_two, old_then_new, both_new)

-- ---- any two variables

two_apart : (old : Header) (extras : List Extra) (i j : ℕ) (v w : Var) (b c : ℕ) → is_sound old ≡ true → IsFit (added old extras) → i < j → (t u : Bool)
    → IsFoundIn old extras i v t b → IsFoundIn old extras j w u c → shares_by t u b (slab (added old extras) v) c (slab (added old extras) w) (recsize (added old extras)) ≡ false
two_apart old extras i j v w b c sound fit l false false p q =
    grind (arith, nat_tests, added old extras, fixed_two (added old extras) (length old.vars) i j v w b c p q)
two_apart old extras i j v w b c sound fit l false true p q =
    grind (arith, nat_tests, (fixed_at (added old extras) (length old.vars) i v b p).high, record_low (added old extras) (length old.vars) j w c q, fixed_then_record)
two_apart old extras i j v w b c sound fit l true false p q =
    grind (arith, nat_tests, (fixed_at (added old extras) (length old.vars) j w c q).high, record_low (added old extras) (length old.vars) i v b p, record_then_fixed)
two_apart old extras i j v w b c sound fit l true true p q =
    let header = added old extras in
    grind (arith, nat_tests, slab_some header w (each_at (IsFitVar header.version header.dims) header.vars j w fit.vars q.there), each_at (IsFitVar header.version header.dims) header.vars j w fit.vars q.there, records_two old extras sound i j v w b c l p q)

-- ---- the whole header

-- a variable of the new header, its begin being what is found
pub record IsPlaced (header : Header) (n k : ℕ) (x v : Var) : Type 0 where
  pub there : slice_get header.vars k ≡ Some v
  pub found : at_number (begins_by_number header n) k ≡ Some (k, x.begin)
  pub same : at_begin v x.begin ≡ x

pub placed : (header : Header) (n k : ℕ) (x : Var) → slice_get (rebegun (begins_by_number header n) 0 header.vars) k ≡ Some x → (v : Var) × IsPlaced header n k x v
placed header n k x h =
    let found = begins_by_number header n in
    grind (arith, nat_tests, rebegun_at found 0 header.vars k x h, any_place header n k (rebegun_at found 0 header.vars k x h).0 (rebegun_at found 0 header.vars k x h).1, begin_is found k, at_begin (rebegun_at found 0 header.vars k x h).0, x.begin)

past_header : (header : Header) (n k : ℕ) (x v : Var) → IsPlaced header n k x v → header_len header ≤ x.begin
past_header header n k x v p =
    grind (arith, nat_tests, holds_or_not (is_record header v), record_low header n k v x.begin, fixed_at header n k v x.begin, p.there, p.found, first_up header n, front_grows header (header_len header) (fixed_order header n))

pub redefined_apart : (old : Header) (extras : List Extra) → is_sound old ≡ true → IsFit (added old extras)
    → sharing (redefined_header old extras) (header_len (redefined_header old extras)) ≡ None
redefined_apart old extras sound fit =
    let header = added old extras in
    let n = length old.vars in
    let found = begins_by_number header n in
    let new = redefined_header old extras in
    ap (λ (first : ℕ). sharing new first) (rebegun_len header found)
    ∙ no_sharing_from new (header_len header) 0 new.vars (λ i x g. let p = placed header n i x g in past_header header n i x p.0 p.1)
    (λ i j x y l g f.
    let p = placed header n i x g in
    let q = placed header n j y f in
    let two = two_apart old extras i j p.0 q.0 x.begin y.begin sound fit l (is_record header p.0) (is_record header q.0)
    (record { there = p.1.there; kind = refl; found = p.1.found }) (record { there = q.1.there; kind = refl; found = q.1.found }) in
    grind (arith, nat_tests, two, p.1.same, q.1.same, rebegun_recsize header found, at_begin))
