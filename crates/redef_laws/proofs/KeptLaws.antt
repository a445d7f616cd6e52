-- The old variables in the header with what is added: their begins, slabs and records.
use Rattle.redef_laws.proofs.Words.{filter_in, filter_none, nat_lt, numbered_from, ◌≡◌, ℕ, zero, suc, ◌+◌, ◌<◌, ◌≤◌, List, [], ◌∷◌, ◌++◌, length, true, Some, None, refl, ap, ◌∙◌, arith, sum_by, slice_get, bytes_eq, enumerate_from, nat_tests, sum_by-cons, sum_by-filter_both, entry_below, Header, Attr, Var, Extra, lengths, is_record, slab, vsize, recsize, record_share, record_variables, is_sound, Numbered, with_var_attr, with_extra, added, records_in, old_of, begins_by_number, redefined_keeps, in_front, recsize_below, either}
use Rattle.nc_base.specs.declared.script.Extra.TheVariants as extra
use Rattle.redef_laws.proofs.RebegunLaws.{rebegun_at}
use Rattle.redef_laws.proofs.BeginLaws.{vsizes}
use Rattle.redef_laws.proofs.PlaceLaws.{numbered, old_records, new_records}

-- ---- begins

abbrev BeginsAt : List Var → ℕ → ℕ → Type 0
BeginsAt vs k b = (w : Var) × (slice_get vs k ≡ Some w) × (w.begin ≡ b)

attr_begin : (name : List ℕ) (a : Attr) (vs : List Var) (k : ℕ) (v : Var) → slice_get vs k ≡ Some v → BeginsAt (with_var_attr name a vs) k v.begin
attr_begin name a [] k v h = absurd cc
attr_begin name a (x ∷ vs) zero v h =
    let same : x ≡ v = cc in
    either (λ (ws : List Var). BeginsAt ws zero v.begin) (bytes_eq x.name name) _ _ (λ e. (record x { attrs = x.attrs ++ a ∷ [] }, refl, ap (λ (y : Var). y.begin) same)) (λ e. (v, h, refl))
attr_begin name a (x ∷ vs) (suc k) v h =
    either (λ (ws : List Var). BeginsAt ws (suc k) v.begin) (bytes_eq x.name name) _ _ (λ e. (v, h, refl)) (λ e. attr_begin name a vs k v h)

one_begin : (h : Header) (e : Extra) (k : ℕ) (v : Var) → slice_get h.vars k ≡ Some v → BeginsAt (with_extra h e).vars k v.begin
one_begin h (extra.Var kind name dims) k v g = (v, in_front h.vars _ k v g, refl)
one_begin h (extra.Att (Some owner) a) k v g = attr_begin owner a h.vars k v g
one_begin h xs k v g = (v, g, refl)

begin_kept : (h : Header) (extras : List Extra) (k : ℕ) (v : Var) → slice_get h.vars k ≡ Some v → BeginsAt (added h extras).vars k v.begin
begin_kept h [] k v g = (v, g, refl)
begin_kept h (e ∷ extras) k v g = grind (arith, nat_tests, begin_kept (with_extra h e) extras k (one_begin h e k v g).0 (one_begin h e k v g).1, one_begin)

-- ---- an old variable

-- the variable w of the new header is v of the old one, with the same begin
pub record IsKept (old header : Header) (v w : Var) : Type 0 where
  pub begin : w.begin ≡ v.begin
  pub kind : is_record header w ≡ is_record old v
  pub slab : slab header w ≡ slab old v

pub kept_var : (old : Header) (extras : List Extra) (k : ℕ) (v : Var) → is_sound old ≡ true → slice_get old.vars k ≡ Some v
    → (w : Var) × (slice_get (added old extras).vars k ≡ Some w) × IsKept old (added old extras) v w
kept_var old extras k v sound g =
    let header = added old extras in
    let moved = redefined_keeps old extras sound k v g in
    let found = rebegun_at (begins_by_number header (length old.vars)) 0 header.vars k moved.0 moved.1 in
    let there = begin_kept old extras k v g in
    let long : lengths header found.0 ≡ lengths old v = ap (λ (w : Var). lengths header w) found.2 ∙ moved.3 in
    grind (arith, nat_tests, found.2, moved.2, found.1, there.2)

-- the old variable of a number
pub old_var : (old : Header) (extras : List Extra) (k : ℕ) (w : Var) → is_sound old ≡ true → k < length old.vars → slice_get (added old extras).vars k ≡ Some w
    → (v : Var) × (slice_get old.vars k ≡ Some v) × IsKept old (added old extras) v w
old_var old extras k w sound l g =
    grind (arith, nat_tests, entry_below old.vars k l, kept_var old extras k (entry_below old.vars k l).0 sound (entry_below old.vars k l).1)

-- ---- records

-- the old record variables have the sizes that they had
old_sizes : (old header : Header) (n a : ℕ) (os vs : List Var) → n ≡ a + length os
    → ((k : ℕ) (v : Var) → slice_get os k ≡ Some v → (w : Var) × (slice_get vs k ≡ Some w) × IsKept old header v w)
    → vsizes header (old_of n (records_in header (enumerate_from a vs))) ≡ sum_by (λ v. record_share old v) os
old_sizes old header n a [] vs e kept =
    let none = filter_none (λ (p : Numbered). nat_lt p.0 n) (records_in header (enumerate_from a vs)) (λ y m. grind (arith, nat_tests, filter_in, numbered_from a vs y)) in grind (arith, nat_tests, none)
old_sizes old header n a (o ∷ os) [] e kept = let found = kept 0 o refl in absurd (let f : None ≡ Some found.0 = found.1 in cc)
old_sizes old header n a (o ∷ os) (w ∷ vs) e kept =
    let rest = old_sizes old header n (a + 1) os vs (omega arith) (λ k v g. kept (suc k) v g) in
    let found = kept 0 o refl in
    let same : found.0 ≡ w = cc in
    let later = old_of n (records_in header (enumerate_from (a + 1) vs)) in
    grind (arith, nat_tests, rest, sum_by-cons (λ v. record_share old v) o os, sum_by-cons (λ (p : Numbered). vsize header p.1) (a, w) later, same, found.2.kind, found.2.slab, e)

pub old_recsize : (old : Header) (extras : List Extra) → is_sound old ≡ true → recsize old ≤ vsizes (added old extras) (old_records (added old extras) (length old.vars))
old_recsize old extras sound = grind (arith, nat_tests, old_sizes, kept_var, recsize_below)

-- all record variables are old or new
records_whole : (header : Header) (a : ℕ) (vs : List Var) → vsizes header (records_in header (enumerate_from a vs)) ≡ sum_by (λ v. vsize header v) (record_variables header vs)
records_whole header a [] = refl
records_whole header a (v ∷ vs) =
    let here = sum_by-cons (λ (p : Numbered). vsize header p.1) (a, v) (records_in header (enumerate_from (a + 1) vs)) in
    grind (arith, nat_tests, records_whole header (a + 1) vs, here, sum_by-cons (λ w. vsize header w) v (record_variables header vs))

pub all_sizes : (header : Header) (n : ℕ) → vsizes header (old_records header n) + vsizes header (new_records header n) ≡ sum_by (λ v. vsize header v) (record_variables header header.vars)
all_sizes header n = grind (arith, nat_tests, sum_by-filter_both, numbered, records_whole)
