-- How far the entries so far reach, and the first byte that two requests hold.
use Rattle.overlap_report.proofs.Words.{◌≡◌, ℕ, ◌+◌, ◌<◌, ◌≤◌, refl, sym, ap, subst, inl, inr, List, length, take, get_or, Bool, true, false, cond, max, Option, Some, None, arith, MatchOption, range_with_len, take_all, entry_in, in_taken, Owned, Pair, Key, same_key, key_below, Holds, holdings_of_entries, shared_pair_of, first_end, second_end, key_itself, key_equal, pair_found, pair_only, In, extents, IsByPlace, in_range, range_low, range_high, holds_by, holder_of, Reach, key_of, Covers, IsClearAt, AreTwo, IsFirst, HasHolder, ArePairAt, same_as, with_entry, no_both, nat_tests, common_steps}
use Rattle.list_laws.proofs.Optional.{some_or_none}
use Rattle.list_laws.proofs.Truth.{holds_or_not}
use Rattle.overlap_report.proofs.KeySteps.{key_meet, key_apart, key_apart_back, not_below_itself, IsNext, for_next, before_next, at_or_before}

-- an entry that ends there, of the request or not
pub record EndsAt (seen : List Owned) (r : Reach) (n : ℕ) (same : Bool) : Type 0 where
  pub entry : Owned
  pub is_one : In seen entry
  pub ends : entry.extent.at + entry.extent.len ≡ n
  pub of_it : same_as r entry ≡ same

pub record Reaches (r : Reach) (seen : List Owned) : Type 0 where
  pub most : (o : Owned) → In seen o → 1 ≤ o.extent.len → o.extent.at + o.extent.len ≤ r.end
  pub others : (o : Owned) → In seen o → 1 ≤ o.extent.len → same_as r o ≡ false → o.extent.at + o.extent.len ≤ r.other
  pub end_of : 0 < r.end → EndsAt seen r r.end true
  pub other_of : 0 < r.other → EndsAt seen r r.other false
  pub clear : (x : ℕ) → IsClearAt seen x

-- ---- one more entry

clear_next : (seen more : List Owned) (o : Owned) (x : ℕ) → IsNext seen more o → IsClearAt seen x
    → ((p : Owned) → In seen p → Covers p x → Covers o x → same_key (key_of p) (key_of o) ≡ true) → IsClearAt more x
clear_next seen more o x next clear meet p q m n c d = grind (arith, nat_tests, for_next, key_itself, key_of)

moved : (seen more : List Owned) (r s : Reach) (o : Owned) (n m : ℕ) (same : Bool) → IsNext seen more o → s.rank ≡ r.rank → s.request ≡ r.request → n ≡ m
    → EndsAt seen r n same → EndsAt more s m same
moved seen more r s o n m same next e f g h = grind (arith, nat_tests)

pub reach_next : (seen more : List Owned) (r : Reach) (o : Owned) → IsNext seen more o → 1 ≤ o.extent.len
    → cond (same_as r o) r.other r.end ≤ o.extent.at → Reaches r seen → Reaches (with_entry r o) more
reach_next seen more r o next long free h = by_same (same_as r o) refl free
  where
    by_same : (t : Bool) → same_as r o ≡ t → cond t r.other r.end ≤ o.extent.at
        → Reaches (cond t (record r { end = max r.end (o.extent.at + o.extent.len) })
        (record { end = o.extent.at + o.extent.len; rank = o.rank; request = o.request; other = r.end })) more
    by_same true e low = record {
      most = grind (arith, nat_tests, next.splits, h.most);
      others = grind (arith, nat_tests, next.splits, h.others);
      end_of = grind (arith, nat_tests, moved, next.has, h.end_of);
      other_of = grind (arith, nat_tests, moved, h.other_of);
      clear = λ x. clear_next seen more o x next (h.clear x) (λ p m c d. grind (arith, nat_tests, holds_or_not, key_meet, h.others, c.0, c.1, d.0));
    }
    by_same false e low = record {
      most = grind (arith, nat_tests, next.splits, h.most);
      others = grind (arith, nat_tests, next.splits, h.most, key_itself);
      end_of = grind (arith, nat_tests, next.has, key_itself);
      other_of = grind (arith, nat_tests, h.end_of, next.keeps, key_apart);
      clear = λ x. clear_next seen more o x next (h.clear x) (λ p m c d. absurd (omega (arith, h.most p m (omega (arith, c.0, c.1)), c.1, d.0)));
    }

-- an entry without bytes
pub reach_same : (seen more : List Owned) (r : Reach) (o : Owned) → IsNext seen more o → o.extent.len ≡ 0 → Reaches r seen → Reaches r more
reach_same seen more r o next none h =
    let clear : (x : ℕ) → IsClearAt more x = λ x. clear_next seen more o x next (h.clear x) (λ p m c d. absurd (omega (arith, d.0, d.1))) in
    grind (arith, nat_tests, next.splits, h.most, h.others, h.end_of, h.other_of, moved, clear)

-- ---- the byte

pub first_found : (list : List Owned) (i : ℕ) (r : Reach) (o : Owned) → i < length list → o ≡ get_or list i o → IsByPlace (extents list) → 0 < o.extent.len
    → o.extent.at < cond (same_as r o) r.other r.end → Reaches r (take i list) → IsFirst list o.extent.at
first_found list i r o room is sorted some meets h = (by_same (same_as r o) refl meets, λ y l. clear_below y l)
  where
    two : (n : ℕ) (same : Bool) → EndsAt (take i list) r n same → o.extent.at < n → ((q : Owned) → same_as r q ≡ same → same_key (key_of q) (key_of o) ≡ false) → AreTwo list o.extent.at
    two n same e past apart = record {
      one = e.entry;
      other = o;
      one_in = in_taken i list e.entry e.is_one;
      other_in = grind (arith, nat_tests, is, entry_in list i o room);
      one_covers = (before_next list i o e.entry room is sorted e.is_one, omega (arith, e.ends));
      other_covers = (omega arith, omega arith);
      differ = apart e.entry e.of_it;
    }

    by_same : (t : Bool) → same_as r o ≡ t → o.extent.at < cond t r.other r.end → AreTwo list o.extent.at
    by_same true e past = two r.other false (h.other_of (omega arith)) past (λ q f. key_apart_back (key_of q) (key_of o) (r.rank, r.request) f e)
    by_same false e past = two r.end true (h.end_of (omega arith)) past (λ q f. key_apart (key_of q) (key_of o) (r.rank, r.request) f e)

    clear_below : (y : ℕ) → y < o.extent.at → IsClearAt list y
    clear_below y l p q m n c d = grind (arith, nat_tests, h.clear y p q, at_or_before list i o p room is sorted m, at_or_before list i o q room is sorted n, c.0, d.0)

pub all_clear : (list : List Owned) (i : ℕ) (r : Reach) → length list ≤ i → Reaches r (take i list) → (x : ℕ) → IsClearAt list x
all_clear list i r h reaches x = subst (λ (os : List Owned). IsClearAt os x) (take_all i list h) (reaches.clear x)

-- ---- the pair

holds_of : (list : List Owned) (k : Key) (x : ℕ) → HasHolder list k x → Holds (holdings_of_entries list) k x
holds_of list k x h =
    holds_by key_of (λ o. range_with_len o.extent.at o.extent.len) list k x h.holder h.is_one (ap (λ (z : Key). z.0) h.key) (ap (λ (z : Key). z.1) h.key)
    (in_range h.holder.extent.at h.holder.extent.len x h.covers.0 h.covers.1)

of_holds : (list : List Owned) (k : Key) (x : ℕ) → Holds (holdings_of_entries list) k x → HasHolder list k x
of_holds list k x h = grind (arith, common_steps, holder_of key_of (λ o. range_with_len o.extent.at o.extent.len) list k x h, range_low, range_high)

unshared : (list : List Owned) (x : ℕ) → IsClearAt list x → (a b : Key) → HasHolder list a x → HasHolder list b x → a ≡ b
unshared list x clear a b h k = grind (arith, nat_tests, key_equal)

pub no_pair : (list : List Owned) → ((x : ℕ) → IsClearAt list x) → None ≡ shared_pair_of (holdings_of_entries list)
no_pair list clear = elim (some_or_none (shared_pair_of (holdings_of_entries list))) [
  | inl e ↦ sym e
  | inr (p, e) ↦
      let found = pair_found (holdings_of_entries list) p e in
      let same = unshared list p.at (clear p.at) (first_end p) (second_end p) (of_holds list (first_end p) p.at found.first) (of_holds list (second_end p) p.at found.second) in
      no_both (key_below (second_end p) (second_end p)) (subst (λ (k : Key). key_below k (second_end p) ≡ true) same found.in_order) (not_below_itself (second_end p))
]

pub one_pair : (list : List Owned) (p : Pair) (x : ℕ) → p.at ≡ x → ((y : ℕ) → y < x → IsClearAt list y) → ArePairAt list (first_end p) (second_end p) x
    → Some p ≡ shared_pair_of (holdings_of_entries list)
one_pair list p x e clear h =
    sym (pair_only (holdings_of_entries list) p (record {
      first = holds_of list (first_end p) p.at (subst (λ (n : ℕ). HasHolder list (first_end p) n) (sym e) h.first);
      second = holds_of list (second_end p) p.at (subst (λ (n : ℕ). HasHolder list (second_end p) n) (sym e) h.second);
      in_order = h.in_order;
      least_byte = λ y l a b m n. unshared list y (clear y (subst (λ (k : ℕ). y < k) e l)) a b (of_holds list a y m) (of_holds list b y n);
      least_ends = λ a m. (let k = of_holds list a x (subst (λ (n : ℕ). Holds (holdings_of_entries list) a n) e m) in grind (arith, nat_tests, k.key, h.least k.holder k.is_one k.covers));
    }))

pub found_pair : (list : List Owned) (x : ℕ) (o : Option Pair) → IsFirst list x
    → MatchOption o (IsClearAt list x) (λ p. (p.at ≡ x) × ArePairAt list (first_end p) (second_end p) x) → o ≡ shared_pair_of (holdings_of_entries list)
found_pair list x None first h = grind (arith, nat_tests, no_both)
found_pair list x (Some p) first h = one_pair list p x h.0 first.1 h.1
