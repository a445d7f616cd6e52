-- Entries and the puts that they were gathered from hold the same bytes for the same requests.
use Rattle.overlay_laws.proofs.Words.{◌≡◌, ℕ, ◌∙◌, List, [], ◌∷◌, arith, nat_tests, flat_map, map, range_with_len, and_from, or_cases, and_first, and_second, no_false, Header, Post, Owned, Puts, Key, bytes_of, holdings, holdings_of_entries, same_key, Holds, shared_pair, shared_pair_of, same_pair, Source, AreOf, IsGathered, In, HaveSame, eqb-true, any_member, Holding, has_byte, ◌&&◌}
use Rattle.overlay_laws.proofs.HullLaws.{any_in, in_any, in_left, in_right, in_either, in_flat, flat_in, in_map}

-- who holds a byte, by members
pub holds_by : {X : Type 0} (key : X → Key) (bytes : X → List ℕ) (xs : List X) (k : Key) (x : ℕ) (o : X) → In xs o → (key o).0 ≡ k.0 → (key o).1 ≡ k.1 → In (bytes o) x
    → Holds (map (λ z. (key z, bytes z)) xs) k x
holds_by key bytes xs k x o h e f m =
    any_member (λ (g : Holding). same_key g.0 k && has_byte x g) (map (λ z. (key z, bytes z)) xs) (key o, bytes o) (in_map (λ z. (key z, bytes z)) xs o h) (grind (arith, nat_tests, and_from, in_any))

pub record IsHolder {X : Type 0} (key : X → Key) (bytes : X → List ℕ) (xs : List X) (k : Key) (x : ℕ) : Type 0 where
  pub holder : X
  pub is_one : In xs holder
  pub rank : (key holder).0 ≡ k.0
  pub request : (key holder).1 ≡ k.1
  pub has : In (bytes holder) x

pub holder_of : {X : Type 0} (key : X → Key) (bytes : X → List ℕ) (xs : List X) (k : Key) (x : ℕ) → Holds (map (λ z. (key z, bytes z)) xs) k x
    → IsHolder key bytes xs k x
holder_of key bytes [] k x h = no_false h
holder_of key bytes (y ∷ ys) k x h = grind (arith, nat_tests, holder_of key bytes ys k x, or_cases, eqb-true, and_first, any_in, and_second)

held_on : {X Y : Type 0} (key : X → Key) (bytes : X → List ℕ) (xs : List X) (key' : Y → Key) (bytes' : Y → List ℕ) (ys : List Y)
    → ((o : X) (x : ℕ) → In xs o → In (bytes o) x → IsHolder key' bytes' ys (key o) x)
    → (k : Key) (x : ℕ) → Holds (map (λ z. (key z, bytes z)) xs) k x → Holds (map (λ z. (key' z, bytes' z)) ys) k x
held_on key bytes xs key' bytes' ys f k x g =
    let r = holder_of key bytes xs k x g in
    let p = f r.holder x r.is_one r.has in
    holds_by key' bytes' ys k x p.holder p.is_one (p.rank ∙ r.rank) (p.request ∙ r.request) p.has

-- ---- from an entry to its put, and back

entry_of : (p : ℕ × Post) (os : List Owned) (o : Owned) → AreOf p os → In os o → (o.rank ≡ p.0) × (o.request ≡ p.1.id)
entry_of p [] o h k = absurd k
entry_of p (q ∷ os) o h xs = grind (arith, nat_tests, entry_of p os o h.2)

pub to_put : (header : Header) (source : Source) (puts : Puts) (ess : List (List Owned)) (o : Owned) (x : ℕ) → IsGathered header source puts ess
    → In (flat_map (λ os. os) ess) o → In (range_with_len o.extent.at o.extent.len) x
    → IsHolder (λ (q : ℕ × Post). (q.0, q.1.id)) (λ q. bytes_of header q.1) puts (o.rank, o.request) x
to_put header source [] ess o x h k m = grind (arith, nat_tests)
to_put header source (p ∷ puts) [] o x h k m = absurd h
to_put header source (p ∷ puts) (os ∷ ess) o x h k m = grind (arith, nat_tests, in_either os, entry_of p os o h.3, in_flat, to_put header source puts ess o x h.2)

to_entry : (header : Header) (source : Source) (puts : Puts) (ess : List (List Owned)) (p : ℕ × Post) (x : ℕ) → IsGathered header source puts ess
    → In puts p → In (bytes_of header p.1) x
    → IsHolder (λ (o : Owned). (o.rank, o.request)) (λ o. range_with_len o.extent.at o.extent.len) (flat_map (λ os. os) ess) (p.0, p.1.id) x
to_entry header source [] ess p x h k m = grind (arith, nat_tests)
to_entry header source (q ∷ puts) [] p x h k m = absurd h
to_entry header source (q ∷ puts) (os ∷ ess) p x h xs m = grind (arith, nat_tests, to_entry header source puts ess p x h.2, in_right, flat_in, entry_of, in_left)

-- ---- the pair

pub entries_pair : (header : Header) (source : Source) (puts : Puts) (ess : List (List Owned)) (list : List Owned)
    → IsGathered header source puts ess → HaveSame (flat_map (λ os. os) ess) list
    → shared_pair_of (holdings_of_entries list) ≡ shared_pair header puts
entries_pair header source puts ess list h same =
    let there = held_on _ _ list _ _ puts (λ o x m g. to_put header source puts ess o x h (same.1 o m) g) in
    let back = held_on _ _ puts _ _ list (λ p x m g. let e = to_entry header source puts ess p x h m g in
    record { holder = e.holder; is_one = same.0 e.holder e.is_one; rank = e.rank; request = e.request; has = e.has }) in
    same_pair (holdings_of_entries list) (holdings header puts) there back
