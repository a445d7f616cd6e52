-- Puts of which no two requests share a byte, and no request holds one twice, say one thing of each place.
use Rattle.overlay_laws.proofs.Words.{◌≡◌, ℕ, refl, List, ◌&&◌, Some, None, slice_get-map, same_Some, zip, slice_get, ◌==◌, and_from, equal_true, some_of_map, Header, Post, Puts, Holding, bytes_of, holdings, same_key, has_byte, Holds, shared_pair, said_by_puts, IsOwnOnce, key_itself, pair_none, Says, IsOneValued, HaveOwnKeys, IsOnce, arith, nat_tests, any_member, at_in, in_at}
use Rattle.overlay_laws.proofs.EntryLaws.{one_says_it}
use Rattle.overlay_laws.proofs.Members.{zip_in, says_in}

holds_at : (held : List Holding) (i k x : ℕ) (h : Holding) → slice_get held i ≡ Some h → slice_get h.1 k ≡ Some x → Holds held h.0 x
holds_at held i k x h e f =
    any_member (λ (g : Holding). same_key g.0 h.0 && has_byte x g) held h (at_in held i h e)
    (and_from _ _ (key_itself h.0) (any_member (λ y. y == x) h.1 x (at_in h.1 k x f) (equal_true x x refl)))

pub zip_at : (xs b : List ℕ) (x v : ℕ) → Says (zip xs b) x v → (k : ℕ) × (slice_get xs k ≡ Some x) × (slice_get b k ≡ Some v)
zip_at xs b x v h = zip_in xs b (x, v) ((says_in (zip xs b) x v).0 h)

-- where a byte stands: the number of the put, the put, and its place in it
said_where : (header : Header) (puts : Puts) (x v : ℕ) → Says (said_by_puts header puts) x v
    → (i : ℕ) × (p : ℕ × Post) × (k : ℕ) × (slice_get puts i ≡ Some p) × (slice_get (bytes_of header p.1) k ≡ Some x) × (slice_get p.1.bytes k ≡ Some v)
said_where header puts x v h =
    let p = one_says_it (λ q. zip (bytes_of header q.1) q.1.bytes) puts x v h in
    let i = in_at puts p.0 p.1 in
    let k = zip_at (bytes_of header p.0.1) p.0.1.bytes x v p.2 in
    (i.0, p.0, k.0, i.1, k.1, k.2)

held_at : (header : Header) (puts : Puts) (i : ℕ) (p : ℕ × Post) → slice_get puts i ≡ Some p → slice_get (holdings header puts) i ≡ Some ((p.0, p.1.id), bytes_of header p.1)
held_at header puts i p e = grind (arith, nat_tests, slice_get-map)

pub no_pair_once : (header : Header) (puts : Puts) → shared_pair header puts ≡ None → IsOwnOnce (holdings header puts)
    → IsOneValued (said_by_puts header puts)
no_pair_once header puts none own x v w hv hw =
    let a = said_where header puts x v hv in
    let b = said_where header puts x w hw in
    let ha = held_at header puts a.0 a.1 a.3 in
    let hb = held_at header puts b.0 b.1 b.3 in
    let keys = pair_none (holdings header puts) none x _ _ (holds_at (holdings header puts) a.0 a.2 x _ ha a.4) (holds_at (holdings header puts) b.0 b.2 x _ hb b.4) in
    let same = own a.0 b.0 _ _ a.2 b.2 x ha hb keys a.4 b.4 in
    grind (arith, nat_tests, a.3, b.3, a.5, b.5, same.0, same.1, same_Some)

-- ---- no request holds a byte twice

-- it is so where no two posts are of one request, and no post holds a byte twice
pub own_once : (header : Header) (puts : Puts) → HaveOwnKeys puts → ((i : ℕ) (p : ℕ × Post) → slice_get puts i ≡ Some p → IsOnce (bytes_of header p.1))
    → IsOwnOnce (holdings header puts)
own_once header puts keys once i j g h k l x e f key a b = grind (arith, nat_tests, some_of_map, slice_get-map, same_Some)
