-- The offers of a meeting, one after another.
use Rattle.reference.proofs.Words.{less_max, ◌≡◌, ℕ, ◌+◌, ◌<◌, inl, inr, refl, List, [], ◌∷◌, map, max, cond, Option, Some, None, arith, flat_map, nat_lt, slice_get, enumerate_from, Pair, Header, Var, Post, Offer, Reply, In, map_in, after_puts, known_by, meeting, needs, puts_of, told, Setting, greatest, record_limit, needed, needed_by, records_of_some, with_records, check_some, Puts, IsAccepted, passed, records_below, reply_to, IsPut, IsRight, some_limit, known_less, in_either, nat_tests}
use Rattle.nc_base.specs.declared.answer.Code.TheVariants as code
use Rattle.reference.proofs.GatherLaws.{greatest_has}

-- ---- the count that ranks know

pub known_low : (offers : List Offer) (n : ℕ) → 0 < n → ((o : Offer) → In offers o → o.known < n) → greatest (map (λ o. known_by o.kind o.known) offers) < n
known_low offers n some all =
    greatest_has (λ m. m < n) (λ o. known_by o.kind o.known) offers some (λ a b. less_max a b n)
    (λ o m. let own = known_less o.kind o.known in let low = all o m in omega (arith, own, low))

one_low : (header : Header) (post : Post) → IsAccepted header post.var post.region → needed header post < record_limit header.version
one_low header post a = by_var (slice_get header.vars post.var) refl a.2
  where
    by_var : (o : Option Var) → slice_get header.vars post.var ≡ o → check_some header o post.region a.0 a.1 ≡ code.Ok → records_of_some header o post.region < record_limit header.version
    by_var None e h = absurd cc
    by_var (Some v) e h = records_below header v post.region (passed header v post.region a.0 a.1 h).large

puts_low : (header : Header) (puts : Puts) → ((p : ℕ × Post) → In puts p → IsPut header p.1) → needed_by header puts < record_limit header.version
puts_low header puts all =
    greatest_has (λ n. n < record_limit header.version) (λ p. needed header p.1) puts (some_limit header.version) (λ a b. less_max a b (record_limit header.version))
    (λ p m. one_low header p.1 (all p m).accepted)

pub needs_low : (s : Setting) (puts : Puts) (pair : Option Pair) → ((p : ℕ × Post) → In puts p → IsPut s.header p.1) → needs s puts pair < record_limit s.header.version
needs_low s puts pair all = grind (arith, nat_tests, some_limit, puts_low)

-- ---- the puts

pub own_right : (header : Header) (rank : ℕ) (o : Offer) (p : ℕ × Post) → IsRight header o → In (puts_of (rank, o)) p → IsPut header p.1
own_right header rank o p right m = grind (arith, nat_tests, map_in)

pub puts_right : (header : Header) (n : ℕ) (offers : List Offer) (p : ℕ × Post) → ((o : Offer) → In offers o → IsRight header o)
    → In (flat_map puts_of (enumerate_from n offers)) p → IsPut header p.1
puts_right header n [] p right m = absurd m
puts_right header n (o ∷ offers) p right m = elim (in_either (puts_of (n, o)) (flat_map puts_of (enumerate_from (n + 1) offers)) p m) [
  | inl h ↦ own_right header n o p (right o (inl refl)) h
  | inr h ↦ puts_right header (n + 1) offers p (λ q k. right q (inr k)) h
]

-- ---- file and count

pub record Done (s : Setting) (offers : List Offer) (old mid : List ℕ) (n k : ℕ) (puts : Puts) (pair : Option Pair) : Type 0 where
  pub puts_are : puts ≡ flat_map puts_of (enumerate_from 0 offers)
  pub pair_is : pair ≡ told s puts
  pub file : mid ≡ after_puts s puts pair old
  pub needs : n ≡ needs s puts pair
  pub known : k ≡ greatest (map (λ o. known_by o.kind o.known) offers)

pub meeting_is : (s : Setting) (offers : List Offer) (old mid file : List ℕ) (r records n k m : ℕ) (puts : Puts) (pair : Option Pair) (all : List Reply)
    → Done s offers old mid n k puts pair → m ≡ max n k → file ≡ cond (nat_lt r m) (with_records s.header.version mid m) mid → records ≡ max r m
    → all ≡ map (reply_to s pair records file) offers
    → (file ≡ (meeting s offers (record { file = old; records = r })).0.file) × (records ≡ (meeting s offers (record { file = old; records = r })).0.records)
    × (all ≡ (meeting s offers (record { file = old; records = r })).1)
meeting_is s offers old mid file r records n k m puts pair all d top e g h =
    let next = meeting s offers (record { file = old; records = r }) in
    let f : file ≡ next.0.file = grind (arith, nat_tests) in
    let c : records ≡ next.0.records = grind (arith, nat_tests) in
    grind (arith, nat_tests, told s)
