-- What the posts of an offer are to a step, and what the puts of a step need.
use Rattle.turn_run.proofs.Words.{◌≡◌, ℕ, zero, suc, ◌+◌, ◌-◌, ◌*◌, ◌≤◌, refl, sym, ◌∙◌, subst, List, [], ◌∷◌, length, map, max, Bool, true, false, cond, not, ◌||◌, Option, Some, None, inl, inr, arith, nat_tests, slice_get, slice_index, ◌==◌, length-map, Header, Var, Post, Put, Get, Offer, In, needed_now, Setting, end_for, puts_of, told, header_len, is_sound, end_of, greatest, lengths, product, starts_with_zero, needed, records_of_some, bound, check_some, some_edge, accepted, end_grows, pair_of, IsPut, ArePuts, AreGets, PutEnd, Done, Overlap, IsCount, IsRise, needed_after, equal_suc, equal_zero, or_first_false, map_map}
use Rattle.nc_base.specs.declared.answer.Code.TheVariants as code
use Rattle.rank_core.specs.Offered as offered
use Rattle.overlay_laws.proofs.Common.{map_in}
use Rattle.turn_run.proofs.CountLaws.{count_longer, count_max, put_count, rise_max}

-- ---- a get that is accepted asks for no record past those that are known

some_need : (t : Bool) (m k : ℕ) → (t ≡ false → m ≤ k) → cond t 0 m ≤ k
some_need t m k h = grind (arith, nat_tests)

record_within : (known : ℕ) (ls starts counts strides : List ℕ) → length starts ≡ length ls → length counts ≡ length ls → length strides ≡ length ls
    → some_edge (map (bound Get known) ls) starts counts strides ≡ false
    → cond (not (starts_with_zero ls) || product counts == 0) 0 (slice_index starts 0 + (slice_index counts 0 - 1) * slice_index strides 0 + 1) ≤ known
record_within known [] starts counts strides a b d e = omega arith
record_within known (suc m ∷ ls) starts counts strides a b d e = grind (arith, nat_tests, equal_suc)
record_within known (zero ∷ ls) (s ∷ starts) (n ∷ counts) (t ∷ strides) a b d e = grind (arith, nat_tests, or_first_false, some_need, equal_zero)
record_within known (zero ∷ ls) starts counts strides a b d e = absurd (omega arith)

get_needed : (header : Header) (post : Post) (known : ℕ) → offered.IsGet header known post → needed header post ≤ known
get_needed header post known h = by_var (slice_get header.vars post.var) h
  where
    by_var : (o : Option Var) → check_some header o post.region known Get ≡ code.Ok → records_of_some header o post.region ≤ known
    by_var None e = absurd cc
    by_var (Some v) e =
        let a = accepted header v post.region known Get e in
        let long : length (lengths header v) ≡ length v.dims = length-map v.dims _ in
        record_within known (lengths header v) post.region.start post.region.count post.region.stride (a.starts ∙ sym long) (a.counts ∙ sym long) (a.strides ∙ sym long) a.edges

-- ---- the posts of an offer

pub put_of : (header : Header) (o : Offer) → offered.IsSoundOffer header o → (p : Post) → In o.batch.puts p → IsPut header p
put_of header o h p i = let q = h.puts p i in record { accepted = (o.known, Put, q.accepted); whole = q.whole }

pub get_of : (header : Header) (len : ℕ) (o : Offer) → offered.IsSoundOffer header o → IsCount header len o.known → AreGets header len o.batch.gets
get_of header len o h k p i =
    let q = h.gets p i in grind (arith, nat_tests, end_grows header (header_len header) (needed header p) o.known (get_needed header p o.known q), get_needed header p o.known q, accepted)

pub ranked_puts : (header : Header) (r : ℕ) (posts : List Post) → ((p : Post) → In posts p → IsPut header p) → ArePuts header (map (λ p. (r, p)) posts)
ranked_puts header r posts h p i = grind (arith, nat_tests, map_in (λ (x : Post). (r, x)) posts p i, h)

-- ---- what the puts of a rank need

-- the greatest that puts need, where the file has as many bytes as that takes
pub needed_rise : {A : Type 0} (header : Header) (len : ℕ) (f : A → Post) (xs : List A) → is_sound header ≡ true → ((x : A) → In xs x → IsPut header (f x))
    → end_of header (header_len header) (greatest (map (λ x. needed header (f x)) xs)) ≤ len → IsRise header len (greatest (map (λ x. needed header (f x)) xs))
needed_rise header len f [] h puts l = inl refl
needed_rise header len f (x ∷ xs) h puts l =
    let own = needed header (f x) in let others = greatest (map (λ y. needed header (f y)) xs) in
    let first = end_grows header (header_len header) own (max own others) (omega arith) in
    let rest = end_grows header (header_len header) others (max own others) (omega arith) in
    rise_max header len own others (inr (put_count header len (f x) h (puts x (inl refl)) (omega arith))) (needed_rise header len f xs h (λ y i. puts y (inr i)) (omega arith))

pub needed_solo : (s : Setting) (r : ℕ) (posts : List Post) (end : PutEnd) → pair_of end ≡ told s (map (λ p. (r, p)) posts)
    → needed_after s.header posts end ≡ needed_now s (map (λ p. (r, p)) posts)
needed_solo s r posts end e = grind (arith, nat_tests, map_map)

needed_risen : (header : Header) (len : ℕ) (posts : List Post) (end : PutEnd) → is_sound header ≡ true → ((p : Post) → In posts p → IsPut header p)
    → end_of header (header_len header) (needed_after header posts end) ≤ len → IsRise header len (needed_after header posts end)
needed_risen header len posts Done h puts l = needed_rise header len (λ (p : Post). p) posts h puts l
needed_risen header len posts (Overlap pair) h puts l = inl refl

-- what the rank knows after its puts
pub solo_count : (s : Setting) (r before mid len n : ℕ) (o : Offer) (end : PutEnd) → is_sound s.header ≡ true → offered.IsSoundOffer s.header o → IsCount s.header before o.known
    → before ≤ mid → len ≡ mid → pair_of end ≡ told s (puts_of (r, o)) → end_for s (needed_now s (puts_of (r, o))) ≤ mid
    → n ≡ max o.known (needed_after s.header o.batch.puts end) → IsCount s.header len n
solo_count s r before mid len n o end h sound k l same e long is =
    let f = needed_solo s r o.batch.puts end e in
    let room : end_for s (needed_after s.header o.batch.puts end) ≤ len = subst (λ (m : ℕ). end_for s m ≤ len) (sym f) (omega arith) in
    grind (arith, nat_tests, count_max s.header len o.known (needed_after s.header o.batch.puts end), count_longer s.header before len o.known, needed_risen s.header len o.batch.puts end h (put_of s.header o sound) room, put_of s.header o sound, needed_after)
