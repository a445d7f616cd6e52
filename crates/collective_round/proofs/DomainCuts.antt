-- The domains so far adjoin, and have the bytes of the shares so far.
use Rattle.collective_round.proofs.Words.{◌≡◌, ℕ, ◌+◌, ◌-◌, ◌/◌, ◌^◌, ◌<◌, ◌≤◌, inl, inr, refl, sym, ◌∙◌, ap, List, [], ◌∷◌, ◌++◌, length, map, true, Some, arith, length_push, leb-true, same_Some, filter, flat_map, ◌==◌, range_with_len, no_none_some, Extent, Hints, first_of, last_of, windows, collective_windows, are_lawful_hints, In, EndBelow, end_after, first_at, told_of, IsCover, spans, hull_told, spans_ascend, filter_in, ceil_covers, first_least, in_left, in_range, last_most, filter_none, windows_walked, border, low_of, share_of, bytes_in, turns_of, Told, begin_or, Adjoin, AreDomains, nat_tests, ltb-true, slice_get, common_steps}
use Rattle.collective_round.proofs.DomainSteps.{collective_is, in_range_hints, same_domains}
use Rattle.list_laws.proofs.Ranges.{range_next}

-- ---- domains that adjoin

adjoin_more : (domains : List Extent) (d : Extent) (n : ℕ) → Adjoin domains → 1 ≤ d.len → end_after n domains ≡ d.at → Adjoin (domains ++ d ∷ [])
adjoin_more [] d n h l e = (l, refl, tt)
adjoin_more (c ∷ []) d n h l e = (h.0, sym e, (l, refl, tt))
adjoin_more (c ∷ b ∷ domains) d n h l e = (h.0, h.1, adjoin_more (b ∷ domains) d (c.at + c.len) h.2 l e)

end_more : (domains : List Extent) (d : Extent) (n : ℕ) → end_after n (domains ++ d ∷ []) ≡ d.at + d.len
end_more [] d n = refl
end_more (c ∷ domains) d n = end_more domains d (c.at + c.len)

begin_more : (domains : List Extent) (d : Extent) (m n lo : ℕ) → begin_or m domains ≡ lo → d.at ≡ m → begin_or n (domains ++ d ∷ []) ≡ lo
begin_more domains d m n lo h e = grind (arith, nat_tests)

pub end_grows : (domains : List Extent) (n : ℕ) → Adjoin domains → begin_or n domains ≤ end_after n domains
end_grows [] n h = omega arith
end_grows (d ∷ domains) n h = let rest = end_grows domains (d.at + d.len) h.2 in let next = h.1 in omega arith

ends_within : (domains : List Extent) (n : ℕ) (e : Extent) → Adjoin domains → In domains e → e.at + e.len ≤ end_after n domains
ends_within [] n e h m = absurd m
ends_within (d ∷ domains) n e h (inl same) = grind (arith, nat_tests, end_grows domains (d.at + d.len) h.2)
ends_within (d ∷ domains) n e h (inr m) = ends_within domains (d.at + d.len) e h.2 m

pub ends_below : (domains : List Extent) (n hi : ℕ) → Adjoin domains → end_after n domains ≡ hi → hi < 2 ^ 62 → EndBelow (2 ^ 62) domains
ends_below domains n hi h e l d m = let end = ends_within domains n d h m in omega arith

-- ---- shares

-- the covered bytes of share a
abbrev pub share_bytes : ℕ → ℕ → ℕ → ℕ → List Extent → ℕ → List ℕ
share_bytes lo hi nodes unit cover a = filter (λ x. (x - low_of lo unit) / share_of lo hi nodes unit == a) (spans cover)

-- the windows of so many shares
abbrev so_far : ℕ → (ℕ → List ℕ) → ℕ → List Told
so_far size bytes a = map told_of (flat_map (λ i. windows size (bytes i)) (range_with_len 0 a))

windows_push : (size : ℕ) (bytes : ℕ → List ℕ) (a : ℕ) → so_far size bytes a ++ map told_of (windows size (bytes a)) ≡ so_far size bytes (a + 1)
windows_push size bytes a = grind (arith, common_steps, range_next a)

windows_more : (size : ℕ) (cover : List Extent) (bytes : ℕ → List ℕ) (a : ℕ) (domains : List Extent) (d : Extent) → flat_map (λ e. turns_of size e cover) domains ≡ so_far size bytes a
    → bytes_in d cover ≡ bytes a → flat_map (λ e. turns_of size e cover) (domains ++ d ∷ []) ≡ so_far size bytes (a + 1)
windows_more size cover bytes a domains d h e = grind (arith, common_steps, windows_push size bytes a)

windows_none : (size : ℕ) (bytes : ℕ → List ℕ) (a : ℕ) (ts : List Told) → 1 ≤ size → ts ≡ so_far size bytes a → bytes a ≡ [] → ts ≡ so_far size bytes (a + 1)
windows_none size bytes a ts s h e = grind (arith, common_steps, windows_walked size [] s tt, windows_push size bytes a)

-- an extent without a byte has no covered byte
empty_bytes : (d : Extent) (cover : List Extent) → d.len ≤ 0 → bytes_in d cover ≡ []
empty_bytes d cover h = grind (arith, nat_tests, filter_none, leb-true, filter_in, ltb-true)

-- ---- what is cut, a share after another

pub record AreCut (lo hi nodes unit size : ℕ) (cover : List Extent) (a : ℕ) (domains : List Extent) : Type 0 where
  pub line : Adjoin domains
  pub begin : begin_or (border lo hi nodes unit a) domains ≡ lo
  pub end : end_after lo domains ≡ border lo hi nodes unit a
  pub many : length domains ≤ a
  pub windows : flat_map (λ d. turns_of size d cover) domains ≡ map told_of (flat_map (λ i. windows size (share_bytes lo hi nodes unit cover i)) (range_with_len 0 a))

pub cut_more : (lo hi nodes unit size : ℕ) (cover : List Extent) (a : ℕ) (domains : List Extent) (d : Extent) → AreCut lo hi nodes unit size cover a domains
    → d.at ≡ border lo hi nodes unit a → d.at + d.len ≡ border lo hi nodes unit (a + 1) → bytes_in d cover ≡ share_bytes lo hi nodes unit cover a → 1 ≤ d.len
    → AreCut lo hi nodes unit size cover (a + 1) (domains ++ d ∷ [])
cut_more lo hi nodes unit size cover a domains d h begin end bytes some = record {
  line = adjoin_more domains d lo h.line some (h.end ∙ sym begin);
  begin = begin_more domains d (border lo hi nodes unit a) (border lo hi nodes unit (a + 1)) lo h.begin begin;
  end = end_more domains d lo ∙ end;
  many = (let long = length_push domains d in let many = h.many in omega arith);
  windows = windows_more size cover (λ i. share_bytes lo hi nodes unit cover i) a domains d h.windows bytes;
}

pub cut_none : (lo hi nodes unit size : ℕ) (cover : List Extent) (a : ℕ) (domains : List Extent) (d : Extent) → 1 ≤ size → AreCut lo hi nodes unit size cover a domains
    → d.at ≡ border lo hi nodes unit a → d.at + d.len ≡ border lo hi nodes unit (a + 1) → bytes_in d cover ≡ share_bytes lo hi nodes unit cover a → d.len ≤ 0
    → AreCut lo hi nodes unit size cover (a + 1) domains
cut_none lo hi nodes unit size cover a domains d s h begin end bytes none =
    grind (
      arith,
      common_steps,
      windows_none size (λ i. share_bytes lo hi nodes unit cover i) a (flat_map (λ e. turns_of size e cover) domains) s h.windows (sym bytes ∙ empty_bytes d cover none),
      empty_bytes d cover none,
    )

-- the last share ends at the end
pub last_border : (lo hi nodes unit : ℕ) → lo ≤ hi → 1 ≤ nodes → 1 ≤ unit → border lo hi nodes unit nodes ≡ hi
last_border lo hi nodes unit order h u = grind (arith, nat_tests, ceil_covers, border)

pub cut_domains : (lo hi nodes unit size : ℕ) (cover domains : List Extent) → lo ≤ hi → 1 ≤ nodes → 1 ≤ unit → lo ≡ first_at cover → hi ≡ end_after 0 cover
    → AreCut lo hi nodes unit size cover nodes domains → AreDomains cover domains
cut_domains lo hi nodes unit size cover domains order n u first last h = grind (arith, nat_tests, last_border lo hi nodes unit order n u)

-- ---- from the first covered byte to the last

cover_reach : (cover : List Extent) → IsCover cover → (first_at cover ≡ first_of (spans cover)) × (1 ≤ length cover → end_after 0 cover ≡ last_of (spans cover) + 1)
cover_reach [] h = (refl, λ some. absurd (omega arith))
cover_reach (c ∷ cover) h =
    grind (arith, nat_tests, hull_told c cover h, last_most (spans (c ∷ cover)) c.at, in_left (range_with_len c.at c.len) (spans cover) c.at, in_range c.at c.len c.at)

-- each covered byte lies from the first covered byte to the last
pub within_reach : (cover : List Extent) (x : ℕ) → IsCover cover → In (spans cover) x → (first_at cover ≤ x) × (x < end_after 0 cover)
within_reach cover x h m = grind (arith, nat_tests, cover_reach, first_least, spans_ascend, last_most)

last_ends : (n : ℕ) (e : Extent) (cover : List Extent) (last : Extent) → slice_get (e ∷ cover) (length cover) ≡ Some last → end_after n (e ∷ cover) ≡ last.at + last.len
last_ends n e [] last g = ap (λ (z : Extent). z.at + z.len) (same_Some e last g)
last_ends n e (f ∷ cover) last g = last_ends (e.at + e.len) f cover last g

pub reach_is : (cover : List Extent) (first last : Extent) → IsCover cover → slice_get cover 0 ≡ Some first → slice_get cover (length cover - 1) ≡ Some last
    → (first.at ≡ first_at cover) × (last.at + last.len ≡ end_after 0 cover) × (first_at cover ≤ end_after 0 cover)
reach_is [] first last h e f = no_none_some first e
reach_is (c ∷ cover) first last h e f =
    grind (arith, nat_tests, within_reach (c ∷ cover) c.at h, in_left (range_with_len c.at c.len) (spans cover) c.at, in_range c.at c.len c.at, last_ends 0 c cover last)

-- ---- the windows

pub cut_windows : (hints : Hints) (lo hi : ℕ) (cover domains : List Extent) → are_lawful_hints hints ≡ true → IsCover cover → lo ≡ first_at cover → hi ≡ end_after 0 cover
    → AreCut lo hi hints.cb_nodes hints.striping_unit hints.cb_buffer cover hints.cb_nodes domains
    → flat_map (λ d. turns_of hints.cb_buffer d cover) domains ≡ map told_of (collective_windows hints (spans cover))
cut_windows hints lo hi cover domains lawful h first last cut =
    let range = in_range_hints hints lawful in
    grind (arith, nat_tests, cover_reach cover h, same_domains cover hints.cb_buffer hints.cb_nodes hints.striping_unit lo hi (first ∙ (cover_reach cover h).0), collective_is hints (spans cover) range.buffer.0, cut.windows)
