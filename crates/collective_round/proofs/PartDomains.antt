-- A disk in parts: which bytes each has, and what is said of the parts and of their states.
use Rattle.collective_round.proofs.Words.{entries_from, in_ranges, cases_lt, ◌≡◌, ℕ, zero, suc, ◌+◌, ◌-◌, ◌<◌, ◌≤◌, inl, inr, refl, sym, ◌∙◌, ap, subst, List, [], ◌∷◌, length, take, drop, map, Some, arith, length-map, same_Some, zip, AllZip, entry_map, no_none_some, Extent, Owned, LieOn, IsFrom, cell_of, ranges, In, HaveSame, Source, end_after, first_at, IsCover, spans, flat_in, in_left, in_range, in_right, range_high, in_map, map_in, IsCovered, IsDomainOf, PartState, SomeZip, begin_or, part_between, parts_of, Adjoin, AreOn, nat_tests, slice_get}
use Rattle.collective_round.proofs.DomainCuts.{within_reach}
use Rattle.collective_round.proofs.PartSplits.{end_dropped, next_begin}

-- ---- parts and domains

-- as many parts as domains
parts_many : (disk : PartState) (domains : List Extent) → length (parts_of disk domains) ≡ length domains
parts_many disk [] = refl
parts_many disk (d ∷ domains) = ap suc (parts_many disk domains)

pub as_many_parts : {D : Type 0} (state : D → PartState) (disk : PartState) (domains : List Extent) (parts : List D) → map state parts ≡ parts_of disk domains → length domains ≡ length parts
as_many_parts state disk domains parts e = sym (parts_many disk domains) ∙ sym (ap (λ (ps : List PartState). length ps) e) ∙ length-map parts state

-- the first part has all covered bytes up to the next one
first_domain : (list : List Owned) (hi m n : ℕ) (d : Extent) (rest : List Extent) → Adjoin (d ∷ rest) → end_after m (d ∷ rest) ≡ hi → hi ≤ n → ((x : ℕ) → IsCovered list x → x < hi)
    → IsDomainOf list d.at (begin_or n rest - d.at) d
first_domain list hi m n d rest line end room high =
    let next = next_begin d rest m n line (omega arith) in
    let low = next.0 in
    record { low = omega arith; high = omega arith; whole = λ x l k covered. (l, by_rest rest line.1 end x k (high x covered)) }
  where
    by_rest : (ds : List Extent) → begin_or (d.at + d.len) ds ≡ d.at + d.len → end_after m (d ∷ ds) ≡ hi → (x : ℕ) → x < d.at + (begin_or n ds - d.at) → x < hi → x < d.at + d.len
    by_rest [] e f x k l = omega arith
    by_rest (c ∷ ds) e f x k l = omega arith

part_domain : (list : List Owned) (hi m : ℕ) (disk : PartState) (domains : List Extent) → Adjoin domains → end_after m domains ≡ hi → hi ≤ disk.len → ((x : ℕ) → IsCovered list x → x < hi)
    → (k : ℕ) (p : PartState) (domain : Extent) → slice_get (parts_of disk domains) k ≡ Some p → slice_get domains k ≡ Some domain → IsDomainOf list p.from p.len domain
part_domain list hi m disk [] line end room high k p domain e f = no_none_some p e
part_domain list hi m disk (d ∷ rest) line end room high zero p domain e f =
    grind (arith, nat_tests, same_Some (part_between disk d.at (begin_or disk.len rest)) p e, same_Some d domain f, first_domain list hi m disk.len d rest line end room high)
part_domain list hi m disk (d ∷ rest) line end room high (suc k) p domain e f =
    part_domain list hi (d.at + d.len) disk rest line.2 end room high k p domain e f

-- the bytes of a part are those of the disk there
held_there : (domains : List Extent) (disk : PartState) (file : List ℕ) → disk.held ≡ Some file → (p : PartState) → In (parts_of disk domains) p → p.held ≡ Some (take p.len (drop p.from file))
held_there [] disk file told p m = absurd m
held_there (d ∷ rest) disk file told p (inl same) = grind (arith, nat_tests)
held_there (d ∷ rest) disk file told p (inr m) = held_there rest disk file told p m

pub part_bytes : {D : Type 0} (state : D → PartState) (domains : List Extent) (disk : PartState) (parts : List D) (file : List ℕ) → map state parts ≡ parts_of disk domains → disk.held ≡ Some file
    → (part : D) → In parts part → (state part).held ≡ Some (take (state part).len (drop (state part).from file))
part_bytes state domains disk parts file are told part m = grind (arith, nat_tests, in_map state parts part m, held_there)

-- each place from the first part on lies on a part
pub record IsOnSome (parts : List PartState) (x : ℕ) : Type 0 where
  pub part : PartState
  pub inside : In parts part
  pub low : part.from ≤ x
  pub high : x < part.from + part.len

place_on : (disk : PartState) (domains : List Extent) (m x : ℕ) → Adjoin domains → end_after m domains ≤ disk.len → begin_or disk.len domains ≤ x → x < disk.len → IsOnSome (parts_of disk domains) x
place_on disk [] m x line room low high = absurd (omega arith)
place_on disk (d ∷ rest) m x line room low high = elim (cases_lt x (begin_or disk.len rest)) [
  | inl l ↦ record { part = part_between disk d.at (begin_or disk.len rest); inside = inl refl; low = low; high = omega arith }
  | inr l ↦ (let h = place_on disk rest (d.at + d.len) x line.2 room l high in record { part = h.part; inside = inr h.inside; low = h.low; high = h.high })
]

-- ---- entries that lie on a disk, their cover, and the domains

cover_last : (n : ℕ) (e : Extent) (cover : List Extent) → IsCover (e ∷ cover) → (1 ≤ end_after n (e ∷ cover)) × In (spans (e ∷ cover)) (end_after n (e ∷ cover) - 1)
cover_last n e [] h = grind (arith, nat_tests, in_range e.at e.len (e.at + e.len - 1) (omega arith) (omega arith), in_left)
cover_last n e (f ∷ cover) h = grind (arith, nat_tests, cover_last (e.at + e.len) f cover h.2, in_right)

cover_room : (cover : List Extent) (list : List Owned) (len : ℕ) → IsCover cover → HaveSame (spans cover) (ranges list) → LieOn 0 len list → end_after 0 cover ≤ len
cover_room [] list len h same on = omega arith
cover_room (e ∷ cover) list len h same on = grind (arith, nat_tests, cover_last 0 e cover h, flat_in, range_high)

module _ (list : List Owned) (cover domains : List Extent) (len : ℕ) (a : AreOn list cover domains len) where
  covered_in : (x : ℕ) → IsCovered list x → In (spans cover) x
  covered_in x h = a.bytes.1 x (in_ranges list x h)

  -- they end within the disk
  ends_there : end_after 0 cover ≤ len
  ends_there = cover_room cover list len a.covers a.bytes a.on

  pub domains_room : end_after 0 domains ≤ len
  domains_room = let end = a.div.end in let room = ends_there in end_dropped zero domains (first_at cover) len (omega arith)

  -- the first domain begins at the first covered byte
  begins_first : (n x : ℕ) → In (spans cover) x → begin_or n domains ≤ x
  begins_first n x m = grind (arith, nat_tests, a.div, within_reach cover x a.covers m)

  -- the cells of entries lie from the begin of the first domain on
  pub cells_behind : (source : Source) (n : ℕ) → ((o : Owned) → In list o → 1 ≤ o.extent.len) → IsFrom (begin_or n domains) (map (λ o. cell_of source o) list)
  cells_behind source n filled =
      entries_from source list (begin_or n domains)
      (λ o m. let some = filled o m in begins_first n o.extent.at (covered_in o.extent.at (record { by = o; inside = m; low = omega arith; high = omega arith })))

  -- each domain has all covered bytes of its part
  pub domain_of_part : {D : Type 0} (state : D → PartState) (disk : PartState) (parts : List D) → disk.len ≡ len → map state parts ≡ parts_of disk domains
      → (k : ℕ) (part : D) (domain : Extent) → slice_get parts k ≡ Some part → slice_get domains k ≡ Some domain → IsDomainOf list (state part).from (state part).len domain
  domain_of_part state disk parts long are k part domain at_part at_domain =
      let room = ends_there in
      part_domain list (end_after 0 cover) (first_at cover) disk domains a.div.line a.div.end (omega arith) (λ x covered. (within_reach cover x a.covers (covered_in x covered)).1)
      k (state part) domain (subst (λ (ps : List PartState). slice_get ps k ≡ Some (state part)) are (entry_map state parts k part at_part)) at_domain

  -- each covered byte lies on a part
  pub on_some_part : {D : Type 0} (state : D → PartState) (disk : PartState) (parts : List D) → disk.len ≡ len → map state parts ≡ parts_of disk domains
      → (x : ℕ) → IsCovered list x → (part : D) × In parts part × ((state part).from ≤ x) × (x < (state part).from + (state part).len)
  on_some_part {D} state disk parts long are x covered =
      let inside = covered_in x covered in
      grind (arith, nat_tests, within_reach cover x a.covers inside, ends_there, place_on disk domains (first_at cover) x a.div.line, first_at cover, begins_first disk.len x inside, map_in state parts, a.div.end)

-- ---- what is said of parts is said of their states

pub on_states : {D : Type 0} (state : D → PartState) (R : PartState → Extent → PartState → Type 0) (parts : List D) (domains : List Extent) (news : List D)
    → AllZip (λ p new. R (state p.0) p.1 (state new)) (zip parts domains) news → AllZip (λ p new. R p.0 p.1 new) (zip (map state parts) domains) (map state news)
on_states state R [] domains [] h = tt
on_states state R (p ∷ parts) [] [] h = tt
on_states state R (p ∷ parts) (d ∷ domains) (n ∷ news) h = (h.0, on_states state R parts domains news h.1)
on_states state _ _ _ _ h = absurd h

pub some_states : {D : Type 0} (state : D → PartState) (R : PartState → PartState → Type 0) (parts news : List D) → SomeZip (λ old new. R (state old) (state new)) parts news
    → SomeZip R (map state parts) (map state news)
some_states state R (p ∷ parts) (n ∷ news) (inl r) = inl r
some_states state R (p ∷ parts) (n ∷ news) (inr h) = inr (some_states state R parts news h)
some_states state _ _ _ h = absurd h
