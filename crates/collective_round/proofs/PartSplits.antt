-- A disk that is split from the last domain on, and taken back.
use Rattle.collective_round.proofs.Words.{◌≡◌, ℕ, zero, suc, ◌+◌, ◌-◌, ◌^◌, ◌<◌, ◌≤◌, ◌∙◌, ap, subst, List, [], ◌∷◌, ◌++◌, length, take, drop, get_or, map, Err, arith, drop-take, drop_more, reverse-append, take-append-drop, take-take, reverse, IsErrOf, Extent, both_faults, after, joined, end_after, PartState, begin_or, part_between, with_part, with_parts, Adjoin, Follow, IsFront, nat_tests, common_steps}
use Rattle.collective_round.proofs.DomainCuts.{end_grows}
use Rattle.collective_round.proofs.PutLaws.{held_two}

-- ---- the begin of what comes next

-- what comes behind a domain begins where it ends or later, and within the disk
pub next_begin : (d : Extent) (rest : List Extent) (m n : ℕ) → Adjoin (d ∷ rest) → end_after m (d ∷ rest) ≤ n → (d.at + d.len ≤ begin_or n rest) × (begin_or n rest ≤ n)
next_begin d rest m n h l = grind (arith, nat_tests, end_grows)

pub end_dropped : (k : ℕ) (domains : List Extent) (m n : ℕ) → end_after m domains ≤ n → end_after 0 (drop k domains) ≤ n
end_dropped zero [] m n l = omega arith
end_dropped zero (d ∷ domains) m n l = l
end_dropped (suc k) [] m n l = omega arith
end_dropped (suc k) (d ∷ domains) m n l = end_dropped k domains (d.at + d.len) n l

pub adjoin_dropped : (k : ℕ) (domains : List Extent) → Adjoin domains → Adjoin (drop k domains)
adjoin_dropped zero domains h = h
adjoin_dropped (suc k) [] h = h
adjoin_dropped (suc k) (d ∷ domains) h = adjoin_dropped k domains h.2

-- ---- bytes

cut_between : (a b : ℕ) (file : List ℕ) → a ≤ b → drop a (take b file) ≡ take (b - a) (drop a file)
cut_between a b file l = let whole : b ≡ a + (b - a) = omega arith in ap (λ (n : ℕ). drop a (take n file)) whole ∙ drop-take a (b - a) file

pub take_both : (a b : ℕ) (file : List ℕ) → a ≤ b → take a file ++ take (b - a) (drop a file) ≡ take b file
take_both a b file l = grind (arith, nat_tests, cut_between a b file l, take-take a b file l, take-append-drop a (take b file))

-- ---- one domain more is split off

pub front_more : (disk mid new : PartState) (d : Extent) (rest : List Extent) → disk.from ≡ 0 → Adjoin (d ∷ rest) → end_after 0 (d ∷ rest) ≤ disk.len → IsFront rest disk mid
    → new.from ≡ mid.from → new.len ≡ d.at - mid.from → new.held ≡ after (take (d.at - mid.from)) mid.held → new.calls ≡ mid.calls → IsFront (d ∷ rest) disk new
front_more disk mid new d rest whole line room f from len held calls =
    grind (
      arith,
      common_steps,
      next_begin d rest 0 disk.len line room,
      held_two disk.held mid.held new.held (take (begin_or disk.len rest)) (take (d.at - mid.from)) (take d.at) f.held held,
    )

pub part_split : (disk mid part : PartState) (d : Extent) (rest : List Extent) → disk.from ≡ 0 → Adjoin (d ∷ rest) → end_after 0 (d ∷ rest) ≤ disk.len → IsFront rest disk mid
    → part.from ≡ d.at → part.len ≡ mid.from + mid.len - d.at → part.held ≡ after (drop (d.at - mid.from)) mid.held → part.calls ≡ after (λ _. []) mid.calls → part.faults ≡ 0
    → part ≡ part_between disk d.at (begin_or disk.len rest)
part_split disk mid part d rest whole line room f from len held calls faults =
    grind (arith, nat_tests, next_begin, held_two, cut_between, part_between, begin_or, take, drop, after)

-- the parts so far, the last one first
pub turned_more : {D : Type 0} (state : D → PartState) (parts now : List D) (part : D) (p : PartState) (ps : List PartState) → now ≡ parts ++ part ∷ [] → state part ≡ p
    → map state (reverse parts) ≡ ps → map state (reverse now) ≡ p ∷ ps
turned_more {D} state parts now part p ps e same h = grind (arith, nat_tests, reverse-append parts (part ∷ []))

-- the last of the domains that are left, and those behind it
pub record IsLast (domains : List Extent) (k n : ℕ) (d : Extent) (rest : List Extent) : Type 0 where
  pub same : drop (k - 1) domains ≡ d ∷ rest
  pub line : Adjoin (d ∷ rest)
  pub room : end_after 0 (d ∷ rest) ≤ n

pub last_left : (domains : List Extent) (k n : ℕ) (none : Extent) → Adjoin domains → end_after 0 domains ≤ n → 0 < k → k ≤ length domains
    → IsLast domains k n (get_or domains (k - 1) none) (drop k domains)
last_left domains k n none line room some within =
    grind (arith, nat_tests, drop_more domains (k - 1) none (omega arith), adjoin_dropped (k - 1) domains line, end_dropped (k - 1) domains 0 n room)

-- it begins within what is left of the disk
pub begins_there : (disk mid : PartState) (domains : List Extent) (k : ℕ) (d : Extent) (rest : List Extent) → disk.from ≡ 0 → IsLast domains k disk.len d rest → IsFront rest disk mid
    → (mid.from ≤ d.at) × (d.at ≤ mid.from + mid.len)
begins_there disk mid domains k d rest whole h f = grind (arith, nat_tests, next_begin d rest 0 disk.len h.line h.room)

-- ---- taken back

-- a disk with a part behind it
pub joined_one : (disk part new : PartState) → new.from ≡ disk.from → new.len ≡ disk.len + part.len → new.held ≡ joined disk.held part.held → new.calls ≡ joined disk.calls part.calls
    → new.faults ≡ both_faults disk.faults part.faults → new ≡ with_part disk part
joined_one disk part new from len held calls faults = λ i. record { from = from i; len = len i; held = held i; calls = calls i; faults = faults i }

pub joined_next : {D : Type 0} (state : D → PartState) (disk new : PartState) (part : D) (rest left : List D) (whole : PartState) → left ≡ part ∷ rest → new ≡ with_part disk (state part)
    → with_parts disk (map state left) ≡ whole → with_parts new (map state rest) ≡ whole
joined_next {D} state disk new part rest left whole e one h = grind (arith, nat_tests)

-- what is left follows the part that was taken back
pub follow_first : {D : Type 0} (state : D → PartState) (at : ℕ) (part : D) (rest left : List D) → left ≡ part ∷ rest → Follow at (map state left)
    → ((state part).from ≡ at) × Follow (at + (state part).len) (map state rest)
follow_first {D} state at part rest left e h = subst (λ (ds : List D). Follow at (map state ds)) e h

pub follow_at : (m n : ℕ) (parts : List PartState) → m ≡ n → Follow m parts → Follow n parts
follow_at m n parts e h = subst (λ (k : ℕ). Follow k parts) e h

-- ---- the count of faults

pub joined_at_least : (k : ℕ) (disk : PartState) (parts : List PartState) → k < 2 ^ 64 → k ≤ disk.faults → k ≤ (with_parts disk parts).faults
joined_at_least k disk [] l h = h
joined_at_least k disk (p ∷ parts) l h = joined_at_least k (with_part disk p) parts l (omega arith)

-- a fault that is handed on
pub same_fault : {T U E : Type 0} (e x : E) → IsErrOf {T = T} (Err e) x → IsErrOf {T = U} (Err e) x
same_fault {T} {U} {E} e x h = let same : e ≡ x = cc in ap (λ (y : E). Err y) same
