-- Parts that are one disk again: what holds of each part holds of the whole.
use Rattle.collective_round.proofs.Words.{◌≡◌, ℕ, ◌+◌, ◌-◌, ◌^◌, ◌<◌, ◌≤◌, min, inl, inr, refl, sym, ◌∙◌, ap, subst, List, [], ◌∷◌, ◌++◌, length, take, drop, map, Option, Some, None, Result, Ok, Err, IsErrOf, append_assoc, arith, append-nil, length-take, flat_map-append, flat_map, zip, zip_weaker, IfSome, OnOk, AllZip, Extent, DiskCall, StepErr, Disk, HasDiskCause, Rose, after, joined, with_end, with_end-nil, BothTold, at, same_file, end_after, PartState, SomeZip, begin_or, parts_of, with_part, with_parts, Adjoin, AreSplit, Follow, IsSplit, nat_tests, common_steps}
use Rattle.collective_round.proofs.PartSplits.{adjoin_dropped, end_dropped, joined_at_least, next_begin, take_both}
use Rattle.collective_round.proofs.PartDomains.{as_many_parts, on_states, some_states}

-- ---- bytes

-- each byte stands for an old one, of which the place counts from a base on
pub record AreBytes (S : ℕ → ℕ → ℕ → Type 0) (base : ℕ) (old left : List ℕ) : Type 0 where
  pub len : length left ≡ length old
  pub each : (y x : ℕ) → x ≡ base + y → y < length old → S x (at old y) (at left y)

bytes_joined : (S : ℕ → ℕ → ℕ → Type 0) (a x b y : List ℕ) (n : ℕ) → length a ≡ n → AreBytes S 0 a x → AreBytes S n b y → AreBytes S 0 (a ++ b) (x ++ y)
bytes_joined S a x b y n e h k = grind (arith, common_steps, at (a ++ b), at (x ++ y))

-- the same of what a disk may tell: its front is unchanged
told_front : (S : ℕ → ℕ → ℕ → Type 0) (n : ℕ) (held now : Option (List ℕ)) → ((x v : ℕ) → x < n → S x v v) → now ≡ after (take n) held
    → BothTold (λ file left. AreBytes S 0 (take n file) left) held now
told_front S n None now still e = e
told_front S n (Some file) now still e = (take n file, e, record { len = refl; each = λ y x same l. still x (at (take n file) y) (omega (arith, length-take n file)) })

-- one part more
told_more : (S : ℕ → ℕ → ℕ → Type 0) (from to n : ℕ) (held front part : Option (List ℕ)) → from ≤ to → to ≤ n → IfSome held (λ file. length file ≡ n)
    → BothTold (λ file left. AreBytes S 0 (take from file) left) held front → BothTold (AreBytes S from) (after (λ file. take (to - from) (drop from file)) held) part
    → BothTold (λ file left. AreBytes S 0 (take to file) left) held (joined front part)
told_more S from to n None front part order within long h k = ap (λ (o : Option (List ℕ)). joined o part) h
told_more S from to n (Some file) front part order within long h k =
    grind (arith, common_steps, take_both from to file order, bytes_joined S (take from file) h.0 (take (to - from) (drop from file)) k.0 from)

told_all : (S : ℕ → ℕ → ℕ → Type 0) (n : ℕ) (held now : Option (List ℕ)) → IfSome held (λ file. length file ≡ n)
    → BothTold (λ file left. AreBytes S 0 (take n file) left) held now → BothTold (AreBytes S 0) held now
told_all S n None now long h = h
told_all S n (Some file) now long h = grind (arith, common_steps)

-- bytes that are the old ones
abbrev pub IsOld : ℕ → ℕ → ℕ → Type 0
IsOld x old new = new ≡ old

pub told_kept : (base : ℕ) (held now : Option (List ℕ)) → now ≡ held → BothTold (AreBytes IsOld base) held now
told_kept base held now e = grind (arith, nat_tests)

pub kept_told : (held now : Option (List ℕ)) → BothTold (AreBytes IsOld 0) held now → now ≡ held
kept_told None now h = h
kept_told (Some file) now h = grind (arith, common_steps, same_file h.0 file h.2.len)

-- ---- the parts of a disk, one after another

pub record IsInPlace (old new : PartState) : Type 0 where
  pub from : new.from ≡ old.from
  pub len : new.len ≡ old.len

-- of each part, with its domain and with what it became
abbrev OfEach : PartState → List Extent → (Extent → PartState → PartState → Type 0) → List PartState → Type 0
OfEach disk domains R news = AllZip (λ p new. R p.1 p.0 new) (zip (parts_of disk domains) domains) news

abbrev InPlace : Extent → PartState → PartState → Type 0
InPlace d old new = IsInPlace old new

from_kept : (front : PartState) (news : List PartState) → (with_parts front news).from ≡ front.from
from_kept front [] = refl
from_kept front (n ∷ news) = from_kept (with_part front n) news

pub flat_flat : {A B C : Type 0} (g : B → List C) (f : A → List B) (xs : List A) → flat_map g (flat_map f xs) ≡ flat_map (λ x. flat_map g (f x)) xs
flat_flat g f [] = refl
flat_flat g f (x ∷ xs) = flat_map-append g (f x) (flat_map f xs) ∙ ap (λ r. flat_map g (f x) ++ r) (flat_flat g f xs)

joined_calls : (told : Option (List DiskCall)) (done more : List DiskCall) → joined (with_end told done) (with_end (after (λ _. []) told) more) ≡ with_end told (done ++ more)
joined_calls None done more = refl
joined_calls (Some calls) done more = ap Some (append_assoc calls done more)

module _ (disk : PartState) where
  follow_from : (domains : List Extent) (news : List PartState) (m : ℕ) → Adjoin domains → end_after m domains ≤ disk.len → OfEach disk domains InPlace news
      → Follow (begin_or disk.len domains) news
  follow_from [] [] m line room h = tt
  follow_from (d ∷ rest) (n ∷ news) m line room h = grind (arith, nat_tests, follow_from rest news (d.at + d.len) line.2 room h.1, next_begin d rest m disk.len line room)
  follow_from _ _ m line room h = absurd h

  len_from : (front : PartState) (domains : List Extent) (news : List PartState) (m : ℕ) → front.len ≡ begin_or disk.len domains → Adjoin domains → end_after m domains ≤ disk.len
      → OfEach disk domains InPlace news → (with_parts front news).len ≡ disk.len
  len_from front [] [] m e line room h = e
  len_from front (d ∷ rest) (n ∷ news) m e line room h = grind (arith, nat_tests, next_begin, len_from (with_part front n) rest news (d.at + d.len), with_parts)
  len_from front _ _ m e line room h = absurd h

  calls_from : (front : PartState) (calls : Extent → List DiskCall) (domains : List Extent) (news : List PartState) (done : List DiskCall) → front.calls ≡ with_end disk.calls done
      → OfEach disk domains (λ d p new. new.calls ≡ with_end p.calls (calls d)) news → (with_parts front news).calls ≡ with_end disk.calls (done ++ flat_map calls domains)
  calls_from front calls [] [] done e h = e ∙ ap (λ (c : List DiskCall). with_end disk.calls c) (sym (append-nil done))
  calls_from front calls (d ∷ rest) (n ∷ news) done e h =
      calls_from (with_part front n) calls rest news (done ++ calls d) ((λ i. joined (e i) (h.0 i)) ∙ joined_calls disk.calls done (calls d)) h.1
      ∙ ap (λ (c : List DiskCall). with_end disk.calls c) (append_assoc done (calls d) (flat_map calls rest))
  calls_from front calls _ _ done e h = absurd h

  told_from : (S : ℕ → ℕ → ℕ → Type 0) (front : PartState) (domains : List Extent) (news : List PartState) (m : ℕ) → Adjoin domains → end_after m domains ≤ disk.len
      → IfSome disk.held (λ file. length file ≡ disk.len) → BothTold (λ file left. AreBytes S 0 (take (begin_or disk.len domains) file) left) disk.held front.held
      → OfEach disk domains (λ d p new. BothTold (AreBytes S p.from) p.held new.held) news → BothTold (AreBytes S 0) disk.held (with_parts front news).held
  told_from S front [] [] m line room long h k = told_all S disk.len disk.held front.held long h
  told_from S front (d ∷ rest) (n ∷ news) m line room long h k =
      let next = next_begin d rest m disk.len line room in
      grind (arith, nat_tests, told_from S (with_part front n) rest news (d.at + d.len) line.2 room long, told_more S d.at (begin_or disk.len rest) disk.len disk.held front.held n.held, next.0, next.1, k.0, k.1)
  told_from S front _ _ m line room long h k = absurd k

  rose_from : (before : ℕ) (front : PartState) (domains : List Extent) (news : List PartState) → min before (2 ^ 64 - 1) ≤ front.faults
      → SomeZip (λ old new. Rose old.faults new.faults) (parts_of disk domains) news → Rose before (with_parts front news).faults
  rose_from before front (d ∷ rest) (n ∷ news) l (inl r) = joined_at_least (min (before + 1) (2 ^ 64 - 1)) (with_part front n) news (omega arith) (omega arith)
  rose_from before front (d ∷ rest) (n ∷ news) l (inr h) = rose_from before (with_part front n) rest news (omega arith) h
  rose_from before front _ _ l h = absurd h

-- ---- an operation on each part is one on the disk

-- what was split off so far, of which the domains are the last ones
pub split_from : {D T E : Type 0} (state : D → PartState) (disk front : PartState) (domains : List Extent) (parts : List D) (states : List PartState) (end : Result T E) → disk.from ≡ 0 → Adjoin domains
    → end_after 0 domains ≤ disk.len → (s : IsSplit domains disk front states end) → map state parts ≡ states → AreSplit state disk front (drop s.at domains) parts
split_from state disk front domains parts states end begin line room s are =
    grind (arith, common_steps, adjoin_dropped s.at domains line, end_dropped s.at domains 0 disk.len room)

-- the parts fail only where a count rose
pub all_cause : {D T : Type 0} (state : D → PartState) (disk front new : PartState) (domains : List Extent) (parts news : List D) (end : Result T StepErr) → AreSplit state disk front domains parts
    → disk.faults < 2 ^ 64 → disk.faults ≤ front.faults → (IsErrOf end Disk → SomeZip (λ old new. Rose (state old).faults (state new).faults) parts news) → new ≡ with_parts front (map state news)
    → HasDiskCause disk.faults new.faults end
all_cause state disk front new domains parts news end s counted later failed back =
    grind (arith, nat_tests, joined_at_least disk.faults front (map state news) counted later, rose_from disk disk.faults front domains (map state news), some_states state)

module _ {D : Type 0} (state : D → PartState) (disk front : PartState) (domains : List Extent) (parts : List D) (s : AreSplit state disk front domains parts)
    (Q : Extent → PartState → PartState → Type 0) (news : List D) (did : AllZip (λ p new. Q p.1 (state p.0) (state new)) (zip parts domains) news) where
  of_each : (R : Extent → PartState → PartState → Type 0) → ((d : Extent) (p new : PartState) → Q d p new → R d p new) → OfEach disk domains R (map state news)
  of_each R f =
      subst (λ (ps : List PartState). AllZip (λ p new. R p.1 p.0 new) (zip ps domains) (map state news)) s.parts_are
      (grind (arith, common_steps, on_states state (λ p d new. R d p new) parts domains news, zip_weaker (λ p new. Q p.1 (state p.0) (state new)) (λ p new. R p.1 (state p.0) (state new)) (zip parts domains) news (λ p new q. f p.1 (state p.0) (state new) q) did))

  -- the parts follow the front, as taking them back requires
  pub all_follow : ((d : Extent) (p new : PartState) → Q d p new → IsInPlace p new) → Follow (front.from + front.len) (map state news)
  all_follow place = grind (arith, nat_tests, follow_from disk domains (map state news) 0 s.line s.room (of_each InPlace place), of_each InPlace place)

  pub all_place : ((d : Extent) (p new : PartState) → Q d p new → IsInPlace p new) → IsInPlace disk (with_parts front (map state news))
  all_place place = grind (arith, nat_tests, from_kept, len_from, of_each, with_parts)

  pub all_calls : {T E : Type 0} (end : Result T E) (calls : Extent → List DiskCall) → ((d : Extent) (p new : PartState) → Q d p new → OnOk end (new.calls ≡ with_end p.calls (calls d)))
      → OnOk end ((with_parts front (map state news)).calls ≡ with_end disk.calls (flat_map calls domains))
  all_calls (Err e) calls f = tt
  all_calls (Ok x) calls f =
      calls_from disk front calls domains (map state news) [] (s.front_is.calls ∙ sym (with_end-nil disk.calls)) (of_each (λ d p new. new.calls ≡ with_end p.calls (calls d)) f)

  pub all_told : {T E : Type 0} (end : Result T E) (S : ℕ → ℕ → ℕ → Type 0) → IfSome disk.held (λ file. length file ≡ disk.len) → ((x v : ℕ) → x < begin_or disk.len domains → S x v v)
      → ((d : Extent) (p new : PartState) → Q d p new → OnOk end (BothTold (AreBytes S p.from) p.held new.held)) → OnOk end (BothTold (AreBytes S 0) disk.held (with_parts front (map state news)).held)
  all_told (Err e) S long still f = tt
  all_told (Ok x) S long still f =
      told_from disk S front domains (map state news) 0 s.line s.room long (told_front S (begin_or disk.len domains) disk.held front.held still s.front_is.held)
      (of_each (λ d p new. BothTold (AreBytes S p.from) p.held new.held) f)

-- where nothing can be refused
abbrev pub fine : Result (Unit {0}) ℕ
fine = Ok tt

-- ---- parts on which nothing was done

same_parts : {D : Type 0} (state : D → PartState) (parts : List D) (domains : List Extent) → length domains ≡ length parts → AllZip (λ p new. state new ≡ state p.0) (zip parts domains) parts
same_parts state [] [] e = tt
same_parts state (p ∷ parts) (d ∷ domains) e = (refl, same_parts state parts domains (omega arith))
same_parts state _ _ e = absurd (omega arith)

no_calls : (domains : List Extent) → flat_map {A = DiskCall} (λ d. []) domains ≡ []
no_calls [] = refl
no_calls (d ∷ rest) = no_calls rest

pub record IsAsBefore (old new : PartState) : Type 0 where
  pub place : IsInPlace old new
  pub held : new.held ≡ old.held
  pub calls : new.calls ≡ old.calls

module _ {D : Type 0} (state : D → PartState) (disk front : PartState) (domains : List Extent) (parts : List D) (s : AreSplit state disk front domains parts) where
  unchanged : AllZip (λ p new. state new ≡ state p.0) (zip parts domains) parts
  unchanged = same_parts state parts domains (as_many_parts state disk domains parts s.parts_are)

  stays : (d : Extent) (p new : PartState) → new ≡ p → IsInPlace p new
  stays d p new e = record { from = ap (λ (q : PartState). q.from) e; len = ap (λ (q : PartState). q.len) e }

  pub parts_follow : Follow (front.from + front.len) (map state parts)
  parts_follow = all_follow state disk front domains parts s (λ d p new. new ≡ p) parts unchanged stays

  -- taken back as they were, they are the disk
  pub parts_rejoined : IfSome disk.held (λ file. length file ≡ disk.len) → IsAsBefore disk (with_parts front (map state parts))
  parts_rejoined long = record {
    place = all_place state disk front domains parts s (λ d p new. new ≡ p) parts unchanged stays;
    held = kept_told disk.held (with_parts front (map state parts)).held
        (all_told state disk front domains parts s (λ d p new. new ≡ p) parts unchanged fine IsOld long (λ x v l. refl)
        (λ d p new e. told_kept p.from p.held new.held (ap (λ (q : PartState). q.held) e)));
    calls = all_calls state disk front domains parts s (λ d p new. new ≡ p) parts unchanged fine (λ d. [])
        (λ d p new e. ap (λ (q : PartState). q.calls) e ∙ sym (with_end-nil p.calls))
        ∙ ap (λ (c : List DiskCall). with_end disk.calls c) (no_calls domains) ∙ with_end-nil disk.calls;
  }
