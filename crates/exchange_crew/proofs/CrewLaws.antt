-- Helpers that were handed parts one after another, each the next part.
use Rattle.exchange_crew.proofs.Words.{ℕ, ◌≡◌, ◌+◌, ◌∙◌, List, [], ◌∷◌, ◌++◌, length, map, take, Option, None, Some, Result, Ok, Err, refl, sym, ap, arith, append-nil, length-append, length-map, map-append, same_Some, zip, ForSome, IfErr, IfOk, OnOk, AllZip, middle_at, take_next, Aggregator, AreHanded, DiskGhosts, Extent, HasAdded, HasRoom, HasRooms, HaveDomains, In, IsDomainOf, IsGiven, IsNext, Owned, Shares, SomeZip, in_either, nat_tests, ◌≤◌, drop, result_and, vec_capacity, take-append_seam, common_steps, drop-append_seam}
use Rattle.exchange_crew.proofs.BackLaws.{some_mapped, zip_mapped, AreKept, map_new}

-- ---- one helper more was handed its part

crew_each : {S : Type 0} (P : S → Type 0) (workers now : List S) (worker : S) → now ≡ workers ++ worker ∷ [] → ((s : S) → In workers s → P s) → P worker → (s : S) → In now s → P s
crew_each {S} P workers now worker e all own s m = grind (arith, nat_tests, in_either)

-- ---- parts that are handed out one after another

-- one part more was handed out, or is left
handed_more : {W D : Type 0} (Fresh : W → Type 0) (part : W → D) (share : W → Extent) (domains : List Extent) (yielded : List D) (own : D) (old new : Shares W D) (next : Option Aggregator) (handed : Result W D)
    → AreHanded Fresh part share domains yielded old → IsNext domains old next → HasAdded handed old new → IfOk handed (IsGiven Fresh part share next own) → IfErr handed (λ back. back ≡ own)
    → AreHanded Fresh part share domains (yielded ++ own ∷ []) new
handed_more {W} {D} Fresh part share domains yielded own old new (Some a) (Ok worker) h n e given kept = record {
  of_parts = grind (arith, common_steps, append-nil, map-append);
  of_domains = grind (arith, nat_tests, e.workers, same_Some _ _ given.of_domain, h.of_domains, length-append old.workers.items (worker ∷ []), map-append share old.workers.items (worker ∷ []), take_next domains (length old.workers.items) a.domain (n.domain a refl));
  workers = crew_each Fresh old.workers.items new.workers.items worker e.workers h.workers given.fresh;
}
handed_more Fresh part share domains yielded own old new None (Ok worker) h n e given kept = let none = given.of_domain in absurd cc
handed_more {W} {D} Fresh part share domains yielded own old new next (Err back) h n e given kept = grind (arith, common_steps)

-- ---- parts on their way to helpers

-- each part so far was handed to a helper, or is left, and the lists have room for the others
pub record IsHanding {W D : Type 0} (Fresh : W → Type 0) (part : W → D) (share : W → Extent) (domains : List Extent) (parts yielded left : List D) (first now : Shares W D) : Type 0 where
  pub all : yielded ++ left ≡ parts
  pub handed : AreHanded Fresh part share domains yielded now
  pub workers_room : vec_capacity now.workers ≡ vec_capacity first.workers
  pub rest_room : vec_capacity now.rest ≡ vec_capacity first.rest
  pub back : now.back ≡ first.back

pub handing_begun : {W D : Type 0} (Fresh : W → Type 0) (part : W → D) (share : W → Extent) (domains : List Extent) (parts left : List D) (n : ℕ) (shares : Shares W D) → HasRooms n shares
    → left ≡ parts → IsHanding Fresh part share domains parts [] left shares shares
handing_begun Fresh part share domains parts left n shares rooms all = grind (arith, nat_tests)

module _ {W D : Type 0} {Fresh : W → Type 0} {part : W → D} {share : W → Extent} {domains : List Extent} {parts yielded left more : List D} {first now : Shares W D} {own : D}
    (s : IsHanding Fresh part share domains parts yielded left first now) (e : left ≡ own ∷ more) where
  next_part : yielded ++ own ∷ more ≡ parts
  next_part = ap (λ (ds : List D). yielded ++ ds) (sym e) ∙ s.all

  -- the domain of the next aggregator
  pub handing_domain : (disk : DiskGhosts D) (list : List Owned) (next : Option Aggregator) → HaveDomains disk list domains parts → IsNext domains now next
      → ForSome next (λ a. IsDomainOf list (disk.from own) (disk.len own) a.domain)
  handing_domain disk list next all n a h =
      grind (arith, common_steps, middle_at yielded more parts own next_part, next_part, length-append, length-map)

  pub handing_room : HasRooms (length parts) first → HasRoom now
  handing_room rooms = grind (arith, common_steps, middle_at, next_part, length-append, length-map)

  pub handing_next : (new : Shares W D) (next : Option Aggregator) (handed : Result W D) → IsNext domains now next → HasAdded handed now new → IfOk handed (IsGiven Fresh part share next own)
      → IfErr handed (λ back. back ≡ own) → IsHanding Fresh part share domains parts (yielded ++ own ∷ []) more first new
  handing_next new next handed n added given kept =
      grind (arith, common_steps, next_part, handed_more Fresh part share domains yielded own now new next handed s.handed n added given kept)

-- ---- one part more came back

-- what holds of each worker so far and of the last one, where nothing was refused
pub each_joined : {S T E : Type 0} (P : S → Type 0) (workers : List S) (worker : S) (end came both : Result T E) → both ≡ result_and end came → OnOk end ((s : S) → In workers s → P s)
    → OnOk came (P worker) → OnOk both ((s : S) → In (workers ++ worker ∷ []) s → P s)
each_joined P workers worker end came both is all own = grind (arith, nat_tests, crew_each P workers (workers ++ worker ∷ []) worker)

-- ---- what came back of helpers: their parts are the first ones, and the others are those behind them

pub record HaveServed {S D : Type 0} (part : S → D) (share : S → Extent) (last : List S) (rest back parts : List D) (domains : List Extent) : Type 0 where
  pub of_parts : map part last ≡ take (length back) parts
  pub of_domains : map share last ≡ take (length back) domains
  pub behind : rest ≡ drop (length back) parts
  pub few : length back ≤ length parts

module _ {S D : Type 0} (part : S → D) (share : S → Extent) {first last whole : List S} where
  pub have_served : (Kept : S → S → Type 0) (rest back parts : List D) (domains : List Extent) → AreKept Kept first last whole → ((a b : S) → Kept a b → (part b ≡ part a) × (share b ≡ share a))
      → map part first ++ rest ≡ parts → map share first ≡ take (length first) domains → length back ≡ length whole → HaveServed part share last rest back parts domains
  have_served Kept rest back parts domains kept same handed shares long =
      grind (arith, nat_tests, map_new part Kept first last kept.long kept.each, length-map, take-append_seam, map_new share Kept first last kept.long kept.each, take, length-append, drop-append_seam)

  pub all_served : {Kept : S → S → Type 0} {rest back parts : List D} {domains : List Extent} (Q : D × Extent → D → Type 0) → AreKept Kept first last whole
      → HaveServed part share last rest back parts domains → AllZip (λ worker new. Q (part worker, share worker) new) whole back → AllZip Q (zip (take (length back) parts) (take (length back) domains)) back
  all_served {back = back} Q kept served h = grind (arith, nat_tests, zip_mapped, zip, take)

  pub some_served : {Kept : S → S → Type 0} {rest back parts : List D} {domains : List Extent} (R : D → D → Type 0) → AreKept Kept first last whole
      → HaveServed part share last rest back parts domains → SomeZip (λ worker new. R (part worker) new) whole back → SomeZip R (take (length back) parts) back
  some_served {back = back} R kept served h = grind (arith, nat_tests, some_mapped, take)
