-- A batch alone, as a list of one.
use Rattle.step_plan.proofs.Words.{◌≡◌, ℕ, ◌^◌, ◌<◌, inl, inr, ◌∙◌, ap, subst, List, [], ◌∷◌, map, None, flat_map, enumerate_from, append-nil, Header, Batch, Post, Owned, OverlapRule, told, greatest, needed, needed_by, In, Get, Put, AreAccepted, source_of, AreLaid, IsListOf, posts_in, puts_of_batch, AreGets, ArePuts, PutList, Laid, batch_needed, one_batch, own_puts, list_laid, own_told, IsAccepted, arith, nat_tests}

-- what holds of a batch holds of each of a list of it alone
alone : (P : Batch → Type 0) (batch : Batch) (slice : List Batch) → slice ≡ batch ∷ [] → P batch → (b : Batch) → In slice b → P b
alone P batch slice same h b m = elim (subst (λ (bs : List Batch). In bs b) same m) [ inl e ↦ subst P e h | inr n ↦ absurd n ]

pub few_alone : (batch : Batch) (slice : List Batch) → slice ≡ batch ∷ [] → posts_in batch < 2 ^ 32 → (b : Batch) → In slice b → posts_in b < 2 ^ 32
few_alone batch slice same few b m = alone (λ (x : Batch). posts_in x < 2 ^ 32) batch slice same few b m

pub gets_alone : (header : Header) (batch : Batch) (slice : List Batch) → slice ≡ batch ∷ [] → ((p : Post) → In batch.gets p → IsAccepted header p.var p.region)
    → (p : Post) → In (flat_map (λ (b : Batch). b.gets) slice) p → IsAccepted header p.var p.region
gets_alone header batch slice same accepted p m =
    accepted p (subst (λ (ps : List Post). In ps p) (ap (λ (bs : List Batch). flat_map (λ (b : Batch). b.gets) bs) same ∙ append-nil batch.gets) m)

pub own_list : (header : Header) (rank : ℕ) (batch : Batch) (slice : List Batch) → slice ≡ batch ∷ [] → ArePuts header (puts_of_batch (rank, batch))
    → ArePuts header (flat_map puts_of_batch (enumerate_from rank slice))
own_list header rank batch slice same are = rw (same, ← one_batch rank batch) are

-- the entries of a rank's puts, where no two share a byte
pub own_laid : (header : Header) (overlap : OverlapRule) (rank : ℕ) (batch : Batch) (slice : List Batch) (list : PutList) (entries : List Owned) → slice ≡ batch ∷ []
    → list ≡ Laid entries → IsListOf header overlap rank slice list
    → (told (record { header = header; overlap = overlap }) (puts_of_batch (rank, batch)) ≡ None) × AreLaid header (source_of rank (batch ∷ [])) (puts_of_batch (rank, batch)) entries
own_laid header overlap rank batch slice list entries same is of = grind (arith, nat_tests, list_laid, own_told, one_batch, puts_of_batch, source_of)

pub own_needs : (header : Header) (rank : ℕ) (batch : Batch) (posts : List Post) (n : ℕ) → posts ≡ batch.puts → n ≡ greatest (map (λ p. needed header p) posts)
    → n ≡ needed_by header (puts_of_batch (rank, batch))
own_needs header rank batch posts n same is = is ∙ ap (λ (ps : List Post). greatest (map (λ p. needed header p) ps)) same ∙ batch_needed header rank batch

-- ---- regions that a check accepts

pub put_alone : (header : Header) (rank : ℕ) (batch : Batch) (slice : List Batch) → slice ≡ batch ∷ [] → ArePuts header (puts_of_batch (rank, batch)) → AreAccepted header Put slice
put_alone header rank batch slice same are b p m n =
    alone (λ (x : Batch). In x.puts p → IsAccepted header p.var p.region) batch slice same (λ i. (own_puts header rank batch are p i).accepted) b m n

pub get_alone : (header : Header) (len : ℕ) (batch : Batch) (slice : List Batch) → slice ≡ batch ∷ [] → AreGets header len batch.gets → AreAccepted header Get slice
get_alone header len batch slice same are b p m n =
    alone (λ (x : Batch). In x.gets p → IsAccepted header p.var p.region) batch slice same (λ i. (are p i).accepted) b m n
