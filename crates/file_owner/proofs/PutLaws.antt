-- Items that are put on lines, one line after another.
use Rattle.file_owner.proofs.Words.{◌≡◌, ℕ, ◌+◌, ◌<◌, ◌≤◌, refl, sym, ◌∙◌, List, [], ◌∷◌, ◌++◌, length, true, false, arith, cases_eq, nat_tests, append-nil, slice_get, option_map, nat_lt, ◌==◌, ◌≢◌, Offer, OwnerItem, Stop, with_item, own_here, own_other, equal_itself, Grows, put_one, stops_for}
use Rattle.nc_base.specs.declared.step.RankItem.TheVariants as item
use Rattle.file_owner.proofs.AlikeLaws.{lines_as, lines_twice, Lines}
use Rattle.file_owner.proofs.OwnerRuns.{other_number}

-- ---- one item

pub put_here : (r : ℕ) (x : OwnerItem) → put_one r x r ≡ x ∷ []
put_here r x = rw (equal_itself r, put_one) refl

pub put_other : (q r : ℕ) (x : OwnerItem) → (q ≡ r → ⊥) → put_one r x q ≡ []
put_other q r x n = rw (other_number q r n, put_one) refl

pub one_put : (old now : Lines) (place : ℕ) (x : OwnerItem) → slice_get now place ≡ option_map (λ end. with_item end x) (slice_get old place)
    → ((k : ℕ) → k ≢ place → slice_get now k ≡ slice_get old k) → length now ≡ length old → Grows old (put_one place x) now
one_put old now place x here others long = grind (arith, nat_tests, cases_eq, put_here, append-nil, put_other)

-- ---- stops for an arrival

pub stop_for_offer : (r c : ℕ) (o : Offer) (q : ℕ) → stops_for ((r, item.Offer c o) ∷ []) q ≡ put_one r Stop q
stop_for_offer r c o q = grind (arith, nat_tests, cases_eq, own_here, put_here, own_other, put_other)

-- ---- line after line

abbrev pub below : ℕ → (ℕ → List OwnerItem) → ℕ → List OwnerItem
below n f q = elim (nat_lt q n) [ true ↦ f q | false ↦ [] ]

below_is : (n q : ℕ) (f : ℕ → List OwnerItem) → q < n → below n f q ≡ f q
below_is n q f l = grind (arith, nat_tests)

pub put_below : (old mid now : Lines) (n : ℕ) (f : ℕ → List OwnerItem) (x : OwnerItem) → Grows old (below n f) mid → f n ≡ x ∷ []
    → slice_get now n ≡ option_map (λ end. with_item end x) (slice_get mid n) → ((k : ℕ) → k ≢ n → slice_get now k ≡ slice_get mid k) → length now ≡ length mid → Grows old (below (n + 1) f) now
put_below old mid now n f x g own here others long = record { long = long ∙ g.long; each = λ q end e. grind (arith, nat_tests, cases_eq q n, g.each q end e, append-nil end.items, others q) }

-- what is put for one number more
pub one_more : (old mid now : Lines) (n : ℕ) (f : ℕ → List OwnerItem) (own : List OwnerItem) → Grows old (below n f) mid → f n ≡ own
    → Grows mid (λ q. elim (q == n) [ true ↦ own | false ↦ [] ]) now → Grows old (below (n + 1) f) now
one_more old mid now n f own g same h =
    let joined : (q : ℕ) → below (n + 1) f q ≡ below n f q ++ elim (q == n) [ true ↦ own | false ↦ [] ] = λ q. grind (arith, nat_tests, cases_eq q n, append-nil) in
    lines_as old now (λ q. below n f q ++ elim (q == n) [ true ↦ own | false ↦ [] ]) (below (n + 1) f) (λ q l. joined q) (lines_twice old mid now (below n f) (λ q. elim (q == n) [ true ↦ own | false ↦ [] ]) g h)

pub all_below : (old now : Lines) (n : ℕ) (f : ℕ → List OwnerItem) → Grows old (below n f) now → length old ≤ n → Grows old f now
all_below old now n f g l = lines_as old now (below n f) f (λ q low. sym (below_is n q f (omega arith))) g
