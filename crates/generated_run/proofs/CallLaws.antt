-- The calls of a rank.
use Rattle.generated_run.proofs.Words.{◌≡◌, ℕ, ◌+◌, ◌*◌, List, [], ◌∷◌, ◌++◌, true, codes, ap, ◌∙◌, append_assoc, flat_map, range_with_len, Call, Every, Bput, Bits, Numbers, calls_of_rank, calls_of_record, columns_of, precip_band, region_of_band, temp_band, arith, nat_tests}
use Rattle.nc_base.specs.declared.request.Call.TheVariants as call

-- three calls that go last, one after another
pub three_pushed : (front one two next : List Call) (a b c : Call) → one ≡ front ++ a ∷ [] → two ≡ one ++ b ∷ [] → next ≡ two ++ c ∷ [] → next ≡ front ++ a ∷ b ∷ c ∷ []
three_pushed front one two next a b c e f g = grind (arith, nat_tests, append_assoc)

-- two calls that go last, which are these
pub two_pushed : (front one next : List Call) (a b x y : Call) → one ≡ front ++ a ∷ [] → next ≡ one ++ b ∷ [] → a ≡ x → b ≡ y → next ≡ front ++ x ∷ y ∷ []
two_pushed front one next a b x y e f g h = grind (arith, nat_tests, append_assoc)

pub record_is : (seed r t : ℕ) (a b : Call) → a ≡ call.Post (2 * t) Bput (codes "temp") (region_of_band r t) (Bits (temp_band seed r t))
    → b ≡ call.Post (2 * t + 1) Bput (codes "precip") (region_of_band r t) (Numbers (precip_band seed r t))
    → a ∷ b ∷ call.Wait true Every ∷ [] ≡ calls_of_record seed r t
unfolding calls_of_record region_of_band temp_band precip_band
record_is seed r t a b e f = ap (λ (x : Call). x ∷ b ∷ call.Wait true Every ∷ []) e ∙ ap (λ (x : Call). call.Post (2 * t) Bput (codes "temp") (region_of_band r t) (Bits (temp_band seed r t)) ∷ x ∷ call.Wait true Every ∷ []) f

pub rank_is : (seed size r : ℕ) (a b : Call) → a ≡ call.Get true (codes "temp") (columns_of size r) → b ≡ call.Get true (codes "precip") (columns_of size r)
    → (call.Attach 65536 ∷ flat_map (λ t. calls_of_record seed r t) (range_with_len 0 size)) ++ a ∷ b ∷ call.Detach ∷ [] ≡ calls_of_rank seed size r
unfolding calls_of_rank calls_of_record columns_of
rank_is seed size r a b e f = grind (arith, nat_tests)
