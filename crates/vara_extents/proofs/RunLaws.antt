-- Runs of elements, one dimension more.
use Rattle.vara_extents.proofs.Words.{◌≡◌, ℕ, ◌+◌, ◌*◌, ◌/◌, ◌%◌, ◌<◌, ◌≤◌, ◌⊎◌, sym, ap, ◌∙◌, arith, div-mul-add, mod-mul-add, div-add-mod', div_below, mod_below, mul-le, AreRuns, nat_tests}

pub same_runs : (f g : ℕ → ℕ) (size run total : ℕ) → ((k : ℕ) → f k ≡ g k) → AreRuns f size run total → AreRuns g size run total
same_runs f g size run total same h = grind (arith, nat_tests)

-- elements of more bytes, from a base on
pub sized : (f : ℕ → ℕ) (base size run total : ℕ) → AreRuns f 1 run total → AreRuns (λ k. base + f k * size) size run total
sized f base size run total h = grind (arith, nat_tests)

-- a part of some elements
pub some_block : (n p k : ℕ) → k < n * p → (1 ≤ n) × (1 ≤ p)
some_block n p k h = grind (arith, nat_tests)

-- the block of an element, and its place in the block
pub in_block : (run m total q i : ℕ) → i < run → total ≡ m * run → 1 ≤ total
    → ((q * run + i) / total ≡ q / m) × ((q * run + i) % total ≡ q % m * run + i) × (q % m * run + i < total)
in_block run m total q i l is some =
    let low = mod_below q m (some_block m run 0 (omega (arith, is, some))).0 in
    let fits : q % m * run + i < total = omega (arith, is, l, mul-le (q % m + 1) run m run (omega (arith, low)) (omega arith)) in
    let there : q * run + i ≡ q / m * total + (q % m * run + i) = omega (arith, is, ap (λ (n : ℕ). q / m * n) is, ap (λ (n : ℕ). n * run) (div-add-mod' q m)) in
    grind (arith, nat_tests, div-mul-add (q / m) total (q % m * run + i) fits, mod-mul-add (q / m) total (q % m * run + i) fits)

-- the runs stay in an outer dimension
pub kept : (f : ℕ → ℕ) (n s t step size run total : ℕ) → AreRuns f size run total
    → AreRuns (λ k. (s + k / total * t) * step + f (k % total)) size run (n * total)
kept f n s t step size run total h = record {
  some = h.some;
  parts = (n * h.parts.0, omega (arith, ap (λ (x : ℕ). n * x) h.parts.1));
  follow = λ q i l below.
      let some = (some_block n total (q * run + i) below).1 in
      grind (arith, nat_tests, in_block run h.parts.0 total q i l h.parts.1 some, in_block run h.parts.0 total q 0 h.some h.parts.1 some, h.follow (q % h.parts.0) i l);
}

-- a block that follows the one before it
merged_at : (f : ℕ → ℕ) (n s t step size total i : ℕ) → AreRuns f size total total → total * size ≡ step → (n ≡ 1) ⊎ (t ≡ 1) → i < n * total
    → (s + i / total * t) * step + f (i % total) ≡ s * step + f 0 + i * size
merged_at f n s t step size total i h e one below =
    let rows : i / total * t ≡ i / total = grind (arith, nat_tests, div_below i total n h.some) in
    let rest : f (i % total) ≡ f 0 + i % total * size = grind (arith, nat_tests, h.follow 0 (i % total) (mod_below i total h.some)) in
    let same : (s + i / total * t) * step ≡ (s + i / total) * (total * size) = ap (λ (x : ℕ). (s + x) * step) rows ∙ ap (λ (x : ℕ). (s + i / total) * x) (sym e) in
    omega (arith, same, rest, ap (λ (x : ℕ). s * x) (sym e), ap (λ (x : ℕ). x * size) (sym (div-add-mod' i total)))

-- the whole is one run, where each block follows the one before it
pub merged : (f : ℕ → ℕ) (n s t step size total : ℕ) → AreRuns f size total total → total * size ≡ step → (n ≡ 1) ⊎ (t ≡ 1) → 1 ≤ n
    → AreRuns (λ k. (s + k / total * t) * step + f (k % total)) size (n * total) (n * total)
merged f n s t step size total h e one some = record {
  some = mul-le 1 1 n total some h.some;
  parts = (1, omega arith);
  follow = λ q i l below.
      omega (arith, merged_at f n s t step size total (q * (n * total) + i) h e one below, merged_at f n s t step size total (q * (n * total)) h e one (omega (arith, below)));
}
