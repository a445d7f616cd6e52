-- Sums and products that go on by one item.
use Rattle.generated_run.proofs.Words.{◌≡◌, ℕ, ◌+◌, ◌*◌, ◌%◌, ◌^◌, ◌<◌, List, length, map, sum, take, get_or, fold, ap, ◌∙◌, arith, ℤ, ◌*ℤ◌, slice_get, take_all, take_more, fold-append, fold_push, sum_by-append, sum_by_push, BitRun, NumberRun, bit_steps, bits_of_run, bits_of_runs, numbers_of_run, numbers_of_runs, steps, bit_steps_more, steps_more, sum_more, take_next, nat_tests, common_steps, pos, ◌+ℤ◌, Some}

-- ---- over a list that is read by its places

pub number_summed : (start : ℤ) (zs : List ℤ) (k : ℕ) (z : ℤ) → slice_get zs k ≡ Some z
    → fold (λ s x. s +ℤ x) start (take (k + 1) zs) ≡ fold (λ s x. s +ℤ x) start (take k zs) +ℤ z
number_summed start zs k z there = grind (arith, nat_tests, take_next zs k z there, fold, fold_push)

pub pattern_summed : (ns : List ℕ) (k n : ℕ) → slice_get ns k ≡ Some n → sum (take (k + 1) ns) ≡ sum (take k ns) + n
pattern_summed ns k n there = ap (λ (ms : List ℕ). sum ms) (take_next ns k n there) ∙ sum_by_push (λ m. m) (take k ns) n

-- ---- over what an iterator yields

pub next_summed : {A : Type 0} (f : A → ℕ) (now part next : ℕ) (all : List A) (n m : ℕ) (x : A) → n < length all → x ≡ get_or all n x → m ≡ n + 1
    → now ≡ sum (map f (take n all)) → part ≡ f x → next ≡ now + part → next ≡ sum (map f (take m all))
next_summed {A} f now part next all n m x within here one so_far own more = grind (arith, nat_tests, sum, take_more all n x within, sum_more f (take n all))

pub all_summed : {A : Type 0} (f : A → ℕ) (now : ℕ) (all : List A) (n : ℕ) → n ≡ length all → now ≡ sum (map f (take n all)) → now ≡ sum (map f all)
all_summed {A} f now all n whole so_far = grind (arith, nat_tests, sum, take_all)

-- ---- over runs

pub steps_summed : (a b start : ℤ) (k : ℕ)
    → fold (λ s z. s +ℤ z) start (steps a b (k + 1)) ≡ fold (λ s z. s +ℤ z) start (steps a b k) +ℤ (a +ℤ (b *ℤ pos k))
steps_summed a b start k = grind (arith, nat_tests, fold, steps_more, fold_push)

pub runs_summed : (start : ℤ) (rs : List NumberRun) (i : ℕ) (d : NumberRun) → i < length rs
    → fold (λ s z. s +ℤ z) start (numbers_of_runs (take (i + 1) rs)) ≡ fold (λ s z. s +ℤ z) (fold (λ s z. s +ℤ z) start (numbers_of_runs (take i rs))) (numbers_of_run (get_or rs i d))
runs_summed start rs i d h = grind (arith, nat_tests, take_more rs i d h, fold, fold-append, common_steps)

pub bit_steps_summed : (a b k : ℕ) → sum (bit_steps a b (k + 1)) ≡ sum (bit_steps a b k) + (a + b * k) % 2 ^ 64
bit_steps_summed a b k = ap (λ (ns : List ℕ). sum ns) (bit_steps_more a b k) ∙ sum_by_push (λ n. n) (bit_steps a b k) ((a + b * k) % 2 ^ 64)

pub bit_runs_summed : (rs : List BitRun) (i : ℕ) (d : BitRun) → i < length rs
    → sum (bits_of_runs (take (i + 1) rs)) ≡ sum (bits_of_runs (take i rs)) + sum (bits_of_run (get_or rs i d))
bit_runs_summed rs i d h = grind (arith, nat_tests, take_more rs i d h, sum, sum_by-append, common_steps)
