-- The job of a meeting, taken from the runners one after another.
use Rattle.turn_run.proofs.Words.{◌≡◌, ℕ, ◌+◌, sym, ◌∙◌, ap, List, ◌++◌, map, max, take, Some, map-append, slice_get, option_to_list, Batch, Offer, known_by, greatest, batches_of, held_offers, known_of, Runner, greatest_joined, take_next, arith, common_steps}

held_next : (runners : List Runner) (i : ℕ) (runner : Runner) → slice_get runners i ≡ Some runner → held_offers (take (i + 1) runners) ≡ held_offers (take i runners) ++ option_to_list runner.held
held_next runners i runner e = grind (arith, common_steps, take_next runners i runner e)

pub batches_next : (runners : List Runner) (i : ℕ) (runner : Runner) (batches more : List Batch) → slice_get runners i ≡ Some runner → batches ≡ batches_of (held_offers (take i runners))
    → more ≡ batches ++ batches_of (option_to_list runner.held) → more ≡ batches_of (held_offers (take (i + 1) runners))
batches_next runners i runner batches more e b m = grind (arith, common_steps, held_next runners i runner e)

pub known_next : (runners : List Runner) (i : ℕ) (runner : Runner) (known own more : ℕ) → slice_get runners i ≡ Some runner → known ≡ known_of (held_offers (take i runners))
    → own ≡ known_of (option_to_list runner.held) → more ≡ max known own → more ≡ known_of (held_offers (take (i + 1) runners))
known_next runners i runner known own more e k o m = m ∙ ap (λ (n : ℕ). max n own) k ∙ ap (max (known_of (held_offers (take i runners)))) o
    ∙ sym (greatest_joined (map (λ o. known_by o.kind o.known) (held_offers (take i runners))) (map (λ o. known_by o.kind o.known) (option_to_list runner.held)))
    ∙ ap greatest (sym (map-append (λ (o : Offer). known_by o.kind o.known) (held_offers (take i runners)) (option_to_list runner.held)))
    ∙ ap known_of (sym (held_next runners i runner e))
