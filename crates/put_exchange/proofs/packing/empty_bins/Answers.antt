-- One rank more.
use Rattle.put_exchange.proofs.Words.{◌≡◌, ◌∙◌, ◌++◌, ◌∷◌, [], ◌<◌, ℕ, List, Vec, Global, ap, sym, length, map, rules, arith, common_steps, length-append, map-append, range_with_len, binned, Cut, nat_tests}
use Rattle.std.proofs.lemmas.List.FromFn.{map-range_with_len_more}
use Rattle.put_exchange.proofs.packing.empty_bins.Goals as goal

pub ranks-preserved : goal.ranks-preserved
ranks-preserved c =
    let before = c.ranks.bins.items in
    let bin = c.in_ok-with_capacity.field-0 in
    let empty : bin.items ≡ [] = first_of (search rules, grind (arith, common_steps)) in
    let grown = c.push_reserved.ensures.items in
    let long = length-append before (bin ∷ []) in
    let more = ap (λ (bins : List (Vec Cut Global)). length bins) grown in
    let below : length before < c.args.ranks = first_of (search rules, grind (arith, common_steps)) in
    let same = c.push_reserved.ensures.capacity in
    let room = c.ranks.invariant.room in
    record {
      each = ap (λ (bins : List (Vec Cut Global)). binned bins) grown
          ∙ map-append (λ (b : Vec Cut Global). b.items) before (bin ∷ [])
          ∙ ap (λ (cuts : List Cut). binned before ++ cuts ∷ []) empty
          ∙ ap (λ (bins : List (List Cut)). bins ++ [] ∷ []) c.ranks.invariant.each
          ∙ sym (map-range_with_len_more (λ (r : ℕ). []) 0 (length before) (length before) (omega arith))
          ∙ ap (λ (n : ℕ). map (λ (r : ℕ). []) (range_with_len 0 n)) (sym (more ∙ long));
      few = omega arith;
      room = omega arith;
    }

pub returns : goal.returns
returns c = grind (arith, nat_tests, c.ranks.invariant.few, c.ranks.invariant.each)
