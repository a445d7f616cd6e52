-- What was taken, and the stops for it, one item after another.
use Rattle.file_owner.proofs.Words.{◌≡◌, ℕ, ◌<◌, refl, sym, ◌∙◌, ap, subst, List, [], ◌∷◌, ◌++◌, map, set, Bool, true, append_assoc, arith, nat_tests, append-nil, nat_lt, list_all, OwnerItem, Stop, RankItem, End, Receiver, own_items, Arrival, is_offer, HasEnd, own_here, Grows, stops_for, HaveEnded, HaveMet, IsMore, own_two, entry_set_other, Client, Option, length, replicate, stop_held, all_joined, filter-append, map-append, ◌+◌}
use Rattle.nc_base.specs.declared.step.RankItem.TheVariants as item
use Rattle.file_owner.proofs.AlikeLaws.{lines_as, lines_twice}

-- ---- items of one number

pub stops_joined : (q : ℕ) (xs ys : List Arrival) → stops_for (xs ++ ys) q ≡ stops_for xs q ++ stops_for ys q
stops_joined q xs ys = grind (arith, nat_tests, own_two q xs ys, filter-append is_offer, map-append)

-- ---- ends

pub end_front : (xs ys : List RankItem) → HasEnd xs → HasEnd (xs ++ ys)
end_front (item.Offer c o ∷ xs) ys h = end_front xs ys h
end_front xs ys h = grind (arith, nat_tests)

end_last : (xs : List RankItem) (memory : Bool) → HasEnd (xs ++ item.Ended memory ∷ [])
end_last (item.Offer c o ∷ xs) memory = end_last xs memory
end_last _ memory = tt

pub ended_more : (flags : List Bool) (arrivals more : List Arrival) → HaveEnded flags arrivals → HaveEnded flags (arrivals ++ more)
ended_more flags arrivals more h q e = subst HasEnd (sym (own_two q arrivals more)) (end_front (own_items q arrivals) (own_items q more) (h q e))

pub noted_end : (flags : List Bool) (arrivals : List Arrival) (r : ℕ) (memory : Bool) → HaveEnded flags arrivals → HaveEnded (set flags r true) (arrivals ++ (r, item.Ended memory) ∷ [])
noted_end flags arrivals r memory h q e = grind (arith, nat_tests, own_two, own_here, end_last, ended_more, entry_set_other, item.Ended)

pub noted : (flags : List Bool) (arrivals : List Arrival) (r : ℕ) (i j : RankItem) → i ≡ j → HaveEnded flags (arrivals ++ (r, j) ∷ []) → HaveEnded flags (arrivals ++ (r, i) ∷ [])
noted flags arrivals r i j e h = subst (λ (k : RankItem). HaveEnded flags (arrivals ++ (r, k) ∷ [])) (sym e) h

-- ---- what was taken

pub more_none : (old : Receiver RankItem) → IsMore old [] old
more_none old = record { items = sym (append-nil old.items); senders = refl; of = refl; numbers = refl }

pub more_twice : (old mid now : Receiver RankItem) (first more : List Arrival) → IsMore old first mid → IsMore mid more now → IsMore old (first ++ more) now
more_twice old mid now first more h g = record {
  items = g.items ∙ ap (λ (xs : List Arrival). xs ++ more) h.items ∙ append_assoc old.items first more;
  senders = g.senders ∙ h.senders;
  of = g.of ∙ h.of;
  numbers = all_joined (λ (a : Arrival). nat_lt a.0 old.senders) first more h.numbers (subst (λ (n : ℕ). list_all (λ (a : Arrival). nat_lt a.0 n) more ≡ true) h.senders g.numbers);
}

pub more_one : (old mid now : Receiver RankItem) (more : List Arrival) (a : Arrival) → IsMore old more mid → now.items ≡ mid.items ++ a ∷ [] → now.senders ≡ mid.senders → now.of ≡ mid.of → a.0 < mid.senders
    → IsMore old (more ++ a ∷ []) now
more_one old mid now more a h items senders of low = more_twice old mid now more (a ∷ []) h (record { items = items; senders = senders; of = of; numbers = grind (arith, nat_tests) })

pub met_one : (old mid now : Receiver RankItem) (before after last : List (End OwnerItem)) (flags left end : List Bool) (a : Arrival) → HaveMet old mid before after flags left
    → now.items ≡ mid.items ++ a ∷ [] → now.senders ≡ mid.senders → now.of ≡ mid.of → a.0 < mid.senders → Grows after (stops_for (a ∷ [])) last
    → ((arrivals : List Arrival) → HaveEnded left arrivals → HaveEnded end (arrivals ++ a ∷ [])) → HaveMet old now before last flags end
met_one old mid now before after last flags left end a h items senders of low stop note = record {
  more = h.more ++ a ∷ [];
  taken = more_one old mid now h.more a h.taken items senders of low;
  stopped = grind (arith, nat_tests, lines_twice before after last (stops_for h.more) (stops_for (a ∷ [])) h.stopped stop, lines_as, stops_joined);
  noted = λ arrivals e. subst (λ (xs : List Arrival). HaveEnded end xs) (append_assoc arrivals h.more (a ∷ [])) (note (arrivals ++ h.more) (h.noted arrivals e));
}

-- the stops of a rank that is gone
stops_are : (xs : List RankItem) → map (λ (i : RankItem). Stop) xs ≡ replicate (length xs) Stop
stops_are [] = refl
stops_are (x ∷ xs) = ap (λ (items : List OwnerItem). Stop ∷ items) (stops_are xs)

pub only_stops : (m : Option Client) (xs : List RankItem) → (k : ℕ) × (stop_held m ++ map (λ (i : RankItem). Stop) xs ≡ replicate k Stop)
only_stops m xs = (length (stop_held m) + length xs, grind (arith, nat_tests, stops_are xs))
