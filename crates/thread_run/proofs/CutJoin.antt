-- The owner's run along arrivals of which none was strange, wherever it was cut off: it is the serial run of its order, and each rank
-- ended where that run's rank goes up to.
use Rattle.thread_run.proofs.Words.{◌≡◌, ℕ, ◌<◌, ◌≤◌, sym, ◌∙◌, ap, subst, List, [], ◌∷◌, ◌++◌, length, map, replicate, true, Option, Some, None, append_assoc, arith, length-map, length-replicate, list_all-append, slice_get_within, fold, nat_lt, list_all, entry_below, entry_replicate, entry_beside, and_first, and_second, Header, Call, Script, Mark, OwnerItem, Stop, Owner, Client, event, free_client, given_along, is_strange, offers_in, own_items, served, Setting, Counted, Arrival, is_sound, opening_owner, run_of, rank_end, Going, after_mark, first_going, setting_of, Begins, HasOffered, sound_small, calls_of, stranger_on, served_on, fold_two, counts_along, owner_told, given_on, mapped_entry, nat_tests, inl, inr, ltb-true}
use Rattle.list_laws.proofs.Truth.{holds_or_not}
use Rattle.thread_run.proofs.TellLaws.{count_of, tells_more}
use Rattle.thread_run.proofs.CutRank.{IsPaired}
use Rattle.thread_run.proofs.CutSteps.{Stands, arrival_stands}

-- ---- arrivals

pub record Ran (s : Setting) (d : Owner) (goings : List Going) (first later : List Arrival) (n : ℕ → ℕ) (end : ℕ → Going) : Type 0 where
  pub last : List Going
  pub folded : fold (after_mark s) (d.state, goings) (served s d first).marks ≡ ((served s d first).owner.state, last)
  pub told : owner_told s d first ≡ counts_along (after_mark s) count_of (d.state, goings) (served s d first).marks
  pub long : length last ≡ length d.clients
  pub stands : Stands s (served s d first).owner last (λ q. own_items q later) (λ q. replicate (n q) Stop) end

pub ran : (s : Setting) (first later : List Arrival) (d : Owner) (goings : List Going) (n : ℕ → ℕ) (end : ℕ → Going) → (served s d first).stranger ≡ None
    → list_all (λ (a : Arrival). nat_lt a.0 (length d.clients)) first ≡ true
    → Stands s d goings (λ q. own_items q (first ++ later)) (λ q. given_along s d first q ++ replicate (n q) Stop) end → Ran s d goings first later n end
ran s [] later d goings n end none low t = grind (arith, nat_tests)
ran s ((r, i) ∷ first) later d goings n end none low t = elim (holds_or_not (is_strange s d (r, i))) [
  | inl f ↦ (let z = sym (stranger_on s d (r, i) first f) ∙ none in absurd cc)
  | inr f ↦
      (let on = served_on s d (r, i) first f in
      let client = entry_below d.clients r (ltb-true r (length d.clients) (and_first (nat_lt r (length d.clients)) (list_all (λ (a : Arrival). nat_lt a.0 (length d.clients)) first) low)) in
      let going = entry_beside d.clients goings r client.0 t.long client.1 in
      let left = λ (q : ℕ). given_along s (event s d (r, i)).owner first q ++ replicate (n q) Stop in
      let whole : Stands s d goings (λ q. own_items q ((r, i) ∷ (first ++ later))) (λ q. (event s d (r, i)).given q ++ left q) end = record {
        long = t.long;
        paired_at = λ q x g a b. subst (λ (items : List OwnerItem). IsPaired s.header x g (own_items q ((r, i) ∷ (first ++ later))) items (end q))
            (ap (λ (xs : List OwnerItem). xs ++ replicate (n q) Stop) (given_on s d (r, i) first q f)
            ∙ append_assoc ((event s d (r, i)).given q) (given_along s (event s d (r, i)).owner first q) (replicate (n q) Stop)) (t.paired_at q x g a b);
        held = t.held;
        counted = t.counted;
        small = t.small;
      } in
      let step = arrival_stands s d goings r (first ++ later) client.0 going.0 end client.1 going.1 i left f whole in
      let after = ran s first later (event s d (r, i)).owner step.after n end (sym on.stranger ∙ none)
      (ap (λ (k : ℕ). list_all (λ (a : Arrival). nat_lt a.0 k) first) step.ranks ∙ and_second (nat_lt r (length d.clients)) (list_all (λ (a : Arrival). nat_lt a.0 (length d.clients)) first) low) step.stands in
      record {
        last = after.last;
        folded = ap (λ (ms : List Mark). fold (after_mark s) (d.state, goings) ms) on.marks
            ∙ fold_two s (d.state, goings) (event s d (r, i)).marks (served s (event s d (r, i)).owner first).marks
            ∙ ap (λ (st : Counted × List Going). fold (after_mark s) st (served s (event s d (r, i)).owner first).marks) step.folded ∙ after.folded
            ∙ ap (λ (e : Owner). (e.state, after.last)) (sym on.owner);
        told = tells_more s d goings step.after (r, i) first f step.folded after.told;
        long = after.long ∙ step.ranks;
        stands = subst (λ (e : Owner). Stands s e after.last (λ q. own_items q later) (λ q. replicate (n q) Stop) end) (sym on.owner) after.stands;
      })
]

-- ---- the ranks of a script

-- where rank r ends by the items that it took
abbrev pub end_of_rank : Script → Header → (ℕ → List OwnerItem) → ℕ → Going
end_of_rank script header taken r = rank_end header (first_going header (calls_of script r)) (taken r)

pub cut_run : (script : Script) (header : Header) (file : List ℕ) (first later : List Arrival) (taken : ℕ → List OwnerItem) (n : ℕ → ℕ) → is_sound header ≡ true
    → length script.calls ≡ script.ranks → (run_of script header file first).stranger ≡ None → HasOffered script header (first ++ later) taken
    → ((r : ℕ) → r < script.ranks → offers_in (own_items r (first ++ later)) ≤ length (taken r))
    → ((r : ℕ) → r < script.ranks → Begins (taken r) (given_along (setting_of script header) (opening_owner script header file) first r ++ replicate (n r) Stop))
    → Ran (setting_of script header) (opening_owner script header file) (map (first_going header) script.calls) first later n (end_of_rank script header taken)
cut_run script header file first later taken n sound long none offered enough came =
    ran (setting_of script header) first later (opening_owner script header file) (map (first_going header) script.calls) n (end_of_rank script header taken) none
    (ap (λ (k : ℕ). list_all (λ (a : Arrival). nat_lt a.0 k) first) (length-replicate (length script.calls) free_client ∙ long)
    ∙ and_first (list_all (λ (a : Arrival). nat_lt a.0 script.ranks) first) _ (sym (list_all-append (λ (a : Arrival). nat_lt a.0 script.ranks) first later) ∙ offered.numbers))
    (record {
      long = length-replicate (length script.calls) free_client ∙ sym (length-map script.calls (first_going header));
      paired_at = λ q x g a b.
          let own = mapped_entry (first_going header) script.calls q g b in
          let low : q < script.ranks = (let l = slice_get_within script.calls q own.0 own.1.0 in omega arith) in
          let its : calls_of script q ≡ own.0 = ap (λ (m : Option (List Call)). elim m [ None ↦ [] | Some cs ↦ cs ]) own.1.0 in
          subst (λ (p : Client × Going). IsPaired header p.0 p.1 (own_items q (first ++ later)) (given_along (setting_of script header) (opening_owner script header file) first q ++ replicate (n q) Stop) (end_of_rank script header taken q))
          (λ i. (sym (entry_replicate (length script.calls) q free_client x a) i, own.1.1 i)) (record {
            back = taken q;
            begins = came q low;
            stream = offered.each q own.0 own.1.0;
            waits = λ o f. let never : None ≡ Some o = f in absurd cc;
            enough = let k = enough q low in omega arith;
            ends = ap (λ (cs : List Call). rank_end header (first_going header cs) (taken q)) (sym its);
          });
      held = λ q x o a h. let free = entry_replicate (length script.calls) q free_client x a in let none : x.held ≡ None = ap (λ (y : Client). y.held) free in absurd cc;
      counted = omega arith;
      small = sound_small header sound;
    })
