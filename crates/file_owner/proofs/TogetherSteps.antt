-- The meeting of what is held, as the disk, the order and the lines show it.
use Rattle.file_owner.proofs.Words.{◌≡◌, ℕ, zero, suc, ◌+◌, ◌≤◌, refl, sym, ◌∙◌, ap, subst, List, [], ◌∷◌, ◌++◌, length, map, max, Option, Some, arith, flat_map, IfSome, enumerate_from, Pair, Batch, Hints, Meet, Offer, after, with_end, freed, needed_now, offers_held, to_each, Counted, Setting, after_puts, get_post, meeting, puts_of, told, wanted, counted, puts_in, AreAlike, replies, Grows, HoldSingle, IsTogether, Standing, reply_of, batches_of, known_of, met, met_calls, IsOneRise, gots_long, met_calls_are, met_is, puts_same, replies_are, if_some_at, map_map, raised_records, nat_tests, some_each}
use Rattle.nc_base.specs.declared.step.Reply as reply
use Rattle.file_owner.proofs.HeldLaws.{freed_none}

abbrev lens : List (List ℕ) → List ℕ
lens blobs = map (λ blob. length blob) blobs

-- ---- the replies

reply_made : Setting → Option Pair → Counted → Offer → reply.Reply
reply_made s pair next o = record { pair = pair; records = next.records; got = map (get_post s next.file) o.batch.gets }

each_alike : (s : Setting) (pair same : Option Pair) (n : ℕ) (next : Counted) (table : List (List (List ℕ))) (offers : List Offer) (q : ℕ) → pair ≡ same → n ≡ next.records
    → map lens table ≡ map (λ (o : Offer). map (wanted s.header) o.batch.gets) offers → AreAlike (replies pair n table q) (to_each (map (reply_made s same next) offers) q)
unfolding reply_made
each_alike s pair same n next [] [] q e f g = tt
each_alike s pair same n next [] (o ∷ offers) q e f g = absurd cc
each_alike s pair same n next (blobs ∷ table) [] q e f g = absurd cc
each_alike s pair same n next (blobs ∷ table) (o ∷ offers) zero e f g = grind (arith, nat_tests, gots_long)
each_alike s pair same n next (blobs ∷ table) (o ∷ offers) (suc q) e f g = grind (arith, nat_tests, each_alike s pair same n next table offers q e f)

replies_each : (pair : Option Pair) (n : ℕ) (table : List (List (List ℕ))) (q : ℕ) → replies pair n table q ≡ to_each (map (reply_of pair n) table) q
replies_each pair n (blobs ∷ table) (suc q) = replies_each pair n table q
replies_each pair n _ _ = refl

-- ---- the meeting

-- what the meeting of what is held came to
pub record Came (s : Setting) (hints : Hints) (b n : Standing) (batches : List Batch) (known : ℕ) (pair : Option Pair) (table : List (List (List ℕ))) : Type 0 where
  pub batches_are : batches ≡ batches_of (offers_held b.clients)
  pub known_is : known ≡ known_of (offers_held b.clients)
  pub known_low : known_of (offers_held b.clients) ≤ b.reached
  pub below : b.records ≤ b.reached
  pub pair_is : pair ≡ told s (puts_in batches)
  pub records : n.records ≡ max b.records (max (needed_now s (puts_in batches)) known)
  pub bytes : n.told ≡ after (λ file. (met s batches known (counted file b.records)).file) b.told
  pub got : IfSome n.told (λ file. table ≡ map (λ b. map (get_post s file) b.gets) batches)
  pub fits : map lens table ≡ map (λ b. map (wanted s.header) b.gets) batches
  pub calls : IsOneRise known batches → IfSome b.told (λ file. n.calls ≡ with_end b.calls (met_calls hints s batches known (counted file b.records)))
  pub once : HoldSingle b.clients → IsOneRise (known_of (offers_held b.clients)) (batches_of (offers_held b.clients))
  pub order : n.order ≡ b.order ++ Meet b.met ∷ []
  pub heard : n.heard ≡ with_end b.heard ((Meet b.met, n.records) ∷ [])
  pub clients : n.clients ≡ map freed b.clients
  pub met_more : n.met ≡ b.met + 1
  pub reached : n.reached ≡ max b.reached n.records
  pub lines : Grows b.lines (replies pair n.records table) n.lines

pub together : (s : Setting) (hints : Hints) (b n : Standing) (batches : List Batch) (known : ℕ) (pair : Option Pair) (table : List (List (List ℕ)))
    → Came s hints b n batches known pair table → IsTogether hints s b n
unfolding reply_made
together s hints b n batches known pair table h =
    let offers = offers_held b.clients in
    let fits : map lens table ≡ map (λ (o : Offer). map (wanted s.header) o.batch.gets) (offers_held b.clients) = grind (arith, nat_tests, map_map) in
    let puts_are : flat_map puts_of (enumerate_from 0 (offers_held b.clients)) ≡ puts_in batches = puts_same 0 (offers_held b.clients) ∙ ap puts_in (sym h.batches_are) in
    let reached_is : max b.reached (needed_now s (flat_map puts_of (enumerate_from 0 (offers_held b.clients)))) ≡ n.reached = grind (arith, nat_tests, puts_are) in
    let met_more = h.met_more in
    let met_is_more : suc b.met ≡ n.met = omega arith in
    let met_at = λ (file : List ℕ). met_is s (offers_held b.clients) batches known (counted file b.records) h.batches_are h.known_is in
    let count_of : (file : List ℕ) → n.records ≡ (met s batches known (counted file b.records)).records =
    λ file. h.records ∙ sym (raised_records s (counted (after_puts s (puts_in batches) (told s (puts_in batches)) file) b.records) (max (needed_now s (puts_in batches)) known)) in
    let count : (file : List ℕ) → (meeting s (offers_held b.clients) (counted file b.records)).0.records ≡ n.records = λ file. ap (λ (c : Counted). c.records) (met_at file) ∙ sym (count_of file) in
    record {
      more = replies pair n.records table;
      lines = h.lines;
      alike = λ file. record {
        owner = λ i. record { clients = sym h.clients i; met = met_is_more i; state = counted (meeting s offers (counted file b.records)).0.file (count file i); reached = reached_is i };
        marks = h.order;
        heard = h.heard ∙ ap (λ (k : ℕ). with_end b.heard ((Meet b.met, k) ∷ [])) (sym (count file));
        given = λ q l.
            each_alike s pair (told s (flat_map puts_of (enumerate_from 0 offers))) n.records (meeting s offers (counted file b.records)).0 table offers q (h.pair_is ∙ ap (told s) (sym puts_are)) (sym (count file)) fits;
      };
      exact = some_each b.told (λ file e.
          let left = h.bytes ∙ ap (after (λ file. (met s batches known (counted file b.records)).file)) e in
          let got = if_some_at (λ x. table ≡ map (λ b. map (get_post s x) b.gets) batches) n.told (met s batches known (counted file b.records)).file left h.got in
          let all = replies_are s (offers_held b.clients) batches known n.records (counted file b.records) pair table h.batches_are h.known_is h.pair_is (count_of file) got in
          record {
            told = left ∙ ap (λ (d : Counted). Some d.file) (sym (met_at file));
            given = λ q l. replies_each pair n.records table q ∙ ap (λ (ys : List reply.Reply). to_each ys q) (sym all);
            calls = λ alone.
                if_some_at (λ x. n.calls ≡ with_end b.calls (met_calls hints s batches known (counted x b.records))) b.told file e (h.calls
                (subst (λ (k : ℕ). IsOneRise k batches) (sym h.known_is) (subst (λ (bs : List Batch). IsOneRise (known_of (offers_held b.clients)) bs) (sym h.batches_are) (h.once alone))))
                ∙ ap (with_end b.calls) (sym (met_calls_are hints s (offers_held b.clients) batches known (counted file b.records) h.batches_are h.known_is));
          });
      single = grind (arith, nat_tests, freed_none);
    }
