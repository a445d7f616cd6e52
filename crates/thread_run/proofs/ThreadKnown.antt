-- The counts that the ranks know at their ends are such that the header can have.
use Rattle.thread_run.proofs.Words.{◌≤◌, ◌≡◌, ℕ, ◌^◌, ◌<◌, refl, sym, ◌∙◌, subst, List, length, max, set, true, false, Some, None, arith, nat_tests, length-set, slice_get, flat_map, enumerate_from, list_all, same_Some, or_first_false, or_second_false, Header, Post, MeetKind, Offer, RankItem, Owner, Client, holds, needed_now, offers_held, refused, served, strange_offer, Setting, puts_of, header_len, is_sound, Arrival, end_of, needed, Going, advance, sound_end, put_needed, bad_put, passes_accepted, Stands, served_on, offer_at, offers_long, Lasting, client_held, one_held, entry_beside, along, by_event, does_meeting, does_solo, event, is_offer, strange_alone, IsKept, meeting_kept, solo_kept}
use Rattle.nc_base.specs.declared.request.Direction.TheVariants as way
use Rattle.nc_base.specs.declared.step.RankItem.TheVariants as item
use Rattle.file_owner.proofs.StrangeLaws.{whole_length}
use Rattle.thread_run.proofs.ThreadCalls.{held_next}

-- ---- counts whose file does not end too far

module _ (header : Header) (sound : is_sound header ≡ true) where
  unfoldable pub EndsNear : ℕ → Type 0
  EndsNear n = end_of header (header_len header) n < 2 ^ 62

  pub near_first : (n : ℕ) → n ≤ header.records → EndsNear n
  unfolding EndsNear
  near_first n l = sound_end header n sound l

  near_max : (a b : ℕ) → EndsNear a → EndsNear b → EndsNear (max a b)
  near_max a b h k = grind (arith, nat_tests)

  near_post : (known : ℕ) (post : Post) → bad_put header known post ≡ false → EndsNear (needed header post)
  unfolding EndsNear
  near_post known post h = grind (arith, nat_tests, put_needed, passes_accepted, or_first_false, whole_length, or_second_false, refused, EndsNear)

  near_kept : IsKept header EndsNear
  near_kept = record { none = near_first 0 (omega arith); most = near_max; post = near_post }

-- ---- what an arrival brings

module _ (s : Setting) (sound : is_sound s.header ≡ true) (d : Owner) (goings : List Going) (r : ℕ) (x : Client) (g : Going)
    (at_client : slice_get d.clients r ≡ Some x) (at_going : slice_get goings r ≡ Some g) (long : length d.clients ≡ length goings)
    (fits : (q : ℕ) (g' : Going) (o : Offer) → slice_get goings q ≡ Some g' → (advance s.header g').1 ≡ Some o → strange_offer s.header d.reached (Some o) ≡ false)
    (waits : (q : ℕ) (x' : Client) (g' : Going) (o : Offer) → slice_get d.clients q ≡ Some x' → slice_get goings q ≡ Some g' → x'.held ≡ Some o → (advance s.header g').1 ≡ Some o)
    (near : EndsNear s.header sound d.reached) where
  near_meets : (o : Offer) → (advance s.header g).1 ≡ Some o → list_all holds (set d.clients r (client_held x o)) ≡ true
      → EndsNear s.header sound (does_meeting s d (set d.clients r (client_held x o))).owner.reached
  near_meets o e h =
      near_max s.header sound d.reached (needed_now s (flat_map puts_of (enumerate_from 0 (offers_held (set d.clients r (client_held x o)))))) near
      (meeting_kept s (EndsNear s.header sound) (near_kept s.header sound) d.reached (offers_held (set d.clients r (client_held x o))) (λ q o' a.
      let y = entry_beside (offers_held (set d.clients r (client_held x o))) (set d.clients r (client_held x o)) q o' (offers_long (set d.clients r (client_held x o)) h) a in
      let z = entry_beside (set d.clients r (client_held x o)) goings q y.0 (length-set d.clients r (client_held x o) ∙ long) y.1 in
      let w = one_held (set d.clients r (client_held x o)) q y.0 h y.1 in
      let same : w.0 ≡ o' = same_Some w.0 o' (sym (offer_at (set d.clients r (client_held x o)) q y.0 w.0 h y.1 w.1) ∙ a) in
      subst (λ (p : Offer). strange_offer s.header d.reached (Some p) ≡ false) same (fits q z.0 w.0 z.1 (held_next s d goings r x g o at_going e waits q y.0 z.0 w.0 y.1 z.1 w.1))))

  near_solo : (c : ℕ) (o : Offer) → (advance s.header g).1 ≡ Some o → EndsNear s.header sound (does_solo s d r c o).owner.reached
  near_solo c o e =
      near_max s.header sound d.reached (needed_now s (puts_of (r, o))) near (solo_kept s (EndsNear s.header sound) (near_kept s.header sound) r d.reached o (fits r g o at_going e))

  near_event : (i : RankItem) → (is_offer i ≡ true → x.held ≡ None) → ((c : ℕ) (o : Offer) → i ≡ item.Offer c o → (advance s.header g).1 ≡ Some o) → EndsNear s.header sound (event s d (r, i)).owner.reached
  near_event =
      by_event s d r x at_client (λ i e. ((c : ℕ) (o : Offer) → i ≡ item.Offer c o → (advance s.header g).1 ≡ Some o) → EndsNear s.header sound e.owner.reached) (λ m f. near)
      (λ c o free k f. near_solo c o (f c o refl)) (λ c o kind free k some f. near) (λ c o kind free k all f. near_meets o (f c o refl) all)

-- ---- along all arrivals

pub near_along : (s : Setting) (sound : is_sound s.header ≡ true) (Good : ℕ → Going → Type 0) (lasting : Lasting s.header Good) (ks : List MeetKind) (d : Owner) (goings : List Going) (arrivals : List Arrival)
    → Stands s Good ks d goings arrivals → EndsNear s.header sound d.reached → EndsNear s.header sound (served s d arrivals).owner.reached
near_along s sound Good lasting =
    along s Good lasting (λ d goings arrivals. EndsNear s.header sound d.reached → EndsNear s.header sound (served s d arrivals).owner.reached) (λ ks d goings t near. near) (λ ks d goings r i rest t o later near.
    let fits : (q : ℕ) (g : Going) (p : Offer) → slice_get goings q ≡ Some g → (advance s.header g).1 ≡ Some p → strange_offer s.header d.reached (Some p) ≡ false = λ q g p b e.
    let y = entry_beside goings d.clients q g (sym t.paired.long) b in lasting.fits d.reached g p (t.paired.paired_at q y.0 g y.1 b).good e in
    let here = near_event s sound d goings r o.client o.going o.at_client o.at_going t.paired.long fits (λ q x g p a b w. ((t.paired.paired_at q x g a b).waits p w).0) near i
    (strange_alone s d r i o.client o.at_client o.not_strange) o.offers in
    subst (λ (z : Owner). EndsNear s.header sound z.reached) (sym (served_on s d (r, i) rest o.not_strange).owner) (later here))
