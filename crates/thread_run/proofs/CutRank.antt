-- One rank, of whose items the owner saw a beginning.
use Rattle.thread_run.proofs.Words.{length-append, ◌≡◌, ℕ, zero, suc, ◌+◌, ◌≤◌, refl, sym, ◌∙◌, ap, inl, inr, List, [], ◌∷◌, ◌++◌, length, replicate, Bool, true, false, Option, Some, None, arith, Header, Offer, OwnerItem, Reply, Stop, RankItem, Client, offers_in, is_offer, end_by, fits_offer, offered_by, waiting, waiting_end, Going, advance, hears, Begins, IsBeginning, ends_once, client_end, to_come, waiting_end_reply, waiting_reply, one_if, nat_tests}
use Rattle.nc_base.specs.declared.step.RankItem.TheVariants as item
use Rattle.std.proofs.lemmas.Grind.{common_steps}
use Rattle.nc_base.specs.declared.step.Reply as reply

-- ---- a beginning of what a rank puts

begin_first : (i j : RankItem) (items whole : List RankItem) → is_offer i ≡ true → IsBeginning (i ∷ items) (j ∷ whole) → (i ≡ j) × IsBeginning items whole
begin_first i j items whole h ([], m, inl e) = absurd cc
begin_first i j items whole h ([], m, inr e) = grind (arith, nat_tests)
begin_first i j items whole h (f ∷ front, (more, m), e) = grind (arith, nat_tests)

begin_offer : (header : Header) (p : Going × Option Offer) (back : List OwnerItem) (c : ℕ) (o : Offer) (items : List RankItem) → IsBeginning (item.Offer c o ∷ items) (offered_by header p back)
    → (p.1 ≡ Some o) × IsBeginning items (waiting header p.0 o back)
begin_offer header (g, None) back c o items b = grind (arith, nat_tests, begin_first (item.Offer c o) (item.Ended false) items [] refl b)
begin_offer header (g, Some p) back c o items b =
    grind (arith, nat_tests, begin_first (item.Offer c o) (item.Offer (length g.answers) p) items (waiting header g p back) refl b)

nothing_left : (front more : List RankItem) → front ++ more ≡ [] → front ≡ []
nothing_left front more e = grind (arith, common_steps, length-append front more)

-- its end is the last that it puts
pub begin_ended : (header : Header) (held : Option Offer) (g : Going) (back : List OwnerItem) (m : Bool) (items : List RankItem) → IsBeginning (item.Ended m ∷ items) (to_come header held g back)
    → IsBeginning items (to_come header held g back)
begin_ended header held g back m items ([], b, inl e) = absurd cc
begin_ended header held g back m items ([], b, inr e) = let a : items ≡ [] = cc in ([], (to_come header held g back, refl), inl a)
begin_ended header held g back m items (f ∷ front, (more, b), e) = grind (arith, nat_tests, nothing_left, ends_once)

-- ---- one rank

-- what it still puts, by what it takes of these items, and where it ends
pub record IsPaired (header : Header) (x : Client) (g : Going) (items : List RankItem) (given : List OwnerItem) (end : Going) : Type 0 where
  pub back : List OwnerItem
  pub begins : Begins back given
  pub stream : IsBeginning items (to_come header x.held g back)
  pub waits : (o : Offer) → x.held ≡ Some o → (advance header g).1 ≡ Some o
  pub enough : one_if x.held + offers_in items ≤ length back
  pub ends : client_end header x.held g back ≡ end

pub record Waits (header : Header) (t : Going) (o : Offer) (items : List RankItem) (given : List OwnerItem) (end : Going) : Type 0 where
  pub back : List OwnerItem
  pub begins : Begins back given
  pub stream : IsBeginning items (waiting header t o back)
  pub enough : suc (offers_in items) ≤ length back
  pub ends : waiting_end header t o back ≡ end

-- an offer of it arrives
pub offered_now : (header : Header) (x : Client) (g : Going) (c : ℕ) (o : Offer) (items : List RankItem) (given : List OwnerItem) (end : Going) → x.held ≡ None
    → IsPaired header x g (item.Offer c o ∷ items) given end → ((advance header g).1 ≡ Some o) × Waits header (advance header g).0 o items given end
offered_now header x g c o items given end free t = grind (arith, nat_tests, begin_offer header (advance header g) t.back c o items)

pub held_now : (header : Header) (x : Client) (g : Going) (o : Offer) (items : List RankItem) (given : List OwnerItem) (end : Going) → x.held ≡ Some o → IsPaired header x g items given end
    → Waits header (advance header g).0 o items given end
held_now header x g o items given end held t = grind (arith, nat_tests)

pub hold_it : (header : Header) (x : Client) (g : Going) (o : Offer) (items : List RankItem) (given : List OwnerItem) (end : Going) → x.held ≡ Some o → (advance header g).1 ≡ Some o
    → Waits header (advance header g).0 o items given end → IsPaired header x g items given end
hold_it header x g o items given end held next t = grind (arith, nat_tests)

-- it takes its reply
pub heard_now : (header : Header) (x : Client) (t : Going) (o : Offer) (y : reply.Reply) (items : List RankItem) (more : List OwnerItem) (end : Going) → x.held ≡ None → fits_offer header o y ≡ true
    → Waits header t o items (Reply y ∷ more) end → IsPaired header x (hears header t y) items more end
heard_now header x t o y items more end free fits w = by_back w.back w.begins w.stream w.enough w.ends
  where
    by_back : (back : List OwnerItem) → Begins back (Reply y ∷ more) → IsBeginning items (waiting header t o back) → suc (offers_in items) ≤ length back → waiting_end header t o back ≡ end
        → IsPaired header x (hears header t y) items more end
    by_back [] b i n e = absurd (omega arith)
    by_back (z ∷ back) (left, b) i n e = grind (arith, nat_tests, waiting_reply, waiting_end_reply)

pub sits_as : (header : Header) (x y : Client) (g : Going) (items same : List RankItem) (given more : List OwnerItem) (end : Going) → x.held ≡ y.held → items ≡ same → given ≡ more
    → IsPaired header x g items given end → IsPaired header y g same more end
sits_as header x y g items same given more end h e f t = grind (arith, nat_tests)

-- where no reply is left, it ended where it goes up to
pub last_end : (header : Header) (x : Client) (g : Going) (items : List RankItem) (n : ℕ) (end : Going) → IsPaired header x g items (replicate n Stop) end → (advance header g).0 ≡ end
last_end header x g items n end t = sym (by_held x.held) ∙ t.ends
  where
    waits_still : (back : List OwnerItem) (k : ℕ) → Begins back (replicate k Stop) → (h : Going) (o : Offer) → waiting_end header h o back ≡ h
    waits_still [] k b h o = refl
    waits_still (z ∷ back) zero (left, b) h o = absurd cc
    waits_still (z ∷ back) (suc k) (left, b) h o = let first : z ≡ Stop = cc in ap (λ (u : OwnerItem). waiting_end header h o (u ∷ back)) first

    by_next : (p : Going × Option Offer) → end_by header p t.back ≡ p.0
    by_next (h, None) = refl
    by_next (h, Some o) = waits_still t.back n t.begins h o

    by_held : (m : Option Offer) → client_end header m g t.back ≡ (advance header g).0
    by_held None = by_next (advance header g)
    by_held (Some o) = waits_still t.back n t.begins (advance header g).0 o
