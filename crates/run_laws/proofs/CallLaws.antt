-- One call of a rank: its mode, its kind, its mark, its offer and its requests.
use Rattle.run_laws.proofs.Words.{◌≡◌, ℕ, refl, sym, subst, List, [], ◌∷◌, ◌++◌, map, Bool, true, false, not, ◌&&◌, max, Option, Some, None, ◌==◌, if◌then◌else◌, is_none, is_some, IfSome, and-false, value_of_some, Header, Call, Answer, Batch, Post, Offer, OfferKind, MeetKind, Reply, Want, Rank, Open, Posted, Gone, step, hear, status_of, is_chosen, named, without_chosen, is_collective, is_data, mode_after, kind_of_call, id_posted, arith, nat_tests, Choice, either}
use Rattle.nc_base.specs.declared.request.Call.TheVariants as call
use Rattle.nc_base.specs.declared.answer.Code.TheVariants as code
use Rattle.nc_base.specs.declared.step.OfferKind.TheVariants as offer
use Rattle.nc_base.specs.declared.step.MeetKind.TheVariants as meets
use Rattle.nc_base.specs.declared.step.Want.TheVariants as want

-- ---- the ids that were posted

abbrev pub is_free : List Posted → ℕ → Bool
is_free posted id = is_none (status_of posted id)

-- an id that the call does not post
abbrev pub is_other : Option ℕ → ℕ → Bool
is_other None id = true
is_other (Some n) id = not (n == id)

abbrev pub Frees : Rank → Call → Rank → Type 0
Frees r c r' = (id : ℕ) → is_other (id_posted c) id ≡ true → is_free r.posted id ≡ true → is_free r'.posted id ≡ true

free_after : (posted : List Posted) (p : Posted) (id : ℕ) → not (p.id == id) ≡ true → is_free posted id ≡ true → is_free (posted ++ p ∷ []) id ≡ true
free_after [] p id e h = grind (arith, nat_tests, not)
free_after (q ∷ posted) p id e h = grind (arith, nat_tests, free_after posted p id e)

free_gone : (c : Posted → Bool) (posted : List Posted) (id : ℕ) → is_free posted id ≡ true
    → is_free (map (λ p. if c p then record p { status = Gone } else p) posted) id ≡ true
free_gone c [] id h = refl
free_gone c (q ∷ posted) id h = grind (arith, nat_tests, free_gone c posted id)

-- ---- what a call does

pub record Alone (r : Rank) (c : Call) (r' : Rank) : Type 0 where
  pub mode : r'.independent ≡ r.independent
  pub known : r'.known ≡ r.known
  pub still : r'.«open» ≡ r.«open»
  pub solo : (r.independent && is_data c) ≡ false
  pub alone : is_collective c ≡ false
  pub kind : kind_of_call c ≡ None
  pub frees : Frees r c r'

pub record Asking (r : Rank) (c : Call) (r' : Rank) (o : Offer) : Type 0 where
  pub known : r'.known ≡ r.known
  pub told : o.known ≡ r.known
  pub open_with : Open
  pub is_open : r'.«open» ≡ Some open_with
  pub mode : open_with.independent ≡ mode_after r.independent c
  pub gets : open_with.gets ≡ o.batch.gets
  pub kept : r'.independent ≡ r.independent
  pub frees : Frees r c r'

pub record Meeting (r : Rank) (c : Call) (r' : Rank) (o : Offer) : Type 0 where
  pub asking : Asking r c r' o
  pub of_kind : MeetKind
  pub kind : kind_of_call c ≡ Some of_kind
  pub meets : o.kind ≡ offer.Meet of_kind
  pub together : is_collective c ≡ true

pub record AloneAsking (r : Rank) (c : Call) (r' : Rank) (o : Offer) : Type 0 where
  pub asking : Asking r c r' o
  pub kind : kind_of_call c ≡ None
  pub is_solo : o.kind ≡ offer.Solo
  pub alone : is_collective c ≡ false
  pub solo : (r.independent && is_data c) ≡ true

abbrev pub Says : Rank → Call → Rank × Want → Type 0
Says r c (r', want.Answered a) = Alone r c r'
Says r c (r', want.Meet o) = Meeting r c r' o
Says r c (r', want.Solo o) = AloneAsking r c r' o

answered_alone : (r : Rank) (c : Call) (r' : Rank) → r'.independent ≡ r.independent → r'.known ≡ r.known → r'.«open» ≡ r.«open» → is_data c ≡ false
    → is_collective c ≡ false → kind_of_call c ≡ None → Frees r c r' → Alone r c r'
answered_alone r c r' mode known still of_data alone kind frees = grind (arith, nat_tests, and-false)

meets_with : (r : Rank) (c : Call) (k : MeetKind) (b : Batch) (o : Open) → o.independent ≡ mode_after r.independent c → o.gets ≡ b.gets
    → kind_of_call c ≡ Some k → is_collective c ≡ true
    → Meeting r c (record r { «open» = Some o }) (record { kind = offer.Meet k; known = r.known; batch = b })
meets_with r c k b o e f kind together = grind (arith, nat_tests)

solo_with : (r : Rank) (c : Call) (b : Batch) (o : Open) → o.independent ≡ mode_after r.independent c → o.gets ≡ b.gets
    → kind_of_call c ≡ None → is_collective c ≡ false → is_data c ≡ true → r.independent ≡ true
    → AloneAsking r c (record r { «open» = Some o }) (record { kind = offer.Solo; known = r.known; batch = b })
solo_with r c b o e f kind alone of_data mode = grind (arith, nat_tests)

-- after those of the chosen are gone
gone_asks : (r : Rank) (c : Call) (choice : Choice) (k : OfferKind) (b : Batch) (o : Open) → o.independent ≡ mode_after r.independent c → o.gets ≡ b.gets
    → Asking r c (record (without_chosen r choice) { «open» = Some o }) (record { kind = k; known = r.known; batch = b })
gone_asks r c choice k b o e f = grind (arith, nat_tests, free_gone (is_chosen (named r choice)) r.posted, named r choice)

pub step_says : (header : Header) (r : Rank) (c : Call) → Says r c (step header r c)
step_says header r (call.Put t name given values) = grind (arith, nat_tests, either, meets_with, solo_with)
step_says header r (call.Get t name given) = grind (arith, nat_tests, either, meets_with, solo_with)
step_says header r (call.Post id kind name given values) =
    grind (arith, nat_tests, answered_alone r (call.Post id kind name given values) r, free_after)
step_says header r (call.Wait t choice) = grind (arith, nat_tests, meets_with r, gone_asks r (call.Wait t choice) choice)
step_says header r (call.Cancel choice) =
    grind (arith, nat_tests, answered_alone r (call.Cancel choice) (without_chosen r choice), free_gone (is_chosen (named r choice)) r.posted)
step_says header r c = grind (arith, nat_tests, either, answered_alone, meets_with)

-- what is known where the step is
pub says_at : (header : Header) (r : Rank) (c : Call) (p : Rank × Want) → p ≡ step header r c → Says r c p
says_at header r c p e = subst (λ (x : Rank × Want). Says r c x) (sym e) (step_says header r c)

-- ---- what is told of the offers

pub alone_keeps : (header : Header) (rank next : Rank) (c : Call) (a : Answer) → (next, want.Answered a) ≡ step header rank c
    → (next.known ≡ rank.known) × (next.«open» ≡ rank.«open»)
alone_keeps header rank next c a e = let w = says_at header rank c (next, want.Answered a) e in (w.known, w.still)

abbrev pub Keeps : Option Open → Offer → Type 0
Keeps m o = (is_some m ≡ true) × IfSome m (λ x. x.gets ≡ o.batch.gets)

pub meets_keeps : (header : Header) (rank next : Rank) (c : Call) (o : Offer) → (next, want.Meet o) ≡ step header rank c
    → (next.known ≡ rank.known) × ((o.known ≡ rank.known) × Keeps next.«open» o)
meets_keeps header rank next c o e = grind (arith, nat_tests, says_at header rank c (next, want.Meet o) e)

pub solo_keeps : (header : Header) (rank next : Rank) (c : Call) (o : Offer) → (next, want.Solo o) ≡ step header rank c
    → (o.kind ≡ offer.Solo) × ((next.known ≡ rank.known) × ((o.known ≡ rank.known) × Keeps next.«open» o))
solo_keeps header rank next c o e = grind (arith, nat_tests, says_at header rank c (next, want.Solo o) e)

-- ---- hearing

-- the rank after a reply that it waited for
pub record Heard (rank heard : Rank) (reply : Reply) (o : Open) : Type 0 where
  pub known : heard.known ≡ max rank.known reply.records
  pub closed : heard.«open» ≡ None
  pub posted : heard.posted ≡ rank.posted
  pub mode : heard.independent ≡ o.independent

pub heard_at : (header : Header) (rank heard : Rank) (reply : Reply) (a : Answer) (o : Open) → rank.«open» ≡ Some o → (heard, a) ≡ hear header rank reply
    → Heard rank heard reply o
heard_at header rank heard reply a o e f = grind (arith, nat_tests)

pub hears_keeps : (header : Header) (rank heard : Rank) (reply : Reply) (a : Answer) → is_some rank.«open» ≡ true → (heard, a) ≡ hear header rank reply
    → (heard.known ≡ max rank.known reply.records) × ((heard.«open» ≡ None) × (heard.posted ≡ rank.posted))
hears_keeps header rank heard reply a e f = grind (arith, nat_tests, value_of_some, heard_at)
