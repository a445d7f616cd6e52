-- How the rank of a runner goes on.
use Rattle.turn_run.proofs.Words.{◌≡◌, ℕ, suc, ◌+◌, ◌^◌, ◌<◌, ◌≤◌, refl, sym, ◌∙◌, ap, subst, List, [], ◌∷◌, ◌++◌, length, drop, get_or, Option, Some, None, append_assoc, arith, append-nil, slice_get, filter, Header, Call, Answer, Script, Mark, Offer, OfferKind, Reply, Want, concerns, marks, most_parts, step, hear, Going, go, advance, hears, posts_held, answered, IsOnWay, AsksAlone, posts_offered, IsSoundWant, meets_keeps, says_at, solo_keeps, comes_on, comes_to_meeting, comes_to_solo, way_answers, way_meets, way_solo, IsAsked, asking, between, HasHeard, IsPlaced, IsPlacedWith, Runner, meets_quiet, drop_at, entry_read, said_at, inl, inr, ◌⊎◌, nat_tests, common_steps}
use Rattle.nc_base.specs.declared.step.Mark.TheVariants as mark
use Rattle.nc_base.specs.declared.step.OfferKind.TheVariants as offer
use Rattle.nc_base.specs.declared.step.Want.TheVariants as want
use Rattle.serial_spec.specs.RankMachine as machine

-- between two calls, by the state and the answers
abbrev pub at : List Call → machine.Rank → List Answer → Going
at own rank answers = record { rank = rank; answers = answers; calls = drop (length answers) own }

-- at a call that is begun
abbrev pub at_call : List Call → machine.Rank → List Answer → Going
at_call own rank answers = record { rank = rank; answers = answers; calls = drop (suc (length answers)) own }

pub answered_is : (own : List Call) (rank next : machine.Rank) (answers more : List Answer) (a : Answer) → more ≡ answers ++ a ∷ []
    → answered (at own rank answers) next a (drop (suc (length answers)) own) ≡ at own next more
answered_is own rank next answers more a e = grind (arith, common_steps)

pub way_on : (script : Script) (order : List Mark) (r : ℕ) (header : Header) (own : List Call) (rank next : machine.Rank) (answers more : List Answer) (a : Answer) (c : Call)
    → IsOnWay script order r (at own rank answers) None → slice_get own (length answers) ≡ Some c → (next, want.Answered a) ≡ step header rank c
    → posts_held next ≤ posts_held rank + most_parts → more ≡ answers ++ a ∷ [] → IsOnWay script order r (at own next more) None
way_on script order r header own rank next answers more a c w g e p m = subst (λ (s : Going). IsOnWay script order r s None) (answered_is own rank next answers more a m)
    (way_answers script order r header (at own rank answers) next a c (drop (suc (length answers)) own) w (drop_at own (length answers) c g) e p)

pub advance_on : (header : Header) (own : List Call) (rank next : machine.Rank) (answers more : List Answer) (a : Answer) (c : Call) → slice_get own (length answers) ≡ Some c
    → (next, want.Answered a) ≡ step header rank c → more ≡ answers ++ a ∷ [] → advance header (at own rank answers) ≡ advance header (at own next more)
advance_on header own rank next answers more a c g e m =
    sym (comes_on header (at own rank answers) (at own rank answers) next a c (drop (suc (length answers)) own) refl (drop_at own (length answers) c g) e)
    ∙ ap (advance header) (answered_is own rank next answers more a m)

-- a rank that goes on adds to its answers
pub answers_begin : (header : Header) (rank : machine.Rank) (answers : List Answer) (calls : List Call) → (rest : List Answer) × (answers ++ rest ≡ (go header rank answers calls).0.answers)
answers_begin header rank answers [] = ([], append-nil answers)
answers_begin header rank answers (c ∷ calls) = by (step header rank c) (λ r more. answers_begin header r more calls)
  where
    by : (next : machine.Rank × Want) → ((r : machine.Rank) (more : List Answer) → (rest : List Answer) × (more ++ rest ≡ (go header r more calls).0.answers))
        → (rest : List Answer) × (answers ++ rest ≡ (elim next.1 as (λ (x : Want). Going × Option Offer) [ want.Answered a ↦ go header next.0 (answers ++ a ∷ []) calls | want.Meet p ↦ (record { rank = next.0; answers = answers; calls = calls }, Some p) | want.Solo p ↦ (record { rank = next.0; answers = answers; calls = calls }, Some p) ]).0.answers)
    by (r, want.Answered a) again = let e = again r (answers ++ a ∷ []) in (a ∷ e.0, sym (append_assoc answers (a ∷ []) e.0) ∙ e.1)
    by (r, want.Meet p) again = ([], append-nil answers)
    by (r, want.Solo p) again = ([], append-nil answers)

-- so the answers that it has begin those that it comes to
pub answers_on_way : (header : Header) (from : Going × Option Offer) (own : List Call) (rank : machine.Rank) (answers now : List Answer) → from ≡ advance header (at own rank answers) → now ≡ answers
    → (rest : List Answer) × (now ++ rest ≡ from.0.answers)
answers_on_way header from own rank answers now e f =
    let b = answers_begin header rank answers (drop (length answers) own) in
    (b.0, ap (λ (as' : List Answer). as' ++ b.0) f ∙ b.1 ∙ sym (ap (λ (a : Going × Option Offer). a.0.answers) e))

-- the call that is next
pub next_call : (own : List Call) (answers : List Answer) (n : ℕ) (c : Call) → n ≡ length answers → n < length own → c ≡ get_or own n c → slice_get own (length answers) ≡ Some c
next_call own answers n c e l g = subst (λ (k : ℕ). slice_get own k ≡ Some c) e (entry_read own n c l g)

-- at the end of its calls it is where it has gone up to
pub advance_ended : (header : Header) (own : List Call) (rank : machine.Rank) (answers : List Answer) → drop (length answers) own ≡ []
    → advance header (at own rank answers) ≡ (at own rank answers, None)
advance_ended header own rank answers e = grind (arith, nat_tests)

-- ---- what it hears

pub heard_runner : (header : Header) (own : List Call) (before now : Runner) (reply : Reply) → before.rank.header ≡ header → HasHeard before now reply
    → between own now ≡ hears header (asking own before) reply
heard_runner header own before now reply e h =
    grind (arith, nat_tests, answered_is own before.rank.state now.rank.state before.answers now.answers h.answer h.answers)

-- it is on its way after a solo step
pub alone_heard : (script : Script) (header : Header) (order : List Mark) (r : ℕ) (own : List Call) (before now : Runner) (o : Offer) (reply : Reply) → before.rank.header ≡ header
    → AsksAlone script header order r (asking own before) o → HasHeard before now reply
    → IsOnWay script (order ++ mark.Solo r (length before.answers) ∷ []) r (between own now) None
alone_heard script header order r own before now o reply e asks h =
    let said : (now.rank.state, h.answer) ≡ hear header before.rank.state reply = h.heard ∙ ap (λ (k : Header). hear k before.rank.state reply) e in
    subst (λ (s : Going). IsOnWay script (order ++ mark.Solo r (length before.answers) ∷ []) r s None) (answered_is own asks.before now.rank.state _ _ _ h.answers)
    (way_solo _ _ _ _ _ _ _ _ _ _ _ (drop (suc (length before.answers)) own) asks.way refl asks.step asks.few said)

-- ---- the marks of its calls

abbrev pub HasRest : Script → List Mark → ℕ → Type 0
HasRest script order r = (rest : List Mark) × (filter (concerns r) order ++ rest ≡ marks script.calls r)

pub way_rest : (script : Script) (order : List Mark) (r : ℕ) (s : Going) (held : Option Offer) → IsOnWay script order r s held → HasRest script order r
way_rest script order r s held w = (_, w.marks)

pub alone_rest : (script : Script) (header : Header) (order : List Mark) (r : ℕ) (s : Going) (o : Offer) → AsksAlone script header order r s o → HasRest script order r
alone_rest script header order r s o asks = way_rest script order r _ None asks.way

-- also where the step is done and its reply was not heard
pub alone_done : (script : Script) (header : Header) (order : List Mark) (r : ℕ) (s : Going) (o : Offer) (reply : Reply) → AsksAlone script header order r s o
    → HasRest script (order ++ mark.Solo r (length s.answers) ∷ []) r
alone_done script header order r s o reply asks =
    let said = hear header s.rank reply in
    way_rest _ _ _ _ _ (way_solo _ _ _ _ _ _ said.0 _ reply said.1 _ s.calls asks.way refl asks.step asks.few refl)

pub placed_rest : (script : Script) (header : Header) (order : List Mark) (r : ℕ) (s : Going) (held : Option Offer) → IsPlaced script header order r s held → HasRest script order r
placed_rest script header order r s None w = way_rest script order r s None w
placed_rest script header order r s (Some o) w = grind (arith, nat_tests, alone_rest, way_rest, HasRest)

-- ---- the offer that the rank makes at its next call

pub record MakesOffer (script : Script) (header : Header) (r : ℕ) (own : List Call) (rank next : machine.Rank) (answers : List Answer) (o : Offer) : Type 0 where
  pub known : next.known ≡ rank.known
  pub asked : IsAsked header next.known o
  pub placed : (order : List Mark) → IsOnWay script order r (at own rank answers) None → IsPlaced script header order r (at_call own next answers) (Some o)
  pub advanced : advance header (at own rank answers) ≡ (at_call own next answers, Some o)

-- a sound want, at what it is
sound_at : (header same : Header) (w v : Want) → same ≡ header → w ≡ v → IsSoundWant same w → IsSoundWant header v
sound_at header same w v e f h = subst (λ (k : Header). IsSoundWant k v) e (subst (λ (x : Want). IsSoundWant same x) f h)

few_at : (w v : Want) (held : ℕ) → w ≡ v → posts_offered w ≤ held + most_parts → held + most_parts ≤ 2 ^ 30 → posts_offered v ≤ 2 ^ 30
few_at w v held e h l = grind (arith, nat_tests)

pub makes_offer : (script : Script) (header same : Header) (r : ℕ) (own : List Call) (rank next : machine.Rank) (answers : List Answer) (o : Offer) (c : Call) (w : Want) → same ≡ header
    → (next, w) ≡ step same rank c → slice_get own (length answers) ≡ Some c → posts_held next ≤ posts_held rank + most_parts → IsSoundWant same w → posts_offered w ≤ posts_held rank + most_parts
    → posts_held rank + most_parts ≤ 2 ^ 30 → (w ≡ want.Meet o) ⊎ (w ≡ want.Solo o) → MakesOffer script header r own rank next answers o
makes_offer script header same r own rank next answers o c w e said g posts sound few room (inl is) =
    let step = said_at header same rank next c w (want.Meet o) e said is in let kept = meets_keeps header rank next c o step in
    let says = says_at header rank c (next, want.Meet o) step in let rest = drop (suc (length answers)) own in
    record {
      known = kept.0;
      asked = grind (arith, nat_tests, sound_at, few_at, meets_quiet, step, kept.1.0, kept.0);
      placed = λ order way. subst (λ (k : OfferKind). IsPlacedWith script header order r (at_call own next answers, o) k) (sym says.meets)
          (way_meets script order r header (at own rank answers) next o c rest way (drop_at own (length answers) c g) step posts);
      advanced = comes_to_meeting header (at own rank answers) (at own rank answers) next o c rest refl (drop_at own (length answers) c g) step;
    }
makes_offer script header same r own rank next answers o c w e said g posts sound few room (inr is) =
    let step = said_at header same rank next c w (want.Solo o) e said is in let kept = solo_keeps header rank next c o step in
    let says = says_at header rank c (next, want.Solo o) step in let rest = drop (suc (length answers)) own in
    let fits = sound_at header same w (want.Solo o) e is sound in let less = few_at w (want.Solo o) (posts_held rank) is few room in
    grind (arith, nat_tests, step, kept, says, fits, less, drop_at own (length answers) c g, comes_to_solo header (at own rank answers) (at own rank answers) next o c rest)
