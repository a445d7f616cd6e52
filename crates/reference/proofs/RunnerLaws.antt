-- A rank that goes through its calls, up to its next offer or to its end.
use Rattle.reference.proofs.Words.{◌≡◌, ℕ, ◌+◌, ◌-◌, ◌<◌, ◌≤◌, sym, ◌∙◌, subst, inl, inr, ◌⊎◌, List, [], ◌∷◌, ◌++◌, length, take, drop, get_or, true, None, Some, arith, take_rest, Header, Answer, Call, Script, Mark, Offer, Want, is_lawful_call, most_parts, Going, advance, IsRight, IsSoundOffer, IsSoundWant, posts_held, answered, asking, IsOnWay, AsksAlone, alone_keeps, meets_keeps, solo_keeps, comes_on, comes_to_meeting, comes_to_solo, call_lawful, way_answers, way_meets, HasGone, MayGoOn, said_at, nat_tests, common_steps}
use Rattle.nc_base.specs.declared.step.Want.TheVariants as want
use Rattle.serial_spec.specs.RankMachine as machine

-- from s the rank has come to t by calls that it answers alone
pub record Comes (header : Header) (s t : Going) : Type 0 where
  pub known : t.rank.known ≡ s.rank.known
  pub ready : MayGoOn t
  pub kept : (script : Script) (order : List Mark) (r : ℕ) → IsOnWay script order r s None → IsOnWay script order r t None
  pub advanced : advance header t ≡ advance header s

-- the posts of a lawful call are few
abbrev pub KeepsFew : machine.Rank → machine.Rank → Call → Type 0
KeepsFew rank next c = (ranks r : ℕ) → is_lawful_call ranks r c ≡ true → posts_held next ≤ posts_held rank + most_parts

-- the calls that are left when the first of some is taken
pub first_call : (calls : List Call) (c : Call) → 1 ≤ length calls → c ≡ get_or calls 0 c → calls ≡ c ∷ take (length calls - 1) (drop 1 calls)
first_call calls c l e = grind (arith, nat_tests, take_rest, common_steps)

pub no_call : (calls : List Call) → length calls < 1 → calls ≡ []
no_call calls l = grind (arith, nat_tests, common_steps)

right_of : (header : Header) (o : Offer) → IsSoundOffer header o → IsRight header o
right_of header o sound = grind (arith, nat_tests)

-- ---- its next call

module _ (header same : Header) (s t : Going) (next : machine.Rank) (w : Want) (c : Call) (calls : List Call) (h : Comes header s t) (e : t.calls ≡ c ∷ calls) (as_one : same ≡ header)
    (step : (next, w) ≡ machine.step same t.rank c) (few : KeepsFew t.rank next c) where
  says : (v : Want) → w ≡ v → (next, v) ≡ machine.step header t.rank c
  says v is = said_at header same t.rank next c w v as_one step is

  still_few : (script : Script) (order : List Mark) (r : ℕ) → IsOnWay script order r t None → posts_held next ≤ posts_held t.rank + most_parts
  still_few script order r way = few script.ranks r (call_lawful script order r t c calls way e)

  pub comes_answered : (a : Answer) (more : List Answer) → w ≡ want.Answered a → more ≡ t.answers ++ a ∷ [] → Comes header s (record { rank = next; answers = more; calls = calls })
  comes_answered a more is pushed =
      let f = says (want.Answered a) is in
      let on : (script : Script) (order : List Mark) (r : ℕ) → IsOnWay script order r t None → IsOnWay script order r (answered t next a calls) None
      = λ script order r way. way_answers script order r header t next a c calls way e f (still_few script order r way) in
      let ready = h.ready in
      subst (λ (answers : List Answer). Comes header s (record { rank = next; answers = answers; calls = calls })) (sym pushed) (record {
        known = (alone_keeps header t.rank next c a f).0 ∙ h.known;
        ready = record { script = ready.script; order = ready.order; r = ready.r; lawful = ready.lawful; one_of = ready.one_of; way = on ready.script ready.order ready.r ready.way };
        kept = λ script order r way. on script order r (h.kept script order r way);
        advanced = comes_on header s t next a c calls h.advanced e f;
      })

  gone_meeting : (o : Offer) → w ≡ want.Meet o → IsSoundOffer header o → HasGone header s (asking t next calls) (Some o)
  gone_meeting o is sound =
      let f = says (want.Meet o) is in
      let keeps = meets_keeps header t.rank next c o f in
      record {
        known = keeps.0 ∙ h.known;
        arrived = sym (comes_to_meeting header s t next o c calls h.advanced e f);
        asked = record { right = right_of header o sound; known = keeps.1.0 ∙ sym keeps.0; waits = keeps.1.1.0; gets = keeps.1.1.1 };
        placed = λ script order r way. let here = h.kept script order r way in inl (way_meets script order r header t next o c calls here e f (still_few script order r here));
      }

  gone_alone : (o : Offer) → w ≡ want.Solo o → IsSoundOffer header o → HasGone header s (asking t next calls) (Some o)
  gone_alone o is sound =
      let f = says (want.Solo o) is in
      let keeps = solo_keeps header t.rank next c o f in
      record {
        known = keeps.1.0 ∙ h.known;
        arrived = sym (comes_to_solo header s t next o c calls h.advanced e f);
        asked = record { right = right_of header o sound; known = keeps.1.1.0 ∙ sym keeps.1.0; waits = keeps.1.1.1.0; gets = keeps.1.1.1.1 };
        placed = λ script order r way. inr (here script order r (h.kept script order r way) f);
      }
    where
      here : (script : Script) (order : List Mark) (r : ℕ) → IsOnWay script order r t None → (next, want.Solo o) ≡ machine.step header t.rank c
          → AsksAlone script header order r (asking t next calls) o
      here script order r way f = record {
        before = t.rank;
        call = c;
        way = subst (λ (cs : List Call). IsOnWay script order r (record { rank = t.rank; answers = t.answers; calls = cs }) None) e way;
        step = f;
        few = still_few script order r way;
      }

  pub gone_offer : (o : Offer) → IsSoundWant same w → (w ≡ want.Meet o) ⊎ (w ≡ want.Solo o) → HasGone header s (asking t next calls) (Some o)
  gone_offer o sound kind = grind (arith, nat_tests, gone_meeting o, gone_alone o)
