-- The next step of a legal order finds its ranks at their offers, and leaves each where the order with that step says.
use Rattle.reference.proofs.Words.{◌≡◌, ℕ, ◌<◌, ◌≢◌, refl, subst, inl, inr, List, [], ◌∷◌, ◌++◌, length, true, Option, None, Some, append_cancel_left, filter-append, filter, IfSome, if_some_at, equal_itself, first_same, Header, Script, Mark, Offer, Reply, IsLegal, concerns, marks, is_lawful, record_limit, hear, Going, hears, less_max, meetings, marks_left, IsOnWay, AsksAlone, hears_keeps, way_beside, way_hears, way_solo, IsAsked, IsPlaced, IsRunner, IsWaiting, going_of, HeardOne, Runner, arith, nat_tests}
use Rattle.nc_base.specs.declared.step.Mark.TheVariants as mark

-- ---- after the reply

meeting_done : (script : Script) (header : Header) (order : List Mark) (r : ℕ) (s : Going) (o : Offer) (y : Reply) → IsOnWay script order r s (Some o)
    → IsOnWay script (order ++ mark.Meet (meetings order) ∷ []) r (hears header s y) None
meeting_done script header order r s o y way =
    grind (arith, nat_tests, way_hears script order r header s (hear header s.rank y).0 o y (hear header s.rank y).1 way refl)

alone_done : (script : Script) (header : Header) (order : List Mark) (r : ℕ) (s : Going) (o : Offer) (y : Reply) → AsksAlone script header order r s o
    → IsOnWay script (order ++ mark.Solo r (length s.answers) ∷ []) r (hears header s y) None
alone_done script header order r s o y asks =
    let heard = hear header s.rank y in
    way_solo script order r header (record { rank = asks.before; answers = s.answers; calls = asks.call ∷ s.calls }) s.rank heard.0 o y heard.1 asks.call s.calls
    asks.way refl asks.step asks.few refl

-- ---- the next mark

-- what is left to rank r of a legal order, of which some is done
abbrev Left : Script → List Mark → ℕ → List Mark → Type 0
Left script done r rest = (own : List Mark) → filter (concerns r) done ++ own ≡ marks script.calls r → own ≡ rest

next_left : (script : Script) (done rest : List Mark) (m : Mark) (r : ℕ) → IsLegal script (done ++ m ∷ rest) → r < script.ranks → concerns r m ≡ true
    → Left script done r (m ∷ filter (concerns r) rest)
next_left script done rest m r legal below own_mark own e = grind (arith, nat_tests, append_cancel_left, filter, filter-append)

-- a rank that waits with an offer of its own has that mark left
alone_left : (script : Script) (header : Header) (done : List Mark) (r : ℕ) (s : Going) (o : Offer) (y : Reply) (rest : List Mark) → AsksAlone script header done r s o
    → Left script done r rest → (own : List Mark) × (mark.Solo r (length s.answers) ∷ own ≡ rest)
alone_left script header done r s o y rest asks left =
    let way = alone_done script header done r s o y asks in
    grind (arith, nat_tests, filter, equal_itself, way.marks, filter, marks_left, meetings)

-- the rank holds the offer of the next mark, and after the reply it is where the order with that mark says
record AtNext (script : Script) (header : Header) (done : List Mark) (m : Mark) (r : ℕ) (s : Going) (held : Option Offer) : Type 0 where
  pub offer : Offer
  pub holds : held ≡ Some offer
  pub way : (y : Reply) → IsOnWay script (done ++ m ∷ []) r (hears header s y) None

at_next : (script : Script) (header : Header) (done : List Mark) (m : Mark) (r : ℕ) (s : Going) (held : Option Offer) (rest : List Mark) → Left script done r (m ∷ rest)
    → IsPlaced script header done r s held → AtNext script header done m r s held
at_next script header done m r s None rest left (way, ended) = grind (arith, nat_tests, left (marks_left r (meetings done) s None) way.marks)
at_next script header done m r s (Some o) rest left (inl way) = record {
  offer = o;
  holds = refl;
  way = λ y. subst (λ (n : Mark). IsOnWay script (done ++ n ∷ []) r (hears header s y) None) (first_same _ m _ rest (left (marks_left r (meetings done) s (Some o)) way.marks))
      (meeting_done script header done r s o y way);
}
at_next script header done m r s (Some o) rest left (inr asks) = record {
  offer = o;
  holds = refl;
  way = λ y. subst (λ (n : Mark). IsOnWay script (done ++ n ∷ []) r (hears header s y) None) (first_same _ m _ rest (alone_left script header done r s o y (m ∷ rest) asks left).1)
      (alone_done script header done r s o y asks);
}

-- ---- runners

runner_at : (script : Script) (header : Header) (done rest : List Mark) (m : Mark) (r : ℕ) (runner : Runner) → IsLegal script (done ++ m ∷ rest) → concerns r m ≡ true → r < script.ranks
    → IsRunner script header done r runner → AtNext script header done m r (going_of runner) runner.held
runner_at script header done rest m r runner legal own below is =
    at_next script header done m r (going_of runner) runner.held (filter (concerns r) rest) (next_left script done rest m r legal below own) is.placed

pub waits_next : (script : Script) (header : Header) (done rest : List Mark) (m : Mark) (r : ℕ) (runner : Runner) → is_lawful script ≡ true → IsLegal script (done ++ m ∷ rest)
    → concerns r m ≡ true → r < script.ranks → IsRunner script header done r runner → IsWaiting header runner
waits_next script header done rest m r runner lawful legal own below is =
    let at = runner_at script header done rest m r runner legal own below is in
    let asks = if_some_at (IsAsked header runner.rank.state) runner.held at.offer at.holds is.asked in
    grind (arith, nat_tests, is.of_header, is.low, runner.rank.state, at.holds, at.way)

running : (script : Script) (header : Header) (done : List Mark) (r : ℕ) (a b : Runner) (o : Offer) (one : HeardOne header a b) → a.held ≡ Some o
    → IfSome a.held (IsAsked header a.rank.state) → a.rank.state.known < record_limit header.version
    → IsOnWay script done r (hears header (going_of a) one.reply) None → IsRunner script header done r b
running script header done r a b o one e asked low way = grind (arith, nat_tests, if_some_at, hears_keeps, less_max)

pub heard_next : (script : Script) (header : Header) (done rest : List Mark) (m : Mark) (r : ℕ) (a b : Runner) → IsLegal script (done ++ m ∷ rest) → concerns r m ≡ true
    → r < script.ranks → IsRunner script header done r a → HeardOne header a b → IsRunner script header (done ++ m ∷ []) r b
heard_next script header done rest m r a b legal own below is one =
    grind (arith, nat_tests, runner_at script header done rest m r a legal own below is, running script header (done ++ m ∷ []) r a b)

pub beside_runner : (script : Script) (header : Header) (done : List Mark) (r q n : ℕ) (runner : Runner) → q ≢ r → IsRunner script header done r runner
    → IsRunner script header (done ++ mark.Solo q n ∷ []) r runner
beside_runner script header done r q n runner other is = record {
  of_header = is.of_header;
  low = is.low;
  asked = is.asked;
  placed = beside (going_of runner) runner.held is.placed;
}
  where
    beside : (s : Going) (held : Option Offer) → IsPlaced script header done r s held → IsPlaced script header (done ++ mark.Solo q n ∷ []) r s held
    beside s None (way, ended) = (way_beside script done r q n s None other way, ended)
    beside s (Some o) (inl way) = inl (way_beside script done r q n s (Some o) other way)
    beside s (Some o) (inr asks) = inr (record {
      before = asks.before;
      call = asks.call;
      way = way_beside script done r q n _ None other asks.way;
      step = asks.step;
      few = asks.few;
    })
