-- When all ranks have met, or have ended.
use Rattle.turn_run.proofs.Words.{inl, inr, ◌≡◌, ℕ, suc, ◌+◌, ◌<◌, refl, sym, ◌∙◌, ap, List, [], ◌∷◌, ◌++◌, length, map, drop, true, Some, None, arith, slice_get, slice_get_within, Header, Call, Answer, Script, Mark, Meet, Offer, IsLegal, is_lawful, most_calls, meetings, IsOnWay, ranks_lawful, order_legal, together_all, together_number, meetings_met, all_between, asking, between, calls_of, going_of, AreFree, AreRunners, HaveArrived, HaveMet, arrived, arrived_all, Runner, entry_below, some_rank, nat_tests}
use Rattle.nc_base.specs.declared.step.OfferKind.TheVariants as offer
use Rattle.serial_spec.specs.RankMachine as machine
use Rattle.turn_run.proofs.AloneLaws.{arrived_free}
use Rattle.turn_run.proofs.RunnerLaws.{advance_ended}
use Rattle.turn_run.proofs.TurnSteps.{calls_there}
use Rattle.list_laws.proofs.Common.{some_or_none, value_of_some}

-- ---- a rank that has arrived

abbrev pub Comes : Script → List Mark → ℕ → Runner → Type 0
Comes script order r runner = IsOnWay script order r (going_of (calls_of script r) runner) runner.held

pub comes : (script : Script) (header : Header) (len : ℕ) (order : List Mark) (runners : List Runner) → AreRunners script header len order runners → HaveArrived script runners
    → (r : ℕ) (runner : Runner) → slice_get runners r ≡ Some runner → Comes script order r runner
comes script header len order runners a h r runner e = grind (arith, nat_tests, (a.each r runner e).placed, (h r runner e).met)

-- with an offer, or without
pub holding : (script : Script) (order : List Mark) (r : ℕ) (runner : Runner) (o : Offer) → runner.held ≡ Some o → Comes script order r runner
    → IsOnWay script order r (asking (calls_of script r) runner) (Some o)
holding script order r runner o e w = grind (arith, nat_tests)

pub free : (script : Script) (order : List Mark) (r : ℕ) (runner : Runner) → runner.held ≡ None → Comes script order r runner → IsOnWay script order r (between (calls_of script r) runner) None
free script order r runner e w = grind (arith, nat_tests)

-- ---- all of them

pub all_ended : (script : Script) (header : Header) (len : ℕ) (order : List Mark) (runners : List Runner) → is_lawful script ≡ true → AreRunners script header len order runners
    → HaveArrived script runners → (HaveMet runners → ⊥) → AreFree runners
all_ended script header len order runners lawful a h n r runner g =
    let first = entry_below runners 0 (let k = some_rank script lawful in let l = a.all in omega arith) in
    let at = comes script header len order runners a h in let start = at 0 first.0 first.1 in
    elim (some_or_none first.0.held) [
      | inl f ↦
          grind (arith, nat_tests, some_or_none runner.held, together_all script order r 0, holding script order r runner, at r runner g, free script order 0 first.0 f start, (h 0 first.0 first.1).ended f)
      | inr o ↦ absurd (n (λ q other k.
          grind (arith, nat_tests, some_or_none other.held, together_all script order 0 q, holding script order 0 first.0 o.0 o.1 start, free script order q other, at q other k, (h q other k).ended)))
    ]

-- there is a meeting to come
pub next_meeting : (script : Script) (header : Header) (len : ℕ) (order : List Mark) (runners : List Runner) → is_lawful script ≡ true → AreRunners script header len order runners
    → HaveArrived script runners → HaveMet runners → meetings order < most_calls
next_meeting script header len order runners lawful a h met =
    let first = entry_below runners 0 (let k = some_rank script lawful in let l = a.all in omega arith) in
    grind (arith, nat_tests, value_of_some first.0.held (met 0 first.0 first.1), together_number script order 0, holding script order 0 first.0 (value_of_some first.0.held (met 0 first.0 first.1)).0, comes script header len order runners a h 0 first.0 first.1)

-- the number of the meeting after it
pub met_number : (before now later : List Mark) (n k : ℕ) → n ≡ meetings before → now ≡ before ++ Meet k ∷ [] → meetings later ≡ meetings now → n + 1 ≡ meetings later
met_number before now later n k e f h = let a = meetings_met before k in let b = ap (λ (ms : List Mark). meetings ms) f in omega arith

-- ---- the ends

long_between : (calls : List (List Call)) (runners : List Runner) → length calls ≡ length runners → length (all_between calls runners) ≡ length runners
long_between (own ∷ calls) (runner ∷ runners) e = grind (arith, nat_tests, long_between calls runners)
long_between calls runners e = cc

pub get_between : (calls : List (List Call)) (runners : List Runner) (r : ℕ) (own : List Call) (runner : Runner) → slice_get calls r ≡ Some own → slice_get runners r ≡ Some runner
    → slice_get (all_between calls runners) r ≡ Some (between own runner)
get_between (c ∷ calls) (s ∷ runners) r own runner e f = grind (arith, nat_tests, get_between calls runners)
get_between calls runners r own runner e f = absurd cc

-- each is at the end of its calls
pub AreOver : List (List Call) → List Runner → Type 0
AreOver calls runners = (r : ℕ) (own : List Call) (runner : Runner) → slice_get calls r ≡ Some own → slice_get runners r ≡ Some runner
    → (runner.held ≡ None) × (drop (length runner.answers) own ≡ [])

pub are_over : (script : Script) (runners : List Runner) → AreFree runners → HaveArrived script runners → AreOver script.calls runners
unfolding AreOver
are_over script runners f h r own runner e g = grind (arith, nat_tests, f r runner g, (h r runner g).ended)

pub ended_legal : (script : Script) (header : Header) (len : ℕ) (order : List Mark) (runners : List Runner) → is_lawful script ≡ true → AreRunners script header len order runners
    → AreFree runners → HaveArrived script runners → IsLegal script order
ended_legal script header len order runners lawful a f h = order_legal script order (all_between script.calls runners)
    (long_between script.calls runners ((ranks_lawful script lawful).one_each ∙ sym a.all) ∙ a.all) a.known_ranks (λ r s e.
    let one = (ranks_lawful script lawful).one_each in let all = a.all in let both = long_between script.calls runners (one ∙ sym a.all) in
    let l = slice_get_within (all_between script.calls runners) r s e in let runner = entry_below runners r (omega arith) in
    grind (arith, nat_tests, get_between script.calls runners r (calls_of script r) runner.0 (calls_there script r (omega arith)) runner.1, free script order r runner.0 (f r runner.0 runner.1) (comes script header len order runners a h r runner.0 runner.1), (h r runner.0 runner.1).ended (f r runner.0 runner.1)))

-- what each has at its end
pub map_ended : {X : Type 0} (f : machine.Rank → List Answer → X) (header : Header) (calls : List (List Call)) (runners : List Runner) → length calls ≡ length runners
    → AreOver calls runners → map (λ g. f g.rank g.answers) (map (λ a. a.0) (arrived_all header calls runners)) ≡ map (λ runner. f runner.rank.state runner.answers) runners
unfolding AreOver
map_ended f header [] [] e h = refl
map_ended f header (own ∷ calls) (runner ∷ runners) e h =
    let over = h 0 own runner refl refl in
    grind (arith, nat_tests, over, arrived_free header own runner, advance_ended header own runner.rank.state runner.answers, map_ended f header calls runners (omega arith) (λ r cs s i j. h (suc r) cs s i j))
map_ended f header calls runners e h = absurd (omega arith)
