-- Who comes to a meeting, and with which call.
use Rattle.run_plan.proofs.Words.{◌≡◌, ℕ, suc, ◌+◌, ◌<◌, ◌^◌, refl, sym, ◌∙◌, List, [], ◌∷◌, ◌++◌, length, map, drop, get_or, Option, Some, None, append_assoc, arith, drop_more, slice_get, enumerate_from, value_of_some, Header, Call, Script, Mark, Offer, AllBeside, Arrived, Caller, AreRunners, HaveArrived, arrived, arrived_all, Runner, arrived_held, AllHold, comes, free, holding, Comes, caller, caller_at, meeting_callers, runner_caller}
use Rattle.join_laws.proofs.AlikeLaws.{as_many}

-- ---- few calls are answered

few_of : (script : Script) (order : List Mark) (r : ℕ) (runner : Runner) (m : Option Offer) → runner.held ≡ m → Comes script order r runner → length runner.answers < 2 ^ 32
few_of script order r runner None e w = let few = (free script order r runner e w).few in omega arith
few_of script order r runner (Some o) e w = let few = (holding script order r runner o e w).few in omega arith

pub few_answers : (script : Script) (header : Header) (len : ℕ) (order : List Mark) (runners : List Runner) → AreRunners script header len order runners → HaveArrived script runners
    → (r : ℕ) (runner : Runner) → slice_get runners r ≡ Some runner → length runner.answers < 2 ^ 32
few_answers script header len order runners all arrived r runner e = few_of script order r runner runner.held refl (comes script header len order runners all arrived r runner e)

-- ---- one rank after another

-- one more has come: with those that are left they are still all
pub one_more : (runners : List Runner) (i : ℕ) (x : Runner) (done now whole : List Caller) → i < length runners → x ≡ get_or runners i x → now ≡ done ++ runner_caller (i, x) ∷ []
    → done ++ map runner_caller (enumerate_from i (drop i runners)) ≡ whole → now ++ map runner_caller (enumerate_from (i + 1) (drop (i + 1) runners)) ≡ whole
one_more runners i x done now whole l is step all =
    let rest = map runner_caller (enumerate_from (i + 1) (drop (i + 1) runners)) in
    rw (step, append_assoc done (runner_caller (i, x) ∷ []) rest) (rw (drop_more runners i x l, ← is) at all)

-- ---- those of the run

beside : (ps qs : List Arrived) (first : ℕ) → AllBeside ps qs → map caller_at (enumerate_from first ps) ≡ map caller_at (enumerate_from first qs)
beside [] [] first h = refl
beside [] (q ∷ qs) first h = absurd h
beside (p ∷ ps) [] first h = absurd h
beside (p ∷ ps) (q ∷ qs) first h = let many = as_many p.0 q.0 h.0.0 in let others = beside ps qs (first + 1) h.1 in λ i. caller first (many i) ∷ others i

held : (header : Header) (calls : List (List Call)) (runners : List Runner) (first : ℕ) → length calls ≡ length runners → AllHold runners
    → map caller_at (enumerate_from first (arrived_all header calls runners)) ≡ map runner_caller (enumerate_from first runners)
held header [] [] first l m = refl
held header [] (x ∷ runners) first l m = absurd (omega arith)
held header (own ∷ calls) [] first l m = absurd (omega arith)
held header (own ∷ calls) (x ∷ runners) first l m =
    let p = value_of_some x.held (m 0 x refl) in
    let there = arrived_held header own x p.0 p.1 in
    let others = held header calls runners (first + 1) (omega arith) (λ q s g. m (suc q) s g) in
    λ i. caller_at (first, there i) ∷ others i

pub callers_beside : (header : Header) (calls : List (List Call)) (runners : List Runner) (ps : List Arrived) → length calls ≡ length runners → AllHold runners
    → AllBeside ps (arrived_all header calls runners) → meeting_callers runners ≡ map caller_at (enumerate_from 0 ps)
callers_beside header calls runners ps l m h = sym (held header calls runners 0 l m) ∙ sym (beside ps (arrived_all header calls runners) 0 h)
