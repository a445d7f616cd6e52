-- Steps that are planned, one after another.
use Rattle.run_plan.proofs.Words.{◌≡◌, ℕ, ◌<◌, refl, sym, ◌∙◌, ap, List, [], ◌∷◌, ◌++◌, length, set, true, Some, append_assoc, arith, flat_map-append, fold-append, append-nil, map-append, set-set, fold, slice_get, Header, Hints, Script, Setting, is_lawful, setting_of, all_joined, entry_set, set_own, is_solo_of, step_to, Arrived, Stand, ranks_lawful, file_calls, StepPlan, calls_of, arrived, arrived_all, IsGrownBy, Runner, calls_there, get_arrived, set_arrived, calls_in, order_in, plan_stage, rank_plan, AreStepsOf, Follows, HasPlanned, HasPlannedAll, PlanStage, RankPlan}
use Rattle.run_laws.proofs.ArrivalLaws.{calls_split}

-- ---- one list of steps after another

order_joined : (xs ys : List StepPlan) → order_in (xs ++ ys) ≡ order_in xs ++ order_in ys
order_joined xs ys = map-append (λ (step : StepPlan). step.mark) xs ys

calls_joined : (xs ys : List StepPlan) → calls_in (xs ++ ys) ≡ calls_in xs ++ calls_in ys
calls_joined xs ys = flat_map-append (λ (step : StepPlan). file_calls step.file) xs ys

each_joined : (hints : Hints) (s : Setting) (steps more : List StepPlan) (stand : Stand) → AreStepsOf hints s stand steps → AreStepsOf hints s (fold (step_to s) stand (order_in steps)) more
    → AreStepsOf hints s stand (steps ++ more)
each_joined hints s [] more stand a b = b
each_joined hints s (step ∷ steps) more stand a b = (a.0, each_joined hints s steps more (step_to s stand step.mark) a.1 b)

follows_none : (hints : Hints) (s : Setting) (a : PlanStage) → Follows hints s [] a a
follows_none hints s a stand beside = record { beside = beside; over = refl; each = tt }

follows_then : (hints : Hints) (s : Setting) (steps more : List StepPlan) (a b c : PlanStage) → Follows hints s steps a b → Follows hints s more b c → Follows hints s (steps ++ more) a c
follows_then hints s steps more a b c first second stand beside =
    let one = first stand beside in
    let two = second (fold (step_to s) stand (order_in steps)) one.beside in
    record {
      beside = rw (order_joined steps more, fold-append (step_to s) stand (order_in steps) (order_in more)) two.beside;
      over = rw (order_joined steps more, calls_split hints s stand (order_in steps) (order_in more), one.over, two.over) (sym (calls_joined steps more));
      each = each_joined hints s steps more stand one.each two.each;
    }

-- the order of one step more
pub order_more : (steps now : List StepPlan) (step : StepPlan) → now ≡ steps ++ step ∷ [] → order_in now ≡ order_in steps ++ step.mark ∷ []
order_more steps now step e = ap order_in e ∙ order_joined steps (step ∷ [])

-- ---- one rank

pub planned_same : (hints : Hints) (s : Setting) (r : ℕ) (steps : List StepPlan) (size : ℕ) (from to : Arrived) → from ≡ to
    → HasPlanned hints s r (rank_plan steps size from) (rank_plan steps size to)
planned_same hints s r steps size from to e = record {
  more = [];
  grown = sym (append-nil steps);
  own = refl;
  led = λ records ranks g. rw (set_own ranks r to (g ∙ ap (λ (a : Arrived). Some a) e)) (follows_none hints s (plan_stage size records ranks));
}

pub planned_then : (hints : Hints) (s : Setting) (r : ℕ) (a b c : RankPlan) → HasPlanned hints s r a b → HasPlanned hints s r b c → HasPlanned hints s r a c
planned_then hints s r a b c first second = record {
  more = first.more ++ second.more;
  grown = second.grown ∙ ap (λ (ms : List StepPlan). ms ++ second.more) first.grown ∙ append_assoc a.steps first.more second.more;
  own = rw (order_joined first.more second.more) (all_joined (is_solo_of r) (order_in first.more) (order_in second.more) first.own second.own);
  led = λ records ranks g.
      let one = first.led records ranks g in
      let two = second.led records (set ranks r b.rank) (entry_set ranks r a.rank b.rank g) in
      follows_then hints s first.more second.more (plan_stage a.size records ranks) (plan_stage b.size records (set ranks r b.rank)) (plan_stage c.size records (set ranks r c.rank)) one
      (rw (set-set ranks r b.rank c.rank) at two);
}

pub planned_grown : (hints : Hints) (s : Setting) (r : ℕ) (a b : RankPlan) → HasPlanned hints s r a b → IsGrownBy r (order_in a.steps) (order_in b.steps)
planned_grown hints s r a b h = record { more = order_in h.more; grown = ap order_in h.grown ∙ order_joined a.steps h.more; own = h.own }

-- ---- all ranks

pub all_none : (hints : Hints) (s : Setting) (steps : List StepPlan) (a : PlanStage) → HasPlannedAll hints s steps steps a a
all_none hints s steps a = record { more = []; grown = sym (append-nil steps); led = follows_none hints s a }

pub all_then : (hints : Hints) (s : Setting) (before now later : List StepPlan) (a b c : PlanStage) → HasPlannedAll hints s before now a b → HasPlannedAll hints s now later b c
    → HasPlannedAll hints s before later a c
all_then hints s before now later a b c first second = record {
  more = first.more ++ second.more;
  grown = second.grown ∙ ap (λ (ms : List StepPlan). ms ++ second.more) first.grown ∙ append_assoc before first.more second.more;
  led = follows_then hints s first.more second.more a b c first.led second.led;
}

-- what one rank did, seen by all
pub one_of_all : (script : Script) (header : Header) (runners : List Runner) (n : ℕ) (was runner : Runner) (before now : List StepPlan) (size later : ℕ) → is_lawful script ≡ true → n < script.ranks
    → slice_get runners n ≡ Some was
    → HasPlanned script.hints (setting_of script header) n (rank_plan before size (arrived header (calls_of script n) was)) (rank_plan now later (arrived header (calls_of script n) runner))
    → (records : ℕ) → HasPlannedAll script.hints (setting_of script header) before now (plan_stage size records (arrived_all header script.calls runners))
    (plan_stage later records (arrived_all header script.calls (set runners n runner)))
one_of_all script header runners n was runner before now size later lawful l e g records =
    let there = calls_there script n (below (length script.calls) (ranks_lawful script lawful).one_each) in
    record {
      more = g.more;
      grown = g.grown;
      led = rw (set_arrived header script.calls runners n (calls_of script n) runner there)
          (g.led records (arrived_all header script.calls runners) (get_arrived header script.calls runners n (calls_of script n) was there e));
    }
  where
    below : (k : ℕ) → k ≡ script.ranks → n < k
    below k e = omega arith
