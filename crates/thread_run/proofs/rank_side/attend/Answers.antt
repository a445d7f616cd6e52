-- What was put before the last item, and the last item.
use Rattle.thread_run.proofs.Words.{◌≡◌, ap, sym, subst, refl, ◌∙◌, [], ◌∷◌, ◌++◌, Bool, true, false, Result, Memory, RankEnd, RankStop, HasAttended, HasStood, runner_end, calls_of, arith, nat_tests}
use Rattle.nc_base.specs.declared.run.RankStop.TheVariants as stop
use Rattle.nc_base.specs.declared.step.RankItem.TheVariants as item
use Rattle.thread_run.proofs.AttendLaws.{attended_broken, attended_through}
use Rattle.thread_run.proofs.AttendWay.{items_more}
use Rattle.thread_run.proofs.rank_side.attend.Goals.{in-Ok, in-Err}
use Rattle.thread_run.proofs.rank_side.attend.Goals as goal

pub returns-clause-attended : goal.returns-clause-attended
returns-clause-attended g c =
    let stood = c.make_calls.ensures.stood in
    let runner = c.make_calls.new.runner in
    let header = c.args.header.now in
    let own = calls_of c.args.script.now c.args.out.now.number in
    elim c.match-make_calls.branch [
      | in-Ok w ↦
          let here = subst (λ (r : Result RankStop Memory). HasStood header own stood.0 stood.1 runner r) w.in-Ok.is stood.4 in
          grind (arith, nat_tests, items_more c.args.out.now.items c.make_calls.new.out.items c.put.new.self.items stood.0 c.last_item.result, attended_through header own stood.0 stood.1 runner w.in-Ok.end here, c.last_item.ensures, c.into_end.ensures)
      | in-Err w ↦
          let here = subst (λ (r : Result RankStop Memory). HasStood header own stood.0 stood.1 runner r) w.in-Err.is stood.4 in
          let put = stood.0 ++ item.Ended true ∷ [] in (
            put,
            stood.1,
            items_more c.args.out.now.items c.make_calls.new.out.items c.put.new.self.items stood.0 c.last_item.result (item.Ended true) stood.2 c.put.ensures.items
                (c.last_item.ensures ∙ ap (λ (b : Bool). item.Ended b) (wanted w.end-is)),
            stood.3,
            subst (λ (x : RankEnd). HasAttended header own put stood.1 x) (sym c.into_end.ensures)
                (subst (λ (end : RankStop). HasAttended header own put stood.1 (runner_end end runner)) (sym w.end-is) (attended_broken header own stood.0 stood.1 runner _ here)),
          )
    ]
  where
    -- whether its last item says that it wanted memory
    not_wanted : (end : RankStop) → c.match-make_calls.end ≡ end → (end ≡ stop.Memory → ⊥) → c.eq.result ≡ false
    not_wanted stop.Done e n = rw (c.eq.ensures, e) refl
    not_wanted stop.Stopped e n = rw (c.eq.ensures, e) refl
    not_wanted stop.Misfit e n = rw (c.eq.ensures, e) refl
    not_wanted stop.Memory e n = absurd (n refl)

    wanted : c.match-make_calls.end ≡ stop.Memory → c.eq.result ≡ true
    wanted e = rw (c.eq.ensures, e) refl
