-- A region that is accepted is a whole number of runs, and they are all of it.
use Rattle.vara_extents.proofs.Words.{◌≡◌, ◌*◌, ◌/◌, ℕ, refl, sym, ap, subst, ◌∙◌, arith, size_of, product, place, accepted, if_there, Runs, extents_of, extents_from, index_of, AreRuns, nat_tests}
use Rattle.vara_extents.proofs.PlaceLaws.{accepted_var, small_of}
use Rattle.vara_extents.proofs.RowLaws.{single}
use Rattle.vara_extents.proofs.WalkLaws.{all_left, no_runs, whole_runs}
use Rattle.vara_extents.proofs.walk.Runs.alone.Goals as goal
use Rattle.vara_extents.proofs.walk.Runs.alone.Goals.{then-elements-eq0, else-elements-eq0}

pub run_of-run-requires : goal.run_of-run-requires
run_of-run-requires c =
    let known = c.requires.accepted.0 in
    grind (arith, nat_tests, accepted_var c.args.header.now c.args.var c.variable_at-var.result.now c.args.region.now, accepted c.args.header.now c.variable_at-var.result.now c.args.region.now known c.requires.accepted.1, small_of c.args.header.now c.args.var c.variable_at-var.result.now c.args.region.now c.variable_at-var.ensures, c.requires.accepted, c.recsize-recsize.ensures.value, c.as_slice.ensures, c.element_count-elements.ensures)

pub returns-clause-ready : goal.returns-clause-ready
returns-clause-ready c =
    let at : ℕ → ℕ = λ k. place c.args.header.now c.variable_at-var.result.now (index_of c.args.region.now k) in
    let size = size_of c.variable_at-var.result.now.kind in
    let elements = product c.args.region.now.count in
    let counted = ap product c.as_slice.ensures in
    let low = small_of c.args.header.now c.args.var c.variable_at-var.result.now c.args.region.now c.variable_at-var.ensures c.requires.accepted in
    let all : c.element_count-elements.result ≡ product c.args.region.now.count = omega (arith, counted, low.elements, c.element_count-elements.ensures) in
    let follow : AreRuns at size c.if-elements-eq0.run elements =
    elim c.if-elements-eq0.branch [
      | then-elements-eq0 w ↦
          subst (λ (r : ℕ). AreRuns at size r elements) (sym w.run-is) (subst (λ (n : ℕ). AreRuns at size 1 n) (sym w.if-elements-eq0.true ∙ all) (no_runs at size))
      | else-elements-eq0 w ↦ subst (λ (r : ℕ). AreRuns at size r elements) (sym w.run-is) w.run_of-run.ensures
    ] in
    record {
      sound = c.requires.sound;
      accepted = (c.args.var, c.variable_at-var.ensures, c.requires.accepted);
      recsize = c.recsize-recsize.ensures.value;
      follow = follow;
      rows = single _ 0 _;
      low = omega arith;
      total = whole_runs at size c.if-elements-eq0.run elements follow ∙ ap (λ (n : ℕ). n / c.if-elements-eq0.run * c.if-elements-eq0.run) (sym all);
    }

pub returns-clause-extents : goal.returns-clause-extents
returns-clause-extents c =
    let r : Runs = record {
      header = c.args.header;
      var = c.variable_at-var.result;
      region = c.args.region;
      recsize = c.recsize-recsize.result;
      elements = c.if-elements-eq0.run;
      count = c.element_count-elements.result / c.if-elements-eq0.run;
      row = record { runs = 1; step = 0 };
    } in
    if_there _ _ (λ v. extents_from r 0 ≡ extents_of c.args.header.now v c.args.region.now) c.variable_at-var.ensures (all_left r 0 refl)
