use Rattle.imap_extents.proofs.Cited.{◌≡◌, ◌-◌, ◌++◌, ◌∙◌, ap, sym, subst, refl, not, false, take, map, append-nil, arith, ℕ, List, min, flat_map, list_any, range_with_len, take_all, Value, ext, fits, nat_tests}
use Rattle.imap_extents.proofs.RefusalLaws.{part_refused}
use Rattle.imap_extents.proofs.RunLaws.{told, forms_more, fits_more, rest_more, part_hit, none_first}
use Rattle.imap_extents.proofs.runs.push_runs.Goals as goal

pub loop-run-init : goal.loop-run-init
loop-run-init g c =
    let bytes = c.args.bytes.now.items in
    let count = c.args.count in
    record {
      form = sym (append-nil bytes) ∙ ap (λ (l : List Value). bytes ++ flat_map (λ v. ext c.args.kind v) l) (sym (none_first count));
      fit = ap (λ (l : List Value). list_any (λ v. not (fits c.args.kind v)) l) (none_first count);
      rest = omega arith;
    }

pub loop-run-preserved : goal.loop-run-preserved
loop-run-preserved g c =
    let at = g.R.Run.told_at in
    let size = g.R.Run.size in
    let run = c.run-item.result in
    let left = c.loop-run.left in
    let here = c.lesser-here.result in
    let now = c.loop-run.bytes.items in
    let part = c.lesser-here.ensures ∙ ap (λ (n : ℕ). min n left) c.count.ensures ∙ ap (λ (r : g.row.R.Denot). min (size r) left) c.run-item.is in
    record {
      form = forms_more at size c.args.runs.now c.loop-run.run-index c.args.count left here run c.loop-run-test.true c.loop-run.invariant.rest part
          (λ v. ext c.args.kind v) c.args.bytes.now.items now c.push_run.new.bytes.items c.loop-run.invariant.form
          (c.in_ok-push_run.ensures.ok ∙ ap (λ (r : g.row.R.Denot). now ++ flat_map (λ v. ext c.args.kind v) (map (at r) (range_with_len 0 here))) c.run-item.is);
      fit = grind (arith, nat_tests, fits_more at size c.args.runs.now c.loop-run.run-index c.args.count left here run c.loop-run-test.true, fits c.args.kind, c.loop-run.invariant.rest, c.loop-run.invariant.fit, c.run-item.is, c.in_ok-push_run.ensures.right);
      rest = rest_more at size c.args.runs.now c.loop-run.run-index c.args.count left here run c.loop-run-test.true c.loop-run.invariant.rest part (left - here) refl;
    }

pub returns-in_err-push_run-clause-refused : goal.returns-in_err-push_run-clause-refused
returns-in_err-push_run-clause-refused g c =
    let at = g.R.Run.told_at in
    grind (arith, nat_tests, part_refused, fits c.args.kind, part_hit at g.R.Run.size c.args.runs.now c.loop-run.run-index c.args.count c.loop-run.left, c.lesser-here.ensures, c.count.ensures, c.run-item.is, c.loop-run-test.true, c.loop-run.invariant.rest, c.in_err-push_run.ensures.refused, c.from_residual.ensures.1)

pub returns : goal.returns
returns g c =
    let all = take_all c.loop-run.run-index c.args.runs.now c.loop-run-test.false in
    let front : List g.row.R.Denot → List Value = λ rs. take c.args.count (told g.R.Run.told_at g.R.Run.size rs) in
    record {
      ok = c.loop-run.invariant.form ∙ ap (λ (rs : List g.row.R.Denot). c.args.bytes.now.items ++ flat_map (λ v. ext c.args.kind v) (front rs)) all;
      right = subst (λ (rs : List g.row.R.Denot). list_any (λ v. not (fits c.args.kind v)) (front rs) ≡ false) all c.loop-run.invariant.fit;
      refused = tt;
    }
