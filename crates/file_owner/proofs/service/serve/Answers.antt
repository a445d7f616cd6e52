-- What the ends tell, from where it stopped and what came after.
use Rattle.file_owner.proofs.Words.{◌≡◌, ℕ, refl, sym, ◌∙◌, subst, rules, List, [], Rose, counted, setting, IsCount, IsDone, Outcome, taken_from, stopped_with, opening_standing, arrived, cut_by_arrivals, done_by_arrivals, StepErr, HasFailed, opening, passed, gained, Some, None, arith, common_steps}
use Rattle.file_owner.proofs.EndLaws.{end_bytes, end_calls, end_cut, end_done, end_failed, out_put, out_records, out_taken, out_told, outcome_given}
use Rattle.file_owner.proofs.service.serve.Goals as goal

pub serve_to_end-order-requires-clause-count : goal.serve_to_end-order-requires-clause-count
serve_to_end-order-requires-clause-count g c κs within =
    subst (λ (n : ℕ). IsCount c.args.header.now (g.D.Disk.len c.args.disk.now) n) (sym c.requires.records) (record { sound = c.requires.sound; long = c.requires.long })

pub returns : goal.returns
returns g c =
    let hints = c.args.hints.now in
    let s = setting c.args.header.now hints in
    let records = c.args.header.now.records in
    let old = c.args.inbox.now in
    let now = c.serve_to_end-order.new.inbox in
    let left = c.serve_to_end-order.ensures.outcome.0 in
    let marks = c.serve_to_end-order.result.0 in
    let halt = c.serve_to_end-order.result.1 in
    let held = g.D.Disk.held c.args.disk.now in
    let made = g.D.Disk.calls c.args.disk.now in
    let heard = g.T.Told.heard c.args.told.now in
    let lines = c.args.back.now in
    let n_then = c.records-1.given.0 in
    let held_then = g.D.Disk.held c.disk-1.given.0 in
    let made_then = g.D.Disk.calls c.disk-1.given.0 in
    let heard_then = g.T.Told.heard c.told-1.given.0 in
    let lines_then = c.back-1.given.0 in
    let disk_is : c.disk-1.given.0 ≡ c.serve_to_end-order.new.out.disk.now = search rules in
    let n_is : c.records-1.given.0 ≡ c.serve_to_end-order.new.out.records.now = search rules in
    let told_is : c.told-1.given.0 ≡ c.serve_to_end-order.new.out.told.now = search rules in
    let back_is : c.back-1.given.0 ≡ c.serve_to_end-order.new.out.back.now = search rules in
    let given = outcome_given g.D.Disk g.T.Told _ _ _ _ _ _ c.serve_to_end-order.new.out _ _ c.disk-1.given.0 n_then c.told-1.given.0 lines_then disk_is n_is told_is back_is c.serve_to_end-order.ensures.outcome.1 in
    let before = opening_standing old.senders records held made heard lines in
    let outcome = subst (λ (m : ℕ). Outcome hints s (taken_from old now left) (opening_standing old.senders m held made heard lines) (stopped_with n_then held_then made_then marks heard_then lines_then) halt) c.requires.records given in
    let taken = out_taken hints s old now left before n_then held_then made_then marks heard_then lines_then halt outcome in
    let done : c.fault_of.result ≡ None → (file : List ℕ) → IsDone s (opening old.senders (counted file records)) (passed (arrived old now) old.senders (gained lines lines_then)) marks c.stranger_of.result =
    end_done hints s old now left before n_then held_then made_then marks heard_then lines_then halt outcome c.fault_of.result c.stranger_of.result c.fault_of.ensures c.stranger_of.ensures refl refl c.requires.lines in
    let failed : (e : StepErr) → c.fault_of.result ≡ Some e → HasFailed s (opening old.senders) records (passed (arrived old now) old.senders (gained lines lines_then)) marks c.stranger_of.result =
    (λ e is. end_failed hints s old now left before n_then held_then made_then marks heard_then lines_then halt outcome c.fault_of.result c.stranger_of.result c.fault_of.ensures c.stranger_of.ensures refl refl c.requires.lines records e (λ file. refl) is) in
    record {
      taken = taken;
      put = out_put hints s old now left before n_then held_then made_then marks heard_then lines_then halt outcome;
      told = out_told hints s old now left before n_then held_then made_then marks heard_then lines_then halt outcome refl;
      done_by_arrivals = λ none. done_by_arrivals s old.senders (counted [] records) (arrived old now) _ _ taken.numbers (done none []).order (done none []).stranger;
      cut_by_arrivals = λ e is.
          let cut = (failed e is).cut_off [] in
          cut_by_arrivals s old.senders (counted [] records) (arrived old now) (failed e is).first (failed e is).later _ taken.numbers (failed e is).all cut.none_strange cut.order;
      done = done;
      records = λ none. out_records hints s old now left before n_then held_then made_then marks heard_then lines_then halt outcome (sym c.fault_of.ensures ∙ none);
      bytes = end_bytes hints s old now left before n_then held_then made_then marks heard_then lines_then halt outcome c.fault_of.result c.stranger_of.result c.fault_of.ensures c.stranger_of.ensures refl refl c.requires.lines;
      calls = end_calls hints s old now left before n_then held_then made_then marks heard_then lines_then halt outcome c.fault_of.result c.stranger_of.result c.fault_of.ensures c.stranger_of.ensures refl refl c.requires.lines;
      failed = failed;
      cut = λ e is. end_cut hints s old now left before n_then held_then made_then marks heard_then lines_then halt outcome c.fault_of.result c.stranger_of.result c.fault_of.ensures c.stranger_of.ensures refl refl c.requires.lines e is held refl;
      cause = λ e. subst (λ x. Rose (g.D.Disk.faults c.args.disk.now) (g.D.Disk.faults x)) (sym disk_is) (c.serve_to_end-order.ensures.cause.failed (sym c.fault_of.ensures ∙ e));
      count = first_of (search rules, grind (arith, common_steps));
      from = first_of (search rules, grind (arith, common_steps));
      longer = first_of (search rules, grind (arith, common_steps));
      later = first_of (search rules, grind (arith, common_steps));
    }
