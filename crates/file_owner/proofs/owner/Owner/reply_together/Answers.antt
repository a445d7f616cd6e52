-- The meeting is done, and its replies are put.
use Rattle.file_owner.proofs.Words.{ℕ, ◌++◌, ◌∷◌, [], sym, ◌∙◌, ap, subst, length, map, max, List, length-map, Batch, Offer, Meet, with_end, offers_held, wanted, IsRise, offers_long, dataset_setting, standing, standing_at, IsJob, on_err, arith, nat_tests}
use Rattle.file_owner.proofs.HeldLaws.{held_job, held_low, held_once, held_rise, steady_freed}
use Rattle.file_owner.proofs.TogetherSteps.{together}
use Rattle.file_owner.proofs.RefusedSteps.{done_once, none_once, refused_once}
use Rattle.file_owner.proofs.owner.Owner.reply_together.Goals as goal

pub meet_on_file-requires-clause-job : goal.meet_on_file-requires-clause-job
meet_on_file-requires-clause-job g c κs within = subst (λ (bs : List Batch). IsJob c.args.dataset.now.header.now (g.D.Disk.len c.args.out.now.disk.now) bs) (sym c.in_ok-job.ensures.batches) (held_job c.args.dataset.now.header.now (g.D.Disk.len c.args.out.now.disk.now) (standing g.D.Disk g.T.Told c.args.self.now c.args.out.now) c.requires.steady)

pub meet_on_file-requires-clause-known : goal.meet_on_file-requires-clause-known
meet_on_file-requires-clause-known g c κs within = subst (λ (n : ℕ). IsRise c.args.dataset.now.header.now (g.D.Disk.len c.args.out.now.disk.now) n) (sym c.in_ok-job.ensures.known) (held_rise c.args.dataset.now.header.now (g.D.Disk.len c.args.out.now.disk.now) (standing g.D.Disk g.T.Told c.args.self.now c.args.out.now) c.requires.steady)

pub reply_all-requires : goal.reply_all-requires
reply_all-requires g c =
    sym (length-map c.in_ok-pair.table (λ (blobs : List (List ℕ)). map (λ blob. length blob) blobs)) ∙ ap (λ (xs : List (List ℕ)). length xs) c.in_ok-pair.ensures.fits
    ∙ length-map c.in_ok-job.job.batches (λ (b : Batch). map (wanted c.args.dataset.now.header.now) b.gets) ∙ ap (λ (bs : List Batch). length bs) c.in_ok-job.ensures.batches
    ∙ length-map (offers_held c.args.self.now.clients.items) (λ (o : Offer). o.batch) ∙ offers_long c.args.self.now.clients.items c.requires.all ∙ sym c.requires.steady.one_each

pub returns-clause-done : goal.returns-clause-done
returns-clause-done g c =
    let b = standing g.D.Disk g.T.Told c.args.self.now c.args.out.now in
    together (dataset_setting c.args.dataset.now) c.args.dataset.now.hints.now b
    (standing_at (record { clients = c.take_job.new.self.clients; met = c.in_ok-met.met; reached = c.max-self.result; order = c.note_step.new.order }) c.meet_on_file.new.records (g.D.Disk.held c.meet_on_file.new.disk) (g.D.Disk.calls c.meet_on_file.new.disk) (g.T.Told.heard c.note_step.new.told) c.reply_all.new.back) c.in_ok-job.job.batches c.in_ok-job.known c.in_ok-pair.pair c.in_ok-pair.table (record {
      batches_are = c.in_ok-job.ensures.batches;
      known_is = c.in_ok-job.ensures.known;
      known_low = held_low c.args.dataset.now.header.now (g.D.Disk.len c.args.out.now.disk.now) b c.requires.steady;
      below = c.requires.steady.below;
      pair_is = c.in_ok-pair.ensures.told;
      records = c.in_ok-pair.ensures.records;
      bytes = c.in_ok-pair.ensures.bytes;
      got = c.in_ok-pair.ensures.got;
      fits = c.in_ok-pair.ensures.fits;
      calls = c.in_ok-pair.ensures.calls;
      once = held_once c.args.dataset.now.header.now (g.D.Disk.len c.args.out.now.disk.now) b c.requires.steady c.requires.all;
      order = c.in_ok-note_step.ensures.order ∙ (λ i. c.in_ok-job.ensures.order i ++ Meet (c.in_ok-job.ensures.met i) ∷ []);
      heard = c.in_ok-note_step.ensures.heard ∙ ap (λ k. with_end (g.T.Told.heard c.args.out.now.told.now) ((Meet k, c.meet_on_file.new.records) ∷ [])) c.in_ok-job.ensures.met;
      clients = c.in_ok-job.ensures.freed;
      met_more = c.in_ok-met.ensures;
      reached = c.max-self.ensures ∙ ap (λ k. max k c.meet_on_file.new.records) c.in_ok-job.ensures.reached;
      lines = c.reply_all.ensures;
    })

pub returns-clause-steady : goal.returns-clause-steady
returns-clause-steady g c =
    let b = standing g.D.Disk g.T.Told c.args.self.now c.args.out.now in
    steady_freed c.args.dataset.now.header.now (g.D.Disk.len c.args.out.now.disk.now) (g.D.Disk.len c.meet_on_file.new.disk) b
    (standing_at (record { clients = c.take_job.new.self.clients; met = c.in_ok-met.met; reached = c.max-self.result; order = c.note_step.new.order }) c.meet_on_file.new.records (g.D.Disk.held c.meet_on_file.new.disk) (g.D.Disk.calls c.meet_on_file.new.disk) (g.T.Told.heard c.note_step.new.told) c.reply_all.new.back) c.requires.steady c.in_ok-job.ensures.freed c.reply_all.ensures.long c.in_ok-pair.ensures.longer c.in_ok-pair.ensures.count (c.max-self.ensures ∙ ap (λ k. max k c.meet_on_file.new.records) c.in_ok-job.ensures.reached)

pub returns-in_err-job-clause-refused : goal.returns-in_err-job-clause-refused
returns-in_err-job-clause-refused g c =
    grind (arith, nat_tests, on_err, none_once (dataset_setting c.args.dataset.now) (standing g.D.Disk g.T.Told c.args.self.now c.args.out.now))

pub returns-in_err-pair-clause-refused : goal.returns-in_err-pair-clause-refused
returns-in_err-pair-clause-refused g c =
    let b = standing g.D.Disk g.T.Told c.args.self.now c.args.out.now in
    on_err _ (refused_once (dataset_setting c.args.dataset.now) b c.in_ok-job.job.batches c.in_ok-job.known c.meet_on_file.new.records (g.D.Disk.held c.meet_on_file.new.disk)
    c.in_ok-job.ensures.batches c.in_ok-job.ensures.known (held_once c.args.dataset.now.header.now (g.D.Disk.len c.args.out.now.disk.now) b c.requires.steady c.requires.all) c.in_err-pair.ensures.refused c.in_err-pair.ensures.kept)

pub returns-in_err-met-clause-refused : goal.returns-in_err-met-clause-refused
returns-in_err-met-clause-refused g c =
    grind (arith, nat_tests, on_err, none_once (dataset_setting c.args.dataset.now) (standing g.D.Disk g.T.Told c.args.self.now c.args.out.now))

pub returns-in_err-note_step-clause-refused : goal.returns-in_err-note_step-clause-refused
returns-in_err-note_step-clause-refused g c =
    let b = standing g.D.Disk g.T.Told c.args.self.now c.args.out.now in
    grind (arith, nat_tests, on_err, done_once (dataset_setting c.args.dataset.now) b c.in_ok-job.job.batches c.in_ok-job.known, c.in_ok-job.ensures.batches, c.in_ok-job.ensures.known, c.in_ok-pair.ensures.bytes, c.in_ok-pair.ensures.records)
