-- The puts raise the count of the file, and then the ranks.
use Rattle.turn_run.proofs.Words.{◌≡◌, ◌≤◌, ℕ, ◌∙◌, arith, puts_in, setting, on_err, nat_tests}
use Rattle.turn_run.proofs.CountLaws.{count_begins, count_longer, count_small, count_still, rise_small}
use Rattle.turn_run.proofs.MeetFile.{met_bytes, met_called, met_count, round_count}
use Rattle.turn_run.proofs.CutMeet.{round_met, count_met, met_done_of, count_left, count_all}
use Rattle.turn_run.proofs.meeting.meet_on_file.Goals as goal

no_less : (a b : ℕ) → b ≡ a → a ≤ b
no_less a b e = omega arith

pub put_half-requires-clause-records : goal.put_half-requires-clause-records
put_half-requires-clause-records g c κs within = count_small c.args.dataset.now.header.now _ c.args.records.now c.requires.records

pub put_half-requires-clause-long : goal.put_half-requires-clause-long
put_half-requires-clause-long g c κs within = count_begins c.args.dataset.now.header.now _ c.args.records.now c.requires.records

pub returns-in_err-end-clause-count : goal.returns-in_err-end-clause-count
returns-in_err-end-clause-count g c = grind (arith, nat_tests, count_still, c.requires.records, c.in_err-end.ensures.grown, c.in_err-end.ensures.kept)

pub raise_records-requires-clause-records : goal.raise_records-requires-clause-records
raise_records-requires-clause-records g c κs within = count_small c.args.dataset.now.header.now _ c.put_half.new.records
    (round_count (setting c.args.dataset.now.header.now c.args.dataset.now.hints.now) _ _ c.args.records.now c.put_half.new.records (puts_in c.args.job.now.batches) c.args.dataset.now.sound c.requires.job.puts
    c.requires.records c.in_ok-end.ensures.grown c.in_ok-end.ensures.long c.in_ok-end.ensures.records)

pub raise_records-requires-clause-needed : goal.raise_records-requires-clause-needed
raise_records-requires-clause-needed g c κs within = rise_small c.args.dataset.now.header.now _ c.args.known c.requires.known

pub raise_records-requires-clause-long : goal.raise_records-requires-clause-long
raise_records-requires-clause-long g c κs within =
    count_begins c.args.dataset.now.header.now _ c.args.records.now (count_longer c.args.dataset.now.header.now _ _ c.args.records.now c.in_ok-end.ensures.grown c.requires.records)

pub returns-in_err-raise_records-clause-count : goal.returns-in_err-raise_records-clause-count
returns-in_err-raise_records-clause-count g c =
    let round = round_count (setting c.args.dataset.now.header.now c.args.dataset.now.hints.now) _ _ c.args.records.now c.put_half.new.records (puts_in c.args.job.now.batches) c.args.dataset.now.sound c.requires.job.puts
    c.requires.records c.in_ok-end.ensures.grown c.in_ok-end.ensures.long c.in_ok-end.ensures.records in
    count_still c.args.dataset.now.header.now _ _ c.put_half.new.records c.raise_records.new.records round (no_less _ _ c.in_err-raise_records.ensures.len) c.in_err-raise_records.ensures.kept

pub returns-in_err-table-clause-count : goal.returns-in_err-table-clause-count
returns-in_err-table-clause-count g c =
    let s = setting c.args.dataset.now.header.now c.args.dataset.now.hints.now in
    let round = round_count s _ _ c.args.records.now c.put_half.new.records (puts_in c.args.job.now.batches) c.args.dataset.now.sound c.requires.job.puts
    c.requires.records c.in_ok-end.ensures.grown c.in_ok-end.ensures.long c.in_ok-end.ensures.records in
    met_count s _ _ _ c.put_half.new.records c.raise_records.new.records c.args.known round c.in_ok-end.ensures.grown c.requires.known (c.in_err-table.ensures.len ∙ c.in_ok-raise_records.ensures.len) c.in_ok-raise_records.ensures.records

pub get_half-requires-clause-few : goal.get_half-requires-clause-few
get_half-requires-clause-few g c κs within = rw c.job.ensures c.requires.job.few

pub get_half-requires-clause-gets : goal.get_half-requires-clause-gets
get_half-requires-clause-gets g c κs within = rw c.job.ensures (λ p i. let k = c.requires.job.gets p i in record { accepted = k.accepted; there = omega arith })

pub returns-clause-got : goal.returns-clause-got
returns-clause-got g c = rw (c.in_ok-table.ensures.bytes, ← c.job.ensures) c.in_ok-table.ensures.got

pub returns-clause-fits : goal.returns-clause-fits
returns-clause-fits g c = rw (← c.job.ensures) c.in_ok-table.ensures.fits

pub returns-clause-bytes : goal.returns-clause-bytes
returns-clause-bytes g c =
    met_bytes (setting c.args.dataset.now.header.now c.args.dataset.now.hints.now) c.args.job.now.batches c.args.records.now c.put_half.new.records c.args.known _ _ _ _
    c.in_ok-end.ensures.bytes c.in_ok-end.ensures.records c.in_ok-raise_records.ensures.bytes c.in_ok-table.ensures.bytes

pub returns-clause-calls : goal.returns-clause-calls
returns-clause-calls g c one =
    met_called c.args.dataset.now.hints.now (setting c.args.dataset.now.header.now c.args.dataset.now.hints.now) c.args.job.now.batches c.args.records.now c.put_half.new.records c.args.known _ _ _ _ _ _ one
    (g.D.Disk.told c.args.disk.now) c.in_ok-end.ensures.calls c.in_ok-end.ensures.records c.in_ok-raise_records.ensures.calls (rw c.job.ensures at c.in_ok-table.ensures.calls)

pub returns-clause-count : goal.returns-clause-count
returns-clause-count g c =
    let s = setting c.args.dataset.now.header.now c.args.dataset.now.hints.now in
    let round = round_count s _ _ c.args.records.now c.put_half.new.records (puts_in c.args.job.now.batches) c.args.dataset.now.sound c.requires.job.puts
    c.requires.records c.in_ok-end.ensures.grown c.in_ok-end.ensures.long c.in_ok-end.ensures.records in
    met_count s _ _ _ c.put_half.new.records c.raise_records.new.records c.args.known round c.in_ok-end.ensures.grown c.requires.known (c.in_ok-table.ensures.len ∙ c.in_ok-raise_records.ensures.len) c.in_ok-raise_records.ensures.records

pub returns-in_err-end-clause-refused : goal.returns-in_err-end-clause-refused
returns-in_err-end-clause-refused g c =
    on_err _ (round_met (setting c.args.dataset.now.header.now c.args.dataset.now.hints.now) c.args.job.now.batches c.args.records.now c.args.known (g.D.Disk.held c.args.disk.now) (g.D.Disk.held c.put_half.new.disk)
    c.in_err-end.ensures.refused)

pub returns-in_err-end-clause-kept : goal.returns-in_err-end-clause-kept
returns-in_err-end-clause-kept g c = grind (arith, nat_tests, on_err, c.in_err-end.ensures.kept)

pub returns-in_err-raise_records-clause-refused : goal.returns-in_err-raise_records-clause-refused
returns-in_err-raise_records-clause-refused g c =
    on_err _ (count_met (setting c.args.dataset.now.header.now c.args.dataset.now.hints.now) c.args.job.now.batches c.args.records.now c.put_half.new.records c.args.known
    (g.D.Disk.held c.args.disk.now) (g.D.Disk.held c.put_half.new.disk) (g.D.Disk.held c.raise_records.new.disk) c.in_ok-end.ensures.bytes c.in_ok-end.ensures.records
    c.in_err-raise_records.ensures.refused)

pub returns-in_err-raise_records-clause-kept : goal.returns-in_err-raise_records-clause-kept
returns-in_err-raise_records-clause-kept g c =
    on_err _ (count_left (setting c.args.dataset.now.header.now c.args.dataset.now.hints.now) (puts_in c.args.job.now.batches) c.args.records.now c.put_half.new.records c.raise_records.new.records c.args.known
    c.in_ok-end.ensures.records c.in_err-raise_records.ensures.kept)

pub returns-in_err-table-clause-refused : goal.returns-in_err-table-clause-refused
returns-in_err-table-clause-refused g c =
    on_err _ (met_done_of (setting c.args.dataset.now.header.now c.args.dataset.now.hints.now) c.args.job.now.batches c.args.records.now c.args.known (g.D.Disk.held c.args.disk.now) (g.D.Disk.held c.get_half.new.disk)
    (met_bytes (setting c.args.dataset.now.header.now c.args.dataset.now.hints.now) c.args.job.now.batches c.args.records.now c.put_half.new.records c.args.known _ _ _ _
    c.in_ok-end.ensures.bytes c.in_ok-end.ensures.records c.in_ok-raise_records.ensures.bytes c.in_err-table.ensures.bytes))

pub returns-in_err-table-clause-kept : goal.returns-in_err-table-clause-kept
returns-in_err-table-clause-kept g c = grind (arith, nat_tests, on_err, count_all, c.in_ok-end.ensures.records, c.in_ok-raise_records.ensures.records)
