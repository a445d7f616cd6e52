use Rattle.ncmpi_cli.proofs.Words.{ap, inl, inr, Err, Stop, ℕ, ◌∙◌, arith, nat_tests}
use Rattle.ncmpi_cli.proofs.Listed.{dataset, header_read, list_status, not_faulty, refused, wants_memory}
use Rattle.ncmpi_cli.proofs.Reading.{told_by_no_text}
use Rattle.ncmpi_cli.proofs.Statuses.{seven_disk, told_line}
use Rattle.ncmpi_cli.proofs.offsets.list_offsets.Goals as goal

pub returns-in-Ok-clause-faulty : goal.returns-in-Ok-clause-faulty
returns-in-Ok-clause-faulty g c = λ faulty disk. not_faulty (g.D.Disk.held c.args.disk.now) c.in-Ok.ensures.faultless faulty

pub returns-in-Err : goal.returns-in-Err
returns-in-Err g c =
    let held = g.D.Disk.held c.args.disk.now in
    let stop : Stop = c.in-Err.stop in
    let status : ℕ = c.tell.result.status in
    let told = c.tell.ensures.status in
    let own = c.in-Err.ensures in
    record {
      ok = λ s. absurd (told_by_no_text stop status told (inl s));
      cut = λ s. absurd (told_by_no_text stop status told (inr s));
      statuses = list_status stop status told own.only;
      dataset = dataset held stop status told own.only (λ e x. own.header e (ap (λ (s : Stop). Err s) x)) c.tell.ensures.line;
      sink = λ s. absurd (told_by_no_text stop status told (inr s));
      disk = λ s. own.disk (ap (λ (s : Stop). Err s) (seven_disk stop status told s));
      faulty = λ _ still. refused held stop status told own.only (λ x. still (own.disk (ap (λ (s : Stop). Err s) x)));
      complete = grind (arith, nat_tests, wants_memory held stop status told own.only);
      unchanged = own.held;
      calls = λ s. header_read stop status told own.only (λ e x. own.refused e (ap (λ (s : Stop). Err s) x)) s;
      silent = c.tell.ensures.silent;
      told = told_line _ stop status told c.tell.ensures.line;
      order = c.tell.ensures.order ∙ c.new-in-Err.ensures;
      readings = c.tell.ensures.readings;
    }
