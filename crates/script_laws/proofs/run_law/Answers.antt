use Rattle.script_laws.proofs.RunLaws.{read_ranks, read_header_align, read_var_align, read_records, read_opened}
use Rattle.script_laws.proofs.run_law.Goals as goal

pub returns : goal.returns
returns c = record { ranks = read_ranks; header_align = read_header_align; var_align = read_var_align; records = read_records; opened = read_opened }
