use Rattle.imap_extents.proofs.Cited.{not, ext, fits}
use Rattle.nc_base.specs.declared.request.Value.TheVariants as value
use Rattle.imap_extents.proofs.RunLaws.{kind_forms, kind_unfit, told_numbers}
use Rattle.imap_extents.proofs.words.push_numbers.Goals as goal

pub returns-in-Narrow-clause-refused : goal.returns-in-Narrow-clause-refused
returns-in-Narrow-clause-refused c = rw c.in-Narrow.is c.push_words.ensures.refused

pub returns-in-Wide-clause-refused : goal.returns-in-Wide-clause-refused
returns-in-Wide-clause-refused c = rw c.in-Wide.is c.push_words-in-Wide.ensures.refused

pub returns-in-Widest-clause-refused : goal.returns-in-Widest-clause-refused
returns-in-Widest-clause-refused c = rw c.in-Widest.is c.push_words-in-Widest.ensures.refused

pub returns-in-Runs-clause-ok : goal.returns-in-Runs-clause-ok
returns-in-Runs-clause-ok c = rw (c.in-Runs.is, ← kind_forms (λ v. ext c.args.kind v) (λ z. value.Number z) _ _ c.args.count (told_numbers c.in-Runs.runs.now)) c.push_runs.ensures.ok

pub returns-in-Runs-clause-right : goal.returns-in-Runs-clause-right
returns-in-Runs-clause-right c = rw (c.in-Runs.is, ← kind_unfit (λ v. not (fits c.args.kind v)) (λ z. value.Number z) _ _ c.args.count (told_numbers c.in-Runs.runs.now)) c.push_runs.ensures.right

pub returns-in-Runs-clause-refused : goal.returns-in-Runs-clause-refused
returns-in-Runs-clause-refused c = rw (c.in-Runs.is, ← kind_unfit (λ v. not (fits c.args.kind v)) (λ z. value.Number z) _ _ c.args.count (told_numbers c.in-Runs.runs.now)) c.push_runs.ensures.refused
