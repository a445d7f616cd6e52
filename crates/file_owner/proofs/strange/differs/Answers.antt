use Rattle.file_owner.proofs.Words.{sym, ◌∙◌, ap, list_any, differs, kind_held, kind_of_meeting}
use Rattle.file_owner.proofs.StrangeLaws.{no_kind}
use Rattle.file_owner.proofs.strange.differs.Goals as goal

pub returns-in-Solo : goal.returns-in-Solo
returns-in-Solo c = sym (ap (λ k. list_any (λ y. differs (kind_held y) (kind_of_meeting k)) c.args.clients.now) c.in-Solo.is ∙ no_kind c.args.clients.now)
