-- The tests are those of the definition, which depend on no byte of the file.
use Rattle.file_owner.proofs.Words.{sym, ◌∙◌, ap, Header, owner_of, fails_test, entry_read}
use Rattle.file_owner.proofs.StrangeLaws.{strange_is}
use Rattle.file_owner.proofs.owner.Owner.is_strange.Goals as goal

pub returns : goal.returns
returns c = λ s file records e.
    strange_is s (owner_of c.args.self.now file records) c.args.number c.args.item.now c.index.result.now (entry_read c.args.self.now.clients.items c.args.number c.index.result.now c.requires.number c.index.ensures)
    ∙ ap (λ (header : Header). fails_test header c.args.self.now.clients.items c.args.self.now.reached c.index.result.now c.args.item.now) e ∙ sym c.fails_test.ensures
