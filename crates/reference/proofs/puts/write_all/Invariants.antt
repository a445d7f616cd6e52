-- The puts that are left make the whole.
use Rattle.reference.proofs.Words.{◌≡◌, drop, fold, put_post, Setting}
use Rattle.reference.proofs.puts.write_all.Given as goal

abbrev pub invariant-loop-one : goal.invariant-loop-one
invariant-loop-one l = (s : Setting) → s.header ≡ l.header → fold (put_post s) l.file.items (drop l.one-index l.puts) ≡ fold (put_post s) l.initial.file.items l.puts
