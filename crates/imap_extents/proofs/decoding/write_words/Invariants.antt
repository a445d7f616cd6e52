use Rattle.imap_extents.proofs.Cited.{◌≡◌, map, take}
use Rattle.imap_extents.proofs.decoding.write_words.Given as goal

abbrev pub invariant-loop-i : goal.invariant-loop-i
invariant-loop-i g l = take l.i l.words ≡ map g.D.Decode.word (take l.i l.forms)
