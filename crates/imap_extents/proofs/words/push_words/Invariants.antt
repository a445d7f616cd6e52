use Rattle.imap_extents.proofs.Cited.{◌≡◌, ◌++◌, false, not, take, flat_map, list_any, ext, fits}
use Rattle.imap_extents.proofs.words.push_words.Given as goal

abbrev pub invariant-loop-word : goal.invariant-loop-word
invariant-loop-word g l =
    (l.bytes.items ≡ l.initial.bytes.items ++ flat_map (λ w. ext l.kind (g.W.Word.told w)) (take l.word-index l.words))
    × (list_any (λ w. not (fits l.kind (g.W.Word.told w))) (take l.word-index l.words) ≡ false)
