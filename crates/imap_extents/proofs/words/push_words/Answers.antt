use Rattle.imap_extents.proofs.Cited.{◌≡◌, ◌++◌, ◌∙◌, ap, sym, not, false, Bool, get_or, take_all, Value, ext, fits, arith, nat_tests}
use Rattle.imap_extents.proofs.EachLaws.{forms_added, fits_added}
use Rattle.imap_extents.proofs.words.push_words.Goals as goal

pub loop-word-preserved : goal.loop-word-preserved
loop-word-preserved g c =
    let kind = c.args.kind in
    let told = g.W.Word.told in
    let words = c.args.words.now in
    let i = c.loop-word.word-index in
    let now = c.loop-word.bytes.items in
    let is : c.value.result ≡ told (get_or words i c.word-item.result) = c.value.ensures ∙ ap told c.word-item.is in (
      forms_added (λ (w : g.row.W.Denot). ext kind (told w)) c.args.bytes.now.items now c.push_external.new.bytes.items words i c.word-item.result
          c.loop-word-test.true c.loop-word.invariant.0 (c.in_ok-push_external.ensures.ok ∙ ap (λ (v : Value). now ++ ext kind v) is),
      fits_added (λ (w : g.row.W.Denot). not (fits kind (told w))) words i c.word-item.result c.loop-word-test.true c.loop-word.invariant.1
          (sym (ap (λ (v : Value). not (fits kind v)) is) ∙ ap (λ (b : Bool). not b) c.in_ok-push_external.ensures.right),
    )

pub returns : goal.returns
returns g c =
    let told = g.W.Word.told in
    let all = take_all c.loop-word.word-index c.args.words.now c.loop-word-test.false in
    grind (arith, nat_tests, fits, c.loop-word.invariant.0, c.loop-word.invariant.1)
