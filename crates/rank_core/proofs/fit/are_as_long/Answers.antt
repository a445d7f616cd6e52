-- Each blob so far is as long as its get asks for.
use Rattle.rank_core.proofs.Words.{◌≡◌, ◌<◌, ◌∙◌, ap, sym, List, ℕ, length, map, take, arith, take-length, read_in, wanted}
use Rattle.nc_base.specs.declared.request.Direction.TheVariants as way
use Rattle.rank_core.proofs.FittingLaws.{are_same, not_same, same_more}
use Rattle.rank_core.proofs.HeardLaws.{same_at}
use Rattle.rank_core.proofs.fit.are_as_long.Goals as goal

pub bytes_wanted-requires : goal.bytes_wanted-requires
bytes_wanted-requires c =
    let get = c.index-gets-index.result in
    (c.requires.gets.0, way.Get, c.requires.gets.1.each get (read_in c.args.gets.now c.loop-index.index get c.loop-index-test.true c.index-gets-index.is))

pub returns-then-len-bytes_wanted : goal.returns-then-len-bytes_wanted
returns-then-len-bytes_wanted c =
    let long = λ (b : List ℕ). length b in
    let near : c.loop-index.index < length c.args.blobs.now = let same = c.if-blobs-gets.false in omega (arith, c.loop-index-test.true) in
    sym (not_same _ _ (λ e. c.if-len-bytes_wanted.true (c.len.ensures
    ∙ same_at long (wanted c.args.header.now) c.args.blobs.now c.args.gets.now c.loop-index.index c.index-blobs-index.result c.index-gets-index.result
    e near c.loop-index-test.true c.index-blobs-index.is c.index-gets-index.is ∙ sym c.bytes_wanted.ensures)))

pub loop-index-preserved : goal.loop-index-preserved
loop-index-preserved c =
    let near : c.loop-index.index < length c.args.blobs.now = let same = c.if-blobs-gets.false in omega (arith, c.loop-index-test.true) in
    same_more (λ b. length b) (wanted c.args.header.now) c.args.blobs.now c.args.gets.now c.loop-index.index c.index-blobs-index.result c.index-gets-index.result
    c.loop-index.invariant near c.loop-index-test.true c.index-blobs-index.is c.index-gets-index.is (sym c.len.ensures ∙ c.if-len-bytes_wanted.false ∙ c.bytes_wanted.ensures)

pub returns : goal.returns
returns c =
    let n : c.loop-index.index ≡ length c.args.gets.now = let low = c.loop-index.auto.index-end in omega (arith, c.loop-index-test.false) in
    let m : length c.args.blobs.now ≡ length c.args.gets.now = c.if-blobs-gets.false in
    let blobs = c.args.blobs.now in
    let gets = c.args.gets.now in
    sym (are_same _ _ (ap (map (λ b. length b)) (sym (take-length blobs) ∙ ap (λ (k : ℕ). take k blobs) (m ∙ sym n)) ∙ c.loop-index.invariant
    ∙ ap (map (wanted c.args.header.now)) (ap (λ (k : ℕ). take k gets) n ∙ take-length gets)))
