use Rattle.plan_text.proofs.Cited.{◌≡◌, List, ℕ, [], ◌∷◌, ◌++◌, codes, decimal, arith, then_append, header_len, recsize, header_short, in_bytes}
use Rattle.plan_text.proofs.LineLaws.{then_words}
use Rattle.plan_text.proofs.head.push_dataset.Goals as goal

pub returns : goal.returns
returns c =
    let o : List ℕ = c.args.out.now.items in
    let h = c.args.header.now in
    let version : List ℕ = codes "dataset CDF-" ++ decimal h.version in
    let header : List ℕ = version ++ codes ", header " ++ in_bytes (header_len h) in
    let records : List ℕ = header ++ codes ", records " ++ decimal h.records in
    let size : List ℕ = records ++ codes ", record size " ++ decimal (recsize h) in
    let length : List ℕ = size ++ codes ", length " ++ decimal c.args.length in
    let len : c.header_len.result ≡ header_len h = omega (arith, c.header_len.ensures, header_short h c.requires) in
    let first = rw c.from.ensures at c.in_ok-push_numbered.ensures in
    let second = rw len at c.in_ok-push_bytes_of.ensures in
    let fourth = rw c.recsize.ensures.value at c.in_ok-push_numbered-3.ensures in
    let begun = then_words o _ _ version (codes ", header ") (in_bytes (header_len h)) first second in
    let counted = then_words o _ _ header (codes ", records ") (decimal h.records) begun c.in_ok-push_numbered-2.ensures in
    let sized = then_words o _ _ records (codes ", record size ") (decimal (recsize h)) counted fourth in
    let whole = then_words o _ _ size (codes ", length ") (decimal c.args.length) sized c.in_ok-push_numbered-4.ensures in
    then_append o _ _ length (10 ∷ []) whole c.in_ok-push.ensures.items
