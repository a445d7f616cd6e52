use Rattle.imap_extents.proofs.Cited.{refl, List, ℕ, ℤ, Numbers, Text, Bits, arith, nat_tests}
use Rattle.nc_base.specs.declared.request.Value.TheVariants as value
use Rattle.imap_extents.proofs.FrontLaws.{first_of}
use Rattle.imap_extents.proofs.packing.encode_front.Goals as goal

pub returns-in-Numbers : goal.returns-in-Numbers
returns-in-Numbers c =
    let first = first_of (λ z. value.Number z) (λ (l : List ℤ). Numbers l) c.args.kind c.args.values.now c.in-Numbers.numbers c.in-Numbers.numbers c.args.count (λ zs. refl) (λ zs. refl) c.in-Numbers.is refl c.requires in
    grind (arith, nat_tests, c.encode_numbers.ensures.ok, c.encode_numbers.ensures.right, c.encode_numbers.ensures.refused)

pub returns-in-Text : goal.returns-in-Text
returns-in-Text c =
    let first = first_of (λ z. value.Char z) (λ (l : List ℕ). Text l) c.args.kind c.args.values.now c.in-Text.characters c.as_slice.result.now c.args.count (λ zs. refl) (λ zs. refl) c.in-Text.is c.as_slice.ensures c.requires in
    grind (arith, nat_tests, c.encode_text.ensures.ok, c.encode_text.ensures.right, c.encode_text.ensures.refused)

pub returns-in-Bits : goal.returns-in-Bits
returns-in-Bits c =
    let first = first_of (λ z. value.Bits z) (λ (l : List ℕ). Bits l) c.args.kind c.args.values.now c.in-Bits.patterns c.in-Bits.patterns c.args.count (λ zs. refl) (λ zs. refl) c.in-Bits.is refl c.requires in
    grind (arith, nat_tests, c.encode_patterns.ensures.ok, c.encode_patterns.ensures.right, c.encode_patterns.ensures.refused)
