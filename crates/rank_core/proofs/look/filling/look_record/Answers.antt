use Rattle.rank_core.proofs.Words.{◌∙◌, sym, ap, ℕ, arith, nat_tests}
use Rattle.rank_core.proofs.FillLaws.{not_record, record_filled, record_too_large, share_grows, share_within}
use Rattle.rank_core.proofs.look.filling.look_record.Goals as goal

pub returns-then-not-is_record : goal.returns-then-not-is_record
returns-then-not-is_record c = not_record c.args.target.now c.args.number c.args.rank c.args.ranks (sym c.is_record.ensures ∙ c.if-not-is_record.true)

pub returns-then-is_too_large : goal.returns-then-is_too_large
returns-then-is_too_large c =
    record_too_large c.args.target.now c.args.number c.args.rank c.args.ranks (sym c.is_record.ensures ∙ c.if-not-is_record.false)
    c.record_elements.result c.share-from.result.0 c.share-from.result.1 c.record_elements.ensures.elements
    (ap (λ (p : ℕ × ℕ). p.0) c.share-from.ensures) (ap (λ (p : ℕ × ℕ). p.1) c.share-from.ensures)
    (sym c.is_too_large.ensures ∙ c.if-is_too_large.true)

pub fill_posts-requires : goal.fill_posts-requires
fill_posts-requires c =
    let grows = share_grows c.record_elements.result c.args.rank c.args.ranks c.requires.rank in
    grind (arith, nat_tests, share_within, c.share-from.ensures, c.record_elements.ensures.elements, c.is_too_large.ensures, c.if-is_too_large.false, c.is_record.ensures, c.if-not-is_record.false, c.record_elements.ensures.small)

pub returns : goal.returns
returns c =
    record_filled c.args.target.now c.args.number c.args.rank c.args.ranks (sym c.is_record.ensures ∙ c.if-not-is_record.false)
    c.record_elements.result c.share-from.result.0 c.share-from.result.1 c.record_elements.ensures.elements
    (ap (λ (p : ℕ × ℕ). p.0) c.share-from.ensures) (ap (λ (p : ℕ × ℕ). p.1) c.share-from.ensures)
    c.in_ok-fill_posts.field-0 (sym c.is_too_large.ensures ∙ c.if-is_too_large.false) c.in_ok-fill_posts.ensures
