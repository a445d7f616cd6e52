use Rattle.cdf_header.proofs.Words.{◌≡◌, ℕ, ◌^◌, ◌<◌, min, arith, List, Option, ◌∙◌, ap, sym, subst, IfOk, recsize, Span, AreSpans, shared_pair}
use Rattle.cdf_header.proofs.Measured.{bounds_kept, record_size_kept}
use Rattle.cdf_header.proofs.Spanned.{are_spans, sharing_by_spans}
use Rattle.cdf_header.proofs.places.first_sharing.Goals as goal

uncapped : (n : ℕ) → n < 2 ^ 62 → min n (2 ^ 62) ≡ n
uncapped n h = omega arith

pub spans_of-requires : goal.spans_of-requires
spans_of-requires c = bounds_kept c.args.header.now c.requires.bounds

pub first_shared-requires : goal.first_shared-requires
first_shared-requires c =
    subst (λ (spans : List Span). AreSpans spans) (sym (c.deref.ensures.value ∙ c.in_ok-spans.ensures)) (are_spans c.args.header.now c.requires.record_dims)

pub returns : goal.returns
returns c =
    let header = c.args.header.now in
    let spans : List Span = c.deref.result.now in
    let by_size = ap (λ (n : ℕ). shared_pair n c.args.header_end spans) (c.recsize_of-size.ensures ∙ uncapped (recsize header) (record_size_kept header c.requires.bounds)) in
    let by_spans = ap (λ (ss : List Span). shared_pair (recsize header) c.args.header_end ss) (c.deref.ensures.value ∙ c.in_ok-spans.ensures) in
    subst (λ (pair : Option (ℕ × ℕ)). IfOk c.first_shared.result (λ found. found ≡ pair)) (by_size ∙ by_spans ∙ sym (sharing_by_spans header c.args.header_end)) c.first_shared.ensures
