use Rattle.cdf_header.proofs.Words.{◌≡◌, ℕ, ◌<◌, ◌≤◌, true, sym, ap, subst, ◌∙◌, arith, get_or, inl, inr, nat_lt, cases_lt, get_or_default, common_steps, Span, false}
use Rattle.cdf_header.proofs.spans.first_overlapped.Goals as goal

-- the span that is reached now, and one ahead of it
last_apart : (first number reach begin end : ℕ) → (nat_lt begin reach ≡ true → first ≤ number) → end ≤ reach → number < first → end ≤ begin
last_apart first number reach begin end counted ends below = grind arith

pub loop-span-preserved : goal.loop-span-preserved
loop-span-preserved c = record {
  reach = grind (arith, common_steps, c.loop-span.invariant.reach);
  apart = λ i j d lt within below.
      let spans = c.args.spans.now in
      let at : ℕ = c.loop-span.span-index in
      let none : Span = record { begin = 0; end = 0; number = 0; is_record = false } in
      elim (cases_lt j at) [
        | inl earlier ↦ c.loop-span.invariant.apart i j d lt earlier (omega arith)
        | inr le ↦
            let here : get_or spans j d ≡ get_or spans at none = (let same : j ≡ at = omega arith in ap (λ (n : ℕ). get_or spans n d) same ∙ get_or_default spans at d none (omega arith)) in
            let ahead : (get_or spans i d).end ≤ c.loop-span.reach = c.loop-span.invariant.reach i d (omega arith) in
            subst (λ (s : Span). s.number < c.lower_if-first.result → (get_or spans i d).end ≤ s.begin) (sym here)
            (λ b. last_apart c.lower_if-first.result (get_or spans at none).number c.loop-span.reach (get_or spans at none).begin (get_or spans i d).end c.lower_if-first.ensures.counted ahead b) below
      ];
}
