-- One step of the sweep.
use Rattle.overlap_report.proofs.Words.{ℕ, ◌+◌, ◌<◌, ◌≤◌, refl, sym, subst, inl, inr, List, [], ◌∷◌, ◌++◌, arith, Extent, Owned, In, HaveSame, extents, IsInLine, in_either, cases_lt, map_push, IsPartOfOne, Covers, part_of, StandsBy, Winner, Swept, nat_tests}
use Rattle.overlap_report.proofs.KeySteps.{IsNext, for_next, next_pushed}

-- ---- nothing goes on

pub swept_empty : (seen out : List Owned) (p stop : ℕ) → p ≤ stop → Swept seen out [] p → Swept seen out [] stop
swept_empty seen out p stop h s =
    let served : (q : Owned) (y : ℕ) → In seen q → y < stop → Covers q y → (o : Owned) × In out o × Covers o y = λ q y m l c.
    elim (cases_lt y p) [ inl e ↦ s.served q y m e c | inr past ↦ (let high = c.1 in absurd (s.alive q m (omega arith))) ]
    in
    grind (arith, nat_tests, s.won, s.alive, s.low, s.line, s.parts, s.begun, served)

-- ---- bytes of the top

line_more : (out : List Owned) (e : Extent) → IsInLine (extents out) → ((o : Owned) → In out o → o.extent.at + o.extent.len ≤ e.at) → IsInLine (extents out ++ e ∷ [])
line_more [] e h low = ((λ d m l. absurd m), tt)
line_more (o ∷ out) e h low = (
  (λ d m l. grind (arith, nat_tests, in_either (extents out) (e ∷ []) d m, h.0 d, low o (inl refl))),
  line_more out e h.1 (λ q m. low q (inr m)),
)

pub swept_part : (seen out pool : List Owned) (top : Owned) (p end : ℕ) → In pool top → ((q : Owned) → In pool q → StandsBy q top) → p < end → end ≤ top.extent.at + top.extent.len
    → Swept seen out pool p → Swept seen (out ++ part_of top p end ∷ []) pool end
swept_part seen out pool top p end inside greatest room high s =
    let one = part_of top p end in
    let next = next_pushed out one in
    let among = s.pooled top inside in
    let begins : top.extent.at ≤ p = s.begun top among in
    let wins : (y : ℕ) → Covers one y → Winner seen one y = grind (arith, nat_tests, s.alive) in
    record {
      won = λ o y m c. for_next (λ z. Covers z y → Winner seen z y) next (λ z g d. s.won z y g d) (wins y) o m c;
      served = λ q y m l c. elim (cases_lt y p) [
        | inl e ↦ (let r = s.served q y m e c in (r.0, next.keeps r.0 r.1, r.2))
        | inr past ↦ (one, next.has, (past, omega arith))
      ];
      alive = λ o m l. s.alive o m (omega arith);
      pooled = s.pooled;
      low = for_next (λ z. (z.extent.at + z.extent.len ≤ end) × (1 ≤ z.extent.len)) next (λ o g. (omega (arith, (s.low o g).0), (s.low o g).1)) (omega arith, omega arith);
      line = subst IsInLine (sym (map_push (λ (o : Owned). o.extent) out one)) (line_more out one.extent s.line (λ o m. (s.low o m).0));
      parts = for_next (IsPartOfOne seen) next s.parts (top, among, record { begins = begins; ends = omega arith; rank = refl; request = refl; slot = refl; from = refl });
      begun = λ o m. omega (arith, s.begun o m);
    }

-- ---- one more entry

pub swept_more : (seen more out pool next : List Owned) (o : Owned) → IsNext seen more o → HaveSame (o ∷ pool) next → Swept seen out pool o.extent.at → Swept more out next o.extent.at
swept_more seen more out pool next o is_next same s = record {
  won = λ z y m c. (let w = s.won z y m c in grind (arith, nat_tests, for_next, w.holder, is_next.keeps, w.is_one, w.covers, w.rank, w.slot, w.from, w.greatest));
  served = λ q y m l c. for_next (λ z. Covers z y → (u : Owned) × In out u × Covers u y) is_next (λ z g d. s.served z y g l d) (λ d. absurd (omega (arith, d.0))) q m c;
  alive = for_next (λ q. o.extent.at < q.extent.at + q.extent.len → In next q) is_next (λ q g l. same.0 q (inr (s.alive q g l))) (λ l. same.0 o (inl refl));
  pooled = λ q m. elim (same.1 q m) [ inl e ↦ subst (λ (z : Owned). In more z) e is_next.has | inr n ↦ is_next.keeps q (s.pooled q n) ];
  low = s.low;
  line = s.line;
  parts = λ z m. (let r = s.parts z m in (r.0, is_next.keeps r.0 r.1, r.2));
  begun = for_next (λ q. q.extent.at ≤ o.extent.at) is_next s.begun (omega arith);
}
