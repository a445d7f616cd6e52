-- A list of sending ends, with one more.
use Rattle.ruled_line.proofs.Words.{◌≡◌, ◌+◌, ℕ, suc, List, [], ◌∷◌, ◌++◌, map, All, sym, ap, ◌∙◌, arith, range_with_len, map-append, All-push, Line, Sender, range_push}

module _ {T : Type 0} where
  pub numbers-push : (senders : List (Sender T)) (n : ℕ) (s : Sender T) → map (λ u. u.number) senders ≡ range_with_len 0 n → s.number ≡ n → map (λ u. u.number) (senders ++ s ∷ []) ≡ range_with_len 0 (n + 1)
  numbers-push senders n s old is =
      let more : suc n ≡ n + 1 = omega arith in
      map-append (λ (u : Sender T). u.number) senders (s ∷ []) ∙ ap (λ l. l ++ s.number ∷ []) old ∙ ap (λ k. range_with_len 0 n ++ k ∷ []) is ∙ sym (range_push 0 n n (omega arith)) ∙ ap (range_with_len 0) more

  pub same-push : (of : Line (ℕ × T)) (senders : List (Sender T)) (s : Sender T) → All (λ u. u.of ≡ of) senders → s.of ≡ of → All (λ u. u.of ≡ of) (senders ++ s ∷ [])
  same-push of = All-push (λ (u : Sender T). u.of ≡ of)

  pub empty-push : (senders : List (Sender T)) (s : Sender T) → All (λ u. u.items ≡ []) senders → s.items ≡ [] → All (λ u. u.items ≡ []) (senders ++ s ∷ [])
  empty-push = All-push (λ (u : Sender T). u.items ≡ [])
