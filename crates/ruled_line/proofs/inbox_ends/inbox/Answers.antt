use Rattle.ruled_line.proofs.Words.{◌≡◌, ◌+◌, ◌++◌, ◌∷◌, [], map, All, refl, sym, subst, rules, range_with_len, sends_on, line_of}
use Rattle.ruled_line.proofs.InboxMoves.{begins, opens, gives}
use Rattle.ruled_line.proofs.SenderLists.{same-push, numbers-push, empty-push}
use Rattle.ruled_line.proofs.inbox_ends.inbox.Goals as goal

pub bounded_with-requires-clause-rule : goal.bounded_with-requires-clause-rule
bounded_with-requires-clause-rule g c = begins

pub another-idle-requires-clause-rule : goal.another-idle-requires-clause-rule
another-idle-requires-clause-rule g c = opens _ _ _ (search rules)

pub another-theirs-requires-clause-rule : goal.another-theirs-requires-clause-rule
another-theirs-requires-clause-rule g c = gives _ _ (search rules)

pub loop-number-preserved : goal.loop-number-preserved
loop-number-preserved g c =
    let of = line_of (sends_on c.in_ok-sender.sender) in
    let e : c.push.new.self.items ≡ c.loop-number.ends.items ++ (record { of = of; number = c.loop-number.number; items = [] }) ∷ [] = search rules in (
      search rules,
      search rules,
      search rules,
      subst (All (λ s. s.of ≡ of)) (sym e) (same-push of _ _ c.loop-number.invariant.3 refl),
      subst (λ ends. map (λ s. s.number) ends ≡ range_with_len 0 (c.loop-number.number + 1)) (sym e) (numbers-push _ _ _ c.loop-number.invariant.4 refl),
      subst (All (λ s. s.items ≡ [])) (sym e) (empty-push _ _ c.loop-number.invariant.5 refl),
    )
