use Rattle.ruled_line.proofs.Words.{◌≡◌, [], map, length, All, range_with_len, view, IsSeatAt, sends_on, ruled_capacity, receiver_view, idle_view, line_of}
use Rattle.ruled_line.proofs.inbox_ends.inbox.Given as goal

abbrev pub ghosts-another : goal.ghosts-another
ghosts-another g a = record { left = λ v. receiver_view 0 (ruled_capacity (sends_on a.self.now)) v.taken; right = λ v. idle_view }

abbrev pub invariant-loop-number : goal.invariant-loop-number
invariant-loop-number g l =
    IsSeatAt (sends_on l.sender) l.pass × (view l.pass ≡ receiver_view l.number (ruled_capacity (sends_on l.sender)) []) × (length l.ends.items ≡ l.number)
    × All (λ s. s.of ≡ line_of (sends_on l.sender)) l.ends.items × (map (λ s. s.number) l.ends.items ≡ range_with_len 0 l.number) × All (λ s. s.items ≡ []) l.ends.items
