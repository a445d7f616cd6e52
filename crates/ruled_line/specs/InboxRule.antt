-- The rule of an inbox (own). Of each live sending end: what it put is what was taken under its number, and then what stands in the inbox
-- under its number. No more stands in the inbox than its room, and no number is in use that was not given. At most one live end takes.
-- Of a number whose end was settled nothing more is said.
use Rattle.std.specs.Prelude.{◌≡◌, ◌≤◌, ◌<◌, ℕ, true, false, List, [], ◌++◌, length}
use mathlib.Core.Option.{some}
use lib.ListN.{get_elem?}
use Rattle.ruled_line.specs.Ends.{items_under}
use Rattle.ruled_line.specs.declared.inbox_rule.InboxView.{InboxView}

module _ {T : Type 0} where
  -- the sending end of this number, and what it put
  abbrev pub sender_view : ℕ → ℕ → List T → InboxView T
  sender_view number room put = record { puts = true; takes = false; number = number; given = 0; room = room; put = put; taken = [] }

  -- the receiving end, once so many numbers were given, and what it took
  abbrev pub receiver_view : ℕ → ℕ → List (ℕ × T) → InboxView T
  receiver_view given room taken = record { puts = false; takes = true; number = 0; given = given; room = room; put = []; taken = taken }

  -- the receiving end, once it has met this sending end
  abbrev pub met_view : InboxView T → InboxView T → InboxView T
  met_view receiver sender =
      record {
        puts = true;
        takes = true;
        number = sender.number;
        given = receiver.given;
        room = receiver.room;
        put = sender.put;
        taken = receiver.taken;
      }

  -- a pass with which nothing can be done
  abbrev pub idle_view : InboxView T
  idle_view = record { puts = false; takes = false; number = 0; given = 0; room = 0; put = []; taken = [] }

  -- what the pass at this seat may know, where the sender of each number sits at `seat_of number`
  abbrev pub FitsInbox : (ℕ → ℕ) → ℕ → ℕ → ℕ → List (ℕ × T) → List (ℕ × T) → ℕ → InboxView T → Type 0
  FitsInbox seat_of reader room given taken items seat v =
      (v.puts ≡ true → (seat_of v.number ≡ seat) × (v.number < given) × (v.put ≡ items_under v.number (taken ++ items)) × (v.room ≡ room))
      × (v.takes ≡ true → (seat ≡ reader) × (v.taken ≡ taken) × (v.given ≡ given) × (v.room ≡ room))

  abbrev pub InboxHolds : List (ℕ × T) → List (InboxView T) → Type 0
  InboxHolds items views =
      (seat_of : ℕ → ℕ) × (reader : ℕ) × (room : ℕ) × (given : ℕ) × (taken : List (ℕ × T)) × (length items ≤ room)
      × ((number : ℕ) → given ≤ number → items_under number (taken ++ items) ≡ [])
      × ((seat : ℕ) (v : InboxView T) → get_elem? views seat ≡ some v → FitsInbox seat_of reader room given taken items seat v)
