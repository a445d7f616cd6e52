-- The rule of a line (own): what was put is what was taken and then what stands in the line, which is no more than its room.
-- At most one live end puts, and it knows what was put; at most one takes, and it knows what was taken.
use Rattle.std.specs.Prelude.{◌≡◌, ◌≤◌, ℕ, Bool, true, List, ◌++◌, length}
use mathlib.Core.Option.{some}
use lib.ListN.{get_elem?}
use Rattle.ruled_line.specs.declared.line_rule.LineView.{LineView}

module _ {T : Type 0} where
  abbrev pub line_view : Bool → Bool → ℕ → List T → List T → LineView T
  line_view puts takes room put taken = record { puts = puts; takes = takes; room = room; put = put; taken = taken }

  -- what the pass at this seat may know, where the writer's seat and the reader's seat are these
  abbrev pub FitsLine : ℕ → ℕ → ℕ → List T → List T → ℕ → LineView T → Type 0
  FitsLine writer reader room put taken seat v =
      (v.puts ≡ true → (seat ≡ writer) × (v.put ≡ put) × (v.room ≡ room))
      × (v.takes ≡ true → (seat ≡ reader) × (v.taken ≡ taken))

  abbrev pub LineHolds : List T → List (LineView T) → Type 0
  LineHolds items views =
      (writer : ℕ) × (reader : ℕ) × (room : ℕ) × (put : List T) × (taken : List T)
      × (put ≡ taken ++ items) × (length items ≤ room)
      × ((seat : ℕ) (v : LineView T) → get_elem? views seat ≡ some v → FitsLine writer reader room put taken seat v)
