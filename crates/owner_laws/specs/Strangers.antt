-- Which arrival is strange, said of the arrivals before it alone. (own)
--     meeting_offers q arrivals             the meeting offers of number q, in order
--     waits ranks arrivals q                the last of them has no mark yet: some number has brought fewer
--     waiting, kind_waiting                 that offer, and its kind
--     ends q arrivals                       how number q ended: for each time, whether for want of memory
--     puts_brought ranks before a           the puts of the step that the arrival brings
--     is_strange_after s ranks reached before a     the arrival is strange
--     first_stranger s ranks opening arrivals       the number of the first strange arrival
--     before_stranger s ranks opening arrivals      the arrivals before it, or all where none is strange
use Rattle.std.specs.Prelude.{ℕ, max, List, [], ◌∷◌, ◌++◌, filter, filter_map, flat_map, length, Bool, true, false, ◌&&◌, nat_lt, if◌then◌else◌, Option, Some, None, is_some, option_map, option_and_then}
use Rattle.std.specs.List.{enumerate_from, list_any, range_with_len}
use Rattle.std.specs.Option.{option_or}
use Rattle.nc_base.specs.declared.step.MeetKind.{MeetKind}
use Rattle.nc_base.specs.declared.step.Offer.{Offer}
use Rattle.nc_base.specs.declared.step.RankItem.{RankItem}
use Rattle.nc_base.specs.declared.step.RankItem.TheVariants as item
use Rattle.serial_spec.specs.Owner.{differs, left_by, needed_now, some_true, strange_offer}
use Rattle.serial_spec.specs.FileStep.{puts_of, Setting}
use Rattle.serial_spec.specs.History.{Arrival, is_from, is_offer, kind_of_meeting, meeting_kind, offer_of}
use Rattle.serial_spec.specs.SharedByte.{Puts}

-- what the items of number q bring, in order
abbrev pub brought : {A : Type 0} → (RankItem → Option A) → ℕ → List Arrival → List A
brought f q arrivals = filter_map (λ a. f a.1) (filter (is_from q) arrivals)

abbrev pub last : {A : Type 0} → List A → Option A
last [] = None
last (x ∷ xs) = option_or (last xs) (Some x)

-- ---- meeting offers

abbrev pub meeting_offer : RankItem → Option Offer
meeting_offer i = option_and_then (λ o. option_map (λ kind. o) (kind_of_meeting o.kind)) (offer_of i)

abbrev pub meeting_offers : ℕ → List Arrival → List Offer
meeting_offers q arrivals = brought meeting_offer q arrivals

abbrev pub has_fewer : List Arrival → ℕ → ℕ → Bool
has_fewer arrivals q p = nat_lt (length (meeting_offers p arrivals)) (length (meeting_offers q arrivals))

abbrev pub waits : ℕ → List Arrival → ℕ → Bool
waits ranks arrivals q = list_any (has_fewer arrivals q) (range_with_len 0 ranks)

abbrev pub waiting : ℕ → List Arrival → ℕ → Option Offer
waiting ranks arrivals q = if waits ranks arrivals q then last (meeting_offers q arrivals) else None

abbrev pub kind_waiting : ℕ → List Arrival → ℕ → Option MeetKind
kind_waiting ranks arrivals q = option_and_then (λ o. kind_of_meeting o.kind) (waiting ranks arrivals q)

-- ---- ends

abbrev pub end_of_item : RankItem → Option Bool
end_of_item (item.Ended memory) = Some memory
end_of_item (item.Offer c o) = None

abbrev pub ends : ℕ → List Arrival → List Bool
ends q arrivals = brought end_of_item q arrivals

-- it ended, not for want of memory, and has no offer without a mark
abbrev pub has_left : ℕ → List Arrival → ℕ → Bool
has_left ranks arrivals q = left_by (waiting ranks arrivals q) (last (ends q arrivals))

-- ---- steps

-- the puts of all ranks, in rank order
abbrev pub puts_met : List Offer → Puts
puts_met offers = flat_map puts_of (enumerate_from 0 offers)

-- the puts of the last meeting, if no number waits for it
abbrev pub puts_complete : ℕ → List Arrival → Puts
puts_complete ranks arrivals =
    if list_any (waits ranks arrivals) (range_with_len 0 ranks) then []
    else puts_met (filter_map (λ q. last (meeting_offers q arrivals)) (range_with_len 0 ranks))

abbrev pub puts_brought : ℕ → List Arrival → Arrival → Puts
puts_brought ranks before (r, item.Ended memory) = []
puts_brought ranks before (r, item.Offer c o) =
    elim (kind_of_meeting o.kind) [ None ↦ puts_of (r, o) | Some kind ↦ puts_complete ranks (before ++ (r, item.Offer c o) ∷ []) ]

-- ---- strange arrivals

-- Some number has left, while another one's offer waits.
abbrev pub are_left_behind : ℕ → List Arrival → Bool
are_left_behind ranks arrivals =
    list_any (has_left ranks arrivals) (range_with_len 0 ranks) && list_any (waits ranks arrivals) (range_with_len 0 ranks)

-- Its number has ended; or it is an offer, and its number has one that waits; or it meets otherwise than an offer that waits; or with
-- it a number has left while another one's offer waits; or it knows more than was reached, or its batch is none.
abbrev pub is_strange_after : Setting → ℕ → ℕ → List Arrival → Arrival → Bool
is_strange_after s ranks reached before a =
    some_true (
    is_some (last (ends a.0 before))
    ∷ (is_offer a.1 && waits ranks before a.0)
    ∷ list_any (λ q. differs (kind_waiting ranks before q) (meeting_kind a.1)) (range_with_len 0 ranks)
    ∷ are_left_behind ranks (before ++ a ∷ [])
    ∷ strange_offer s.header reached (offer_of a.1)
    ∷ [])

-- from the count that was reached by the arrivals before
abbrev pub first_stranger_from : Setting → ℕ → ℕ → List Arrival → List Arrival → Option ℕ
first_stranger_from s ranks reached before [] = None
first_stranger_from s ranks reached before (a ∷ arrivals) =
    elim (is_strange_after s ranks reached before a) [
      | true ↦ Some a.0
      | false ↦ first_stranger_from s ranks (max reached (needed_now s (puts_brought ranks before a))) (before ++ a ∷ []) arrivals
    ]

abbrev pub first_stranger : Setting → ℕ → ℕ → List Arrival → Option ℕ
first_stranger s ranks opening arrivals = first_stranger_from s ranks opening [] arrivals

abbrev pub before_stranger_from : Setting → ℕ → ℕ → List Arrival → List Arrival → List Arrival
before_stranger_from s ranks reached before [] = []
before_stranger_from s ranks reached before (a ∷ arrivals) =
    elim (is_strange_after s ranks reached before a) [
      | true ↦ []
      | false ↦ a ∷ before_stranger_from s ranks (max reached (needed_now s (puts_brought ranks before a))) (before ++ a ∷ []) arrivals
    ]

abbrev pub before_stranger : Setting → ℕ → ℕ → List Arrival → List Arrival
before_stranger s ranks opening arrivals = before_stranger_from s ranks opening [] arrivals
