-- The greatest count that ranks know, of their runners and at their ends.
use Rattle.turn_run.proofs.Words.{◌≡◌, ℕ, suc, ◌+◌, ◌<◌, refl, ap, inl, inr, List, [], ◌∷◌, length, map, take, max, true, Some, Result, Ok, Err, arith, slice_get, slice_index_or, OnOk, map_map, Header, RankEnd, RankStop, greatest, is_sound, IsCount, IsRise, most_known_of, runner_end, Runner, map_more, greatest_joined, nat_tests, common_steps}
use Rattle.turn_run.proofs.CountLaws.{count_less, rise_max}
use Rattle.list_laws.proofs.Std.{cases_lt}

-- ---- runners

abbrev pub most_known : List Runner → ℕ
most_known runners = greatest (map (λ runner. runner.rank.state.known) runners)

pub most_rise : (header : Header) (len : ℕ) (runners : List Runner) → ((r : ℕ) (runner : Runner) → slice_get runners r ≡ Some runner → IsCount header len runner.rank.state.known)
    → IsRise header len (most_known runners)
most_rise header len [] h = inl refl
most_rise header len (s ∷ runners) h =
    rise_max header len s.rank.state.known (most_known runners) (inr (h 0 s refl)) (most_rise header len runners (λ r runner e. h (suc r) runner e))

pub rise_sound : (header : Header) (len records n : ℕ) → is_sound header ≡ true → IsCount header len records → IsRise header len n → is_sound (record header { records = n }) ≡ true
rise_sound header len records n sound h k = grind (arith, nat_tests, count_less header len records 0 sound h, k)

-- what the runners know, their ends know
pub ends_known : (why : RankStop) (runners : List Runner) → most_known_of (map (runner_end why) runners) ≡ most_known runners
ends_known why runners = ap greatest (map_map (λ (end : RankEnd). end.known) (runner_end why) runners)

-- ---- ends

-- with one rank more
pub known_more : (ends : List RankEnd) (i : ℕ) (end : RankEnd) (before now : ℕ) → i < length ends → end ≡ slice_index_or ends i end → before ≡ most_known_of (take i ends)
    → now ≡ max before end.known → now ≡ most_known_of (take (i + 1) ends)
known_more ends i end before now l e f h = grind (arith, common_steps, map_more (λ (x : RankEnd). x.known) ends i end l e, greatest_joined)

-- the greater of two counts that a header can have
pub raised_sound : {T E : Type 0} (result : Result T E) (header : Header) (before known now : ℕ) → is_sound (record header { records = before }) ≡ true
    → is_sound (record header { records = known }) ≡ true → OnOk result (now ≡ max before known) → OnOk result (is_sound (record header { records = now }) ≡ true)
raised_sound (Ok x) header before known now h k e = grind (arith, nat_tests, cases_lt before known)
raised_sound (Err x) header before known now h k e = tt
