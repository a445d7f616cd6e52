-- The order of a run step by step, and its end.
use Rattle.reference.proofs.Words.{◌≡◌, ℕ, suc, ◌+◌, ◌<◌, ◌≤◌, refl, sym, ◌∙◌, ap, subst, inl, inr, List, [], ◌∷◌, ◌++◌, length, map, max, drop, take, fold, true, cond, Some, arith, cases_eq, nat_tests, drop_more, take_all, take-append-drop, get_or_from_slice_get, slice_get_within, slice_get, nat_lt, map_map, entry_below, take_next, Answer, Header, Script, Mark, Setting, IsLegal, concerns, equal_itself, is_lawful, record_limit, with_records, serial_from, setting_of, close_by, counted, less_max, first_stand, step_to, serial_of_arrivals, most_known, AreLow, going_of, IsRunner, IsWaiting, stand_of, HasHeard, HaveHeard, HeardOne, IsStanding, Runner, Stand, some_limit}
use Rattle.nc_base.specs.declared.step.Mark.TheVariants as mark
use Rattle.serial_spec.specs.RankMachine as machine
use Rattle.reference.proofs.NextLaws.{beside_runner, heard_next, waits_next}

-- ---- the next mark of an order

module _ (script : Script) (header : Header) (order : List Mark) (n : ℕ) (m : Mark) (legal : IsLegal script order) (e : slice_get order n ≡ Some m) where
  order_split : take n order ++ m ∷ drop (n + 1) order ≡ order
  order_split = grind (arith, nat_tests, get_or_from_slice_get order n m m e, drop_more order n m (slice_get_within order n m e), take-append-drop n order, slice_get_within)

  legal_split : IsLegal script (take n order ++ m ∷ drop (n + 1) order)
  legal_split = subst (λ (o : List Mark). IsLegal script o) (sym order_split) legal

  below_all : (stand : Stand) (r : ℕ) (runner : Runner) → IsStanding script header (take n order) stand → slice_get stand.runners.items r ≡ Some runner → r < script.ranks
  below_all stand r runner h f = let l = slice_get_within stand.runners.items r runner f in let all = h.all in omega arith

  pub wait_next : (stand : Stand) (r : ℕ) (runner : Runner) → is_lawful script ≡ true → IsStanding script header (take n order) stand → slice_get stand.runners.items r ≡ Some runner
      → concerns r m ≡ true → IsWaiting header runner
  wait_next stand r runner lawful h f own =
      waits_next script header (take n order) (drop (n + 1) order) m r runner lawful legal_split own (below_all stand r runner h f) (h.each r runner f)

  module _ (before after : Stand) (h : IsStanding script header (take n order) before) where
    -- a rank whose offer the mark was has heard the reply
    heard_runner : (r : ℕ) (b : Runner) → length after.runners.items ≡ length before.runners.items
        → ((a : Runner) → slice_get before.runners.items r ≡ Some a → HeardOne header a b) → concerns r m ≡ true → slice_get after.runners.items r ≡ Some b
        → IsRunner script header (take n order ++ m ∷ []) r b
    heard_runner r b long heard own f =
        let l = slice_get_within after.runners.items r b f in
        let a = entry_below before.runners.items r (omega arith) in
        heard_next script header (take n order) (drop (n + 1) order) m r a.0 b legal_split own (below_all before r a.0 h a.1) (h.each r a.0 a.1) (heard a.0 a.1)

    stands_next : length after.runners.items ≡ length before.runners.items → after.records < record_limit header.version
        → ((r : ℕ) (b : Runner) → slice_get after.runners.items r ≡ Some b → IsRunner script header (take n order ++ m ∷ []) r b)
        → IsStanding script header (take (n + 1) order) after
    stands_next long low each =
        subst (λ (o : List Mark). IsStanding script header o after) (sym (take_next order n m e)) (record { all = long ∙ h.all; records = low; each = each })

pub meeting_stands : (script : Script) (header : Header) (order : List Mark) (n k : ℕ) (before after : Stand) → IsLegal script order → slice_get order n ≡ Some (mark.Meet k)
    → IsStanding script header (take n order) before → HaveHeard header before.runners.items after.runners.items → after.records < record_limit header.version
    → IsStanding script header (take (n + 1) order) after
meeting_stands script header order n k before after legal e h heard low =
    stands_next script header order n (mark.Meet k) legal e before after h heard.long low
    (λ r b f. heard_runner script header order n (mark.Meet k) legal e before after h r b heard.long (λ a g. heard.each r a b g f) refl f)

pub own_stands : (script : Script) (header : Header) (order : List Mark) (n q k : ℕ) (before after : Stand) → IsLegal script order → slice_get order n ≡ Some (mark.Solo q k)
    → IsStanding script header (take n order) before → HasHeard header q before.runners.items after.runners.items → after.records ≡ before.records
    → IsStanding script header (take (n + 1) order) after
own_stands script header order n q k before after legal e h heard same =
    let own : (b : Runner) → slice_get after.runners.items q ≡ Some b → IsRunner script header (take n order ++ mark.Solo q k ∷ []) q b
    = λ b f. heard_runner script header order n (mark.Solo q k) legal e before after h q b heard.long (λ a g. heard.own a b g f) (equal_itself q) f in
    stands_next script header order n (mark.Solo q k) legal e before after h heard.long (subst (λ (m : ℕ). m < record_limit header.version) (sym same) h.records)
    (λ r b f. elim (cases_eq r q) [
      | inl at ↦ subst (λ (z : ℕ). IsRunner script header (take n order ++ mark.Solo q k ∷ []) z b) (sym at) (own b (ap (slice_get after.runners.items) (sym at) ∙ f))
      | inr other ↦ beside_runner script header (take n order) r q k b (λ z. other (sym z)) (h.each r b (sym (heard.others r other) ∙ f))
    ])

-- ---- the close

pub known_low : (header : Header) (runners : List Runner) → AreLow header runners → most_known runners < record_limit header.version
known_low header [] all = some_limit header.version
known_low header (runner ∷ runners) all =
    less_max runner.rank.state.known (most_known runners) (record_limit header.version) (all 0 runner refl) (known_low header runners (λ r x e. all (suc r) x e))

pub closed_is : (s : Setting) (runners : List Runner) (old file : List ℕ) (was records known : ℕ) (answers : List (List Answer)) (pending : List ℕ)
    → known ≡ most_known runners → file ≡ cond (nat_lt was known) (with_records s.header.version old known) old → records ≡ max was known
    → answers ≡ map (λ runner. runner.answers) runners → pending ≡ map (λ runner. machine.pending runner.rank.state) runners
    → record { bytes = file; records = records; answers = answers; pending = pending } ≡ close_by s (counted old was) (map going_of runners)
closed_is s runners old file was records known answers pending k f r a p = grind (arith, nat_tests, map_map)

-- ---- the whole

pub closes : (script : Script) (header : Header) (bytes : List ℕ) (order : List Mark) (n : ℕ) (stand : Stand) → length order ≤ n
    → stand_of stand ≡ fold (step_to (setting_of script header)) (first_stand header bytes script.calls) (take n order)
    → close_by (setting_of script header) (counted stand.file.items stand.records) (map going_of stand.runners.items) ≡ serial_from script header bytes order
closes script header bytes order n stand l e = grind (arith, nat_tests, map_map, take_all, serial_of_arrivals)
